-- A table holds one tree at a root, and from one node on: branches, sums, definitions, the system line and the model. From the fields of nodes and Once.antt,
-- a clause for each two constructors of a sort.
use mathlib.Core.Path.{◌≡◌, refl, ap}
use mathlib.Core.List.{List}
use Prim.Native.Nat.{ℕ}
use native.Mathlib.Omega.{arith}
use Rattle.grammar.specs.Syntax
use Rattle.tree.specs.Table
use Rattle.tree.proofs.Interval.{root}
use Rattle.tree.proofs.Holds.{expr-interval, offer-interval, branch-interval, sum-interval, cont-interval, start-interval, definitions-interval}
use Rattle.tree.proofs.Fields.{Once, other-kind, once-leaf, once-one, once-two, once-three}
use Rattle.tree.proofs.Once.{expr-once, exprs-once, cond-once, number-once, rate-once, action-once}

module _ (t : List ℕ) where
  mutual
    unfolding Table.Branch Table.Offer Table.Branches Table.Sum Table.Cont Table.Conts

    pub branch-once : (x y : Syntax.Branch) → Once (Table.Branch t x) (Table.Branch t y) (x ≡ y)
    branch-once (Syntax.branch f Syntax.no_gate a r n) (Syntax.branch f' Syntax.no_gate a' r' n') lo lo' k h g = let z = offer-once f a r n f' a' r' n' lo lo' k h g in (cc, z.1)
    branch-once (Syntax.branch f Syntax.no_gate a r n) (Syntax.branch f' (Syntax.gate c') a' r' n') lo lo' k h g = absurd (omega (arith, (offer-interval f a r n).to h, root g.node))
    branch-once (Syntax.branch f (Syntax.gate c) a r n) (Syntax.branch f' Syntax.no_gate a' r' n') lo lo' k h g = absurd (omega (arith, root h.node, (offer-interval f' a' r' n').to g))
    branch-once (Syntax.branch f (Syntax.gate c) a r n) (Syntax.branch f' (Syntax.gate c') a' r' n') lo lo' k h g =
        let z = once-two refl (cond-once t c c') (λ i j l p q. offer-once f a r n f' a' r' n' i j l p q) h g in
        (cc, z.4)

    pub offer-once : (f : ℕ) (a : Syntax.Action) (r : Syntax.Rate) (n : Syntax.Next) (f' : ℕ) (a' : Syntax.Action) (r' : Syntax.Rate) (n' : Syntax.Next) → Once (Table.Offer t f a r n) (Table.Offer t f' a' r' n') ((f ≡ f') × (a ≡ a') × (r ≡ r') × (n ≡ n'))
    offer-once f a r Syntax.stop f' a' r' Syntax.stop lo lo' k h g = let z = once-two refl (action-once t a a') (rate-once t r r') h g in ((z.0, z.2, z.3, refl), z.4)
    offer-once f a r Syntax.stop f' a' r' (Syntax.dot c') lo lo' k h g = absurd (other-kind h.node g.node refl)
    offer-once f a r (Syntax.dot c) f' a' r' Syntax.stop lo lo' k h g = absurd (other-kind h.node g.node refl)
    offer-once f a r (Syntax.dot c) f' a' r' (Syntax.dot c') lo lo' k h g =
        let z = once-three refl (action-once t a a') (rate-once t r r') (λ i j l p q. cont-once c c' i j l p q) h g in
        ((z.0, z.1, z.2, ap Syntax.dot z.3), z.4)

    pub branches-once : (x y : Syntax.Branches) → Once (Table.Branches t x) (Table.Branches t y) (x ≡ y)
    branches-once (Syntax.last_branch b) (Syntax.last_branch b') lo lo' k h g = let z = branch-once b b' lo lo' k h g in (ap Syntax.last_branch z.0, z.1)
    branches-once (Syntax.last_branch b) (Syntax.next_branch b' r') lo lo' k h g = absurd (omega (arith, (branch-interval b).to h, root g.node))
    branches-once (Syntax.next_branch b r) (Syntax.last_branch b') lo lo' k h g = absurd (omega (arith, root h.node, (branch-interval b').to g))
    branches-once (Syntax.next_branch b r) (Syntax.next_branch b' r') lo lo' k h g = let z = once-two refl (λ i j l p q. branch-once b b' i j l p q) (λ i j l p q. branches-once r r' i j l p q) h g in (cc, z.4)

    pub sum-once : (x y : Syntax.Sum) → Once (Table.Sum t x) (Table.Sum t y) (x ≡ y)
    sum-once (Syntax.sum n b) (Syntax.sum n' b') lo lo' k h g = let z = once-one refl (λ i j l p q. branches-once b b' i j l p q) h g in (cc, z.3)

    pub cont-once : (x y : Syntax.Cont) → Once (Table.Cont t x) (Table.Cont t y) (x ≡ y)
    cont-once (Syntax.proceed s) (Syntax.proceed s') lo lo' k h g = let z = sum-once s s' lo lo' k h g in (ap Syntax.proceed z.0, z.1)
    cont-once (Syntax.proceed s) (Syntax.call n' Syntax.no_args) lo lo' k h g = absurd (omega (arith, (sum-interval s).to h, root g.node))
    cont-once (Syntax.proceed s) (Syntax.call n' (Syntax.args r')) lo lo' k h g = absurd (omega (arith, (sum-interval s).to h, root g.node))
    cont-once (Syntax.proceed s) (Syntax.group n' c') lo lo' k h g = absurd (omega (arith, (sum-interval s).to h, root g.node))
    cont-once (Syntax.call n Syntax.no_args) (Syntax.proceed s') lo lo' k h g = absurd (omega (arith, root h.node, (sum-interval s').to g))
    cont-once (Syntax.call n Syntax.no_args) (Syntax.call n' Syntax.no_args) lo lo' k h g = let z = once-leaf refl h g in (cc, z.1)
    cont-once (Syntax.call n Syntax.no_args) (Syntax.call n' (Syntax.args r')) lo lo' k h g = absurd (other-kind h.node g.node refl)
    cont-once (Syntax.call n Syntax.no_args) (Syntax.group n' c') lo lo' k h g = absurd (other-kind h.node g.node refl)
    cont-once (Syntax.call n (Syntax.args r)) (Syntax.proceed s') lo lo' k h g = absurd (omega (arith, root h.node, (sum-interval s').to g))
    cont-once (Syntax.call n (Syntax.args r)) (Syntax.call n' Syntax.no_args) lo lo' k h g = absurd (other-kind h.node g.node refl)
    cont-once (Syntax.call n (Syntax.args r)) (Syntax.call n' (Syntax.args r')) lo lo' k h g = let z = once-one refl (exprs-once t r r') h g in (cc, z.3)
    cont-once (Syntax.call n (Syntax.args r)) (Syntax.group n' c') lo lo' k h g = absurd (other-kind h.node g.node refl)
    cont-once (Syntax.group n c) (Syntax.proceed s') lo lo' k h g = absurd (omega (arith, root h.node, (sum-interval s').to g))
    cont-once (Syntax.group n c) (Syntax.call n' Syntax.no_args) lo lo' k h g = absurd (other-kind h.node g.node refl)
    cont-once (Syntax.group n c) (Syntax.call n' (Syntax.args r')) lo lo' k h g = absurd (other-kind h.node g.node refl)
    cont-once (Syntax.group n c) (Syntax.group n' c') lo lo' k h g = let z = once-one refl (λ i j l p q. conts-once c c' i j l p q) h g in (cc, z.3)

    pub conts-once : (x y : Syntax.Conts) → Once (Table.Conts t x) (Table.Conts t y) (x ≡ y)
    conts-once (Syntax.last_cont c) (Syntax.last_cont c') lo lo' k h g = let z = cont-once c c' lo lo' k h g in (ap Syntax.last_cont z.0, z.1)
    conts-once (Syntax.last_cont c) (Syntax.next_cont c' r') lo lo' k h g = absurd (omega (arith, (cont-interval c).to h, root g.node))
    conts-once (Syntax.next_cont c r) (Syntax.last_cont c') lo lo' k h g = absurd (omega (arith, root h.node, (cont-interval c').to g))
    conts-once (Syntax.next_cont c r) (Syntax.next_cont c' r') lo lo' k h g = let z = once-two refl (λ i j l p q. cont-once c c' i j l p q) (λ i j l p q. conts-once r r' i j l p q) h g in (cc, z.4)

  pub sums-once : (x y : Syntax.Sums) → Once (Table.Sums t x) (Table.Sums t y) (x ≡ y)
  unfolding Table.Sums
  sums-once (Syntax.last_sum s) (Syntax.last_sum s') lo lo' k h g = let z = sum-once s s' lo lo' k h g in (ap Syntax.last_sum z.0, z.1)
  sums-once (Syntax.last_sum s) (Syntax.next_sum s' r') lo lo' k h g = absurd (omega (arith, (sum-interval s).to h, root g.node))
  sums-once (Syntax.next_sum s r) (Syntax.last_sum s') lo lo' k h g = absurd (omega (arith, root h.node, (sum-interval s').to g))
  sums-once (Syntax.next_sum s r) (Syntax.next_sum s' r') lo lo' k h g = let z = once-two refl (sum-once s s') (sums-once r r') h g in (cc, z.4)

  pub definition-once : (n : ℕ) (p : Syntax.Params) (b : Syntax.Sums) (n' : ℕ) (p' : Syntax.Params) (b' : Syntax.Sums) → Once (Table.Definition t n p b) (Table.Definition t n' p' b') ((n ≡ n') × (p ≡ p') × (b ≡ b'))
  unfolding Table.Definition
  definition-once n Syntax.no_params b n' Syntax.no_params b' lo lo' k h g = let z = once-one refl (sums-once b b') h g in ((z.0, refl, z.2), z.3)
  definition-once n Syntax.no_params b n' (Syntax.params (Syntax.names f' m')) b' lo lo' k h g = absurd (omega (arith, (once-one refl (sums-once b b') h g.2).1, g.1))
  definition-once n (Syntax.params (Syntax.names f m)) b n' Syntax.no_params b' lo lo' k h g = absurd (omega (arith, (once-one refl (sums-once b b') h.2 g).1, h.1))
  definition-once n (Syntax.params (Syntax.names f m)) b n' (Syntax.params (Syntax.names f' m')) b' lo lo' k h g =
      let z = once-one refl (sums-once b b') h.2 g.2 in
      let q : f ≡ f' = omega (arith, h.0, g.0, z.0) in
      ((z.0, cc, z.2), z.3)

  pub wholes-once : (x y : Syntax.Wholes) → Once (Table.Wholes t x) (Table.Wholes t y) (x ≡ y)
  unfolding Table.Wholes
  wholes-once (Syntax.last_whole b n) (Syntax.last_whole b' n') lo lo' k h g = let z = expr-once t (Syntax.literal b n) (Syntax.literal b' n') lo lo' k h g in (cc, z.1)
  wholes-once (Syntax.last_whole b n) (Syntax.next_whole b' n' r') lo lo' k h g = absurd (omega (arith, (expr-interval (Syntax.literal b n)).to h, root g.node))
  wholes-once (Syntax.next_whole b n r) (Syntax.last_whole b' n') lo lo' k h g = absurd (omega (arith, root h.node, (expr-interval (Syntax.literal b' n')).to g))
  wholes-once (Syntax.next_whole b n r) (Syntax.next_whole b' n' r') lo lo' k h g = let z = once-two refl (expr-once t (Syntax.literal b n) (Syntax.literal b' n')) (wholes-once r r') h g in (cc, z.4)

  pub start-once : (x y : Syntax.Start) → Once (Table.Start t x) (Table.Start t y) (x ≡ y)
  unfolding Table.Start
  start-once (Syntax.once n Syntax.no_starts) (Syntax.once n' Syntax.no_starts) lo lo' k h g = let z = once-leaf refl h g in (cc, z.1)
  start-once (Syntax.once n Syntax.no_starts) (Syntax.once n' (Syntax.starts w')) lo lo' k h g = absurd (other-kind h.node g.node refl)
  start-once (Syntax.once n Syntax.no_starts) (Syntax.counted c' n' Syntax.no_starts) lo lo' k h g = absurd (other-kind h.node g.1.node refl)
  start-once (Syntax.once n Syntax.no_starts) (Syntax.counted c' n' (Syntax.starts w')) lo lo' k h g = absurd (other-kind h.node g.1.node refl)
  start-once (Syntax.once n (Syntax.starts w)) (Syntax.once n' Syntax.no_starts) lo lo' k h g = absurd (other-kind h.node g.node refl)
  start-once (Syntax.once n (Syntax.starts w)) (Syntax.once n' (Syntax.starts w')) lo lo' k h g = let z = once-one refl (wholes-once w w') h g in (cc, z.3)
  start-once (Syntax.once n (Syntax.starts w)) (Syntax.counted c' n' Syntax.no_starts) lo lo' k h g = absurd (other-kind h.node g.1.node refl)
  start-once (Syntax.once n (Syntax.starts w)) (Syntax.counted c' n' (Syntax.starts w')) lo lo' k h g = absurd (other-kind h.node g.1.node refl)
  start-once (Syntax.counted c n Syntax.no_starts) (Syntax.once n' Syntax.no_starts) lo lo' k h g = absurd (other-kind h.1.node g.node refl)
  start-once (Syntax.counted c n Syntax.no_starts) (Syntax.once n' (Syntax.starts w')) lo lo' k h g = absurd (other-kind h.1.node g.node refl)
  start-once (Syntax.counted c n Syntax.no_starts) (Syntax.counted c' n' Syntax.no_starts) lo lo' k h g =
      let z = once-leaf refl h.1 g.1 in
      let q : c ≡ c' = omega (arith, h.0, g.0, z.0) in
      (cc, z.1)
  start-once (Syntax.counted c n Syntax.no_starts) (Syntax.counted c' n' (Syntax.starts w')) lo lo' k h g = absurd (other-kind h.1.node g.1.node refl)
  start-once (Syntax.counted c n (Syntax.starts w)) (Syntax.once n' Syntax.no_starts) lo lo' k h g = absurd (other-kind h.1.node g.node refl)
  start-once (Syntax.counted c n (Syntax.starts w)) (Syntax.once n' (Syntax.starts w')) lo lo' k h g = absurd (other-kind h.1.node g.node refl)
  start-once (Syntax.counted c n (Syntax.starts w)) (Syntax.counted c' n' Syntax.no_starts) lo lo' k h g = absurd (other-kind h.1.node g.1.node refl)
  start-once (Syntax.counted c n (Syntax.starts w)) (Syntax.counted c' n' (Syntax.starts w')) lo lo' k h g =
      let z = once-one refl (wholes-once w w') h.1 g.1 in
      let q : c ≡ c' = omega (arith, h.0, g.0, z.0) in
      (cc, z.3)

  pub system-once : (x y : Syntax.System) → Once (Table.System t x) (Table.System t y) (x ≡ y)
  unfolding Table.System
  system-once (Syntax.last_start s) (Syntax.last_start s') lo lo' k h g = let z = start-once s s' lo lo' k h g in (ap Syntax.last_start z.0, z.1)
  system-once (Syntax.last_start s) (Syntax.next_start s' r') lo lo' k h g = absurd (omega (arith, (start-interval s).to h, root g.node))
  system-once (Syntax.next_start s r) (Syntax.last_start s') lo lo' k h g = absurd (omega (arith, root h.node, (start-interval s').to g))
  system-once (Syntax.next_start s r) (Syntax.next_start s' r') lo lo' k h g = let z = once-two refl (start-once s s') (system-once r r') h g in (cc, z.4)

  pub definitions-once : (x y : Syntax.Definitions) → Once (Table.Definitions t x) (Table.Definitions t y) (x ≡ y)
  unfolding Table.Definitions
  definitions-once (Syntax.last_definition n p b s) (Syntax.last_definition n' p' b' s') lo lo' k h g = let z = once-two refl (definition-once n p b n' p' b') (system-once s s') h g in (cc, z.4)
  definitions-once (Syntax.last_definition n p b s) (Syntax.next_definition n' p' b' d') lo lo' k h g = absurd (other-kind h.node g.node refl)
  definitions-once (Syntax.next_definition n p b d) (Syntax.last_definition n' p' b' s') lo lo' k h g = absurd (other-kind h.node g.node refl)
  definitions-once (Syntax.next_definition n p b d) (Syntax.next_definition n' p' b' d') lo lo' k h g = let z = once-two refl (definition-once n p b n' p' b') (definitions-once d d') h g in (cc, z.4)

  pub model-once : (x y : Syntax.Model) → Once (Table.Model t x) (Table.Model t y) (x ≡ y)
  unfolding Table.Model
  model-once (Syntax.definitions d) (Syntax.definitions d') lo lo' k h g = let z = definitions-once d d' lo lo' k h g in (ap Syntax.definitions z.0, z.1)
  model-once (Syntax.definitions d) (Syntax.variable n' v' m') lo lo' k h g = absurd (omega (arith, (definitions-interval d).to h, root g.node))
  model-once (Syntax.variable n v m) (Syntax.definitions d') lo lo' k h g = absurd (omega (arith, root h.node, (definitions-interval d').to g))
  model-once (Syntax.variable n v m) (Syntax.variable n' v' m') lo lo' k h g = let z = once-two refl (number-once t v v') (model-once m m') h g in (cc, z.4)
