-- An offer's numbers tell everything that matching asks of it: two evaluations that they show are alike. From the one tree that a node holds.
use mathlib.Core.Path.{◌≡◌, refl, sym, ap, ◌∙◌}
use mathlib.Core.List.{List}
use mathlib.Core.Bool.{true, false, cond}
use mathlib.Core.Option.{Option, none, some}
use Prim.Native.Nat.{ℕ, ◌-◌, ◌≤◌}
use native.Mathlib.Omega.{arith}
use lib.Dec.{eqb}
use lib.IntN.{ℤ}
use lib.ListN.{get_or}
use Rattle.value.proofs.Kit.{true-not-false}
use Rattle.grammar.specs.Syntax.{Join, without, union, inter}
use Rattle.tree.specs.Node.{left_of, join_kind}
use Rattle.std.specs.Prelude.{Some, None, Option as RustOption}
use Rattle.model.specs.Resolved
use Rattle.rules.specs.Offers as offers
use Rattle.tables.specs.Settled.{Expr, Set}
use Rattle.tables.proofs.Numbers.{node-number, node-number-kind}
use Rattle.tables.proofs.Parts.{over-part, pair-second}
use Rattle.machine.specs.Evaluate.{eval_set}
use Rattle.machine.proofs.Parts.{some_is}
use Rattle.eval.specs.declared.offer.Offer.{Offer}
use Rattle.eval.proofs.Shapes.{channels-alike}
use Rattle.eval.specs.Shown
use Rattle.eval.proofs.Operators.{op-range, op-once}
use Rattle.eval.proofs.Exprs.{expr-kind}
use Rattle.eval.proofs.Sets.{join-range}
use Rattle.eval.specs.declared.offer.OfferSet.{OfferSet}
use Rattle.eval.proofs.Ends.{rooted-at, ranged-as}

-- ---- a node holds one expression, and one set
module _ (t : List ℕ) where
  pub expr-once : (e f : Resolved.Expr) (k : ℕ) → Expr t e k → Expr t f k → e ≡ f
  unfolding Expr
  expr-once (Resolved.constant y) (Resolved.constant z) k a b = ap Resolved.constant (sym (node-number a (omega arith)) ∙ node-number b (omega arith))
  expr-once (Resolved.constant y) (Resolved.local_at i) k a b = absurd (omega (arith, node-number-kind a (omega arith), b.kind-is))
  expr-once (Resolved.constant y) (Resolved.absolute f) k a b = absurd (omega (arith, node-number-kind a (omega arith), b.kind-is))
  expr-once (Resolved.constant y) (Resolved.binary o f g) k a b = absurd (omega (arith, node-number-kind a (omega arith), b.kind-is, op-range o))
  expr-once (Resolved.local_at i) (Resolved.constant z) k a b = absurd (omega (arith, a.kind-is, node-number-kind b (omega arith)))
  expr-once (Resolved.local_at i) (Resolved.local_at j) k a b = ap Resolved.local_at (sym a.index_is ∙ b.index_is)
  expr-once (Resolved.local_at i) (Resolved.absolute f) k a b = absurd (omega (arith, a.kind-is, b.kind-is))
  expr-once (Resolved.local_at i) (Resolved.binary o f g) k a b = absurd (omega (arith, a.kind-is, b.kind-is, op-range o))
  expr-once (Resolved.absolute e) (Resolved.constant z) k a b = absurd (omega (arith, a.kind-is, node-number-kind b (omega arith)))
  expr-once (Resolved.absolute e) (Resolved.local_at i) k a b = absurd (omega (arith, a.kind-is, b.kind-is))
  expr-once (Resolved.absolute e) (Resolved.absolute f) k a b = ap Resolved.absolute (expr-once e f (k - 1) (over-part a) (over-part b))
  expr-once (Resolved.absolute e) (Resolved.binary o f g) k a b = absurd (omega (arith, a.kind-is, b.kind-is, op-range o))
  expr-once (Resolved.binary o d e) (Resolved.constant z) k a b = absurd (omega (arith, a.kind-is, node-number-kind b (omega arith), op-range o))
  expr-once (Resolved.binary o d e) (Resolved.local_at i) k a b = absurd (omega (arith, a.kind-is, b.kind-is, op-range o))
  expr-once (Resolved.binary o d e) (Resolved.absolute f) k a b = absurd (omega (arith, a.kind-is, b.kind-is, op-range o))
  expr-once (Resolved.binary o d e) (Resolved.binary p f g) k a b =
      let q = op-once o p (sym a.kind-is ∙ b.kind-is) in
      let l = expr-once d f (left_of (get_or t k 0)) a.holds-first b.holds-first in
      let r = expr-once e g (k - 1) (pair-second a) (pair-second b) in
      rw (q, l, r)

  join-once : (i j : Join) → join_kind i ≡ join_kind j → i ≡ j
  unfolding join_kind
  join-once without without e = refl
  join-once without union e = absurd (omega arith)
  join-once without inter e = absurd (omega arith)
  join-once union without e = absurd (omega arith)
  join-once union union e = refl
  join-once union inter e = absurd (omega arith)
  join-once inter without e = absurd (omega arith)
  join-once inter union e = absurd (omega arith)
  join-once inter inter e = refl

  pub set-once : (s r : Resolved.Set) (k : ℕ) → Set t s k → Set t r k → s ≡ r
  unfolding Set
  set-once (Resolved.single e) (Resolved.single f) k a b = ap Resolved.single (expr-once e f k a b)
  set-once (Resolved.single e) (Resolved.range f g) k a b = absurd (omega (arith, expr-kind t k e a, b.kind-is))
  set-once (Resolved.single e) (Resolved.joined j s r) k a b = absurd (omega (arith, expr-kind t k e a, b.kind-is, join-range j))
  set-once (Resolved.range d e) (Resolved.single f) k a b = absurd (omega (arith, a.kind-is, expr-kind t k f b))
  set-once (Resolved.range d e) (Resolved.range f g) k a b =
      let l = expr-once d f (left_of (get_or t k 0)) a.holds-first b.holds-first in
      let r = expr-once e g (k - 1) (pair-second a) (pair-second b) in
      rw (l, r)
  set-once (Resolved.range d e) (Resolved.joined j s r) k a b = absurd (omega (arith, a.kind-is, b.kind-is, join-range j))
  set-once (Resolved.joined i s r) (Resolved.single f) k a b = absurd (omega (arith, a.kind-is, expr-kind t k f b, join-range i))
  set-once (Resolved.joined i s r) (Resolved.range f g) k a b = absurd (omega (arith, a.kind-is, b.kind-is, join-range i))
  set-once (Resolved.joined i s r) (Resolved.joined j u v) k a b =
      let q = join-once i j (sym a.kind-is ∙ b.kind-is) in
      let l = set-once s u (left_of (get_or t k 0)) a.holds-first b.holds-first in
      let m = set-once r v (k - 1) (pair-second a) (pair-second b) in
      rw (q, l, m)

-- ---- numbers that show two things show the same
module _ {t : List ℕ} {ls : List ℤ} where
  pub sets-alike : {s : OfferSet} {x y : offers.Set} → Shown.ShowsSet t ls s x → Shown.ShowsSet t ls s y → x ≡ y
  sets-alike (Shown.ranged {x = a} {y = b} p h) w = sym (ranged-as t ls a b p w)
  sets-alike {x = x} {y = y} (Shown.rooted {i = i} p h) w =
      let k = rooted-at t ls i p w in
      let e = set-once t h.set k.set i h.at k.at in
      some_is x y (sym h.worth ∙ (ap (eval_set ls) e ∙ k.worth))

values-alike : {n : ℕ} {a b c d : ℤ} {vs ws : List ℤ} → Shown.ShowsValues n a b c d vs → Shown.ShowsValues n a b c d ws → vs ≡ ws
values-alike (Shown.one p q r s u) (Shown.one v w x y z) = let e = sym q ∙ w in rw e
values-alike (Shown.one p q r s u) (Shown.two v w x y z) = absurd (omega arith)
values-alike (Shown.two p q r s u) (Shown.one v w x y z) = absurd (omega arith)
values-alike (Shown.two p q r s u) (Shown.two v w x y z) = let e = sym q ∙ w in let f = sym s ∙ y in rw (e, f)

all-sets-alike : {t : List ℕ} {ls : List ℤ} {n : ℕ} {a b c d : ℤ} {xs ys : List offers.Set} → Shown.ShowsSets t ls n a b c d xs → Shown.ShowsSets t ls n a b c d ys → xs ≡ ys
all-sets-alike (Shown.one p q r s) (Shown.one u v w x) = let e = sets-alike q.shows v.shows in rw e
all-sets-alike (Shown.one p q r s) (Shown.two u v w) = absurd (omega arith)
all-sets-alike (Shown.two p q r) (Shown.one u v w x) = absurd (omega arith)
all-sets-alike (Shown.two p q r) (Shown.two u v w) = let e = sets-alike q.shows v.shows in let f = sets-alike r.shows w.shows in rw (e, f)

pub pairs-alike : {r : Offer} {x y : offers.Pair} → Shown.ShowsPair r x → Shown.ShowsPair r y → x ≡ y
pairs-alike {x = x} {y = y} p q =
    let e : x.channel ≡ y.channel = channels-alike p.channel-is q.channel-is in
    let f : x.values ≡ y.values = values-alike p.values-are q.values-are in
    ap (λ (c : offers.Channel). record { channel = c; values = x.values }) e ∙ ap (λ (v : List ℤ). record { channel = y.channel; values = v }) f

pub queries-alike : {t : List ℕ} {ls : List ℤ} {r : Offer} {x y : offers.Query} → Shown.ShowsQuery t ls r x → Shown.ShowsQuery t ls r y → x ≡ y
queries-alike {x = x} {y = y} p q =
    let e : x.channel ≡ y.channel = channels-alike p.channel-is q.channel-is in
    let f : x.sets ≡ y.sets = all-sets-alike p.sets-are q.sets-are in
    ap (λ (c : offers.Channel). record { channel = c; sets = x.sets }) e ∙ ap (λ (v : List offers.Set). record { channel = y.channel; sets = v }) f

-- ---- actions

-- what an action has besides its kind
data Payload : Type 0 where
  alone : Payload
  pair : offers.Pair → Payload
  query : offers.Query → Payload

payload : offers.Action → Payload
payload offers.wait = alone
payload (offers.launch x) = pair x
payload (offers.kill x) = pair x
payload (offers.receive w) = query w
payload (offers.bind w) = query w
payload (offers.check w) = query w
payload (offers.send x) = pair x
payload (offers.take w) = query w
payload (offers.take_bind w) = query w

-- the action from its kind
rebuilt : ℕ → Payload → offers.Action
rebuilt n alone = offers.wait
rebuilt n (pair x) = cond (eqb n 37) (offers.launch x) (cond (eqb n 38) (offers.kill x) (offers.send x))
rebuilt n (query w) = cond (eqb n 39) (offers.receive w) (cond (eqb n 40) (offers.bind w) (cond (eqb n 41) (offers.check w) (cond (eqb n 43) (offers.take w) (offers.take_bind w))))

-- what the numbers say of it
data Bears (t : List ℕ) (ls : List ℤ) (r : Offer) : Payload → Type 0 where
  bears-none : r.kind ≡ 36 → Bears t ls r alone
  bears-pair : {x : offers.Pair} → 37 ≤ r.kind → r.kind ≤ 44 → Shown.carries r.kind ≡ true → Shown.ShowsPair r x → Bears t ls r (pair x)
  bears-query : {w : offers.Query} → 37 ≤ r.kind → r.kind ≤ 44 → Shown.carries r.kind ≡ false → Shown.ShowsQuery t ls r w → Bears t ls r (query w)

module _ {t : List ℕ} {ls : List ℤ} {r : Offer} where
  bears : {a : offers.Action} → Shown.ShowsAction t ls r a → Bears t ls r (payload a)
  unfolding Shown.bare_offer Shown.carries payload
  bears (Shown.wait e) = bears-none (ap (λ (o : Offer). o.kind) e)
  bears (Shown.launch e h) = bears-pair (omega arith) (omega arith) (rw e) h
  bears (Shown.kill e h) = bears-pair (omega arith) (omega arith) (rw e) h
  bears (Shown.receive e h) = bears-query (omega arith) (omega arith) (rw e) h
  bears (Shown.bind e h) = bears-query (omega arith) (omega arith) (rw e) h
  bears (Shown.check e h) = bears-query (omega arith) (omega arith) (rw e) h
  bears (Shown.send e h) = bears-pair (omega arith) (omega arith) (rw e) h
  bears (Shown.take e h) = bears-query (omega arith) (omega arith) (rw e) h
  bears (Shown.take_bind e h) = bears-query (omega arith) (omega arith) (rw e) h

  rebuilds : {a : offers.Action} → Shown.ShowsAction t ls r a → a ≡ rebuilt r.kind (payload a)
  unfolding payload rebuilt
  rebuilds (Shown.wait e) = refl
  rebuilds (Shown.launch e h) = rw e
  rebuilds (Shown.kill e h) = rw e
  rebuilds (Shown.receive e h) = rw e
  rebuilds (Shown.bind e h) = rw e
  rebuilds (Shown.check e h) = rw e
  rebuilds (Shown.send e h) = rw e
  rebuilds (Shown.take e h) = rw e
  rebuilds (Shown.take_bind e h) = rw e

  bears-once : {p q : Payload} → Bears t ls r p → Bears t ls r q → p ≡ q
  bears-once (bears-none e) (bears-none f) = refl
  bears-once (bears-none e) (bears-pair g h c x) = absurd (omega arith)
  bears-once (bears-none e) (bears-query g h c x) = absurd (omega arith)
  bears-once (bears-pair g h c x) (bears-none f) = absurd (omega arith)
  bears-once (bears-pair g h c x) (bears-pair i j d y) = ap pair (pairs-alike x y)
  bears-once (bears-pair g h c x) (bears-query i j d y) = true-not-false (sym c ∙ d)
  bears-once (bears-query g h c x) (bears-none f) = absurd (omega arith)
  bears-once (bears-query g h c x) (bears-pair i j d y) = true-not-false (sym d ∙ c)
  bears-once (bears-query g h c x) (bears-query i j d y) = ap query (queries-alike x y)

  pub actions-alike : {a b : offers.Action} → Shown.ShowsAction t ls r a → Shown.ShowsAction t ls r b → a ≡ b
  actions-alike x y = rebuilds x ∙ (ap (rebuilt r.kind) (bears-once (bears x) (bears y)) ∙ sym (rebuilds y))

-- ---- offers

-- what is asked of a branch, with a gate or without: no value, hidden, or an action and its rate
abbrev pub Meaning : Type 0
Meaning = Option (Option (offers.Action × ℕ))

unfoldable pub meant : Option offers.Guard → Meaning
meant none = none
meant (some offers.shut) = some none
meant (some (offers.bare a n)) = some (some (a, n))
meant (some (offers.opened a n)) = some (some (a, n))

-- the same of an offer
data Means (t : List ℕ) (ls : List ℤ) : RustOption (RustOption Offer) → Meaning → Type 0 where
  lacks : Means t ls None none
  hides : Means t ls (Some None) (some none)
  acts : {r : Offer} {a : offers.Action} {n : ℕ} → Shown.ShowsAction t ls r a → r.rate ≡ n → Means t ls (Some (Some r)) (some (some (a, n)))

module _ {t : List ℕ} {ls : List ℤ} where
  means : {g : Option offers.Guard} {r : RustOption (RustOption Offer)} → Shown.ShowsOffer t ls g r → Means t ls r (meant g)
  unfolding meant
  means Shown.missing = lacks
  means (Shown.there Shown.shut) = hides
  means (Shown.there (Shown.bare h e)) = acts h e
  means (Shown.there (Shown.opened h e)) = acts h e

  means-once : {r : RustOption (RustOption Offer)} {p q : Meaning} → Means t ls r p → Means t ls r q → p ≡ q
  means-once lacks lacks = refl
  means-once hides hides = refl
  means-once (acts g e) (acts h f) = let i = actions-alike g h in let j = sym e ∙ f in rw (i, j)

  -- an offer shows one action and rate
  pub offers-alike : {g h : Option offers.Guard} {r : RustOption (RustOption Offer)} → Shown.ShowsOffer t ls g r → Shown.ShowsOffer t ls h r → meant g ≡ meant h
  offers-alike x y = means-once (means x) (means y)
