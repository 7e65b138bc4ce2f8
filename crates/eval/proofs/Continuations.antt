-- What a node says of the continuation that stands there, by its kind. By cases of what stands.
use mathlib.Core.Path.{◌≡◌, refl, sym, ap, subst, ◌∙◌}
use mathlib.Core.List.{List, [], ◌∷◌, ◌++◌, append_assoc}
use mathlib.Core.Bool.{Bool, true, false, cond, ◌&&◌}
use mathlib.Core.Logic.{◌⊎◌, inl, inr, ⊎_elim}
use mathlib.Core.Option.{Option, none, some, Option-elim}
use Prim.Native.Nat.{ℕ, min, ◌+◌, ◌-◌, ◌≤◌, ◌<◌}
use native.Mathlib.Omega.{arith}
use borrow.Author.Tests.{ltb-true, ltb-false}
use lib.Dec.{ltb}
use lib.IntN.{ℤ}
use lib.ListN.{length, get_or, get_elem?, length-append, length-map}
use Rattle.tree.specs.Node.{kind_of, token_of, left_of}
use Rattle.model.specs.Resolved
use Rattle.tables.specs.Settled as Settled
use Rattle.tables.specs.Settled.{Called, Parts, entered, called-bare, called, grouped, items}
use Rattle.tables.specs.Represents.{Sums}
use Rattle.tables.proofs.Parts.{pair-above, pair-second}
use Rattle.model.specs.Good.{Every, GoodPart}
use Rattle.machine.specs.Offer as machine
use Rattle.machine.specs.Offer.{Process, all_values, arguments_given, part_processes, next_processes}
use Rattle.eval.specs.Held.{Held, Worth}
use Rattle.std.specs.Prelude.{Some, None}
use Rattle.eval.specs.Next as become
use Rattle.eval.specs.Next.{Next, ShowsNext, SomePrefix, Continues, Continuation, most, cut}
use Rattle.eval.proofs.Arguments.{SomeArguments, AreKnown}
use Rattle.eval.proofs.Offers.{prefix-parts}

-- ---- the root of a continuation

module _ (t : List ℕ) (k kind : ℕ) (is : kind ≡ kind_of (get_or t k 0)) where
  pub dot-above : kind ≡ 46 → SomePrefix t k → 1 ≤ k
  unfolding Settled.Offer
  dot-above h s = go s.next s.at
    where
      go : (ps : List Resolved.Part) → Settled.Offer t s.action s.rate ps k → 1 ≤ k
      go [] o = absurd (omega (arith, o.offer.kind-is))
      go (p ∷ ps) o = omega (arith, o.above)

  pub dot-next : kind ≡ 46 → (a : Resolved.Action) (q : Resolved.Rate) (ps : List Resolved.Part) → Settled.Offer t a q ps k → ShowsNext t ps (Some (k - 1))
  unfolding Settled.Offer
  dot-next h a q [] o = absurd (omega (arith, o.offer.kind-is))
  dot-next h a q (p ∷ ps) o =
      let e : o.right ≡ k - 1 = omega (arith, o.above) in
      become.at (subst (Parts t (p ∷ ps)) e o.next)

  pub stop-next : (kind ≡ 46 → ⊥) → (a : Resolved.Action) (q : Resolved.Rate) (ps : List Resolved.Part) → Settled.Offer t a q ps k → ShowsNext t ps None
  unfolding Settled.Offer
  stop-next h a q [] o = become.nothing
  stop-next h a q (p ∷ ps) o = absurd (h (is ∙ o.kind-is))

-- of a branch with a gate or without
module _ (t : List ℕ) (k kind : ℕ) (is : kind ≡ kind_of (get_or t k 0)) where
  pub no-gate : (kind ≡ 47 → ⊥) → (b : Resolved.Branch) → Settled.Branch t b k → Settled.Offer t b.action b.rate b.next k
  unfolding Settled.Branch Settled.Gated
  no-gate h b a = go b.gate a
    where
      go : (g : Option Resolved.Cond) → Settled.Gated t g (Settled.Offer t b.action b.rate b.next) k → Settled.Offer t b.action b.rate b.next k
      go none o = o
      go (some c) o = absurd (h (is ∙ o.kind-is))

  pub gate : kind ≡ 47 → (b : Resolved.Branch) → Settled.Branch t b k → (1 ≤ k) × Settled.Offer t b.action b.rate b.next (k - 1)
  unfolding Settled.Branch Settled.Gated
  gate h b a = go b.gate a
    where
      go : (g : Option Resolved.Cond) → Settled.Gated t g (Settled.Offer t b.action b.rate b.next) k → (1 ≤ k) × Settled.Offer t b.action b.rate b.next (k - 1)
      go none o = absurd (omega (arith, (prefix-parts t k b.action b.rate b.next o).kinds))
      go (some c) o = (pair-above o, pair-second o)

-- ---- what stands at a root, by its kind
module _ (t : List ℕ) where
  pub group-part : (ps : List Resolved.Part) (k : ℕ) → kind_of (get_or t k 0) ≡ 53 → Parts t ps k → (1 ≤ k) × Parts t ps (k - 1)
  group-part ps k h (entered i) = absurd (omega (arith, i.kind-is))
  group-part ps k h (called-bare i) = absurd (omega (arith, i.kind-is))
  group-part ps k h (called c) = absurd (omega (arith, c.call-is.kind-is))
  group-part ps k h (grouped {k = j} e p) = let q : j ≡ j + 1 - 1 = omega arith in (omega arith, subst (Parts t ps) q p)
  group-part ps k h (items e b p r) = absurd (omega arith)

  -- an item and those after it
  pub record Items (ps : List Resolved.Part) (k : ℕ) : Type 0 where
    pub first : List Resolved.Part
    pub second : List Resolved.Part
    pub is : ps ≡ first ++ second
    pub above : 1 ≤ k
    pub below : left_of (get_or t k 0) < k
    pub at_first : Parts t first (left_of (get_or t k 0))
    pub at_second : Parts t second (k - 1)

  pub item-parts : (ps : List Resolved.Part) (k : ℕ) → kind_of (get_or t k 0) ≡ 54 → Parts t ps k → Items ps k
  item-parts ps k h (entered i) = absurd (omega (arith, i.kind-is))
  item-parts ps k h (called-bare i) = absurd (omega (arith, i.kind-is))
  item-parts ps k h (called c) = absurd (omega (arith, c.call-is.kind-is))
  item-parts ps k h (grouped e p) = absurd (omega arith)
  item-parts ps k h (items {ps = xs} {qs = ys} {k = j} e b p r) =
      let q : j ≡ j + 1 - 1 = omega arith in
      record { first = xs; second = ys; is = refl; above = omega arith; below = omega arith; at_first = p; at_second = subst (Parts t ys) q r }

  -- a call with values
  pub record Call (ps : List Resolved.Part) (k : ℕ) : Type 0 where
    pub definition : ℕ
    pub values : List Resolved.Expr
    pub is : ps ≡ Resolved.call definition values ∷ []
    pub call : Called t definition values k

  pub call-part : (ps : List Resolved.Part) (k : ℕ) → kind_of (get_or t k 0) ≡ 51 → Parts t ps k → Call ps k
  call-part ps k h (entered i) = absurd (omega (arith, i.kind-is))
  call-part ps k h (called-bare i) = absurd (omega (arith, i.kind-is))
  call-part ps k h (called {d = d} {es = es} c) = record { definition = d; values = es; is = refl; call = c }
  call-part ps k h (grouped e p) = absurd (omega arith)
  call-part ps k h (items e b p r) = absurd (omega arith)

  -- a sum
  pub record Entered (ps : List Resolved.Part) (k : ℕ) : Type 0 where
    pub is : ps ≡ Resolved.enter (token_of (get_or t k 0)) ∷ []

  pub sum-part : (ps : List Resolved.Part) (k : ℕ) → kind_of (get_or t k 0) ≡ 49 → Parts t ps k → Entered ps k
  sum-part ps k h (entered i) = record { is = rw i.index_is }
  sum-part ps k h (called-bare i) = absurd (omega (arith, i.kind-is))
  sum-part ps k h (called c) = absurd (omega (arith, c.call-is.kind-is))
  sum-part ps k h (grouped e p) = absurd (omega arith)
  sum-part ps k h (items e b p r) = absurd (omega arith)

  -- a call of the definition in the first field, with values or without
  pub record Calls (ps : List Resolved.Part) (k : ℕ) : Type 0 where
    pub values : List Resolved.Expr
    pub is : ps ≡ Resolved.call (token_of (get_or t k 0)) values ∷ []

  pub calls-part : (ps : List Resolved.Part) (k : ℕ) → (kind_of (get_or t k 0) ≡ 53 → ⊥) → (kind_of (get_or t k 0) ≡ 54 → ⊥) → (kind_of (get_or t k 0) ≡ 49 → ⊥) → Parts t ps k → Calls ps k
  calls-part ps k g i s (entered j) = absurd (s j.kind-is)
  calls-part ps k g i s (called-bare j) = record { values = []; is = rw j.index_is }
  calls-part ps k g i s (called {es = es} c) = record { values = es; is = rw c.call-is.index_is }
  calls-part ps k g i s (grouped e p) = absurd (g e)
  calls-part ps k g i s (items e b p r) = absurd (i e)

-- ---- arguments

given-append : (ls : List ℤ) (ps qs : List Resolved.Part) → arguments_given ls (ps ++ qs) ≡ (arguments_given ls ps && arguments_given ls qs)
unfolding arguments_given
given-append ls [] qs = refl
given-append ls (Resolved.enter n ∷ ps) qs = given-append ls ps qs
given-append ls (Resolved.call d es ∷ ps) qs = go (all_values ls es) (arguments_given ls (ps ++ qs)) (arguments_given ls ps) (arguments_given ls qs) (given-append ls ps qs)
  where
    go : (b x y z : Bool) → x ≡ (y && z) → (b && x) ≡ ((b && y) && z)
    go true x y z e = e
    go false x y z e = refl

every-parts : {A : Type 0} (P : A → Type 0) (xs ys : List A) → Every P (xs ++ ys) → Every P xs × Every P ys
unfolding Every
every-parts P [] ys h = (tt, h)
every-parts P (x ∷ xs) ys h = let g = every-parts P xs ys h.1 in ((h.0, g.0), g.1)

-- a sum, or a call without values
plain-given : (t : List ℕ) (ls : List ℤ) (ps : List Resolved.Part) (k : ℕ) → (kind_of (get_or t k 0) ≡ 53 → ⊥) → (kind_of (get_or t k 0) ≡ 54 → ⊥) → (kind_of (get_or t k 0) ≡ 51 → ⊥)
    → Parts t ps k → true ≡ arguments_given ls ps
unfolding arguments_given all_values
plain-given t ls ps k g i c (entered j) = refl
plain-given t ls ps k g i c (called-bare j) = refl
plain-given t ls ps k g i c (called d) = absurd (c d.call-is.kind-is)
plain-given t ls ps k g i c (grouped e p) = absurd (g e)
plain-given t ls ps k g i c (items e b p r) = absurd (i e)

-- parts over n locals stand at k
abbrev pub SomeParts : List ℕ → Resolved.Model → ℕ → ℕ → Type 0
SomeParts t m n k = Held (Parts t) (Every (GoodPart m n)) k

-- r is whether their arguments have values
abbrev pub AreGiven : List ℕ → List ℤ → ℕ → Bool → Type 0
AreGiven t ls k r = Worth (Parts t) (arguments_given ls) k r

module _ (t : List ℕ) (k kind : ℕ) (is : kind ≡ kind_of (get_or t k 0)) where
  module _ (h : kind ≡ 53) where
    pub group-held : (m : Resolved.Model) (n : ℕ) → SomeParts t m n k → (1 ≤ k) × SomeParts t m n (k - 1)
    group-held m n s = let p = group-part t s.part k (sym is ∙ h) s.at in (p.0, record { part = s.part; at = p.1; fit = s.fit })

    pub group-given : (ls : List ℤ) (r : Bool) → AreGiven t ls (k - 1) r → AreGiven t ls k r
    group-given ls r w ps a = w ps (group-part t ps k (sym is ∙ h) a).1

  module _ (h : kind ≡ 54) where
    pub item-held : (m : Resolved.Model) (n : ℕ) → SomeParts t m n k → (1 ≤ k) × (left_of (get_or t k 0) < k) × SomeParts t m n (left_of (get_or t k 0)) × SomeParts t m n (k - 1)
    item-held m n s =
        let p = item-parts t s.part k (sym is ∙ h) s.at in
        let g = every-parts (GoodPart m n) p.first p.second (subst (Every (GoodPart m n)) p.is s.fit) in
        (p.above, p.below, record { part = p.first; at = p.at_first; fit = g.0 }, record { part = p.second; at = p.at_second; fit = g.1 })

    pub items-given : (ls : List ℤ) (r : Bool) → AreGiven t ls (left_of (get_or t k 0)) true → AreGiven t ls (k - 1) r → AreGiven t ls k r
    items-given ls r v w ps a =
        let p = item-parts t ps k (sym is ∙ h) a in
        rw (p.is, given-append ls p.first p.second, ← v p.first p.at_first) (w p.second p.at_second)

    pub first-ungiven : (ls : List ℤ) → AreGiven t ls (left_of (get_or t k 0)) false → AreGiven t ls k false
    first-ungiven ls v ps a =
        let p = item-parts t ps k (sym is ∙ h) a in
        rw (p.is, given-append ls p.first p.second, ← v p.first p.at_first)

  module _ (h : kind ≡ 51) where
    pub call-held : (m : Resolved.Model) (n : ℕ) → SomeParts t m n k → (1 ≤ k) × SomeArguments t n (k - 1)
    unfolding Every GoodPart
    call-held m n s =
        let p = call-part t s.part k (sym is ∙ h) s.at in
        let c = p.call in
        let g : Every (GoodPart m n) (Resolved.call p.definition p.values ∷ []) = subst (Every (GoodPart m n)) p.is s.fit in
        let e : c.root ≡ k - 1 = omega (arith, c.above) in
        (omega (arith, c.above), record { part = p.values; at = subst (Settled.Arguments t p.values) e c.holds; fit = g.0.1 })

    pub call-given : (ls : List ℤ) (r : Bool) → AreKnown t ls (k - 1) r → AreGiven t ls k r
    unfolding arguments_given
    call-given ls r w ps a =
        let p = call-part t ps k (sym is ∙ h) a in
        let c = p.call in
        let e : c.root ≡ k - 1 = omega (arith, c.above) in
        rw p.is (w p.values (subst (Settled.Arguments t p.values) e c.holds) ∙ go (all_values ls p.values))
      where
        go : (b : Bool) → b ≡ (b && true)
        go true = refl
        go false = refl

  pub others-given : (ls : List ℤ) → (kind ≡ 53 → ⊥) → (kind ≡ 54 → ⊥) → (kind ≡ 51 → ⊥) → AreGiven t ls k true
  others-given ls g i c ps a = plain-given t ls ps k (λ e. g (is ∙ e)) (λ e. i (is ∙ e)) (λ e. c (is ∙ e)) a

-- ---- counts
pub cut_most : (n : ℕ) → cut n ≤ most
unfolding cut
cut_most n = go (ltb most n) refl
  where
    go : (b : Bool) → ltb most n ≡ b → cond b most n ≤ most
    go true e = omega arith
    go false e = omega (arith, ltb-false most n e)

-- the lesser of two
pub least : (n : ℕ) → min n most ≡ cut n
unfolding cut
least n = go (ltb most n) refl
  where
    go : (b : Bool) → ltb most n ≡ b → min n most ≡ cond b most n
    go true e = let l = ltb-true most n e in omega arith
    go false e = let l = ltb-false most n e in omega arith

-- what is known of a number that is cut
cut-cases : (n : ℕ) → ((cut n ≡ n) × (n ≤ most)) ⊎ ((cut n ≡ most) × (most < n))
unfolding cut
cut-cases n = go (ltb most n) refl
  where
    go : (b : Bool) → ltb most n ≡ b → ((cond b most n ≡ n) × (n ≤ most)) ⊎ ((cond b most n ≡ most) × (most < n))
    go true e = inr (refl, ltb-true most n e)
    go false e = inl (refl, ltb-false most n e)

cut-over : (n : ℕ) → most ≤ n → cut n ≡ most
cut-over n h = ⊎_elim (λ p. omega arith) (λ p. p.0) (cut-cases n)

pub cut_sum : (a b : ℕ) → cut (cut a + cut b) ≡ cut (a + b)
cut_sum a b = ⊎_elim (λ p. ⊎_elim (λ q. rw (p.0, q.0)) (λ q. over (omega arith) (omega arith)) (cut-cases b)) (λ p. over (omega arith) (omega arith)) (cut-cases a)
  where
    over : most ≤ cut a + cut b → most ≤ a + b → cut (cut a + cut b) ≡ cut (a + b)
    over g h = cut-over (cut a + cut b) g ∙ sym (cut-over (a + b) h)

pub next-append : (m : Resolved.Model) (ls : List ℤ) (ps qs : List Resolved.Part) → next_processes m ls (ps ++ qs) ≡ next_processes m ls ps ++ next_processes m ls qs
unfolding next_processes
next-append m ls [] qs = refl
next-append m ls (p ∷ ps) qs = rw (next-append m ls ps qs, append_assoc)

-- r is how many processes the continuation at k becomes
abbrev pub Counts : List ℕ → ℕ → ℕ → ℕ → ℕ → Type 0
Counts t root variables k r = (n : ℕ) (m : Resolved.Model) (ps : List Resolved.Part) (ls : List ℤ) → Continues t root variables n m ps k → r ≡ cut (length (next_processes m ls ps))

module _ (t : List ℕ) (root variables n : ℕ) (m : Resolved.Model) (ps : List Resolved.Part) (k : ℕ) (s : Continues t root variables n m ps k) where
  pub group-continues : kind_of (get_or t k 0) ≡ 53 → (1 ≤ k) × Continues t root variables n m ps (k - 1)
  group-continues h =
      let p = group-part t ps k h s.at in
      (p.0, record { good = s.good; defines = s.defines; at = p.1; fit = s.fit })

  -- both continue
  pub record Both : Type 0 where
    pub split : Items t ps k
    pub first : Continues t root variables n m split.first (left_of (get_or t k 0))
    pub second : Continues t root variables n m split.second (k - 1)

  pub items-continue : kind_of (get_or t k 0) ≡ 54 → Both
  items-continue h =
      let p = item-parts t ps k h s.at in
      let g = every-parts (GoodPart m n) p.first p.second (subst (Every (GoodPart m n)) p.is s.fit) in
      record {
        split = p;
        first = record { good = s.good; defines = s.defines; at = p.at_first; fit = g.0 };
        second = record { good = s.good; defines = s.defines; at = p.at_second; fit = g.1 };
      }

  -- what is called
  pub record Body (es : List Resolved.Expr) : Type 0 where
    pub definition : Resolved.Defined
    pub exists : get_elem? m.definitions (token_of (get_or t k 0)) ≡ some definition
    pub params : definition.params ≡ length es
    pub above : 1 ≤ left_of (get_or t (root - variables - token_of (get_or t k 0)) 0)
    pub sums : Sums t definition.sums (left_of (get_or t (root - variables - token_of (get_or t k 0)) 0) - 1)

  pub body : (es : List Resolved.Expr) → ps ≡ Resolved.call (token_of (get_or t k 0)) es ∷ [] → Body es
  unfolding Every GoodPart
  body es e =
      let g : Every (GoodPart m n) (Resolved.call (token_of (get_or t k 0)) es ∷ []) = subst (Every (GoodPart m n)) e s.fit in
      let c = g.0.0 in
      let d = s.defines (token_of (get_or t k 0)) c.definition c.exists in
      let q : d.root ≡ left_of (get_or t (root - variables - token_of (get_or t k 0)) 0) - 1 = omega (arith, d.above) in
      record {
        definition = c.definition;
        exists = c.exists;
        params = c.params;
        above = omega (arith, d.above);
        sums = subst (Sums t c.definition.sums) q d.holds;
      }

-- a count is at most this
pub counts-most : (t : List ℕ) (root variables k r : ℕ) → Continuation t root variables k → Counts t root variables k r → r ≤ most
counts-most t root variables k r s w = rw (w s.locals s.model s.parts [] s.holds) (cut_most _)

module _ (t : List ℕ) (root variables k kind : ℕ) (is : kind ≡ kind_of (get_or t k 0)) where
  pub group-some : kind ≡ 53 → Continuation t root variables k → (1 ≤ k) × Continuation t root variables (k - 1)
  group-some h s =
      let g = group-continues t root variables s.locals s.model s.parts k s.holds (sym is ∙ h) in
      (g.0, record { locals = s.locals; model = s.model; parts = s.parts; holds = g.1 })

  pub group-counts : (r : ℕ) → kind ≡ 53 → Counts t root variables (k - 1) r → Counts t root variables k r
  group-counts r h w n m ps ls s = w n m ps ls (group-continues t root variables n m ps k s (sym is ∙ h)).1

  pub items-some : kind ≡ 54 → Continuation t root variables k
      → (1 ≤ k) × (left_of (get_or t k 0) < k) × Continuation t root variables (left_of (get_or t k 0)) × Continuation t root variables (k - 1)
  items-some h s =
      let b = items-continue t root variables s.locals s.model s.parts k s.holds (sym is ∙ h) in (
        b.split.above,
        b.split.below,
        record { locals = s.locals; model = s.model; parts = b.split.first; holds = b.first },
        record { locals = s.locals; model = s.model; parts = b.split.second; holds = b.second },
      )

  pub items-count : (a b r : ℕ) → kind ≡ 54 → Counts t root variables (left_of (get_or t k 0)) a → Counts t root variables (k - 1) b → r ≡ cut (a + b) → Counts t root variables k r
  items-count a b r h v w e n m ps ls s =
      let x = items-continue t root variables n m ps k s (sym is ∙ h) in
      let xs = x.split.first in
      let ys = x.split.second in
      let p : length (next_processes m ls ps) ≡ length (next_processes m ls xs) + length (next_processes m ls ys) = ap (λ (z : List Resolved.Part). length (next_processes m ls z)) x.split.is ∙ (ap length (next-append m ls xs ys) ∙ length-append (next_processes m ls xs) (next_processes m ls ys)) in
      let q : a + b ≡ cut (length (next_processes m ls xs)) + cut (length (next_processes m ls ys)) = omega (arith, v n m xs ls x.first, w n m ys ls x.second) in
      e ∙ (ap cut q ∙ (cut_sum (length (next_processes m ls xs)) (length (next_processes m ls ys)) ∙ ap cut (sym p)))

  pub sum-counts : kind ≡ 49 → Counts t root variables k 1
  unfolding next_processes part_processes cut
  sum-counts h n m ps ls s = rw (sum-part t ps k (sym is ∙ h) s.at).is

  module _ (g : kind ≡ 53 → ⊥) (i : kind ≡ 54 → ⊥) (u : kind ≡ 49 → ⊥) where
    pub calls-of : (ps : List Resolved.Part) → Parts t ps k → Calls t ps k
    calls-of ps a = calls-part t ps k (λ e. g (is ∙ e)) (λ e. i (is ∙ e)) (λ e. u (is ∙ e)) a

    pub some-body : (s : Continuation t root variables k) → Body t root variables s.locals s.model s.parts k s.holds (calls-of s.parts s.holds.at).values
    some-body s = let c = calls-of s.parts s.holds.at in body t root variables s.locals s.model s.parts k s.holds c.values c.is

    pub call-counts : (r : ℕ) → ((ns : List ℕ) → Sums t ns (left_of (get_or t (root - variables - token_of (get_or t k 0)) 0) - 1) → r ≡ length ns) → Counts t root variables k (cut r)
    unfolding next_processes part_processes machine.called Option-elim
    call-counts r w n m ps ls s =
        let c = calls-of ps s.at in
        let b = body t root variables n m ps k s c.values c.is in
        rw (c.is, b.exists) (ap cut (simp (length-append, length-map) (omega (arith, w b.definition.sums b.sums))))
