-- What several readers' returns have in common: a first part that fails, or on which more grows; two parts with a sign between them; a sign and a part after
-- a tree. From the laws of the machine (grammar: Follows) and of spans (tree: Spans).
use mathlib.Core.Path.{◌≡◌, refl, sym, ap, ◌∙◌}
use mathlib.Core.List.{List, [], ◌∷◌, ◌++◌}
use mathlib.Core.Option.{some}
use Prim.Native.Nat.{ℕ, ◌+◌, ◌<◌}
use native.Mathlib.Omega.{arith}
use lib.ListN.{get_or}
use Rattle.std.specs.Prelude.{Result, Ok, Err, IsErrAnd}
use Rattle.std.proofs.lemmas.Result.{err_from_is_err_and}
use Rattle.grammar.specs.Machine.{Sym, rows, find}
use Rattle.grammar.specs.Follows.{Answer, Follows}
use Rattle.grammar.specs.Syntax.{wide}
use Rattle.grammar.proofs.Follows.{join, fails, takes}
use Rattle.grammar.proofs.Prepends.{Prepends}
use Rattle.tree.specs.Table.{Two}
use Rattle.tree.specs.Reading.{place, place_counted, Parsed, Extended, Tallied, Read, Counted}
use Rattle.tree.proofs.Interval.{Interval}
use Rattle.tree.proofs.Spans.{span-token, ◌then◌, span-as, Wrote, span-wrote, wrote-size, span-place, seen-later, seen-two, next-at, fault-at, made_of, fault-size, extended-as, parsed-grown, made-grown, grown-joined}

-- what a `?` returns of a part that failed
pub raised : {T E : Type 0} {r : Result T E} {k : E} → IsErrAnd r (λ e. e ≡ k) → r ≡ Err k
raised {r = r} e =
    let p = err_from_is_err_and r e in p.1 ∙ ap Err p.2

-- the two promises of a function that reads the symbols x as a tree
abbrev pub Answers : {T : Type 0} → List Sym → (T → List ℕ → List ℕ) → (List ℕ → T → ℕ → ℕ → Type 0) → List ℕ → List ℕ → List ℕ → ℕ → ℕ → Read → Type 0
Answers x flat holds ts t t' at used r = Follows ts at x (place r) × Parsed flat holds ts t t' at used r

-- and of one that reads more after a tree
abbrev pub Continues : {T X : Type 0} → List Sym → (T → List ℕ → List ℕ) → (X → T → X) → (List ℕ → X → ℕ → ℕ → Type 0) → List ℕ → List ℕ → List ℕ → ℕ → ℕ → Read → Type 0
Continues x flat grow holds ts t t' at left r = Follows ts at x (place r) × Extended flat grow holds holds ts t t' at left r

-- the two promises of a function that reads the symbols x as a tree and counts
abbrev pub Counts : {T : Type 0} → List Sym → (T → List ℕ → List ℕ) → (T → ℕ) → (List ℕ → T → ℕ → ℕ → Type 0) → List ℕ → List ℕ → List ℕ → ℕ → ℕ → ℕ → Counted → Type 0
Counts x flat count holds ts t t' at used c r = Follows ts at x (place_counted r) × Tallied flat count holds ts t t' at used c r

-- a first part fails
pub first-fails : {A T : Type 0} (x y : List Sym) (flat_a : A → List ℕ → List ℕ) (part : List ℕ → A → ℕ → ℕ → Type 0) (flat : T → List ℕ → List ℕ) (holds : List ℕ → T → ℕ → ℕ → Type 0) (ts t t₁ : List ℕ) (at used : ℕ) {r : Read} {k : ℕ} → r ≡ Err k → Answers x flat_a part ts t t₁ at used r → Answers (x ++ y) flat holds ts t t₁ at used (Err k)
unfolding place Parsed
first-fails x y flat_a part flat holds ts t t₁ at used {k = k} e a = (fails ts at k x y (fault-at e a.0), fault-size flat_a part ts t t₁ at used e a.1)

-- a first part, and what grows on it
pub first-grows : {A T X Z : Type 0} (x y : List Sym) (flat_a : A → List ℕ → List ℕ) (flat : T → List ℕ → List ℕ) (flat_z : Z → List ℕ → List ℕ) {width : A → ℕ} (wide-part : (z : A) → Prepends (flat_a z) (width z)) (before : List ℕ → X → ℕ → ℕ → Type 0) (holds : List ℕ → Z → ℕ → ℕ → Type 0) (grow : X → T → X) (first : A → X) (both : A → T → Z) → ((z : A) (w : T) (us : List ℕ) → flat_z (both z w) us ≡ flat_a z (flat w us)) → (ts t t₁ t₂ : List ℕ) (at used : ℕ) {n root : ℕ} → ((z : A) (w : T) (s : List ℕ) (lo k : ℕ) → n ≡ at + wide (flat_a z) → before s (grow (first z) w) lo k → holds s (both z w) lo k) → {r : Read} (r' : Read) → r ≡ Ok (n, root) → Answers x flat_a (λ s z. before s (first z)) ts t t₁ at used r → Continues y flat grow before ts t₁ t₂ n root r' → Answers (x ++ y) flat_z holds ts t t₂ at used r'
first-grows x y flat_a flat flat_z wide-part before holds grow first both text ts t t₁ t₂ at used {n} shows r' e a f =
    let m = made_of e a.1 in (
      join ts at n x y (next-at e a.0) f.0,
      parsed-grown r' (λ i top g. made-grown wide-part first both text shows m g) (λ z. z ∙ m.span.size) f.1,
    )

-- ---- two parts, a sign between them, and a node over them

-- the first was read up to n; then comes the sign, which leaves y of the symbols z
module _ {A B Z : Type 0} (x y z : List Sym) (flat_a : A → List ℕ → List ℕ) (flat_b : B → List ℕ → List ℕ) (flat_z : Z → List ℕ → List ℕ) (first : List ℕ → A → ℕ → ℕ → Type 0) (second : List ℕ → B → ℕ → ℕ → Type 0) (holds : List ℕ → Z → ℕ → ℕ → Type 0) (ts t t₁ t₂ : List ℕ) (at used : ℕ) {n left : ℕ} {r r' : Read} (signed : (q : Answer) → Follows ts (n + 1) y q → Follows ts n z q) (e : r ≡ Ok (n, left)) (a : Answers x flat_a first ts t t₁ at used r) (b : Answers y flat_b second ts t₁ t₂ (n + 1) (left + 1) r') where
  pub second-fails : {k : ℕ} → r' ≡ Err k → Answers (x ++ z) flat_z holds ts t t₂ at used (Err k)
  unfolding place Parsed
  second-fails d =
      let m = made_of e a.1 in
      (join ts at n x z (next-at e a.0) (signed _ (fault-at d b.0)), fault-size flat_b second ts t₁ t₂ (n + 1) (left + 1) d b.1 ∙ m.span.size)

  pub second-made : {i root sign kind b₁ c₁ b₂ c₂ : ℕ} {width : A → ℕ} {t₃ : List ℕ} → ((v : A) → Prepends (flat_a v) (width v)) → ((v : A) → Interval b₁ c₁ (λ s. first s v)) → ((w : B) → Interval b₂ c₂ (λ s. second s w)) → (both : A → B → Z) → ((v : A) (w : B) (us : List ℕ) → flat_z (both v w) us ≡ flat_a v (sign ∷ flat_b w us)) → ((v : A) (w : B) (s : List ℕ) (lo k : ℕ) → n ≡ at + wide (flat_a v) → Two s kind 0 0 (first s v) (second s w) lo k → holds s (both v w) lo k) → get_or ts n 0 ≡ sign → 0 < sign → r' ≡ Ok (i, root) → Wrote t₂ t₃ (root + 1) kind 0 left 0 → Answers (x ++ z) flat_z holds ts t t₃ at used (Ok (i, root + 1))
  unfolding place Parsed
  second-made {root = root} {sign = sign} {t₃ = t₃} wide-part hv hw both text shows s h d w =
      let m = made_of e a.1 in
      let q = made_of d b.1 in
      let after = span-token {t = t₁} {used = left + 1} sign s h then q.span in (
        join ts at n x z (next-at e a.0) (signed _ (next-at d b.0)),
        record {
          tree = both m.tree q.tree;
          span = span-as (text m.tree q.tree) (span-wrote w (m.span then after) (omega (arith, m.span.fewer, q.span.fewer)));
          shown = λ l. shows m.tree q.tree t₃ used (root + 1) (span-place (wide-part m.tree) m.span) (seen-two (hv m.tree) (hw q.tree) w (seen-later (hv m.tree) after (omega arith) m.shown) q.shown l);
        },
      )

-- ---- signs between parts, nested to the left

-- the sign stands before a part, which the symbols x read, and makes a node of this kind over the tree that was there and the part's
pub record Joint {A T X : Type 0} (x : List Sym) (tail : Sym) (flat_a : A → List ℕ → List ℕ) (flat : T → List ℕ → List ℕ) (part_at : A → ℕ → X) (grow : X → T → ℕ → X) (holds : List ℕ → X → ℕ → ℕ → Type 0) (sign kind : ℕ) : Type 0 where
  pub more : A → T → T
  pub binary : X → X → X
  pub present : 0 < sign
  pub row : find sign (rows tail) ≡ some (x ++ tail ∷ [])
  pub text : (a : A) (w : T) (us : List ℕ) → flat (more a w) us ≡ sign ∷ flat_a a (flat w us)
  pub grows : (z : X) (a : A) (w : T) (k : ℕ) → grow z (more a w) k ≡ grow (binary z (part_at a (k + 1))) w (k + 1 + wide (flat_a a))
  pub shows : (z v : X) (s : List ℕ) (lo k : ℕ) → Two s kind 0 0 (holds s z) (holds s v) lo k → holds s (binary z v) lo k

module _ {A T X : Type 0} {x : List Sym} {tail : Sym} {flat_a : A → List ℕ → List ℕ} {flat : T → List ℕ → List ℕ} {part_at : A → ℕ → X} {grow : X → T → ℕ → X} {holds : List ℕ → X → ℕ → ℕ → Type 0} {kind : ℕ} (ts t t₁ : List ℕ) (at left : ℕ) {r : Read} (j : Joint x tail flat_a flat part_at grow holds (get_or ts at 0) kind) (a : Answers x flat_a (λ s z. holds s (part_at z (at + 1))) ts t t₁ (at + 1) (left + 1) r) where
  -- the part fails
  pub joined-fails : {k : ℕ} → r ≡ Err k → Continues (tail ∷ []) flat (λ z w. grow z w at) holds ts t t₁ at left (Err k)
  unfolding place Extended
  joined-fails {k} e = (takes ts at tail (get_or ts at 0) refl j.present j.row (λ l. fails ts (at + 1) k x (tail ∷ []) (fault-at e a.0)), fault-size _ _ ts t t₁ (at + 1) (left + 1) e a.1)

  -- the part is read, its node written, and more read after it
  pub joined-grows : {b c n root : ℕ} {width : A → ℕ} → ((z : A) → Prepends (flat_a z) (width z)) → ((z : X) → Interval b c (λ s. holds s z)) → (t₂ t₃ : List ℕ) (r' : Read) → r ≡ Ok (n, root) → Wrote t₁ t₂ (root + 1) kind 0 left 0 → Continues (tail ∷ []) flat (λ z w. grow z w n) holds ts t₂ t₃ n (root + 1) r' → Continues (tail ∷ []) flat (λ z w. grow z w at) holds ts t t₃ at left r'
  joined-grows {n = n} wide-part interval t₂ t₃ r' e w f =
      let m = made_of e a.1 in
      let grows : (z : X) (v : A) (u : T) → n ≡ at + 1 + wide (flat_a v) → grow z (j.more v u) at ≡ grow (j.binary z (part_at v (at + 1))) u n = λ z v u q. j.grows z v u at ∙ ap (grow (j.binary z (part_at v (at + 1))) u) (sym q) in (
        takes ts at tail (get_or ts at 0) refl j.present j.row (λ l. join ts (at + 1) n x (tail ∷ []) (next-at e a.0) f.0),
        extended-as r' (λ i top g. grown-joined wide-part j.more (λ z v. j.binary z (part_at v (at + 1))) interval (λ v. interval (part_at v (at + 1))) j.text grows (λ z v. j.shows z (part_at v (at + 1))) refl j.present m w g) (λ z. z ∙ wrote-size w ∙ m.span.size) f.1,
      )
