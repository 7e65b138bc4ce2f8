-- Which kinds have which role, and what nodes of the roles become. By the tests of a kind, one after the other.
use mathlib.Core.Path.{◌≡◌, refl, sym, ap₂, ◌∙◌}
use mathlib.Core.List.{List}
use mathlib.Core.Bool.{Bool, true, false, cond, ◌&&◌, ◌||◌}
use mathlib.Core.Logic.{◌⊎◌, inl, inr}
use Prim.Native.Nat.{ℕ, ◌+◌, ◌≤◌}
use native.Mathlib.Decide.{dec_le}
use native.Mathlib.Omega.{arith}
use borrow.Author.Tests.{eqb-true, eqb-false, leb-true, le-leb}
use lib.Dec.{eqb, leb}
use Rattle.tree.specs.Node as node
use Rattle.tree.specs.Node.{kind_of, token_of, number_kind}
use Rattle.model.specs.Sites.{Variable, Definition}
use Rattle.model.proofs.Members.{not-both}
use Rattle.settle.specs.Walks.{Role, whole, name, number, scale, action, ending, sum, call, definition, item, plain, role_of, Point, cell_by, step_by}

-- a kind has its role
pub data Kinded (κ : ℕ) : Role → Type 0 where
  as-whole : κ ≡ node.literal → Kinded κ (whole false)
  as-negative : κ ≡ node.negative → Kinded κ (whole true)
  as-name : κ ≡ node.named → Kinded κ name
  as_number : (b d : Bool) → κ ≡ number_kind b d → Kinded κ (number b d)
  as-scale : κ ≡ node.scale_name → Kinded κ scale
  as-action : node.wait ≤ κ → κ ≤ node.hand_bind → Kinded κ action
  as-ending : node.stop ≤ κ → κ ≤ node.dot → Kinded κ ending
  as-sum : κ ≡ node.sum → Kinded κ sum
  as_call : node.call ≤ κ → κ ≤ node.call_with → Kinded κ call
  as-definition : κ ≡ node.definition → Kinded κ definition
  as-start : node.start ≤ κ → κ ≤ node.start_with → Kinded κ (item false)
  as-counted : node.counted ≤ κ → κ ≤ node.counted_with → Kinded κ (item true)
  -- no other kind has these numbers
  as_plain : (1 ≤ κ → κ ≤ 2 → ⊥) → (29 ≤ κ → κ ≤ 32 → ⊥) → (36 ≤ κ → κ ≤ 44 → ⊥) → (45 ≤ κ → κ ≤ 46 → ⊥) → (50 ≤ κ → κ ≤ 51 → ⊥) → (57 ≤ κ → κ ≤ 60 → ⊥) → Kinded κ plain

choose : {κ : ℕ} {r rest : Role} (b : Bool) → (b ≡ true → Kinded κ r) → (b ≡ false → Kinded κ rest) → Kinded κ (cond b r rest)
choose true f g = f refl
choose false f g = g refl

pub both_true : (a b : Bool) → (a && b) ≡ true → (a ≡ true) × (b ≡ true)
both_true true true e = (refl, refl)
both_true true false e = not-both e refl
both_true false b e = not-both e refl

one-true : (a b : Bool) → (a || b) ≡ true → (a ≡ true) ⊎ (b ≡ true)
one-true true b e = inl refl
one-true false b e = inr e

none_true : (a b : Bool) → (a || b) ≡ false → (a ≡ false) × (b ≡ false)
none_true true b e = not-both refl e
none_true false b e = (refl, e)

pub among-true : (a κ b : ℕ) {r : Bool} → r ≡ (leb a κ && leb κ b) → r ≡ true → (a ≤ κ) × (κ ≤ b)
among-true a κ b e q = let z = both_true (leb a κ) (leb κ b) (sym e ∙ q) in (leb-true a κ z.0, leb-true κ b z.1)

pub among-false : (a κ b : ℕ) {r : Bool} → r ≡ (leb a κ && leb κ b) → r ≡ false → a ≤ κ → κ ≤ b → ⊥
among-false a κ b e q l u = not-both (ap₂ (λ (x y : Bool). x && y) (le-leb a κ l) (le-leb κ b u)) (sym e ∙ q)

either-of : {κ a b : ℕ} → (eqb κ a || eqb κ b) ≡ true → b ≡ a + 1 → (a ≤ κ) × (κ ≤ b)
either-of {κ} {a} {b} e s = by (one-true (eqb κ a) (eqb κ b) e)
  where
    by : (eqb κ a ≡ true) ⊎ (eqb κ b ≡ true) → (a ≤ κ) × (κ ≤ b)
    by (inl q) = let z = eqb-true κ a q in (omega arith, omega arith)
    by (inr q) = let z = eqb-true κ b q in (omega arith, omega arith)

neither-of : {κ a b : ℕ} → (eqb κ a || eqb κ b) ≡ false → b ≡ a + 1 → a ≤ κ → κ ≤ b → ⊥
neither-of {κ} {a} {b} e s l u =
    let z = none_true (eqb κ a) (eqb κ b) e in
    let x = eqb-false κ a z.0 in
    let y = eqb-false κ b z.1 in
    omega (arith, x, y)

pub kinded : (κ : ℕ) → Kinded κ (role_of κ)
unfolding role_of number_kind
kinded κ =
    choose (eqb κ 1) (λ e. as-whole (eqb-true κ 1 e)) (λ e₁.
    choose (eqb κ 2) (λ e. as-negative (eqb-true κ 2 e)) (λ e₂.
    choose (eqb κ 3) (λ e. as-name (eqb-true κ 3 e)) (λ e₃.
    choose (eqb κ 29) (λ e. as_number false false (eqb-true κ 29 e)) (λ e₄.
    choose (eqb κ 30) (λ e. as_number true false (eqb-true κ 30 e)) (λ e₅.
    choose (eqb κ 31) (λ e. as_number false true (eqb-true κ 31 e)) (λ e₆.
    choose (eqb κ 32) (λ e. as_number true true (eqb-true κ 32 e)) (λ e₇.
    choose (eqb κ 33) (λ e. as-scale (eqb-true κ 33 e)) (λ e₈.
    choose (leb 36 κ && leb κ 44) (λ e. let z = among-true 36 κ 44 refl e in as-action z.0 z.1) (λ e₉.
    choose (eqb κ 45 || eqb κ 46) (λ e. let z = either-of e refl in as-ending z.0 z.1) (λ e₁₀.
    choose (eqb κ 49) (λ e. as-sum (eqb-true κ 49 e)) (λ e₁₁.
    choose (eqb κ 50 || eqb κ 51) (λ e. let z = either-of e refl in as_call z.0 z.1) (λ e₁₂.
    choose (eqb κ 56) (λ e. as-definition (eqb-true κ 56 e)) (λ e₁₃.
    choose (eqb κ 57 || eqb κ 58) (λ e. let z = either-of e refl in as-start z.0 z.1) (λ e₁₄.
    choose (eqb κ 59 || eqb κ 60) (λ e. let z = either-of e refl in as-counted z.0 z.1) (λ e₁₅.
    as_plain (λ l u. omega (arith, eqb-false κ 1 e₁, eqb-false κ 2 e₂)) (λ l u. omega (arith, eqb-false κ 29 e₄, eqb-false κ 30 e₅, eqb-false κ 31 e₆, eqb-false κ 32 e₇)) (among-false 36 κ 44 refl e₉) (neither-of e₁₀ refl) (neither-of e₁₂ refl)
    (λ l u. four (neither-of e₁₄ refl) (neither-of e₁₅ refl) l u))))))))))))))))
  where
    four : {κ : ℕ} → (57 ≤ κ → κ ≤ 58 → ⊥) → (59 ≤ κ → κ ≤ 60 → ⊥) → 57 ≤ κ → κ ≤ 60 → ⊥
    four {κ} f g l u = by (dec_le κ 58)
      where
        by : Dec (κ ≤ 58) → ⊥
        by (yes c) = f l c
        by (no c) = g (omega arith) u

-- ---- roles by kinds

pub small-number : (b d : Bool) → (29 ≤ number_kind b d) × (number_kind b d ≤ 32)
unfolding number_kind
small-number true true = (omega arith, omega arith)
small-number true false = (omega arith, omega arith)
small-number false true = (omega arith, omega arith)
small-number false false = (omega arith, omega arith)

module _ (κ : ℕ) where
  pub action-role : 36 ≤ κ → κ ≤ 44 → role_of κ ≡ action
  action-role l u = by (role_of κ) (kinded κ)
    where
      by : (r : Role) → Kinded κ r → r ≡ action
      by r (as-whole e) = absurd (omega arith)
      by r (as-negative e) = absurd (omega arith)
      by r (as-name e) = absurd (omega arith)
      by r (as_number b d e) = absurd (let z = small-number b d in omega arith)
      by r (as-scale e) = absurd (omega arith)
      by r (as-action x y) = refl
      by r (as-ending x y) = absurd (omega arith)
      by r (as-sum e) = absurd (omega arith)
      by r (as_call x y) = absurd (omega arith)
      by r (as-definition e) = absurd (omega arith)
      by r (as-start x y) = absurd (omega arith)
      by r (as-counted x y) = absurd (omega arith)
      by r (as_plain a b c d e f) = absurd (c l u)

  pub ending-role : 45 ≤ κ → κ ≤ 46 → role_of κ ≡ ending
  ending-role l u = by (role_of κ) (kinded κ)
    where
      by : (r : Role) → Kinded κ r → r ≡ ending
      by r (as-whole e) = absurd (omega arith)
      by r (as-negative e) = absurd (omega arith)
      by r (as-name e) = absurd (omega arith)
      by r (as_number b d e) = absurd (let z = small-number b d in omega arith)
      by r (as-scale e) = absurd (omega arith)
      by r (as-action x y) = absurd (omega arith)
      by r (as-ending x y) = refl
      by r (as-sum e) = absurd (omega arith)
      by r (as_call x y) = absurd (omega arith)
      by r (as-definition e) = absurd (omega arith)
      by r (as-start x y) = absurd (omega arith)
      by r (as-counted x y) = absurd (omega arith)
      by r (as_plain a b c d e f) = absurd (d l u)

  -- ---- nodes of other kinds

  pub step-none : (w : ℕ → List ℕ) (vs : List Variable) (ds : List Definition) (c b : ℕ) (p : Point) → (36 ≤ κ → κ ≤ 44 → ⊥) → (45 ≤ κ → κ ≤ 46 → ⊥) → (κ ≡ 49 → ⊥) → (κ ≡ 56 → ⊥) → (role_of κ ≡ name → ⊥) → step_by w vs ds (role_of κ) c b p ≡ p
  unfolding step_by
  step-none w vs ds c b p na ne ns nd nn = by (role_of κ) (kinded κ) nn
    where
      by : (r : Role) → Kinded κ r → (r ≡ name → ⊥) → step_by w vs ds r c b p ≡ p
      by r (as-whole e) q = refl
      by r (as-negative e) q = refl
      by r (as-name e) q = absurd (q refl)
      by r (as_number b d e) q = refl
      by r (as-scale e) q = refl
      by r (as-action x y) q = absurd (na x y)
      by r (as-ending x y) q = absurd (ne x y)
      by r (as-sum e) q = absurd (ns e)
      by r (as_call x y) q = refl
      by r (as-definition e) q = absurd (nd e)
      by r (as-start x y) q = refl
      by r (as-counted x y) q = refl
      by r (as_plain a b c d e f) q = refl

  pub cell-none : (w : ℕ → List ℕ) (vs : List Variable) (ds : List Definition) (c : ℕ) (p : Point) → (1 ≤ κ → κ ≤ 2 → ⊥) → (29 ≤ κ → κ ≤ 32 → ⊥) → (κ ≡ 33 → ⊥) → (50 ≤ κ → κ ≤ 51 → ⊥) → (57 ≤ κ → κ ≤ 60 → ⊥) → (role_of κ ≡ name → ⊥) → cell_by w vs ds (role_of κ) c p ≡ c
  unfolding cell_by
  cell-none w vs ds c p nl nu ns nc ni nn = by (role_of κ) (kinded κ) nn
    where
      by : (r : Role) → Kinded κ r → (r ≡ name → ⊥) → cell_by w vs ds r c p ≡ c
      by r (as-whole e) q = absurd (nl (omega arith) (omega arith))
      by r (as-negative e) q = absurd (nl (omega arith) (omega arith))
      by r (as-name e) q = absurd (q refl)
      by r (as_number b d e) q = absurd (let z = small-number b d in nu (omega arith) (omega arith))
      by r (as-scale e) q = absurd (ns e)
      by r (as-action x y) q = refl
      by r (as-ending x y) q = refl
      by r (as-sum e) q = refl
      by r (as_call x y) q = absurd (nc x y)
      by r (as-definition e) q = refl
      by r (as-start x y) q = absurd (ni (omega arith) (omega arith))
      by r (as-counted x y) q = absurd (ni (omega arith) (omega arith))
      by r (as_plain a b c d e f) q = refl

  -- a number's kind
  pub number-kind-of : 29 ≤ κ → κ ≤ 32 → (b : Bool) × (d : Bool) × (κ ≡ number_kind b d) × (role_of κ ≡ number b d)
  number-kind-of l u = by (role_of κ) (kinded κ)
    where
      by : (r : Role) → Kinded κ r → (b : Bool) × (d : Bool) × (κ ≡ number_kind b d) × (r ≡ number b d)
      by r (as-whole e) = absurd (omega arith)
      by r (as-negative e) = absurd (omega arith)
      by r (as-name e) = absurd (omega arith)
      by r (as_number b d e) = (b, d, e, refl)
      by r (as-scale e) = absurd (omega arith)
      by r (as-action x y) = absurd (omega arith)
      by r (as-ending x y) = absurd (omega arith)
      by r (as-sum e) = absurd (omega arith)
      by r (as_call x y) = absurd (omega arith)
      by r (as-definition e) = absurd (omega arith)
      by r (as-start x y) = absurd (omega arith)
      by r (as-counted x y) = absurd (omega arith)
      by r (as_plain a b c d e f) = absurd (b l u)

-- no other kind is a name's
pub name-kind : (κ : ℕ) → (κ ≡ 3 → ⊥) → role_of κ ≡ name → ⊥
name-kind κ e q = by (role_of κ) (kinded κ) q
  where
    by : (r : Role) → Kinded κ r → r ≡ name → ⊥
    by r (as-whole x) q = absurd (let z : ◌≡◌ {A = ℕ} 0 1 = cc in omega arith)
    by r (as-negative x) q = absurd (let z : ◌≡◌ {A = ℕ} 0 1 = cc in omega arith)
    by r (as-name x) q = e x
    by r (as_number b d x) q = absurd (let z : ◌≡◌ {A = ℕ} 0 1 = cc in omega arith)
    by r (as-scale x) q = absurd (let z : ◌≡◌ {A = ℕ} 0 1 = cc in omega arith)
    by r (as-action x y) q = absurd (let z : ◌≡◌ {A = ℕ} 0 1 = cc in omega arith)
    by r (as-ending x y) q = absurd (let z : ◌≡◌ {A = ℕ} 0 1 = cc in omega arith)
    by r (as-sum x) q = absurd (let z : ◌≡◌ {A = ℕ} 0 1 = cc in omega arith)
    by r (as_call x y) q = absurd (let z : ◌≡◌ {A = ℕ} 0 1 = cc in omega arith)
    by r (as-definition x) q = absurd (let z : ◌≡◌ {A = ℕ} 0 1 = cc in omega arith)
    by r (as-start x y) q = absurd (let z : ◌≡◌ {A = ℕ} 0 1 = cc in omega arith)
    by r (as-counted x y) q = absurd (let z : ◌≡◌ {A = ℕ} 0 1 = cc in omega arith)
    by r (as_plain a b c d e f) q = absurd (let z : ◌≡◌ {A = ℕ} 0 1 = cc in omega arith)
