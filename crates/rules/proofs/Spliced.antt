-- Replacing a process is a splice, two at once are one after the other in either order, and how many processes there are afterwards. By induction on the places.
use Prim.Native.Nat.{ℕ, zero, suc, ◌+◌, ◌-◌, ◌<◌}
use mathlib.Core.Path.{◌≡◌, refl, sym, ap, ◌∙◌}
use mathlib.Core.List.{List, [], ◌∷◌, ◌++◌}
use native.Mathlib.Omega.{arith}
use lib.ListN.{length, take, drop, length-append}
use Rattle.rules.specs.Step.{replace, replace_both}

-- what stands before the place, the new ones, what stands after it
pub spliced : {A : Type 0} (i : ℕ) (ks ps : List A) → i < length ps → replace i ks ps ≡ take i ps ++ (ks ++ drop (suc i) ps)
unfolding replace
spliced i ks [] l = absurd (omega arith)
spliced zero ks (p ∷ ps) l = refl
spliced (suc i) ks (p ∷ ps) l = ap (λ t. p ∷ t) (spliced i ks ps (omega arith))

-- the later place first: the earlier one has not moved
pub later_first : {A : Type 0} (i : ℕ) (ks : List A) (k : ℕ) (ls ps : List A) → i < k → replace_both i ks k ls ps ≡ replace i ks (replace k ls ps)
unfolding replace replace_both
later_first i ks zero ls ps l = absurd (omega arith)
later_first zero ks (suc k) ls [] l = refl
later_first zero ks (suc k) ls (p ∷ ps) l = refl
later_first (suc i) ks (suc k) ls [] l = refl
later_first (suc i) ks (suc k) ls (p ∷ ps) l = ap (λ t. p ∷ t) (later_first i ks k ls ps (omega arith))

past : {A : Type 0} (ks : List A) (k : ℕ) (ls ps : List A) → replace (length ks + k) ls (ks ++ ps) ≡ ks ++ replace k ls ps
unfolding replace
past [] k ls ps = let e : 0 + k ≡ k = omega arith in ap (λ n. replace n ls ps) e
past (x ∷ ks) k ls ps =
    let e : suc (length ks) + k ≡ suc (length ks + k) = omega arith in
    ap (λ n. replace n ls (x ∷ (ks ++ ps))) e ∙ ap (λ t. x ∷ t) (past ks k ls ps)

-- the earlier place first: the later one has moved by what the earlier one became, less itself
pub earlier-first : {A : Type 0} (i : ℕ) (ks : List A) (k : ℕ) (ls ps : List A) → i < k → k < length ps → replace_both i ks k ls ps ≡ replace (length ks + k - 1) ls (replace i ks ps)
unfolding replace replace_both
earlier-first i ks zero ls ps l m = absurd (omega arith)
earlier-first i ks (suc k) ls [] l m = absurd (omega arith)
earlier-first zero ks (suc k) ls (p ∷ ps) l m =
    let e : length ks + suc k - 1 ≡ length ks + k = omega arith in
    sym (ap (λ n. replace n ls (ks ++ ps)) e ∙ past ks k ls ps)
earlier-first (suc i) ks (suc k) ls (p ∷ ps) l m =
    let e : length ks + suc k - 1 ≡ suc (length ks + k - 1) = omega arith in
    sym (ap (λ n. replace n ls (p ∷ replace i ks ps)) e ∙ ap (λ t. p ∷ t) (sym (earlier-first i ks k ls ps (omega arith) (omega arith))))

-- the order in which the two are named doesn't matter
pub either_first : {A : Type 0} (i : ℕ) (ks : List A) (k : ℕ) (ls ps : List A) → replace_both i ks k ls ps ≡ replace_both k ls i ks ps
unfolding replace replace_both
either_first zero ks zero ls ps = refl
either_first zero ks (suc k) ls [] = refl
either_first zero ks (suc k) ls (p ∷ ps) = refl
either_first (suc i) ks zero ls [] = refl
either_first (suc i) ks zero ls (p ∷ ps) = refl
either_first (suc i) ks (suc k) ls [] = refl
either_first (suc i) ks (suc k) ls (p ∷ ps) = ap (λ t. p ∷ t) (either_first i ks k ls ps)

-- ---- how many processes there are afterwards
pub replace-length : {A : Type 0} (i : ℕ) (ks ps : List A) → i < length ps → length (replace i ks ps) + 1 ≡ length ps + length ks
unfolding replace
replace-length i ks [] l = absurd (omega arith)
replace-length zero ks (p ∷ ps) l = omega (arith, length-append ks ps)
replace-length (suc i) ks (p ∷ ps) l = omega (arith, replace-length i ks ps (omega arith))

pub replace_both-length : {A : Type 0} (i : ℕ) (ks : List A) (k : ℕ) (ls ps : List A)
    → (i ≡ k → ⊥) → i < length ps → k < length ps → length (replace_both i ks k ls ps) + 2 ≡ length ps + length ks + length ls
unfolding replace_both
replace_both-length zero ks zero ls ps d l m = absurd (d refl)
replace_both-length zero ks (suc k) ls [] d l m = absurd (omega arith)
replace_both-length zero ks (suc k) ls (p ∷ ps) d l m = omega (arith, length-append ks (replace k ls ps), replace-length k ls ps (omega arith))
replace_both-length (suc i) ks zero ls [] d l m = absurd (omega arith)
replace_both-length (suc i) ks zero ls (p ∷ ps) d l m = omega (arith, length-append ls (replace i ks ps), replace-length i ks ps (omega arith))
replace_both-length (suc i) ks (suc k) ls [] d l m = absurd (omega arith)
replace_both-length (suc i) ks (suc k) ls (p ∷ ps) d l m = omega (arith, replace_both-length i ks k ls ps (λ e. d (ap suc e)) (omega arith) (omega arith))
