-- What each return of the search says: 11, 26 and what a walk comes to, as the effect of the call has it; and the entries as they are written.
use mathlib.Core.Path.{◌≡◌, refl, sym, ap, ◌∙◌, subst}
use mathlib.Core.List.{List, [], ◌∷◌, ◌++◌, append_assoc}
use mathlib.Core.Bool.{Bool, true, false, ◌&&◌}
use mathlib.Core.Option.{none, some}
use Prim.Native.Nat.{ℕ, zero, suc, ◌+◌, ◌-◌, ◌≤◌, ◌<◌}
use native.Mathlib.Numerals.{add-one}
use native.Mathlib.Omega.{arith}
use borrow.Author.Tests.{leb-true}
use lib.Dec.{leb}
use lib.IntN.{ℤ}
use lib.ListN.{length, get_or, set, take, replicate}
use lib.Seq.{take-suc, length-take-le, set_at}
use Rattle.runs.specs.Tree as tree
use Rattle.runs.specs.Walk as walk
use Rattle.model.specs.Resolved
use Rattle.machine.specs.State.{State, state_numbers}
use Rattle.machine.specs.Machine.{no, found_as, moves_to, depth_limit, is_depth, searched_as, searches, held, closed, holding, on_state, Request, search', acts, two_parts, uses, on_machine}
use Rattle.buffers.specs.Parts.{Engine, lent_two}
use Rattle.buffers.specs.Effect.{machine_over, left_in, leaves, requested}
use Rattle.store.proofs.Tables.{left-two}
use Rattle.std.specs.Prelude.{Ok, Err}
use Rattle.search.specs.Walks.{Walked, Answered, a-run, no_run, not_known}
use Rattle.search.specs.declared.Missed.{Missed}
use Rattle.search.specs.declared.Missed.TheVariants.{Nothing, Unsure}
use Rattle.searching.specs.Run.{entries_of, bare, GivesRun, result_of}
use Rattle.searching.specs.declared.Found.{Found}

-- ---- entries

abbrev zeros : ℕ → List ℕ
zeros n = replicate n 0

zeros-take : (k n : ℕ) → k ≤ n → take k (zeros n) ≡ zeros k
zeros-take zero n l = refl
zeros-take (suc k) zero l = absurd (omega arith)
zeros-take (suc k) (suc n) l = ap (λ (xs : List ℕ). 0 ∷ xs) (zeros-take k n (omega arith))

take_past : (xs ys : List ℕ) (n k : ℕ) → length xs ≡ n → take (n + k) (xs ++ ys) ≡ xs ++ take k ys
take_past [] ys zero k e = let d : 0 + k ≡ k = omega arith in ap (λ (j : ℕ). take j ys) d
take_past [] ys (suc n) k e = absurd (omega arith)
take_past (x ∷ xs) ys zero k e = absurd (omega arith)
take_past (x ∷ xs) ys (suc n) k e =
    let d : suc n + k ≡ suc (n + k) = omega arith in
    ap (λ (j : ℕ). take j (x ∷ xs ++ ys)) d ∙ ap (λ (r : List ℕ). x ∷ r) (take_past xs ys n k (omega arith))

-- the first i entries, then zeros
abbrev pub written : List ℕ → ℕ → List ℕ
written run i = take i run ++ zeros (depth_limit - i)

pub written-more : (run : List ℕ) (i : ℕ) → i < length run → length run ≡ depth_limit → set (written run i) i (get_or run i 0) ≡ written run (i + 1)
written-more run i l e =
    let z : zeros (depth_limit - i) ≡ 0 ∷ zeros (depth_limit - (i + 1)) = let d : depth_limit - i ≡ suc (depth_limit - (i + 1)) = omega arith in ap zeros d in
    ap (λ (xs : List ℕ). set (take i run ++ xs) i (get_or run i 0)) z
    ∙ set_at (take i run) 0 (zeros (depth_limit - (i + 1))) (get_or run i 0) i (length-take-le i run (omega arith))
    ∙ sym (append_assoc (take i run) (get_or run i 0 ∷ []) (zeros (depth_limit - (i + 1))))
    ∙ ap (λ (xs : List ℕ). xs ++ zeros (depth_limit - (i + 1))) (sym (ap (λ (k : ℕ). take k run) (add-one i) ∙ take-suc run i 0 l))

-- all entries are written
pub written_all : (run : List ℕ) (n : ℕ) → n ≤ length run → length run ≡ depth_limit → written run n ≡ entries_of (take n run)
unfolding entries_of
written_all run n l e =
    let k : length (take n run) ≡ n = length-take-le n run l in
    let d : n + (depth_limit - n) ≡ depth_limit = omega arith in
    let z : take (depth_limit - n) (zeros depth_limit) ≡ zeros (depth_limit - n) = zeros-take (depth_limit - n) depth_limit (omega arith) in
    sym (ap (λ (j : ℕ). take j (take n run ++ zeros depth_limit)) (sym d) ∙ take_past (take n run) (zeros depth_limit) n (depth_limit - n) k ∙ ap (λ (xs : List ℕ). take n run ++ xs) z)

pub run-result : (run : List ℕ) (n : ℕ) (es : List ℕ) → n ≤ length run → length run ≡ depth_limit → es ≡ written run n → ◌≡◌ {A = Found} (record { number = 0; length = n; run = es }) (result_of (tree.found (take n run)))
unfolding result_of
run-result run n es l f e =
    let a : n ≡ length (take n run) = sym (length-take-le n run l) in
    let b : es ≡ entries_of (take n run) = e ∙ written_all run n l f in
    rw (b, ← a) refl

-- ---- 26

pub depth-few : (d : ℕ) → is_depth d ≡ true → d ≤ depth_limit
unfolding is_depth
depth-few d e = by (leb 1 d) e
  where
    by : (b : Bool) → (b && leb d 8) ≡ true → d ≤ 8
    by true q = leb-true d 8 q
    by false q = absurd (let z : ◌≡◌ {A = ℕ} 0 1 = cc in omega arith)

-- ---- what a walk comes to

pub found-run : {a : tree.Answer} {run : List ℕ} {w : Walked} {n : ℕ} → w ≡ Ok n → Answered a w run → (n ≤ length run) × (a ≡ tree.found (take n run))
found-run {a} {run} {w} {n} e (a-run {n = k} l p) = let z : k ≡ n = cc in (omega arith, p ∙ ap (λ (j : ℕ). tree.found (take j run)) z)
found-run e (no_run p) = let z : ◌≡◌ {A = ℕ} 0 1 = cc in absurd (omega arith)
found-run e (not_known p) = let z : ◌≡◌ {A = ℕ} 0 1 = cc in absurd (omega arith)

missed-is : {a : tree.Answer} {run : List ℕ} {w : Walked} {r : Missed} → w ≡ Err r → Answered a w run → Answered a (Err r) run
missed-is {a} {run} e h = subst (λ (u : Walked). Answered a u run) e h

pub found_none : {a : tree.Answer} {run : List ℕ} {w : Walked} {r : Missed} → w ≡ Err r → r ≡ Nothing → Answered a w run → a ≡ tree.nothing
found_none {a} {run} {w} {r} e n h = by r (missed-is e h) n
  where
    by : (r : Missed) → Answered a (Err r) run → r ≡ Nothing → a ≡ tree.nothing
    by Nothing (no_run p) n = p
    by Unsure (not_known p) n = absurd (let z : ◌≡◌ {A = ℕ} 0 1 = cc in omega arith)

pub found-unsure : {a : tree.Answer} {run : List ℕ} {w : Walked} {r : Missed} → w ≡ Err r → r ≡ Unsure → Answered a w run → a ≡ tree.unsure
found-unsure {a} {run} {w} {r} e n h = by r (missed-is e h) n
  where
    by : (r : Missed) → Answered a (Err r) run → r ≡ Unsure → a ≡ tree.unsure
    by Nothing (no_run p) n = absurd (let z : ◌≡◌ {A = ℕ} 0 1 = cc in omega arith)
    by Unsure (not_known p) n = p

pub none-result : {a : tree.Answer} → a ≡ tree.nothing → bare 0 ≡ result_of a
unfolding result_of
none-result e = rw e refl

pub unsure-result : {a : tree.Answer} → a ≡ tree.unsure → bare 27 ≡ result_of a
unfolding result_of
unsure-result e = rw e refl

-- ---- as the effect of the call says

-- 01, Listing, 11: changes nothing
pub eleven-run : (r : Request) (x : Engine) → GivesRun (leaves (uses r) x [] (on_machine r closed)) (bare 11) x
unfolding leaves on_machine left_in no entries_of
eleven-run r x = record { number = refl; long = refl; run = refl; buffers = λ p. refl }

pub none-run : (r : Request) (x : Engine) → GivesRun (requested r x [] none) (bare 11) x
unfolding requested machine_over
none-run r x = eleven-run r x

module _ (bs : List ℕ) (zs : List ℤ) (m : Resolved.Model) (x : List ℕ) (d : ℕ) where
  abbrev X : Engine
  X = lent_two bs zs

  pub closed_run : machine_over two_parts X (some m) ≡ closed → GivesRun (requested (search' x d) X [] (some m)) (bare 11) X
  unfolding requested
  closed_run e = rw e (eleven-run (search' x d) X)

  module _ (s : State) (holds : machine_over two_parts X (some m) ≡ holding (held m s)) (numbers : zs ≡ state_numbers s) where
    -- 26
    pub deep-run : is_depth d ≡ false → GivesRun (requested (search' x d) X [] (some m)) (bare 26) X
    unfolding requested leaves on_machine acts on_state searches no entries_of
    deep-run e = rw (holds, e) (record { number = refl; long = refl; run = refl; buffers = left-two bs zs zs m s numbers })

    answer-run : (a : tree.Answer) → GivesRun (leaves two_parts X [] (record { machine = holding (held m s); answer = searched_as a })) (result_of a) X
    unfolding leaves searched_as found_as no result_of entries_of
    answer-run (tree.found r) = record { number = refl; long = refl; run = refl; buffers = left-two bs zs zs m s numbers }
    answer-run tree.nothing = record { number = refl; long = refl; run = refl; buffers = left-two bs zs zs m s numbers }
    answer-run tree.unsure = record { number = refl; long = refl; run = refl; buffers = left-two bs zs zs m s numbers }

    pub walked-run : is_depth d ≡ true → (r : Found) → r ≡ result_of (walk.search (moves_to m x) s d) → GivesRun (requested (search' x d) X [] (some m)) r X
    unfolding requested on_machine acts on_state searches
    walked-run e r q = rw (q, holds, e) (answer-run (walk.search (moves_to m x) s d))
