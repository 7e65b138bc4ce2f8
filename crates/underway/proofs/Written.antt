-- What is written into the buffer, number by number; and that it is the search that is begun or carried on.
use mathlib.Core.Path.{◌≡◌, refl, sym, ap, ap₂, ◌∙◌, subst}
use mathlib.Core.Bool.{Bool, true, false}
use mathlib.Core.List.{List, [], ◌∷◌, ◌++◌, map, append_assoc}
use mathlib.Core.Option.{Option, none, some}
use Prim.Native.Nat.{ℕ, suc, ◌+◌, ◌-◌, ◌≤◌, ◌<◌}
use native.Mathlib.Numerals.{add-one}
use native.Mathlib.Omega.{arith}
use lib.IntN.{ℤ, pos}
use lib.ListN.{length, get_or, set, take, drop, replicate, length-map}
use lib.Seq.{take-suc, length-take-le, set_at}
use lib.Signed.{mag}
use mir.Val.{bool_byte}
use Rattle.model.specs.Resolved
use Rattle.model.specs.Good.{GoodModel}
use Rattle.runs.specs.Marks.{mark}
use Rattle.machine.specs.State.{State, padded, state_length, state_numbers}
use Rattle.machine.specs.Machine.{depth_limit, Search, search_from, search_at, GoodSearch, GoodSearching, search_head, search_length}
use Rattle.underway.specs.Buffer.{wait_code, entries_of, run_numbers, flag_code, under_numbers, search_numbers, search_in, is_search, begun_numbers, carried_numbers}
use Rattle.underway.proofs.Buffer.{start-part, passed}

-- ---- entries, one after the other

pub run-start : (run : List ℕ) → replicate depth_limit (pos 0) ≡ run_numbers (take 0 run)
unfolding run_numbers padded
run-start run = refl

mapped : (xs : List ℕ) (x : ℕ) → map pos (xs ++ x ∷ []) ≡ map pos xs ++ pos x ∷ []
mapped [] x = refl
mapped (y ∷ xs) x = ap (λ (l : List ℤ). pos y ∷ l) (mapped xs x)

pub run-more : (run : List ℕ) (i : ℕ) → i < length run → length run ≡ depth_limit → set (run_numbers (take i run)) i (pos (get_or run i 0)) ≡ run_numbers (take (i + 1) run)
unfolding run_numbers padded
run-more run i l e =
    let r : List ℤ = map pos (take i run) in
    let k : length r ≡ i = length-map (take i run) pos ∙ length-take-le i run (omega arith) in
    let more : List ℤ = map pos (take (i + 1) run) in
    let k' : length more ≡ i + 1 = length-map (take (i + 1) run) pos ∙ length-take-le (i + 1) run (omega arith) in
    let z : depth_limit - length r ≡ suc (depth_limit - length more) = omega arith in
    let m : more ≡ r ++ pos (get_or run i 0) ∷ [] = ap (λ (j : ℕ). map pos (take j run)) (add-one i) ∙ ap (map pos) (take-suc run i 0 l) ∙ mapped (take i run) (get_or run i 0) in
    ap (λ (j : ℕ). set (r ++ replicate j (pos 0)) i (pos (get_or run i 0))) z
    ∙ set_at r (pos 0) (replicate (depth_limit - length more) (pos 0)) (pos (get_or run i 0)) i k
    ∙ sym (append_assoc r (pos (get_or run i 0) ∷ []) (replicate (depth_limit - length more) (pos 0)))
    ∙ ap (λ (l : List ℤ). l ++ replicate (depth_limit - length more) (pos 0)) (sym m)

-- ---- begun

pub begun-front : (l : List ℤ) (d w : ℕ) → l ≡ replicate search_length (pos 0)
    → take 13 (set (set l 0 (pos d)) 1 (pos w)) ≡ pos d ∷ pos w ∷ pos 0 ∷ pos 0 ∷ pos 0 ∷ replicate depth_limit (pos 0)
begun-front l d w e = ap (λ (l : List ℤ). take 13 (set (set l 0 (pos d)) 1 (pos w))) (e ∙ ap (λ (j : ℕ). replicate j (pos 0)) long) ∙ by state_length
  where
    long : search_length ≡ suc (suc (suc (suc (suc (suc (suc (suc (suc (suc (suc (suc (suc state_length))))))))))))
    long = omega arith

    by : (n : ℕ) → take 13 (set (set (replicate (suc (suc (suc (suc (suc (suc (suc (suc (suc (suc (suc (suc (suc n))))))))))))) (pos 0)) 0 (pos d)) 1 (pos w))
        ≡ pos d ∷ pos w ∷ pos 0 ∷ pos 0 ∷ pos 0 ∷ replicate depth_limit (pos 0)
    by n = refl

pub begun-is : (l zs : List ℤ) (d w : ℕ) → l ≡ pos d ∷ pos w ∷ pos 0 ∷ pos 0 ∷ pos 0 ∷ replicate depth_limit (pos 0) → l ++ zs ≡ begun_numbers d w zs
unfolding begun_numbers
begun-is l zs d w e = rw e refl

-- ---- carried on

module _ (c f n : ℕ) (r : List ℤ) where
  pub carried-put : (l : List ℤ) → length l ≡ search_length → take 5 (set (set (set l 2 (pos c)) 3 (pos f)) 4 (pos n)) ++ (r ++ drop 13 (set (set (set l 2 (pos c)) 3 (pos f)) 4 (pos n)))
      ≡ get_or l 0 (pos 0) ∷ get_or l 1 (pos 0) ∷ pos c ∷ pos f ∷ pos n ∷ (r ++ drop 8 (drop 5 l))
  carried-put [] h = absurd (omega arith)
  carried-put (a ∷ []) h = absurd (omega arith)
  carried-put (a ∷ b ∷ []) h = absurd (omega arith)
  carried-put (a ∷ b ∷ x ∷ []) h = absurd (omega arith)
  carried-put (a ∷ b ∷ x ∷ y ∷ []) h = absurd (omega arith)
  carried-put (a ∷ b ∷ x ∷ y ∷ z ∷ l) h = refl

pub carried-is : (l : List ℤ) (c n : ℕ) (b : Bool) (run : List ℕ) → length l ≡ search_length → n ≤ length run
    → let x = set (set (set l 2 (pos c)) 3 (pos (flag_code b))) 4 (pos n) in take 5 x ++ (run_numbers (take n run) ++ drop 13 x) ≡ carried_numbers l c b (take n run)
unfolding carried_numbers
carried-is l c n b run h k =
    carried-put c (flag_code b) n (run_numbers (take n run)) l h
    ∙ ap (λ (j : ℕ). get_or l 0 (pos 0) ∷ get_or l 1 (pos 0) ∷ pos c ∷ pos (flag_code b) ∷ pos j ∷ (run_numbers (take n run) ++ drop 8 (drop 5 l))) (sym (length-take-le n run k))

pub flag-byte : (b : Bool) → bool_byte b ≡ flag_code b
unfolding flag_code
flag-byte true = refl
flag-byte false = refl

pub flag-small : (b : Bool) → mag (pos (flag_code b)) < 9223372036854775808
unfolding flag_code
flag-small true = omega arith
flag-small false = omega arith

-- ---- 02, note 10: which search that is

pub begun-search : (s : State) (w : Option ℕ) (d : ℕ) → search_numbers (some (search_from s w d)) ≡ begun_numbers d (wait_code w) (state_numbers s)
unfolding search_numbers under_numbers begun_numbers entries_of run_numbers padded flag_code
begun-search s w d = refl

pub cleared-search : search_numbers none ≡ replicate search_length (pos 0)
unfolding search_numbers
cleared-search = refl

carried-from : (m : Resolved.Model) (fine : GoodModel m) (x : Search) (g : GoodSearch m x) (l : List ℤ) → under_numbers x ≡ l → (c : ℕ) (b : Bool) (r : List ℕ)
    → search_numbers (some (search_at x c (mark (some r) b))) ≡ carried_numbers l c b r
unfolding search_numbers carried_numbers entries_of
carried-from m fine x g l e c b r =
    let p = start-part m fine x g in
    unfold under_numbers in
    ap₂ (λ (y z : ℤ). y ∷ z ∷ pos c ∷ pos (flag_code b) ∷ pos (length r) ∷ (run_numbers r ++ state_numbers x.start)) (ap (λ (k : List ℤ). get_or k 0 (pos 0)) e) (ap (λ (k : List ℤ). get_or k 1 (pos 0)) e)
    ∙ ap (λ (k : List ℤ). get_or l 0 (pos 0) ∷ get_or l 1 (pos 0) ∷ pos c ∷ pos (flag_code b) ∷ pos (length r) ∷ (run_numbers r ++ k)) (sym p ∙ ap (λ (k : List ℤ). drop depth_limit (drop search_head k)) e)

-- carried on from numbers that pass
pub carried-search : (m : Resolved.Model) (fine : GoodModel m) (l : List ℤ) → length l ≡ search_length → is_search m l ≡ true → (x : Search) → search_in m l ≡ some x → (c : ℕ) (b : Bool) (r : List ℕ)
    → search_numbers (some (search_at x c (mark (some r) b))) ≡ carried_numbers l c b r
unfolding GoodSearching search_numbers
carried-search m fine l h e x q c b r =
    let p = passed m fine l h e in
    carried-from m fine x (subst (GoodSearching m) q p.good) l (ap search_numbers (sym q) ∙ p.numbers) c b r
