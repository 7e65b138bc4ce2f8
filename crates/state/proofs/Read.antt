-- What is read from a state's numbers is what the state that they decode to has: from the rows of each table.
use mathlib.Core.Path.{◌≡◌, refl, sym, ap, ◌∙◌}
use mathlib.Core.Bool.{Bool, true}
use mathlib.Core.List.{List, [], ◌∷◌, ◌++◌, map, append_assoc}
use mathlib.Core.Option.{some}
use Prim.Native.Nat.{ℕ, zero, suc, ◌+◌, ◌-◌, ◌*◌, ◌≤◌, ◌<◌}
use native.Mathlib.Nat.{add-zero}
use native.Mathlib.Omega.{arith}
use lib.IntN.{ℤ, pos, nat_abs}
use lib.ListN.{length, get_or, get_elem?, take, drop, length-map, length-take, length-drop, take-append-drop}
use lib.Seq.{take-nil, take_at, take-take, drop-drop, get_or-take, get_or-drop}
use Rattle.state.specs.Change.{pairs_from}
use Rattle.model.specs.Limits.{local_limit}
use Rattle.model.specs.Resolved
use Rattle.model.specs.Scope.{locals_in, definition_in}
use Rattle.value.proofs.Kit.{same-eq}
use Rattle.rules.specs.Offers as offers
use Rattle.model.specs.Good.{GoodModel}
use Rattle.machine.specs.Offer.{Process}
use Rattle.machine.specs.State.{State, GoodState, pair_numbers, state_numbers, pair_width, process_room, process_width}
use Rattle.state.specs.Fits.{scopes_of, FewLocals, Fits}
use Rattle.state.specs.Test.{at, every, rows, is_below, is_padded, is_process, is_pair, process_part, pair_part}
use Rattle.state.specs.Decode.{process_of, pair_of, decode}
use Rattle.state.specs.Read.{Passed, process_count, pair_count, sum_at, locals_at, definition_number, pair_row}
use Rattle.state.proofs.Tests.{both, below-bound}
use Rattle.state.proofs.Rows.{rows-length}
use Rattle.state.proofs.Entries.{get-is, pair_row_lem}
use Rattle.state.proofs.Places.{row_at}
use Rattle.state.proofs.Image.{parts, numbers-length, numbers-pass, decode-back}
use Rattle.state.proofs.Over.{good-fits, few-scopes}

-- ---- lists
drop-take : {A : Type 0} (m n k : ℕ) (l : List A) → k ≡ m + n → drop m (take k l) ≡ take n (drop m l)
drop-take {A} zero n k l e = let f : k ≡ n = omega arith in ap (λ (j : ℕ). take j l) f
drop-take (suc m) n zero l e = absurd (omega arith)
drop-take (suc m) n (suc k) [] e = sym (take-nil n)
drop-take (suc m) n (suc k) (x ∷ l) e = drop-take m n k l (omega arith)

-- w members of a part that starts at a
part_of : {A : Type 0} (w p m a : ℕ) (l : List A) → p + w ≤ m → take w (drop p (take m (drop a l))) ≡ take w (drop (a + p) l)
part_of w p m a l h =
    ap (take w) (drop-take p (m - p) m (drop a l) (omega arith))
    ∙ take-take w (m - p) (drop p (drop a l)) (omega arith)
    ∙ ap (take w) (drop-drop p a l)

-- the front of a longer list
front : {A : Type 0} (k : ℕ) (u v : List A) → take (length (take k u)) (u ++ v) ≡ take k u
front {A} k u v =
    ap (λ (l : List A). take (length (take k u)) (l ++ v)) (sym (take-append-drop k u))
    ∙ ap (take (length (take k u))) (append_assoc (take k u) (drop k u) v)
    ∙ take_at (take k u) (drop k u ++ v) (length (take k u)) refl

pub every-at : {A : Type 0} (t : A → Bool) (xs : List A) (i : ℕ) (d : A) → every t xs ≡ true → i < length xs → t (get_or xs i d) ≡ true
unfolding every
every-at t [] i d e l = absurd (omega arith)
every-at t (x ∷ xs) zero d e l = (both (t x) _ e).0
every-at t (x ∷ xs) (suc i) d e l = every-at t xs i d (both (t x) _ e).1 (omega arith)

map_get : {A B : Type 0} (f : A → B) (xs : List A) (i : ℕ) (d : A) (y : B) → get_elem? (map f xs) i ≡ some y → (i < length xs) × (y ≡ f (get_or xs i d))
map_get f [] i d y e = let z : ◌≡◌ {A = ℕ} 0 1 = cc in absurd (omega arith)
map_get f (x ∷ xs) zero d y e = (omega arith, cc)
map_get f (x ∷ xs) (suc i) d y e = let r = map_get f xs i d y e in (omega (arith, r.0), r.1)

-- ---- the rows of the two tables
process-row-at : (zs : List ℤ) (n i : ℕ) → n ≤ 256 → i < n → get_or (rows process_width n (process_part zs)) i [] ≡ take process_width (drop (2 + i * process_width) zs)
process-row-at zs n i m l = row_at process_width n i (process_part zs) l ∙ part_of process_width (i * process_width) process_room 2 zs (omega arith)

pair-row-at : (zs : List ℤ) (n i : ℕ) → i < n → get_or (rows pair_width n (pair_part zs)) i [] ≡ pair_row zs i
unfolding pair_row
pair-row-at zs n i l = row_at pair_width n i (pair_part zs) l ∙ ap (take pair_width) (drop-drop (i * pair_width) pairs_from zs)

-- a number of a row, and the first
row_number : (w a k : ℕ) (l : List ℤ) → k < w → at (take w (drop a l)) k ≡ at l (a + k)
row_number w a k l h = get_or-take w (drop a l) k (pos 0) h ∙ get_or-drop a l k (pos 0)

row_first : (w a : ℕ) (l : List ℤ) → 0 < w → at (take w (drop a l)) 0 ≡ at l a
row_first w a l h = row_number w a 0 l h ∙ ap (at l) (add-zero a)

-- ---- a state that is decoded
module _ (scopes : List ℕ) (zs : List ℤ) where
  pub pairs-decoded : length (decode scopes zs).pairs ≡ pair_count zs
  unfolding decode
  pairs-decoded = length-map (rows pair_width (pair_count zs) (pair_part zs)) pair_of ∙ rows-length pair_width (pair_count zs) (pair_part zs)

  process-decoded : (i : ℕ) (p : Process) → process_count zs ≤ 256 → get_elem? (decode scopes zs).processes i ≡ some p → p ≡ process_of scopes (take process_width (drop (2 + i * process_width) zs))
  unfolding decode
  process-decoded i p m e =
      let r = map_get (process_of scopes) (rows process_width (process_count zs) (process_part zs)) i [] p e in
      r.1 ∙ ap (process_of scopes) (process-row-at zs (process_count zs) i m (omega (arith, r.0, rows-length process_width (process_count zs) (process_part zs))))

  pub sum-decoded : (i : ℕ) (p : Process) → process_count zs ≤ 256 → get_elem? (decode scopes zs).processes i ≡ some p → sum_at zs i ≡ p.sum
  unfolding sum_at process_of
  sum-decoded i p m e = sym (ap (λ (q : Process). q.sum) (process-decoded i p m e) ∙ ap nat_abs (row_first process_width (2 + i * process_width) zs (omega arith)))

  pub definition-decoded : (i : ℕ) (p : Process) → process_count zs ≤ 256 → get_elem? (decode scopes zs).processes i ≡ some p → definition_number zs i ≡ p.definition
  unfolding definition_number process_of
  definition-decoded i p m e = sym (ap (λ (q : Process). q.definition) (process-decoded i p m e) ∙ ap nat_abs (row_number process_width (2 + i * process_width) (1 + local_limit) zs (omega arith)))

  -- the locals that a row has in scope
  scope-locals : (k a : ℕ) → let ls = take k (drop 1 (take process_width (drop a zs))) in take (length ls) (drop (a + 1) zs) ≡ ls
  scope-locals k a =
      let u : List ℤ = drop 1 (take process_width (drop a zs)) in
      let e : drop (a + 1) zs ≡ u ++ drop (1 + local_limit) (drop 1 (drop a zs)) =
      sym (ap (λ (l : List ℤ). l ++ drop (1 + local_limit) (drop 1 (drop a zs))) (drop-take 1 (1 + local_limit) process_width (drop a zs) (omega arith)) ∙ take-append-drop (1 + local_limit) (drop 1 (drop a zs)) ∙ drop-drop 1 a zs) in
      ap (take (length (take k u))) e ∙ front k u (drop (1 + local_limit) (drop 1 (drop a zs)))

  pub locals-decoded : (i : ℕ) (p : Process) → process_count zs ≤ 256 → get_elem? (decode scopes zs).processes i ≡ some p → locals_at zs i (length p.locals) ≡ p.locals
  unfolding locals_at process_of
  locals-decoded i p m e =
      let q : p.locals ≡ take (locals_in (get_or scopes (nat_abs (at (take process_width (drop (2 + i * process_width) zs)) 0)) 0)) (drop 1 (take process_width (drop (2 + i * process_width) zs))) = ap (λ (r : Process). r.locals) (process-decoded i p m e) in
      ap (λ (l : List ℤ). take (length l) (drop (2 + i * process_width + 1) zs)) q
      ∙ scope-locals (locals_in (get_or scopes (nat_abs (at (take process_width (drop (2 + i * process_width) zs)) 0)) 0)) (2 + i * process_width)
      ∙ sym q

  pub pair-decoded : (i : ℕ) (x : offers.Pair) → get_elem? (decode scopes zs).pairs i ≡ some x → pair_of (pair_row zs i) ≡ x
  unfolding decode
  pair-decoded i x e =
      let r = map_get pair_of (rows pair_width (pair_count zs) (pair_part zs)) i [] x e in
      sym (r.1 ∙ ap pair_of (pair-row-at zs (pair_count zs) i (omega (arith, r.0, rows-length pair_width (pair_count zs) (pair_part zs)))))

-- ---- numbers that passed
module _ (zs : List ℤ) (h : Passed zs) where
  pub processes-below : is_below 257 (at zs 0) ≡ true
  processes-below = (parts h.scopes h.few h.channels zs h.long h.passes).processes

  pub pairs_below : is_below 257 (at zs 1) ≡ true
  pairs_below = (parts h.scopes h.few h.channels zs h.long h.passes).pairs

  pub few-processes : process_count zs ≤ 256
  few-processes = omega (arith, below-bound 257 (at zs 0) processes-below)

  pub few-pairs : pair_count zs ≤ 256
  few-pairs = omega (arith, below-bound 257 (at zs 1) pairs_below)

  -- the row of a process is one
  process-passed : (i : ℕ) → i < process_count zs → is_process h.scopes (take process_width (drop (2 + i * process_width) zs)) ≡ true
  process-passed i l =
      let r : is_process h.scopes (get_or (rows process_width (process_count zs) (process_part zs)) i []) ≡ true =
      every-at (is_process h.scopes) (rows process_width (process_count zs) (process_part zs)) i [] (parts h.scopes h.few h.channels zs h.long h.passes).process-rows (omega (arith, rows-length process_width (process_count zs) (process_part zs))) in
      rw (process-row-at zs (process_count zs) i few-processes l) at r

  -- a sum number is one of a sum that exists
  pub sum_below : (i : ℕ) → i < process_count zs → is_below (length h.scopes) (at zs (2 + i * process_width)) ≡ true
  unfolding is_process
  sum_below i l = ap (is_below (length h.scopes)) (sym (row_first process_width (2 + i * process_width) zs (omega arith))) ∙ (both _ _ (process-passed i l)).0

  -- a definition number is a natural one
  pub definition-natural : (i : ℕ) → i < process_count zs → (k : ℕ) × (at zs (2 + i * process_width + (1 + local_limit)) ≡ pos k)
  unfolding is_process
  definition-natural i l =
      let row = take process_width (drop (2 + i * process_width) zs) in
      let k : ℕ = definition_in (get_or h.scopes (nat_abs (at row 0)) 0) in
      let q = (both (is_below (length h.scopes) (at row 0)) _ (process-passed i l)).1 in
      let e = (both (is_padded (locals_in (get_or h.scopes (nat_abs (at row 0)) 0)) (take local_limit (drop 1 row))) _ q).1 in
      (k, sym (row_number process_width (2 + i * process_width) (1 + local_limit) zs (omega arith)) ∙ same-eq (at row (1 + local_limit)) (pos k) e)

  -- a pair's row is its numbers
  pub row-decoded : (i : ℕ) (x : offers.Pair) → get_elem? (decode h.scopes zs).pairs i ≡ some x → pair_row zs i ≡ pair_numbers x
  unfolding pair_row
  row-decoded i x e =
      let l : i < pair_count zs = omega (arith, (get-is (decode h.scopes zs).pairs i x x e).0, pairs-decoded h.scopes zs) in
      let r : is_pair h.channels (get_or (rows pair_width (pair_count zs) (pair_part zs)) i []) ≡ true =
      every-at (is_pair h.channels) (rows pair_width (pair_count zs) (pair_part zs)) i [] (parts h.scopes h.few h.channels zs h.long h.passes).pair-rows (omega (arith, rows-length pair_width (pair_count zs) (pair_part zs))) in
      let q : is_pair h.channels (pair_row zs i) ≡ true = rw (pair-row-at zs (pair_count zs) i l) at r in
      sym (ap pair_numbers (sym (pair-decoded h.scopes zs i x e)) ∙ (pair_row_lem h.channels (pair_row zs i) (simp (length-take, length-drop) (omega (arith, h.long, few-pairs))) q).1)

-- ---- the numbers of a state that fits
module _ (scopes : List ℕ) (few : FewLocals scopes) (channels : ℕ) (s : State) (fits : Fits scopes channels s) where
  pub numbers-passed : Passed (state_numbers s)
  numbers-passed = record {
    scopes = scopes;
    channels = channels;
    few = few;
    long = numbers-length scopes few channels s fits;
    passes = numbers-pass scopes few channels s fits;
  }

  back : decode scopes (state_numbers s) ≡ s
  back = decode-back scopes few channels s fits

  pub count-numbers : (process_count (state_numbers s) ≡ length s.processes) × (pair_count (state_numbers s) ≡ length s.pairs)
  unfolding state_numbers
  count-numbers = (refl, refl)

  pub sum-numbers : (i : ℕ) (p : Process) → get_elem? s.processes i ≡ some p → sum_at (state_numbers s) i ≡ p.sum
  sum-numbers i p e = sum-decoded scopes (state_numbers s) i p (few-processes (state_numbers s) numbers-passed) (ap (λ (t : State). get_elem? t.processes i) back ∙ e)

  pub definition-numbers : (i : ℕ) (p : Process) → get_elem? s.processes i ≡ some p → definition_number (state_numbers s) i ≡ p.definition
  definition-numbers i p e = definition-decoded scopes (state_numbers s) i p (few-processes (state_numbers s) numbers-passed) (ap (λ (t : State). get_elem? t.processes i) back ∙ e)

  pub locals-numbers : (i : ℕ) (p : Process) → get_elem? s.processes i ≡ some p → locals_at (state_numbers s) i (length p.locals) ≡ p.locals
  locals-numbers i p e = locals-decoded scopes (state_numbers s) i p (few-processes (state_numbers s) numbers-passed) (ap (λ (t : State). get_elem? t.processes i) back ∙ e)

  pub row-numbers : (i : ℕ) (x : offers.Pair) → get_elem? s.pairs i ≡ some x → pair_row (state_numbers s) i ≡ pair_numbers x
  unfolding numbers-passed
  row-numbers i x e = row-decoded (state_numbers s) numbers-passed i x (ap (λ (t : State). get_elem? t.pairs i) back ∙ e)

-- 01, Listing, 11: the numbers of a state over a model
pub good-passed : (m : Resolved.Model) (s : State) → GoodModel m → GoodState m s → Passed (state_numbers s)
good-passed m s g h = numbers-passed (scopes_of m) (few-scopes m g) m.channels s (good-fits m s g h)
