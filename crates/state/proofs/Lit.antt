-- The changes of the numbers of the pairs are those of the lit pairs: a pair comes in where it is found to stand, and goes out at its place.
use mathlib.Core.Path.{◌≡◌, refl, sym, ap, ap₂, ◌∙◌}
use mathlib.Core.Bool.{Bool, true, false, cond}
use mathlib.Core.List.Memᴰ
use mathlib.Core.List.{List, [], ◌∷◌, ◌++◌, map, append_assoc, Memᴰ as In}
use mathlib.Core.Logic.{◌⊎◌, inl, inr}
use Prim.Native.Nat.{ℕ, suc, ◌+◌, ◌-◌, ◌*◌, ◌≤◌, ◌<◌}
use native.Mathlib.Omega.{arith}
use lib.IntN.{ℤ, pos}
use lib.ListN.{length, set, take, drop, length-append, length-drop, length-map, take-append-drop}
use lib.Seq.{take-append-add, drop-append-add, length-take-le}
use Rattle.value.proofs.Kit.{true-not-false, false-not-true}
use Rattle.rules.specs.Offers as offers
use Rattle.rules.specs.Order.{Ascending}
use Rattle.rules.specs.Pairs.{before, Before, insert, remove}
use Rattle.rules.proofs.Before.{before-trans, before-apart, Compared, under, over, equal, compared}
use Rattle.rules.proofs.Launched.{launch-lit, launch-counts}
use Rattle.rules.proofs.Killed.{kill-unlit}
use Rattle.model.specs.Good.{Every}
use Rattle.machine.specs.State.{State, padded, flatten, process_numbers, pair_numbers, state_numbers, pair_room, pair_width, process_room, process_width}
use Rattle.state.specs.Fits.{FewLocals, FitsProcess, FitsPair, Fits}
use Rattle.state.specs.Test.{place_of, is_lit}
use Rattle.state.specs.Change.{rewritten, pair_rows, pair_added, pair_taken, pair_launched, pair_killed, pairs_from}
use Rattle.state.proofs.Rows.{flatten-length, padded-length}
use Rattle.state.proofs.Entries.{process-wide, pair-wide}
use Rattle.state.proofs.Climbs.{before-rows}
use Rattle.state.proofs.Image.{pair-rows}
use Rattle.state.proofs.Places.{place-bound, lit-place}
use Rattle.state.proofs.Spliced.{table-rewritten, flatten-append, every-left, every-right, every_first, every-later}

-- ---- where a pair comes in
not_back : (x y : offers.Pair) → Before x y → before y x ≡ false
not_back x y e = go (before y x) refl
  where
    go : (t : Bool) → before y x ≡ t → t ≡ false
    go true f = absurd (before-apart x x (before-trans x y x e f) refl)
    go false f = refl

pub insert-at : (x : offers.Pair) (L : List offers.Pair) → (In x L → ⊥)
    → let p = place_of (pair_numbers x) (map pair_numbers L) in insert x L ≡ take p L ++ (x ∷ drop p L)
unfolding insert place_of
insert-at x [] h = refl
insert-at x (y ∷ ys) h = go (compared x y) (insert-at x ys (λ i. h (In.tail i)))
  where
    go : Compared x y → (let p = place_of (pair_numbers x) (map pair_numbers ys) in insert x ys ≡ take p ys ++ (x ∷ drop p ys))
        → let p = place_of (pair_numbers x) (map pair_numbers (y ∷ ys)) in insert x (y ∷ ys) ≡ take p (y ∷ ys) ++ (x ∷ drop p (y ∷ ys))
    go (under e) r = rw (e, before-rows y x, not_back x y e)
    go (over e f) r = rw (e, before-rows y x, f) (ap (λ (l : List offers.Pair). y ∷ l) r)
    go (equal e f q) r = absurd (h (In.head q))

-- ---- where a pair goes out
in-middle : (x : offers.Pair) (es cs : List offers.Pair) → In x (es ++ (x ∷ cs))
in-middle x [] cs = In.head refl
in-middle x (y ∷ es) cs = In.tail (in-middle x es cs)

not-self : (x : offers.Pair) → before x x ≡ false
not-self x = go (before x x) refl
  where
    go : (t : Bool) → before x x ≡ t → t ≡ false
    go true f = absurd (before-apart x x f refl)
    go false f = refl

pub remove-at : (x : offers.Pair) (es cs : List offers.Pair) → Ascending Before (es ++ (x ∷ cs)) → remove x (es ++ (x ∷ cs)) ≡ es ++ cs
unfolding remove Ascending
remove-at x [] cs a = rw (not-self x)
remove-at x (y ∷ es) cs a =
    let b : Before y x = a.0 x (in-middle x es cs) in
    rw (not_back y x b, b) (ap (λ (r : List offers.Pair). y ∷ r) (remove-at x es cs a.1))

-- ---- whether a pair is lit
pub lit-in : (x : offers.Pair) (L : List offers.Pair) → is_lit (pair_numbers x) (map pair_numbers L) ≡ true → In x L
unfolding is_lit
lit-in x [] e = false-not-true e
lit-in x (y ∷ ys) e = go (compared x y) (lit-in x ys) e
  where
    go : Compared x y → (is_lit (pair_numbers x) (map pair_numbers ys) ≡ true → In x ys) → is_lit (pair_numbers x) (map pair_numbers (y ∷ ys)) ≡ true → In x (y ∷ ys)
    go (under e) r h = false-not-true (rw (before-rows y x, not_back x y e, before-rows x y, e) at h)
    go (over e f) r h = In.tail (r (rw (before-rows y x, f) at h))
    go (equal e f q) r h = In.head q

pub unlit-in : (x : offers.Pair) (L : List offers.Pair) → Ascending Before L → is_lit (pair_numbers x) (map pair_numbers L) ≡ false → In x L → ⊥
unfolding is_lit Ascending
unlit-in x [] a e i = Memᴰ.not-nil i
unlit-in x (y ∷ ys) a e i = go (compared x y) (unlit-in x ys a.1) e (Memᴰ.cases_cons i)
  where
    go : Compared x y → (is_lit (pair_numbers x) (map pair_numbers ys) ≡ false → In x ys → ⊥) → is_lit (pair_numbers x) (map pair_numbers (y ∷ ys)) ≡ false → (x ≡ y) ⊎ In x ys → ⊥
    go (under f) r h (inl q) = before-apart x y f q
    go (under f) r h (inr j) = true-not-false (sym (a.0 x j) ∙ not_back x y f)
    go (over f g) r h (inl q) = before-apart y x g (sym q)
    go (over f g) r h (inr j) = r (rw (before-rows y x, g) at h) j
    go (equal f g q) r h j = true-not-false (rw (before-rows y x, g, before-rows x y, f) at h)

pub lit-at : (x : offers.Pair) (L : List offers.Pair) → is_lit (pair_numbers x) (map pair_numbers L) ≡ true
    → let p = place_of (pair_numbers x) (map pair_numbers L) in L ≡ take p L ++ (x ∷ drop (suc p) L)
unfolding is_lit place_of
lit-at x [] e = false-not-true e
lit-at x (y ∷ ys) e = go (compared x y) (lit-at x ys) e
  where
    go : Compared x y → (is_lit (pair_numbers x) (map pair_numbers ys) ≡ true → let p = place_of (pair_numbers x) (map pair_numbers ys) in ys ≡ take p ys ++ (x ∷ drop (suc p) ys))
        → is_lit (pair_numbers x) (map pair_numbers (y ∷ ys)) ≡ true
        → let p = place_of (pair_numbers x) (map pair_numbers (y ∷ ys)) in y ∷ ys ≡ take p (y ∷ ys) ++ (x ∷ drop (suc p) (y ∷ ys))
    go (under f) r h = false-not-true (rw (before-rows y x, not_back x y f, before-rows x y, f) at h)
    go (over f g) r h = rw (before-rows y x, g) (ap (λ (l : List offers.Pair). y ∷ l) (r (rw (before-rows y x, g) at h)))
    go (equal f g q) r h = rw (before-rows y x, g) (ap (λ (z : offers.Pair). z ∷ ys) (sym q))

-- ---- the tail of the pairs in a state's numbers
whole-tail : (n m v : ℤ) (t q : List ℤ) (p : ℕ) (f : List ℤ → List ℤ) → length t ≡ process_room
    → set (take (pairs_from + p) (n ∷ m ∷ (t ++ q)) ++ f (drop (pairs_from + p) (n ∷ m ∷ (t ++ q)))) 1 v ≡ n ∷ v ∷ (t ++ (take p q ++ f (drop p q)))
whole-tail n m v t q p f l =
    let w : pairs_from ≡ length (n ∷ m ∷ t) = omega arith in
    let e : take (pairs_from + p) (n ∷ m ∷ (t ++ q)) ≡ n ∷ m ∷ (t ++ take p q) = ap (λ (j : ℕ). take (j + p) (n ∷ m ∷ (t ++ q))) w ∙ take-append-add (n ∷ m ∷ t) q p in
    let d : drop (pairs_from + p) (n ∷ m ∷ (t ++ q)) ≡ drop p q = ap (λ (j : ℕ). drop (j + p) (n ∷ m ∷ (t ++ q))) w ∙ drop-append-add (n ∷ m ∷ t) q p in
    ap₂ (λ (r u : List ℤ). set (r ++ f u) 1 v) e d ∙ ap (λ (r : List ℤ). n ∷ v ∷ r) (append_assoc t (take p q) (f (drop p q)))

module _ (channels : ℕ) where
  pairs-wide : (xs : List offers.Pair) → Every (FitsPair channels) xs → length (flatten pair_numbers xs) ≡ length xs * pair_width
  pairs-wide xs h = flatten-length pair_numbers pair_width (FitsPair channels) (pair-wide channels) xs h

  added-table : (es cs : List offers.Pair) (x : offers.Pair) → Every (FitsPair channels) es → FitsPair channels x → Every (FitsPair channels) cs → length es + length cs < 256
      → let t = padded pair_room (flatten pair_numbers (es ++ cs)) in
      take (length es * pair_width) t ++ rewritten 0 (pair_numbers x) (drop (length es * pair_width) t) ≡ padded pair_room (flatten pair_numbers (es ++ (x ∷ cs)))
  unfolding flatten
  added-table es cs x he hx hc m =
      let a : List ℤ = flatten pair_numbers es in
      let c : List ℤ = flatten pair_numbers cs in
      let la : length a ≡ length es * pair_width = pairs-wide es he in
      let lc : length c ≡ length cs * pair_width = pairs-wide cs hc in
      let lx : length (pair_numbers x) ≡ pair_width = pair-wide channels x hx in
      ap (λ (l : List ℤ). take (length es * pair_width) (padded pair_room l) ++ rewritten 0 (pair_numbers x) (drop (length es * pair_width) (padded pair_room l))) (flatten-append pair_numbers es cs)
      ∙ ap (λ (p : ℕ). take p (padded pair_room (a ++ c)) ++ rewritten 0 (pair_numbers x) (drop p (padded pair_room (a ++ c)))) (sym la)
      ∙ table-rewritten pair_room a [] c (pair_numbers x) (omega arith) (omega arith)
      ∙ ap (padded pair_room) (sym (flatten-append pair_numbers es (x ∷ cs)))

  taken-table : (es cs : List offers.Pair) (x : offers.Pair) → Every (FitsPair channels) es → FitsPair channels x → Every (FitsPair channels) cs → length es + (1 + length cs) ≤ 256
      → let t = padded pair_room (flatten pair_numbers (es ++ (x ∷ cs))) in
      take (length es * pair_width) t ++ rewritten pair_width [] (drop (length es * pair_width) t) ≡ padded pair_room (flatten pair_numbers (es ++ cs))
  unfolding flatten
  taken-table es cs x he hx hc m =
      let a : List ℤ = flatten pair_numbers es in
      let b : List ℤ = pair_numbers x in
      let c : List ℤ = flatten pair_numbers cs in
      let la : length a ≡ length es * pair_width = pairs-wide es he in
      let lb : length b ≡ pair_width = pair-wide channels x hx in
      let lc : length c ≡ length cs * pair_width = pairs-wide cs hc in
      ap (λ (l : List ℤ). take (length es * pair_width) (padded pair_room l) ++ rewritten pair_width [] (drop (length es * pair_width) (padded pair_room l))) (flatten-append pair_numbers es (x ∷ cs))
      ∙ ap₂ (λ (p w : ℕ). take p (padded pair_room (a ++ (b ++ c))) ++ rewritten w [] (drop p (padded pair_room (a ++ (b ++ c))))) (sym la) (sym lb)
      ∙ table-rewritten pair_room a b c [] (omega arith) (omega arith)
      ∙ ap (padded pair_room) (sym (flatten-append pair_numbers es cs))

-- ---- the whole
module _ (scopes : List ℕ) (few : FewLocals scopes) (channels : ℕ) (s : State) (fits : Fits scopes channels s) where
  process-table : length (padded process_room (flatten process_numbers s.processes)) ≡ process_room
  process-table = padded-length process_room _ (omega (arith, flatten-length process_numbers process_width (FitsProcess scopes) (process-wide scopes few) s.processes fits.processes, fits.few-processes))

  abbrev with-pairs : List offers.Pair → List ℤ
  with-pairs xs = state_numbers (record { processes = s.processes; pairs = xs })

  -- 01, State, step: one more pair
  pub insert-numbers : (x : offers.Pair) → FitsPair channels x → (In x s.pairs → ⊥) → length s.pairs < 256
      → pair_added (place_of (pair_numbers x) (map pair_numbers s.pairs)) (pair_numbers x) (state_numbers s) ≡ state_numbers (record { processes = s.processes; pairs = insert x s.pairs })
  unfolding state_numbers pair_added
  insert-numbers x hx h room =
      let L : List offers.Pair = s.pairs in
      let p : ℕ = place_of (pair_numbers x) (map pair_numbers L) in
      let es : List offers.Pair = take p L in
      let cs : List offers.Pair = drop p L in
      let t : List ℤ = padded process_room (flatten process_numbers s.processes) in
      let w : L ≡ es ++ cs = sym (take-append-drop p L) in
      let hs : Every (FitsPair channels) (es ++ cs) = rw w at fits.pairs in
      let b : p ≤ length L = omega (arith, place-bound (pair_numbers x) (map pair_numbers L), length-map L pair_numbers) in
      let le : length es ≡ p = length-take-le p L b in
      let lc : length cs ≡ length L - p = length-drop p L in
      let n : length L + 1 ≡ length (insert x L) = omega (arith, (launch-counts x L fits.ascending).1 h) in
      let e : take (p * pair_width) (padded pair_room (flatten pair_numbers L)) ++ rewritten 0 (pair_numbers x) (drop (p * pair_width) (padded pair_room (flatten pair_numbers L))) ≡ padded pair_room (flatten pair_numbers (es ++ (x ∷ cs))) =
      ap₂ (λ (j : ℕ) (xs : List offers.Pair). take (j * pair_width) (padded pair_room (flatten pair_numbers xs)) ++ rewritten 0 (pair_numbers x) (drop (j * pair_width) (padded pair_room (flatten pair_numbers xs)))) (sym le) w
      ∙ added-table channels es cs x (every-left (FitsPair channels) es cs hs) hx (every-right (FitsPair channels) es cs hs) (omega arith) in
      whole-tail (pos (length s.processes)) (pos (length L)) (pos (length L + 1)) t (padded pair_room (flatten pair_numbers L)) (p * pair_width) (rewritten 0 (pair_numbers x)) process-table
      ∙ ap₂ (λ (j : ℕ) (u : List ℤ). pos (length s.processes) ∷ pos j ∷ (t ++ u)) n (e ∙ ap (λ (xs : List offers.Pair). padded pair_room (flatten pair_numbers xs)) (sym (insert-at x L h)))

  -- 01, State, step: the pair at a place taken away
  pub remove-numbers : (place : ℕ) (x : offers.Pair) → s.pairs ≡ take place s.pairs ++ (x ∷ drop (suc place) s.pairs) → place < length s.pairs
      → pair_taken place (state_numbers s) ≡ state_numbers (record { processes = s.processes; pairs = remove x s.pairs })
  unfolding state_numbers pair_taken
  remove-numbers place x w l =
      let L : List offers.Pair = s.pairs in
      let es : List offers.Pair = take place L in
      let cs : List offers.Pair = drop (suc place) L in
      let t : List ℤ = padded process_room (flatten process_numbers s.processes) in
      let hs : Every (FitsPair channels) (es ++ (x ∷ cs)) = rw w at fits.pairs in
      let hr = every-right (FitsPair channels) es (x ∷ cs) hs in
      let a : Ascending Before (es ++ (x ∷ cs)) = rw w at fits.ascending in
      let le : length es ≡ place = length-take-le place L (omega arith) in
      let lc : length cs ≡ length L - suc place = length-drop (suc place) L in
      let r : remove x L ≡ es ++ cs = ap (remove x) w ∙ remove-at x es cs a in
      let n : length L - 1 ≡ length (remove x L) = omega (arith, ap length r, length-append es cs) in
      let e : take (place * pair_width) (padded pair_room (flatten pair_numbers L)) ++ rewritten pair_width [] (drop (place * pair_width) (padded pair_room (flatten pair_numbers L))) ≡ padded pair_room (flatten pair_numbers (es ++ cs)) =
      ap₂ (λ (j : ℕ) (xs : List offers.Pair). take (j * pair_width) (padded pair_room (flatten pair_numbers xs)) ++ rewritten pair_width [] (drop (j * pair_width) (padded pair_room (flatten pair_numbers xs)))) (sym le) w
      ∙ taken-table channels es cs x (every-left (FitsPair channels) es (x ∷ cs) hs) (every_first (FitsPair channels) x cs hr) (every-later (FitsPair channels) x cs hr) (omega (arith, fits.few-pairs)) in
      whole-tail (pos (length s.processes)) (pos (length L)) (pos (length L - 1)) t (padded pair_room (flatten pair_numbers L)) (place * pair_width) (rewritten pair_width []) process-table
      ∙ ap₂ (λ (j : ℕ) (u : List ℤ). pos (length s.processes) ∷ pos j ∷ (t ++ u)) n (e ∙ ap (λ (xs : List offers.Pair). padded pair_room (flatten pair_numbers xs)) (sym r))

  rows_are : pair_rows (state_numbers s) ≡ map pair_numbers s.pairs
  unfolding state_numbers
  rows_are = pair-rows scopes few channels s fits

  -- 01, State, step: launch adds its pair
  pub launch-numbers : (x : offers.Pair) → FitsPair channels x → ((In x s.pairs → ⊥) → length s.pairs < 256)
      → pair_launched (pair_numbers x) (state_numbers s) ≡ state_numbers (record { processes = s.processes; pairs = insert x s.pairs })
  unfolding pair_launched
  launch-numbers x hx room =
      ap (λ (rs : List (List ℤ)). cond (is_lit (pair_numbers x) rs) (state_numbers s) (pair_added (place_of (pair_numbers x) rs) (pair_numbers x) (state_numbers s))) rows_are
      ∙ go (is_lit (pair_numbers x) (map pair_numbers s.pairs)) refl
    where
      go : (t : Bool) → is_lit (pair_numbers x) (map pair_numbers s.pairs) ≡ t
          → cond t (state_numbers s) (pair_added (place_of (pair_numbers x) (map pair_numbers s.pairs)) (pair_numbers x) (state_numbers s)) ≡ state_numbers (record { processes = s.processes; pairs = insert x s.pairs })
      go true e = ap with-pairs (sym (launch-lit x s.pairs fits.ascending (lit-in x s.pairs e)))
      go false e = let h = unlit-in x s.pairs fits.ascending e in insert-numbers x hx h (room h)

  -- 01, State, step: kill takes its pair away if lit
  pub kill-numbers : (x : offers.Pair) → pair_killed (pair_numbers x) (state_numbers s) ≡ state_numbers (record { processes = s.processes; pairs = remove x s.pairs })
  unfolding pair_killed
  kill-numbers x =
      ap (λ (rs : List (List ℤ)). cond (is_lit (pair_numbers x) rs) (pair_taken (place_of (pair_numbers x) rs) (state_numbers s)) (state_numbers s)) rows_are
      ∙ go (is_lit (pair_numbers x) (map pair_numbers s.pairs)) refl
    where
      go : (t : Bool) → is_lit (pair_numbers x) (map pair_numbers s.pairs) ≡ t
          → cond t (pair_taken (place_of (pair_numbers x) (map pair_numbers s.pairs)) (state_numbers s)) (state_numbers s) ≡ state_numbers (record { processes = s.processes; pairs = remove x s.pairs })
      go true e = remove-numbers (place_of (pair_numbers x) (map pair_numbers s.pairs)) x (lit-at x s.pairs e) (omega (arith, lit-place (pair_numbers x) (map pair_numbers s.pairs) e, length-map s.pairs pair_numbers))
      go false e = ap with-pairs (sym (kill-unlit x s.pairs (unlit-in x s.pairs fits.ascending e)))
