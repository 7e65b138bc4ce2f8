-- An event written after others. By induction on the events before it.
use mathlib.Core.Path.{◌≡◌, refl, sym, ap, ◌∙◌}
use mathlib.Core.List.{List, [], ◌∷◌, ◌++◌, append_assoc}
use Prim.Native.Nat.{ℕ, suc, ◌+◌, ◌-◌, ◌*◌, ◌≤◌}
use native.Mathlib.Omega.{arith}
use lib.ListN.{length, get_or, set, take, drop, length-append, length-drop, length-set}
use lib.Seq.{drop-drop, get_or-drop, sets, sets-eq}
use Rattle.rules.specs.Rules.{key}
use Rattle.rules.specs.Listing.{Entry, entry}
use Rattle.machine.specs.Machine.{Event}
use Rattle.listing.specs.Buffer.{entry_in}
use Rattle.machine.specs.Runs.{event_row, event_rows, event_numbers}
use Rattle.running.specs.Progress.{written}

-- a store past an event
set-row : (t : ℕ) (e : Entry) (rest : List ℕ) (k v : ℕ) → set (event_row t e rest) (8 + k) v ≡ event_row t e (set rest k v)
unfolding event_row
set-row t (entry (key c i j k m q) w) rest l v =
    let e : 8 + l ≡ suc (suc (suc (suc (suc (suc (suc (suc l))))))) = omega arith in
    ap (λ (n : ℕ). set (t ∷ c ∷ i ∷ j ∷ k ∷ m ∷ q ∷ w ∷ rest) n v) e

set-rows : (es : List Event) (rest : List ℕ) (k v : ℕ) → set (event_rows es rest) (length es * 8 + k) v ≡ event_rows es (set rest k v)
unfolding event_rows
set-rows [] rest k v = let e : 0 * 8 + k ≡ k = omega arith in ap (λ (i : ℕ). set rest i v) e
set-rows (x ∷ es) rest k v =
    let e : suc (length es) * 8 + k ≡ 8 + (length es * 8 + k) = omega arith in
    ap (λ (i : ℕ). set (event_row x.ticks x.entry (event_rows es rest)) i v) e
    ∙ set-row x.ticks x.entry (event_rows es rest) (length es * 8 + k) v
    ∙ ap (event_row x.ticks x.entry) (set-rows es rest k v)

eight : (s : List ℕ) (t a b c d e f g : ℕ) → 8 ≤ length s → set (set (set (set (set (set (set (set s 0 t) 1 a) 2 b) 3 c) 4 d) 5 e) 6 f) 7 g ≡ t ∷ a ∷ b ∷ c ∷ d ∷ e ∷ f ∷ g ∷ drop 8 s
eight [] t a b c d e f g l = absurd (omega arith)
eight (x₀ ∷ []) t a b c d e f g l = absurd (omega arith)
eight (x₀ ∷ x₁ ∷ []) t a b c d e f g l = absurd (omega arith)
eight (x₀ ∷ x₁ ∷ x₂ ∷ []) t a b c d e f g l = absurd (omega arith)
eight (x₀ ∷ x₁ ∷ x₂ ∷ x₃ ∷ []) t a b c d e f g l = absurd (omega arith)
eight (x₀ ∷ x₁ ∷ x₂ ∷ x₃ ∷ x₄ ∷ []) t a b c d e f g l = absurd (omega arith)
eight (x₀ ∷ x₁ ∷ x₂ ∷ x₃ ∷ x₄ ∷ x₅ ∷ []) t a b c d e f g l = absurd (omega arith)
eight (x₀ ∷ x₁ ∷ x₂ ∷ x₃ ∷ x₄ ∷ x₅ ∷ x₆ ∷ []) t a b c d e f g l = absurd (omega arith)
eight (x₀ ∷ x₁ ∷ x₂ ∷ x₃ ∷ x₄ ∷ x₅ ∷ x₆ ∷ x₇ ∷ s) t a b c d e f g l = refl

rows_more : (es : List Event) (x : Event) (rest : List ℕ) → event_rows (es ++ (x ∷ [])) rest ≡ event_rows es (event_row x.ticks x.entry rest)
unfolding event_rows
rows_more [] x rest = refl
rows_more (y ∷ es) x rest = ap (event_row y.ticks y.entry) (rows_more es x rest)

rows_written : (es : List Event) (rest : List ℕ) (t : ℕ) (e : Entry) → 8 ≤ length rest → written (event_rows es rest) (length es) t e ≡ event_rows es (event_row t e (drop 8 rest))
unfolding written event_row
rows_written es rest t (entry (key c i j k m q) w) l =
    let z : length es * 8 ≡ length es * 8 + 0 = omega arith in
    ap (λ (n : ℕ). set (set (set (set (set (set (set (set (event_rows es rest) n t) (length es * 8 + 1) c) (length es * 8 + 2) i) (length es * 8 + 3) j) (length es * 8 + 4) k) (length es * 8 + 5) m) (length es * 8 + 6) q) (length es * 8 + 7) w) z
    ∙ simp (set-rows) (ap (event_rows es) (eight rest t c i j k m q w l))

-- the next event, where the buffer has room for it
pub event-written : (es : List Event) (z : List ℕ) (x : Event) → length es * 8 + 8 ≤ length z → written (event_numbers es z) (length es) x.ticks x.entry ≡ event_numbers (es ++ (x ∷ [])) z
unfolding event_numbers
event-written es z x l =
    let i : length es * 8 + 8 ≡ length (es ++ (x ∷ [])) * 8 = omega (arith, length-append es (x ∷ [])) in
    rows_written es (drop (length es * 8) z) x.ticks x.entry (omega (arith, length-drop (length es * 8) z))
    ∙ ap (λ (y : List ℕ). event_rows es (event_row x.ticks x.entry y)) (drop-drop 8 (length es * 8) z ∙ ap (λ (n : ℕ). drop n z) i)
    ∙ sym (rows_more es x (drop (length (es ++ (x ∷ [])) * 8) z))

-- before the first
pub none_written : (z : List ℕ) → z ≡ event_numbers [] z
unfolding event_numbers event_rows
none_written z = refl

row-length : (t : ℕ) (e : Entry) (rest : List ℕ) → length (event_row t e rest) ≡ 8 + length rest
unfolding event_row
row-length t (entry (key c i j k m q) w) rest = omega arith

rows-length : (es : List Event) (rest : List ℕ) → length (event_rows es rest) ≡ length es * 8 + length rest
unfolding event_rows
rows-length [] rest = omega arith
rows-length (x ∷ es) rest = omega (arith, row-length x.ticks x.entry (event_rows es rest), rows-length es rest)

-- how long the buffer is
pub numbers-length : (es : List Event) (z : List ℕ) → length (event_numbers es z) ≡ length es * 8 + (length z - length es * 8)
unfolding event_numbers
numbers-length es z = omega (arith, rows-length es (drop (length es * 8) z), length-drop (length es * 8) z)

-- ---- an event as it is written: its ticks, then the seven numbers of an entry as they stand in a listing

seven : (s : List ℕ) → 7 ≤ length s → take 7 s ≡ get_or s 0 0 ∷ get_or s 1 0 ∷ get_or s 2 0 ∷ get_or s 3 0 ∷ get_or s 4 0 ∷ get_or s 5 0 ∷ get_or s 6 0 ∷ []
seven [] l = absurd (omega arith)
seven (x₀ ∷ []) l = absurd (omega arith)
seven (x₀ ∷ x₁ ∷ []) l = absurd (omega arith)
seven (x₀ ∷ x₁ ∷ x₂ ∷ []) l = absurd (omega arith)
seven (x₀ ∷ x₁ ∷ x₂ ∷ x₃ ∷ []) l = absurd (omega arith)
seven (x₀ ∷ x₁ ∷ x₂ ∷ x₃ ∷ x₄ ∷ []) l = absurd (omega arith)
seven (x₀ ∷ x₁ ∷ x₂ ∷ x₃ ∷ x₄ ∷ x₅ ∷ []) l = absurd (omega arith)
seven (x₀ ∷ x₁ ∷ x₂ ∷ x₃ ∷ x₄ ∷ x₅ ∷ x₆ ∷ s) l = refl

-- the numbers from place k on
numbers-at : (l : List ℕ) (k : ℕ) → k + 7 ≤ length l → take 7 (drop k l) ≡ get_or l k 0 ∷ get_or l (k + 1) 0 ∷ get_or l (k + 2) 0 ∷ get_or l (k + 3) 0 ∷ get_or l (k + 4) 0 ∷ get_or l (k + 5) 0 ∷ get_or l (k + 6) 0 ∷ []
numbers-at l k f =
    let z : k + 0 ≡ k = omega arith in
    seven (drop k l) (omega (arith, length-drop k l))
    ∙ simp (get_or-drop) (ap (λ (i : ℕ). get_or l i 0 ∷ get_or l (k + 1) 0 ∷ get_or l (k + 2) 0 ∷ get_or l (k + 3) 0 ∷ get_or l (k + 4) 0 ∷ get_or l (k + 5) 0 ∷ get_or l (k + 6) 0 ∷ []) z)

same : (a : ℕ) (s : List ℕ) (b c d e f g h : ℕ) → sets s (a + 1) (b ∷ c ∷ d ∷ e ∷ f ∷ g ∷ h ∷ []) ≡ set (set (set (set (set (set (set s (a + 1) b) (a + 2) c) (a + 3) d) (a + 4) e) (a + 5) f) (a + 6) g) (a + 7) h
same a s b c d e f g h =
    let i : suc (a + 1) ≡ a + 2 = omega arith in
    let j : suc (a + 2) ≡ a + 3 = omega arith in
    let k : suc (a + 3) ≡ a + 4 = omega arith in
    let l : suc (a + 4) ≡ a + 5 = omega arith in
    let m : suc (a + 5) ≡ a + 6 = omega arith in
    let n : suc (a + 6) ≡ a + 7 = omega arith in
    rw (i, j, k, l, m, n) refl

pub copied-event : (es l : List ℕ) (n t c : ℕ) → n * 8 + 8 ≤ length es → c * 7 + 7 ≤ length l
    → take (n * 8 + 1) (set es (n * 8) t) ++ (take 7 (drop (c * 7) l) ++ drop 7 (drop (n * 8 + 1) (set es (n * 8) t))) ≡ written es n t (entry_in l c)
unfolding written entry_in
copied-event es l n t c f g =
    let k = c * 7 in
    let vs = get_or l k 0 ∷ get_or l (k + 1) 0 ∷ get_or l (k + 2) 0 ∷ get_or l (k + 3) 0 ∷ get_or l (k + 4) 0 ∷ get_or l (k + 5) 0 ∷ get_or l (k + 6) 0 ∷ [] in
    let zs = set es (n * 8) t in
    ap (λ (x : List ℕ). take (n * 8 + 1) zs ++ (x ++ drop 7 (drop (n * 8 + 1) zs))) (numbers-at l k g)
    ∙ ap (λ (x : List ℕ). take (n * 8 + 1) zs ++ (vs ++ x)) (drop-drop 7 (n * 8 + 1) zs)
    ∙ sym (append_assoc (take (n * 8 + 1) zs) vs (drop (n * 8 + 1 + 7) zs))
    ∙ sym (sets-eq vs (set es (n * 8) t) (n * 8 + 1) (omega (arith, length-set es (n * 8) t)))
    ∙ same (n * 8) (set es (n * 8) t) (get_or l k 0) (get_or l (k + 1) 0) (get_or l (k + 2) 0) (get_or l (k + 3) 0) (get_or l (k + 4) 0) (get_or l (k + 5) 0) (get_or l (k + 6) 0)
