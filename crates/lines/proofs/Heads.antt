-- A line's first five bytes by their number: the number tells the bytes; and what the whole line says, from the number and the rest.
use Rattle.std.proofs.Common.{◌≡◌, ℕ, zero, suc, ◌+◌, ◌-◌, ◌*◌, ◌/◌, ◌%◌, ◌<◌, ◌≤◌, min, Bool, true, false, cond, ◌&&◌, eqb, ltb, leb, List, [], ◌∷◌, ◌++◌, length, take, drop, sym, refl, ap, ◌∙◌, ap₂, arith, length-append, length-take, take-take, ltb-false, ltb-true, le-ltb, lt-ltb, eq-eqb, ne_eqb, eqb-true, le-leb, leb-false, leb-true, Some, None, MatchOption}
use Rattle.std.specs.Prelude.{Option, ◌⊎◌}
use mathlib.Core.Logic.{inl, inr}
use Rattle.std.specs.Bool.{then_some}
use Rattle.std.specs.Option.{IsSomeAnd}
use borrow.Author.Tests.{eqb-false, lt-leb}
use Rattle.word.specs.Number.{worth}
use Rattle.token.specs.Bytes.{is_digit, within}
use Rattle.token.specs.Token.{same_bytes}
use Rattle.token.proofs.Words.{same-is}
use Rattle.lines.specs.declared.line.Line.{Line}
use Rattle.lines.specs.declared.line.Line.TheVariants.{Open, Steady, List as Listing, Step, State, Report, Save, Return, Forget, Time, Clock, Search, Word, Run, Begin, Carry}
use Rattle.lines.specs.declared.line.Rest.{Rest}
use Rattle.lines.specs.declared.line.Rest.TheVariants.{Nothing, Number, T, Other}
use Rattle.lines.specs.declared.line.Reading.{Reading}
use Rattle.lines.specs.Line.{list_bytes, state_bytes, report_bytes, open_bytes, steady_bytes, step_bytes, save_bytes, return_bytes, forget_bytes, time_bytes, wait_bytes, clock_bytes, independent_bytes, seek_bytes, word_bytes, run_bytes, begin_bytes, carry_bytes, small, kept_limit, kept, digits_only, is_number, always, given, sought, line_of, rest_of, rest_next, packed, head_of, after_of, further_of, one_byte, two_bytes, three_bytes, return_end, forget_end, four_bytes, run_head, bytes_next, mid_next, late_next, early_next, kept_next, ended, steadied, sought_by, begun_by, carried_by, ran_by, number_in, numbered, bare, lettered, Bytes, Reads}
use Rattle.lines.specs.declared.two.Two.{Two}
use Rattle.lines.specs.Two.{begun, run, two_next, paired}
use Rattle.lines.proofs.Rests.{rest-on}
use Rattle.lines.proofs.Twos.{run_on, two_then, no_word}

-- the least number of five bytes, 2 ^ 40
abbrev full : ℕ
full = 1099511627776

-- the numbers of the words
abbrev list_head : ℕ
list_head = 6113817460

abbrev state_head : ℕ
state_head = 1595385410661

abbrev report_head : ℕ
report_head = 1590839766898

abbrev open_head : ℕ
open_head = 1578138693152

abbrev step_head : ℕ
step_head = 1595385671712

abbrev save_head : ℕ
save_head = 1595068015904

abbrev return_head : ℕ
return_head = 1590840030578

abbrev forget_head : ℕ
forget_head = 1539468060517

-- and of `indep`
abbrev indep_head : ℕ
indep_head = 1552335267184

abbrev time_head : ℕ
time_head = 1599496611104

abbrev wait_head : ℕ
wait_head = 1612247036960

abbrev clock_head : ℕ
clock_head = 1526532629355

abbrev steady_head : ℕ
steady_head = 1595385667940

abbrev seek_head : ℕ
seek_head = 1595134012192

abbrev word_head : ℕ
word_head = 1612482503712

abbrev begin_head : ℕ
begin_head = 1522119698798

abbrev carry_head : ℕ
carry_head = 1526348280441

-- ---- fewer than five bytes, or five and more
data Size : List ℕ → Type 0 where
  none : Size []
  one : {a : ℕ} → Size (a ∷ [])
  two : {a b : ℕ} → Size (a ∷ b ∷ [])
  three : {a b c : ℕ} → Size (a ∷ b ∷ c ∷ [])
  four : {a b c d : ℕ} → Size (a ∷ b ∷ c ∷ d ∷ [])
  five : {a b c d e : ℕ} {s : List ℕ} → Size (a ∷ b ∷ c ∷ d ∷ e ∷ s)

size : (s : List ℕ) → Size s
size [] = none
size (a ∷ []) = one
size (a ∷ b ∷ []) = two
size (a ∷ b ∷ c ∷ []) = three
size (a ∷ b ∷ c ∷ d ∷ []) = four
size (a ∷ b ∷ c ∷ d ∷ e ∷ s) = five

-- ---- one more byte
bytes_on : (s : List ℕ) (b : ℕ) → Bytes s → b < 256 → Bytes (s ++ (b ∷ []))
bytes_on [] b h k = (k, tt)
bytes_on (a ∷ s) b h k = (h.0, bytes_on s b h.1 k)

-- what stands after the first four bytes, with one more
early-on : {s : List ℕ} (b : ℕ) → Size s → Bytes s → early_next (head_of s) (rest_of (drop 4 s)) b ≡ rest_of (drop 4 (s ++ (b ∷ [])))
unfolding head_of packed early_next
early-on b none h = refl
early-on b (one {a}) h = rw (lt-ltb (256 + a) four_bytes (omega (arith, h.0)))
early-on b (two {a} {b = x}) h = rw (lt-ltb ((256 + a) * 256 + x) four_bytes (omega (arith, h.0, h.1.0)))
early-on b (three {a} {b = x} {c}) h = rw (lt-ltb (((256 + a) * 256 + x) * 256 + c) four_bytes (omega (arith, h.0, h.1.0, h.1.1.0)))
early-on b (four {a} {b = x} {c} {d}) h = rw (le-ltb ((((256 + a) * 256 + x) * 256 + c) * 256 + d) four_bytes (omega arith)) (sym (rest-on [] b))
early-on b (five {a} {b = x} {c} {d} {e} {s}) h = rw (le-ltb (((((256 + a) * 256 + x) * 256 + c) * 256 + d) * 256 + e) four_bytes (omega arith)) (sym (rest-on (e ∷ s) b))

record Short (s : List ℕ) (b : ℕ) : Type 0 where
  head : head_of (s ++ (b ∷ [])) ≡ head_of s * 256 + b
  rest : drop 5 (s ++ (b ∷ [])) ≡ drop 5 s
  mid : drop 6 (s ++ (b ∷ [])) ≡ drop 6 s
  late : drop 7 (s ++ (b ∷ [])) ≡ drop 7 s

short : {s : List ℕ} (b : ℕ) → Size s → head_of s < full → Short s b
unfolding head_of packed
short b none l = record { head = refl; rest = refl; mid = refl; late = refl }
short b one l = record { head = refl; rest = refl; mid = refl; late = refl }
short b two l = record { head = refl; rest = refl; mid = refl; late = refl }
short b three l = record { head = refl; rest = refl; mid = refl; late = refl }
short b four l = record { head = refl; rest = refl; mid = refl; late = refl }
short b five l = absurd (omega arith)

record Long (s : List ℕ) (b : ℕ) : Type 0 where
  head : head_of (s ++ (b ∷ [])) ≡ head_of s
  rest : drop 5 (s ++ (b ∷ [])) ≡ drop 5 s ++ (b ∷ [])
  mid : drop 6 s ≡ drop 1 (drop 5 s)
  mid-on : drop 6 (s ++ (b ∷ [])) ≡ drop 1 (drop 5 s ++ (b ∷ []))
  late : drop 7 s ≡ drop 2 (drop 5 s)
  late-on : drop 7 (s ++ (b ∷ [])) ≡ drop 2 (drop 5 s ++ (b ∷ []))

long : {s : List ℕ} (b : ℕ) → Size s → Bytes s → full ≤ head_of s → Long s b
unfolding head_of packed
long b none h l = absurd (omega arith)
long b one h l = absurd (omega arith)
long b two h l = absurd (omega arith)
long b three h l = absurd (omega arith)
long b four h l = absurd (omega arith)
long b five h l = record { head = refl; rest = refl; mid = refl; mid-on = refl; late = refl; late-on = refl }

-- the two bytes after the first five, with one more
bytes_drop : (n : ℕ) (s : List ℕ) → Bytes s → Bytes (drop n s)
bytes_drop zero s h = h
bytes_drop (suc n) [] h = tt
bytes_drop (suc n) (b ∷ s) h = bytes_drop n s h.1

after_on : (u : List ℕ) (b : ℕ) → Bytes u → bytes_next two_bytes (packed 1 (take 2 u)) b ≡ packed 1 (take 2 (u ++ (b ∷ [])))
unfolding packed bytes_next
after_on [] b h = refl
after_on (x ∷ []) b h = rw (lt-ltb (256 + x) two_bytes (omega (arith, h.0)))
after_on (x ∷ y ∷ u) b h = rw (le-ltb ((256 + x) * 256 + y) two_bytes (omega arith))

-- the three
further_on : (u : List ℕ) (b : ℕ) → Bytes u → bytes_next three_bytes (packed 1 (take 3 u)) b ≡ packed 1 (take 3 (u ++ (b ∷ [])))
unfolding packed bytes_next
further_on [] b h = refl
further_on (x ∷ []) b h = rw (lt-ltb (256 + x) three_bytes (omega (arith, h.0)))
further_on (x ∷ y ∷ []) b h = rw (lt-ltb ((256 + x) * 256 + y) three_bytes (omega (arith, h.0, h.1.0)))
further_on (x ∷ y ∷ z ∷ u) b h = rw (le-ltb (((256 + x) * 256 + y) * 256 + z) three_bytes (omega arith))

-- what stands after the first of them, with one more
mid-after : (u : List ℕ) (b : ℕ) → Bytes u → mid_next (packed 1 (take 2 u)) (rest_of (drop 1 u)) b ≡ rest_of (drop 1 (u ++ (b ∷ [])))
unfolding packed mid_next
mid-after [] b h = refl
mid-after (x ∷ []) b h = rw (le-ltb (256 + x) one_byte (omega arith)) (sym (rest-on [] b))
mid-after (x ∷ y ∷ u) b h = rw (le-ltb ((256 + x) * 256 + y) one_byte (omega arith)) (sym (rest-on (y ∷ u) b))

-- what stands after these, with one more
late-after : (u : List ℕ) (b : ℕ) → Bytes u → late_next (packed 1 (take 2 u)) (rest_of (drop 2 u)) b ≡ rest_of (drop 2 (u ++ (b ∷ [])))
unfolding packed late_next
late-after [] b h = refl
late-after (x ∷ []) b h = rw (lt-ltb (256 + x) two_bytes (omega (arith, h.0)))
late-after (x ∷ y ∷ u) b h = rw (le-ltb ((256 + x) * 256 + y) two_bytes (omega arith)) (sym (rest-on u b))

kept_on : (s : List ℕ) (b : ℕ) → kept_next (kept s) ≡ kept (s ++ (b ∷ []))
unfolding kept kept_next
kept_on s b = by (ltb (min kept_limit (length s)) kept_limit) refl
  where
    by : (t : Bool) → ltb (min kept_limit (length s)) kept_limit ≡ t → cond t (min kept_limit (length s) + 1) (min kept_limit (length s)) ≡ min kept_limit (length (s ++ (b ∷ [])))
    by true e = omega (arith, ltb-true (min kept_limit (length s)) kept_limit e, length-append s (b ∷ []))
    by false e = omega (arith, ltb-false (min kept_limit (length s)) kept_limit e, length-append s (b ∷ []))

pub short_on : {s : List ℕ} {r : Reading} (b : ℕ) (y : Rest) (k' : ℕ) → Reads s r → b < 256 → r.head < full → y ≡ early_next r.head r.early b → k' ≡ kept_next r.kept → Reads (s ++ (b ∷ [])) (record { head = r.head * 256 + b; early = y; rest = r.rest; after = r.after; mid = r.mid; late = r.late; further = r.further; kept = k'; two = r.two })
unfolding after_of further_of
short_on {s} {r} b y k' h k l i n =
    let e = short b (size s) (rw (← h.head) l) in
    record {
      bytes = bytes_on s b h.bytes k;
      head = ap (λ (x : ℕ). x * 256 + b) h.head ∙ sym e.head;
      early = i ∙ ap₂ (λ (x : ℕ) (z : Rest). early_next x z b) h.head h.early ∙ early-on b (size s) h.bytes;
      rest = h.rest ∙ ap rest_of (sym e.rest);
      after = h.after ∙ ap (λ (u : List ℕ). packed 1 (take 2 u)) (sym e.rest);
      mid = h.mid ∙ ap rest_of (sym e.mid);
      late = h.late ∙ ap rest_of (sym e.late);
      further = h.further ∙ ap (λ (u : List ℕ). packed 1 (take 3 u)) (sym e.rest);
      kept = n ∙ ap kept_next h.kept ∙ kept_on s b;
      two = h.two ∙ ap (run begun) (sym e.rest);
    }

pub long-on : {s : List ℕ} {r : Reading} (b : ℕ) (y t : Rest) (a : ℕ) (v q : Rest) (f k' : ℕ) (u : Two) → Reads s r → b < 256 → full ≤ r.head → y ≡ early_next r.head r.early b → t ≡ rest_next r.rest b → a ≡ bytes_next two_bytes r.after b → v ≡ mid_next r.after r.mid b
    → q ≡ late_next r.after r.late b → f ≡ bytes_next three_bytes r.further b → k' ≡ kept_next r.kept → u ≡ two_next r.two b → Reads (s ++ (b ∷ [])) (record { head = r.head; early = y; rest = t; after = a; mid = v; late = q; further = f; kept = k'; two = u })
unfolding after_of further_of
long-on {s} {r} b y t a v q f k' u h k l i n m c p d j w =
    let e = long b (size s) h.bytes (rw (← h.head) l) in
    record {
      bytes = bytes_on s b h.bytes k;
      head = h.head ∙ sym e.head;
      early = i ∙ ap₂ (λ (x : ℕ) (z : Rest). early_next x z b) h.head h.early ∙ early-on b (size s) h.bytes;
      rest = n ∙ ap (λ (x : Rest). rest_next x b) h.rest ∙ sym (rest-on (drop 5 s) b) ∙ ap rest_of (sym e.rest);
      after = m ∙ ap (λ (x : ℕ). bytes_next two_bytes x b) h.after ∙ after_on (drop 5 s) b (bytes_drop 5 s h.bytes) ∙ ap (λ (u : List ℕ). packed 1 (take 2 u)) (sym e.rest);
      mid =
          c ∙ ap₂ (λ (x : ℕ) (y : Rest). mid_next x y b) h.after (h.mid ∙ ap rest_of e.mid) ∙ mid-after (drop 5 s) b (bytes_drop 5 s h.bytes) ∙ ap rest_of (sym e.mid-on);
      late =
          p ∙ ap₂ (λ (x : ℕ) (y : Rest). late_next x y b) h.after (h.late ∙ ap rest_of e.late) ∙ late-after (drop 5 s) b (bytes_drop 5 s h.bytes) ∙ ap rest_of (sym e.late-on);
      further = d ∙ ap (λ (x : ℕ). bytes_next three_bytes x b) h.further ∙ further_on (drop 5 s) b (bytes_drop 5 s h.bytes) ∙ ap (λ (u : List ℕ). packed 1 (take 3 u)) (sym e.rest);
      kept = j ∙ ap kept_next h.kept ∙ kept_on s b;
      two = w ∙ ap (λ (x : Two). two_next x b) h.two ∙ sym (run_on begun (drop 5 s) b) ∙ ap (run begun) (sym e.rest);
    }

-- ---- no byte at all
none-by : {s : List ℕ} → Size s → head_of s ≡ 1 → s ≡ []
unfolding head_of packed
none-by none e = refl
none-by one e = absurd (omega arith)
none-by two e = absurd (omega arith)
none-by three e = absurd (omega arith)
none-by four e = absurd (omega arith)
none-by five e = absurd (omega arith)

pub none_read : {s : List ℕ} {r : Reading} → Reads s r → r.head ≡ 1 → s ≡ []
none_read {s} h e = none-by (size s) (sym h.head ∙ e)

pub some_read : {s : List ℕ} {r : Reading} → Reads s r → (r.head ≡ 1 → ⊥) → 0 < length s
unfolding head_of packed
some_read {s} {r} h n = by s h
  where
    by : (s : List ℕ) → Reads s r → 0 < length s
    by [] h = absurd (n h.head)
    by (b ∷ s) h = omega arith

-- ---- equal numbers, equal bytes
apart : (x y a b : ℕ) → a < 256 → b < 256 → x * 256 + a ≡ y * 256 + b → (x ≡ y) × (a ≡ b)
apart x y a b h k e = (omega arith, omega arith)

record Same (h k : ℕ) (s t : List ℕ) : Type 0 where
  before : h ≡ k
  bytes : s ≡ t

same-packed : (h k : ℕ) (s t : List ℕ) → length s ≡ length t → Bytes s → Bytes t → packed h s ≡ packed k t → Same h k s t
unfolding packed
same-packed h k [] [] l p q e = record { before = e; bytes = refl }
same-packed h k [] (b ∷ t) l p q e = absurd (omega arith)
same-packed h k (a ∷ s) [] l p q e = absurd (omega arith)
same-packed h k (a ∷ s) (b ∷ t) l p q e =
    let m : length s ≡ length t = omega arith in
    let r = same-packed (h * 256 + a) (k * 256 + b) s t m p.1 q.1 e in
    let x = apart h k a b p.0 q.0 r.before in
    record { before = x.0; bytes = ap₂ (λ (y : ℕ) (u : List ℕ). y ∷ u) x.1 r.bytes }

-- ---- the words
-- `list`, of which nothing stands after the first five bytes
list-is : {s : List ℕ} → Size s → Bytes s → head_of s ≡ list_head → s ≡ list_bytes
unfolding head_of packed
list-is none h e = absurd (omega arith)
list-is one h e = absurd (omega arith)
list-is two h e = absurd (omega arith)
list-is three h e = absurd (omega arith)
list-is (four {a} {b} {c} {d}) h e = (same-packed 1 1 (a ∷ b ∷ c ∷ d ∷ []) list_bytes refl h (omega arith, (omega arith, (omega arith, (omega arith, tt)))) e).bytes
list-is five h e = absurd (omega arith)

-- a word of five bytes, and what stands after it
word-is : {s : List ℕ} (w : ℕ) (t : List ℕ) → Size s → Bytes s → Bytes t → length t ≡ 5 → full ≤ w → packed 1 t ≡ w → head_of s ≡ w → s ≡ t ++ drop 5 s
unfolding head_of packed
word-is w t none h k l m n e = absurd (omega arith)
word-is w t one h k l m n e = absurd (omega arith)
word-is w t two h k l m n e = absurd (omega arith)
word-is w t three h k l m n e = absurd (omega arith)
word-is w t four h k l m n e = absurd (omega arith)
word-is w t (five {a} {b} {c} {d} {e = x} {s = u}) h k l m n e =
    ap (λ (v : List ℕ). v ++ u) (same-packed 1 1 (a ∷ b ∷ c ∷ d ∷ x ∷ []) t (sym l) (h.0, (h.1.0, (h.1.1.0, (h.1.1.1.0, (h.1.1.1.1.0, tt))))) k (e ∙ sym n)).bytes

-- ---- what the line says
by-none : (says : Line) (t u : Bool) (n : ℕ) → bare says (cond t (Number n) (cond u T Other)) ≡ None
by-none says true u n = refl
by-none says false true n = refl
by-none says false false n = refl

by_number : (says : ℕ → Option Line) (t u : Bool) (n : ℕ) → numbered says (cond t (Number n) (cond u T Other)) ≡ cond t (says n) None
by_number says true u n = refl
by_number says false true n = refl
by_number says false false n = refl

by-letter : (t : Bool) (n : ℕ) → lettered Report (cond t (Number n) Other) ≡ None
by-letter true n = refl
by-letter false n = refl

state-then : (u : List ℕ) → bare State (rest_of u) ≡ line_of (state_bytes ++ u)
unfolding line_of same_bytes rest_of
state-then [] = refl
state-then (b ∷ u) = by-none State (is_number (b ∷ u)) (eqb b 116 && same_bytes u []) (worth 0 (b ∷ u))

-- the first five bytes of `report`, and the last
abbrev repor : List ℕ
repor = take 5 report_bytes

last_then : (u : List ℕ) (t : Bool) → same_bytes u (116 ∷ []) ≡ t → lettered Report (rest_of u) ≡ cond t (Some Report) None
unfolding rest_of is_number digits_only is_digit within same_bytes
last_then u true e = ap (λ (v : List ℕ). lettered Report (rest_of v)) (same-is u (116 ∷ []) e)
last_then [] false e = refl
last_then (b ∷ u) false e = rw e (by-letter (is_number (b ∷ u)) (worth 0 (b ∷ u)))

report-then : (u : List ℕ) → lettered Report (rest_of u) ≡ line_of (repor ++ u)
unfolding line_of same_bytes
report-then u = last_then u (same_bytes u (116 ∷ [])) refl

open-then : (u : List ℕ) → numbered (always Open) (rest_of u) ≡ line_of (open_bytes ++ u)
unfolding line_of same_bytes rest_of given is_number
open-then [] = refl
open-then (b ∷ u) = by_number (always Open) (is_number (b ∷ u)) (eqb b 116 && same_bytes u []) (worth 0 (b ∷ u))

step_then : (u : List ℕ) → numbered (always Step) (rest_of u) ≡ line_of (step_bytes ++ u)
unfolding line_of same_bytes rest_of given is_number
step_then [] = refl
step_then (b ∷ u) = by_number (always Step) (is_number (b ∷ u)) (eqb b 116 && same_bytes u []) (worth 0 (b ∷ u))

time-then : (u : List ℕ) → numbered (always Time) (rest_of u) ≡ line_of (time_bytes ++ u)
unfolding line_of same_bytes rest_of given is_number
time-then [] = refl
time-then (b ∷ u) = by_number (always Time) (is_number (b ∷ u)) (eqb b 116 && same_bytes u []) (worth 0 (b ∷ u))

wait-then : (u : List ℕ) → numbered small (rest_of u) ≡ line_of (wait_bytes ++ u)
unfolding line_of same_bytes rest_of given is_number
wait-then [] = refl
wait-then (b ∷ u) = by_number small (is_number (b ∷ u)) (eqb b 116 && same_bytes u []) (worth 0 (b ∷ u))

clock-then : (u : List ℕ) → bare Clock (rest_of u) ≡ line_of (clock_bytes ++ u)
unfolding line_of same_bytes rest_of
clock-then [] = refl
clock-then (b ∷ u) = by-none Clock (is_number (b ∷ u)) (eqb b 116 && same_bytes u []) (worth 0 (b ∷ u))

save-then : (u : List ℕ) → Some (Save (kept (save_bytes ++ u))) ≡ line_of (save_bytes ++ u)
unfolding line_of same_bytes
save-then u = refl

-- two bytes by their number
pair_is : (x y : ℕ) (u : List ℕ) → Bytes u → x < 256 → y < 256 → eqb (packed 1 (take 2 u)) ((256 + x) * 256 + y) ≡ same_bytes (take 2 u) (x ∷ y ∷ [])
unfolding packed same_bytes
pair_is x y [] h k l = ne_eqb 1 ((256 + x) * 256 + y) (λ (q : 1 ≡ (256 + x) * 256 + y). omega arith)
pair_is x y (a ∷ []) h k l = ne_eqb (256 + a) ((256 + x) * 256 + y) (λ (q : 256 + a ≡ (256 + x) * 256 + y). omega (arith, h.0)) ∙ sym (and_none (eqb a x))
  where
    and_none : (t : Bool) → (t && false) ≡ false
    and_none true = refl
    and_none false = refl
pair_is x y (a ∷ b ∷ u) h k l = by (eqb a x) (eqb b y) refl refl
  where
    by : (s t : Bool) → eqb a x ≡ s → eqb b y ≡ t → eqb ((256 + a) * 256 + b) ((256 + x) * 256 + y) ≡ (eqb a x && (eqb b y && true))
    by true true e f = let u = eqb-true a x e in let v = eqb-true b y f in eq-eqb ((256 + a) * 256 + b) ((256 + x) * 256 + y) (omega arith) ∙ sym (rw (e, f))
    by true false e f = ne_eqb ((256 + a) * 256 + b) ((256 + x) * 256 + y) (λ (q : (256 + a) * 256 + b ≡ (256 + x) * 256 + y). eqb-false b y f (omega (arith, h.0, h.1.0))) ∙ sym (rw (e, f))
    by false t e f = ne_eqb ((256 + a) * 256 + b) ((256 + x) * 256 + y) (λ (q : (256 + a) * 256 + b ≡ (256 + x) * 256 + y). eqb-false a x e (omega (arith, h.0, h.1.0))) ∙ sym (rw e)

-- the first five bytes of `return ` and `forget `
abbrev retur : List ℕ
retur = take 5 return_bytes

abbrev forge : List ℕ
forge = take 5 forget_bytes

return-then : (u : List ℕ) → Bytes u → ended Return return_end (packed 1 (take 2 u)) (kept (retur ++ u)) ≡ line_of (retur ++ u)
unfolding line_of same_bytes ended
return-then u h = ap (λ (t : Bool). cond t (Some (Return (kept (retur ++ u)))) None) (pair_is 110 32 u h (omega arith) (omega arith))

forget-then : (u : List ℕ) → Bytes u → ended Forget forget_end (packed 1 (take 2 u)) (kept (forge ++ u)) ≡ line_of (forge ++ u)
unfolding line_of same_bytes ended
forget-then u h = ap (λ (t : Bool). cond t (Some (Forget (kept (forge ++ u)))) None) (pair_is 116 32 u h (omega arith) (omega arith))

-- the first five bytes of `steady `
abbrev stead : List ℕ
stead = take 5 steady_bytes

number_then : (says : ℕ → Line) (u : List ℕ) → numbered (always says) (rest_of u) ≡ given (always says) u
unfolding rest_of given is_number same_bytes
number_then says [] = refl
number_then says (b ∷ u) = by_number (always says) (is_number (b ∷ u)) (eqb b 116 && same_bytes u []) (worth 0 (b ∷ u))

steady_then : (u : List ℕ) → Bytes u → steadied (packed 1 (take 2 u)) (rest_of (drop 2 u)) ≡ line_of (stead ++ u)
unfolding line_of same_bytes steadied
steady_then u h = ap₂ (λ (t : Bool) (l : Option Line). cond t l None) (pair_is 121 32 u h (omega arith) (omega arith)) (number_then Steady (drop 2 u))

-- the cases of `seek_line`
module _ (a k : ℕ) where
  pub seek-unparted : (a % 256 ≡ 32 → ⊥) → None ≡ sought_by a k
  unfolding sought_by
  seek-unparted n = rw (ne_eqb (a % 256) 32 n) refl

  module _ (e : a % 256 ≡ 32) where
    pub seek-low : a / 256 < 304 → None ≡ sought_by a k
    unfolding sought_by within
    seek-low l = rw (eq-eqb (a % 256) 32 e, lt-leb 304 (a / 256) l) refl

    pub seek-high : 304 ≤ a / 256 → 313 < a / 256 → None ≡ sought_by a k
    unfolding sought_by within
    seek-high m l = rw (eq-eqb (a % 256) 32 e, le-leb 304 (a / 256) m, lt-leb (a / 256) 313 l) refl

    pub seek-digit : 304 ≤ a / 256 → a / 256 ≤ 313 → Some (Search (a / 256 - 304) k) ≡ sought_by a k
    unfolding sought_by within
    seek-digit m l = rw (eq-eqb (a % 256) 32 e, le-leb 304 (a / 256) m, le-leb (a / 256) 313 l) refl

either-way : (t : Bool) (l : Option Line) → cond t l l ≡ l
either-way true l = refl
either-way false l = refl

-- a digit and a blank by their number
seek-then : (u : List ℕ) (k : ℕ) → Bytes u → sought_by (packed 1 (take 2 u)) k ≡ sought Search u k
unfolding packed sought_by sought within is_digit
seek-then [] k h = refl
seek-then (x ∷ []) k h =
    let e : (256 + x) / 256 ≡ 1 = omega (arith, h.0) in
    rw e (either-way (eqb ((256 + x) % 256) 32) None)
seek-then (x ∷ y ∷ u) k h =
    let e : ((256 + x) * 256 + y) / 256 ≡ 256 + x = omega (arith, h.1.0) in
    let f : ((256 + x) * 256 + y) % 256 ≡ y = omega (arith, h.1.0) in
    rw (e, f) (ap (λ (l : Option Line). cond (eqb y 32) l None) (by (leb 48 x) (leb x 57) refl refl))
  where
    by : (s t : Bool) → leb 48 x ≡ s → leb x 57 ≡ t → cond (leb 304 (256 + x) && leb (256 + x) 313) (Some (Search (256 + x - 304) k)) None ≡ cond (leb 48 x && leb x 57) (Some (Search (min 9 (x - 48)) k)) None
    by true true p q =
        let a = leb-true 48 x p in
        let b = leb-true x 57 q in
        let n : 256 + x - 304 ≡ min 9 (x - 48) = omega arith in
        rw (p, q, le-leb 304 (256 + x) (omega arith), le-leb (256 + x) 313 (omega arith), n) refl
    by true false p q =
        let b = leb-false x 57 q in
        rw (p, q, lt-leb (256 + x) 313 (omega arith)) (no-and (leb 304 (256 + x)))
      where
        no-and : (t : Bool) → cond (t && false) (Some (Search (256 + x - 304) k)) None ≡ None
        no-and true = refl
        no-and false = refl
    by false t p q =
        let a = leb-false 48 x p in
        rw (p, lt-leb 304 (256 + x) (omega arith)) refl

seeks-then : (u : List ℕ) → Bytes u → sought_by (packed 1 (take 2 u)) (kept (seek_bytes ++ u)) ≡ line_of (seek_bytes ++ u)
unfolding line_of same_bytes
seeks-then u h = seek-then u (kept (seek_bytes ++ u)) h

-- the cases of `begin_line`
module _ (a k : ℕ) where
  pub begin-unparted : (a % 256 ≡ 32 → ⊥) → None ≡ begun_by a k
  unfolding begun_by
  begin-unparted n = rw (ne_eqb (a % 256) 32 n) refl

  module _ (e : a % 256 ≡ 32) where
    pub begin-low : a / 256 < 73776 → None ≡ begun_by a k
    unfolding begun_by within
    begin-low l = rw (eq-eqb (a % 256) 32 e, lt-leb 73776 (a / 256) l) refl

    pub begin-high : 73776 ≤ a / 256 → 73785 < a / 256 → None ≡ begun_by a k
    unfolding begun_by within
    begin-high m l = rw (eq-eqb (a % 256) 32 e, le-leb 73776 (a / 256) m, lt-leb (a / 256) 73785 l) refl

    pub begin-digit : 73776 ≤ a / 256 → a / 256 ≤ 73785 → Some (Begin (a / 256 - 73776) k) ≡ begun_by a k
    unfolding begun_by within
    begin-digit m l = rw (eq-eqb (a % 256) 32 e, le-leb 73776 (a / 256) m, le-leb (a / 256) 73785 l) refl

-- a number that is no digit after a blank
none-begun : (n k : ℕ) (b : Bool) → (n < 73776) ⊎ (73785 < n) → cond b (cond (within 73776 73785 n) (Some (Begin (n - 73776) k)) None) None ≡ None
unfolding within
none-begun n k b (inl l) = rw (lt-leb 73776 n l) (either-way b None)
none-begun n k b (inr l) = rw (lt-leb n 73785 l) (by (leb 73776 n) b)
  where
    by : (s t : Bool) → cond t (cond (s && false) (Some (Begin (n - 73776) k)) None) None ≡ None
    by true t = either-way t None
    by false t = either-way t None

-- a blank, a digit and a blank by their number
begin-then : (u : List ℕ) (k : ℕ) → Bytes u → begun_by (packed 1 (take 3 u)) k ≡ cond (same_bytes (take 1 u) (32 ∷ [])) (sought Begin (drop 1 u) k) None
unfolding packed begun_by sought same_bytes is_digit within
begin-then [] k h = refl
begin-then (w ∷ []) k h = none-begun ((256 + w) / 256) k (eqb ((256 + w) % 256) 32) (inl (omega (arith, h.0))) ∙ sym (either-way (eqb w 32 && true) None)
begin-then (w ∷ x ∷ []) k h = none-begun (((256 + w) * 256 + x) / 256) k (eqb (((256 + w) * 256 + x) % 256) 32) (inl (omega (arith, h.0, h.1.0))) ∙ sym (either-way (eqb w 32 && true) None)
begin-then (w ∷ x ∷ y ∷ u) k h =
    let e : (((256 + w) * 256 + x) * 256 + y) / 256 ≡ (256 + w) * 256 + x = omega (arith, h.1.1.0) in
    let f : (((256 + w) * 256 + x) * 256 + y) % 256 ≡ y = omega (arith, h.1.1.0) in
    rw (e, f) (by (eqb w 32) refl)
  where
    digits : (s t : Bool) → leb 48 x ≡ s → leb x 57 ≡ t → w ≡ 32 → cond (within 73776 73785 ((256 + w) * 256 + x)) (Some (Begin ((256 + w) * 256 + x - 73776) k)) None ≡ cond (leb 48 x && leb x 57) (Some (Begin (min 9 (x - 48)) k)) None
    digits true true p q z =
        let a = leb-true 48 x p in
        let b = leb-true x 57 q in
        let n : (256 + w) * 256 + x - 73776 ≡ min 9 (x - 48) = omega arith in
        rw (p, q, le-leb 73776 ((256 + w) * 256 + x) (omega arith), le-leb ((256 + w) * 256 + x) 73785 (omega arith), n) refl
    digits true false p q z =
        let b = leb-false x 57 q in
        rw (p, q, lt-leb ((256 + w) * 256 + x) 73785 (omega arith)) (no-and (leb 73776 ((256 + w) * 256 + x)))
      where
        no-and : (t : Bool) → cond (t && false) (Some (Begin ((256 + w) * 256 + x - 73776) k)) None ≡ None
        no-and true = refl
        no-and false = refl
    digits false t p q z =
        let a = leb-false 48 x p in
        rw (p, lt-leb 73776 ((256 + w) * 256 + x) (omega arith)) refl

    by : (t : Bool) → eqb w 32 ≡ t
        → cond (eqb y 32) (cond (within 73776 73785 ((256 + w) * 256 + x)) (Some (Begin ((256 + w) * 256 + x - 73776) k)) None) None
        ≡ cond (eqb w 32 && true) (cond (eqb y 32) (cond (is_digit x) (Some (Begin (min 9 (x - 48)) k)) None) None) None
    by true z = rw z (ap (λ (l : Option Line). cond (eqb y 32) l None) (digits (leb 48 x) (leb x 57) refl refl (eqb-true w 32 z)))
    by false z = rw z (none-begun ((256 + w) * 256 + x) k (eqb y 32) (sides (leb w 31) refl))
      where
        sides : (t : Bool) → leb w 31 ≡ t → ((256 + w) * 256 + x < 73776) ⊎ (73785 < (256 + w) * 256 + x)
        sides true p = let a = leb-true w 31 p in inl (omega (arith, h.1.0))
        sides false p =
            let a = leb-false w 31 p in
            let b : w ≡ 32 → ⊥ = eqb-false w 32 z in
            inr (omega (arith, b))

abbrev begi : List ℕ
begi = take 5 begin_bytes

abbrev carr : List ℕ
carr = take 5 carry_bytes

begins-then : (u : List ℕ) → Bytes u → begun_by (packed 1 (take 3 u)) (kept (begi ++ u)) ≡ line_of (begi ++ u)
unfolding line_of same_bytes
begins-then u h = begin-then u (kept (begi ++ u)) h

carry_then : (u : List ℕ) → Bytes u → carried_by (packed 1 (take 2 u)) (rest_of (drop 1 u)) ≡ cond (same_bytes (take 1 u) (32 ∷ [])) (given (always Carry) (drop 1 u)) None
unfolding packed carried_by same_bytes
carry_then [] h = refl
carry_then (w ∷ []) h =
    let e : (256 + w) / 256 ≡ 1 = omega (arith, h.0) in
    rw e (sym (unfold given is_number in either-way (eqb w 32 && true) None))
carry_then (w ∷ x ∷ u) h =
    let e : ((256 + w) * 256 + x) / 256 ≡ 256 + w = omega (arith, h.1.0) in
    rw e (ap₂ (λ (t : Bool) (l : Option Line). cond t l None) (by (eqb w 32) refl) (number_then Carry (x ∷ u)))
  where
    by : (t : Bool) → eqb w 32 ≡ t → eqb (256 + w) 288 ≡ (eqb w 32 && true)
    by true z = let v = eqb-true w 32 z in rw z (eq-eqb (256 + w) 288 (omega arith))
    by false z = let v : w ≡ 32 → ⊥ = eqb-false w 32 z in rw z (ne_eqb (256 + w) 288 (λ (q : 256 + w ≡ 288). v (omega arith)))

carries-then : (u : List ℕ) → Bytes u → carried_by (packed 1 (take 2 u)) (rest_of (drop 1 u)) ≡ line_of (carr ++ u)
unfolding line_of same_bytes
carries-then u h = carry_then u h

differ : (s t : List ℕ) → (s ≡ t → ⊥) → same_bytes s t ≡ false
differ s t n = by (same_bytes s t) refl
  where
    by : (b : Bool) → same_bytes s t ≡ b → b ≡ false
    by true e = absurd (n (same-is s t e))
    by false e = refl

words-then : (u : List ℕ) → numbered (always Word) (rest_of u) ≡ line_of (word_bytes ++ u)
unfolding line_of same_bytes rest_of given is_number
words-then [] = refl
words-then (b ∷ u) = by_number (always Word) (is_number (b ∷ u)) (eqb b 116 && same_bytes u []) (worth 0 (b ∷ u))

-- `run ` by the head, which has one byte more
head-low : (n : ℕ) (e : Rest) → n < full → ran_by n e ≡ None
unfolding ran_by
head-low n e l = rw (ne_eqb (n / 256) run_head (λ (q : n / 256 ≡ run_head). omega arith)) refl

too_short : (s : List ℕ) (l : Option Line) → length s < 4 → cond (same_bytes (take 4 s) run_bytes) l None ≡ None
too_short s l h = rw (differ (take 4 s) run_bytes (λ (q : take 4 s ≡ run_bytes). omega (arith, ap length q, length-take 4 s))) refl

run-same : same_bytes run_bytes run_bytes ≡ true
unfolding same_bytes
run-same = refl

four_same : (a b c d : ℕ) → a < 256 → b < 256 → c < 256 → d < 256 → eqb (packed 1 (a ∷ b ∷ c ∷ d ∷ [])) run_head ≡ same_bytes (a ∷ b ∷ c ∷ d ∷ []) run_bytes
unfolding packed
four_same a b c d h i j k = by (same_bytes (a ∷ b ∷ c ∷ d ∷ []) run_bytes) refl
  where
    by : (t : Bool) → same_bytes (a ∷ b ∷ c ∷ d ∷ []) run_bytes ≡ t → eqb (packed 1 (a ∷ b ∷ c ∷ d ∷ [])) run_head ≡ t
    by true e = eq-eqb (packed 1 (a ∷ b ∷ c ∷ d ∷ [])) run_head (ap (packed 1) (same-is (a ∷ b ∷ c ∷ d ∷ []) run_bytes e))
    by false e =
        ne_eqb (packed 1 (a ∷ b ∷ c ∷ d ∷ [])) run_head
        (λ q. let v = (same-packed 1 1 (a ∷ b ∷ c ∷ d ∷ []) run_bytes refl (h, (i, (j, (k, tt)))) (omega arith, (omega arith, (omega arith, (omega arith, tt)))) q).bytes in
        apart-bool (ap (λ (s : List ℕ). same_bytes s run_bytes) v ∙ run-same) e)
      where
        apart-bool : same_bytes (a ∷ b ∷ c ∷ d ∷ []) run_bytes ≡ true → same_bytes (a ∷ b ∷ c ∷ d ∷ []) run_bytes ≡ false → ⊥
        apart-bool p q = let z : ◌≡◌ {A = ℕ} 0 1 = cc in omega arith

runs_then : {s : List ℕ} → Size s → Bytes s → ran_by (head_of s) (rest_of (drop 4 s)) ≡ cond (same_bytes (take 4 s) run_bytes) (given (always Run) (drop 4 s)) None
unfolding head_of packed
runs_then none h = head-low 1 (rest_of []) (omega arith) ∙ sym (too_short [] (given (always Run) []) (omega arith))
runs_then (one {a}) h = head-low (256 + a) (rest_of []) (omega (arith, h.0)) ∙ sym (too_short (a ∷ []) (given (always Run) []) (omega arith))
runs_then (two {a} {b}) h = head-low ((256 + a) * 256 + b) (rest_of []) (omega (arith, h.0, h.1.0)) ∙ sym (too_short (a ∷ b ∷ []) (given (always Run) []) (omega arith))
runs_then (three {a} {b} {c}) h = head-low (((256 + a) * 256 + b) * 256 + c) (rest_of []) (omega (arith, h.0, h.1.0, h.1.1.0)) ∙ sym (too_short (a ∷ b ∷ c ∷ []) (given (always Run) []) (omega arith))
runs_then (four {a} {b} {c} {d}) h =
    head-low ((((256 + a) * 256 + b) * 256 + c) * 256 + d) (rest_of []) (omega (arith, h.0, h.1.0, h.1.1.0, h.1.1.1.0)) ∙ sym (unfold given is_number in either-way (same_bytes (a ∷ b ∷ c ∷ d ∷ []) run_bytes) None)
runs_then (five {a} {b} {c} {d} {e = x} {s = u}) h =
    unfold ran_by in
    let q : (((((256 + a) * 256 + b) * 256 + c) * 256 + d) * 256 + x) / 256 ≡ (((256 + a) * 256 + b) * 256 + c) * 256 + d = omega (arith, h.1.1.1.1.0) in
    ap₂ (λ (t : Bool) (l : Option Line). cond t l None) (ap (λ (n : ℕ). eqb n run_head) q ∙ four_same a b c d h.0 h.1.0 h.1.1.0 h.1.1.1.0) (number_then Run (x ∷ u))

module _ {s : List ℕ} {r : Reading} (h : Reads s r) where
  word : (w : ℕ) (t : List ℕ) → Bytes t → length t ≡ 5 → full ≤ w → packed 1 t ≡ w → r.head ≡ w → s ≡ t ++ drop 5 s
  word w t k l m n e = word-is w t (size s) h.bytes k l m n (sym h.head ∙ e)

  pub says-list : r.head ≡ list_head → Some Listing ≡ line_of s
  unfolding line_of same_bytes
  says-list e = sym (ap line_of (list-is (size s) h.bytes (sym h.head ∙ e)))

  pub says-state : {x : Option Line} → r.head ≡ state_head → x ≡ bare State r.rest → x ≡ line_of s
  unfolding packed
  says-state e f =
      let w = word state_head state_bytes (omega arith, (omega arith, (omega arith, (omega arith, (omega arith, tt))))) refl (omega arith) refl e in
      f ∙ ap (bare State) h.rest ∙ state-then (drop 5 s) ∙ ap line_of (sym w)

  pub says-report : {x : Option Line} → r.head ≡ report_head → x ≡ lettered Report r.rest → x ≡ line_of s
  unfolding packed
  says-report e f =
      let w = word report_head repor (omega arith, (omega arith, (omega arith, (omega arith, (omega arith, tt))))) refl (omega arith) refl e in
      f ∙ ap (lettered Report) h.rest ∙ report-then (drop 5 s) ∙ ap line_of (sym w)

  pub says-open : {x : Option Line} → r.head ≡ open_head → x ≡ numbered (always Open) r.rest → x ≡ line_of s
  unfolding packed
  says-open e f =
      let w = word open_head open_bytes (omega arith, (omega arith, (omega arith, (omega arith, (omega arith, tt))))) refl (omega arith) refl e in
      f ∙ ap (numbered (always Open)) h.rest ∙ open-then (drop 5 s) ∙ ap line_of (sym w)

  pub says-step : {x : Option Line} → r.head ≡ step_head → x ≡ numbered (always Step) r.rest → x ≡ line_of s
  unfolding packed
  says-step e f =
      let w = word step_head step_bytes (omega arith, (omega arith, (omega arith, (omega arith, (omega arith, tt))))) refl (omega arith) refl e in
      f ∙ ap (numbered (always Step)) h.rest ∙ step_then (drop 5 s) ∙ ap line_of (sym w)

  pub says-independent : {x : Option Line} → r.head ≡ indep_head → x ≡ paired r.two → x ≡ line_of s
  unfolding packed
  says-independent e f =
      let w = word indep_head (take 5 independent_bytes) (omega arith, (omega arith, (omega arith, (omega arith, (omega arith, tt))))) refl (omega arith) refl e in
      f ∙ ap paired h.two ∙ two_then (drop 5 s) ∙ ap line_of (sym w)

  pub says-save : r.head ≡ save_head → Some (Save r.kept) ≡ line_of s
  unfolding packed
  says-save e =
      let w = word save_head save_bytes (omega arith, (omega arith, (omega arith, (omega arith, (omega arith, tt))))) refl (omega arith) refl e in
      ap (λ (n : ℕ). Some (Save n)) h.kept ∙ ap (λ (u : List ℕ). Some (Save (kept u))) w ∙ save-then (drop 5 s) ∙ ap line_of (sym w)

  -- a word of seven bytes
  ends_so : (says : ℕ → Line) (end w : ℕ) (t : List ℕ) → s ≡ t ++ drop 5 s → ((u : List ℕ) → Bytes u → ended says end (packed 1 (take 2 u)) (kept (t ++ u)) ≡ line_of (t ++ u)) → {x : Option Line} → x ≡ ended says end r.after r.kept → x ≡ line_of s
  unfolding after_of
  ends_so says end w t v then f =
      f ∙ ap₂ (ended says end) h.after (h.kept ∙ ap kept v) ∙ then (drop 5 s) (bytes_drop 5 s h.bytes) ∙ ap line_of (sym v)

  pub says-return : {x : Option Line} → r.head ≡ return_head → x ≡ ended Return return_end r.after r.kept → x ≡ line_of s
  unfolding packed
  says-return e f =
      ends_so Return return_end return_head retur (word return_head retur (omega arith, (omega arith, (omega arith, (omega arith, (omega arith, tt))))) refl (omega arith) refl e) return-then f

  pub says-forget : {x : Option Line} → r.head ≡ forget_head → x ≡ ended Forget forget_end r.after r.kept → x ≡ line_of s
  unfolding packed
  says-forget e f =
      ends_so Forget forget_end forget_head forge (word forget_head forge (omega arith, (omega arith, (omega arith, (omega arith, (omega arith, tt))))) refl (omega arith) refl e) forget-then f

  pub says-time : {x : Option Line} → r.head ≡ time_head → x ≡ numbered (always Time) r.rest → x ≡ line_of s
  unfolding packed
  says-time e f =
      let w = word time_head time_bytes (omega arith, (omega arith, (omega arith, (omega arith, (omega arith, tt))))) refl (omega arith) refl e in
      f ∙ ap (numbered (always Time)) h.rest ∙ time-then (drop 5 s) ∙ ap line_of (sym w)

  pub says-wait : {x : Option Line} → r.head ≡ wait_head → x ≡ numbered small r.rest → x ≡ line_of s
  unfolding packed
  says-wait e f =
      let w = word wait_head wait_bytes (omega arith, (omega arith, (omega arith, (omega arith, (omega arith, tt))))) refl (omega arith) refl e in
      f ∙ ap (numbered small) h.rest ∙ wait-then (drop 5 s) ∙ ap line_of (sym w)

  pub says-clock : {x : Option Line} → r.head ≡ clock_head → x ≡ bare Clock r.rest → x ≡ line_of s
  unfolding packed
  says-clock e f =
      let w = word clock_head clock_bytes (omega arith, (omega arith, (omega arith, (omega arith, (omega arith, tt))))) refl (omega arith) refl e in
      f ∙ ap (bare Clock) h.rest ∙ clock-then (drop 5 s) ∙ ap line_of (sym w)

  pub says-steady : {x : Option Line} → r.head ≡ steady_head → x ≡ steadied r.after r.late → x ≡ line_of s
  unfolding packed after_of
  says-steady e f =
      let w = word steady_head stead (omega arith, (omega arith, (omega arith, (omega arith, (omega arith, tt))))) refl (omega arith) refl e in
      f ∙ ap₂ steadied h.after (h.late ∙ ap (λ (u : List ℕ). rest_of (drop 7 u)) w) ∙ steady_then (drop 5 s) (bytes_drop 5 s h.bytes) ∙ ap line_of (sym w)

  pub says-seek : {x : Option Line} → r.head ≡ seek_head → x ≡ sought_by r.after r.kept → x ≡ line_of s
  unfolding packed after_of
  says-seek e f =
      let w = word seek_head seek_bytes (omega arith, (omega arith, (omega arith, (omega arith, (omega arith, tt))))) refl (omega arith) refl e in
      f ∙ ap₂ sought_by h.after (h.kept ∙ ap kept w) ∙ seeks-then (drop 5 s) (bytes_drop 5 s h.bytes) ∙ ap line_of (sym w)

  pub says-begin : {x : Option Line} → r.head ≡ begin_head → x ≡ begun_by r.further r.kept → x ≡ line_of s
  unfolding packed further_of
  says-begin e f =
      let w = word begin_head begi (omega arith, (omega arith, (omega arith, (omega arith, (omega arith, tt))))) refl (omega arith) refl e in
      f ∙ ap₂ begun_by h.further (h.kept ∙ ap kept w) ∙ begins-then (drop 5 s) (bytes_drop 5 s h.bytes) ∙ ap line_of (sym w)

  pub says-carry : {x : Option Line} → r.head ≡ carry_head → x ≡ carried_by r.after r.mid → x ≡ line_of s
  unfolding packed after_of
  says-carry e f =
      let w = word carry_head carr (omega arith, (omega arith, (omega arith, (omega arith, (omega arith, tt))))) refl (omega arith) refl e in
      f ∙ ap₂ carried_by h.after (h.mid ∙ ap (λ (u : List ℕ). rest_of (drop 6 u)) w) ∙ carries-then (drop 5 s) (bytes_drop 5 s h.bytes) ∙ ap line_of (sym w)

  -- a word of more bytes has its first five
  first-five : (n : ℕ) (t : List ℕ) → 5 ≤ n → take n s ≡ t → take 5 s ≡ take 5 t
  first-five n t l e = sym (take-take 5 n s l) ∙ ap (take 5) e

  pub says-word : {x : Option Line} → r.head ≡ word_head → x ≡ numbered (always Word) r.rest → x ≡ line_of s
  unfolding packed
  says-word e f =
      let w = word word_head word_bytes (omega arith, (omega arith, (omega arith, (omega arith, (omega arith, tt))))) refl (omega arith) refl e in
      f ∙ ap (numbered (always Word)) h.rest ∙ words-then (drop 5 s) ∙ ap line_of (sym w)

  pub says-run : {x : Option Line} → (r.head ≡ list_head → ⊥) → (r.head ≡ state_head → ⊥) → (r.head ≡ report_head → ⊥) → (r.head ≡ open_head → ⊥) → (r.head ≡ step_head → ⊥) → (r.head ≡ save_head → ⊥) → (r.head ≡ return_head → ⊥) → (r.head ≡ forget_head → ⊥)
      → (r.head ≡ time_head → ⊥) → (r.head ≡ wait_head → ⊥) → (r.head ≡ clock_head → ⊥) → (r.head ≡ indep_head → ⊥) → (r.head ≡ steady_head → ⊥) → (r.head ≡ seek_head → ⊥) → (r.head ≡ word_head → ⊥) → (r.head ≡ begin_head → ⊥) → (r.head ≡ carry_head → ⊥) → x ≡ ran_by r.head r.early → x ≡ line_of s
  unfolding line_of head_of packed
  says-run l t q o p v m g i j k z y x w c d f =
      f ∙ ap₂ ran_by h.head h.early ∙ runs_then (size s) h.bytes ∙ sym no_other
    where
      no_other : line_of s ≡ cond (same_bytes (take 4 s) run_bytes) (given (always Run) (drop 4 s)) None
      no_other = simp (
        differ s list_bytes (λ e. l (h.head ∙ ap head_of e)),
        differ s state_bytes (λ e. t (h.head ∙ ap head_of e)),
        differ s report_bytes (λ e. q (h.head ∙ ap head_of e)),
        differ (take 5 s) open_bytes (λ e. o (h.head ∙ ap (packed 1) e)),
        differ (take 7 s) steady_bytes (λ e. y (h.head ∙ ap (packed 1) (first-five 7 steady_bytes (omega arith) e))),
        differ (take 5 s) step_bytes (λ e. p (h.head ∙ ap (packed 1) e)),
        differ (take 5 s) save_bytes (λ e. v (h.head ∙ ap (packed 1) e)),
        differ (take 7 s) return_bytes (λ e. m (h.head ∙ ap (packed 1) (first-five 7 return_bytes (omega arith) e))),
        differ (take 7 s) forget_bytes (λ e. g (h.head ∙ ap (packed 1) (first-five 7 forget_bytes (omega arith) e))),
        differ (take 5 s) time_bytes (λ e. i (h.head ∙ ap (packed 1) e)),
        differ (take 5 s) wait_bytes (λ e. j (h.head ∙ ap (packed 1) e)),
        differ s clock_bytes (λ e. k (h.head ∙ ap head_of e)),
        no_word s (λ e. z (h.head ∙ ap (packed 1) e)),
        differ (take 5 s) seek_bytes (λ e. x (h.head ∙ ap (packed 1) e)),
        differ (take 5 s) word_bytes (λ e. w (h.head ∙ ap (packed 1) e)),
        differ (take 6 s) begin_bytes (λ e. c (h.head ∙ ap (packed 1) (first-five 6 begin_bytes (omega arith) e))),
        differ (take 6 s) carry_bytes (λ e. d (h.head ∙ ap (packed 1) (first-five 6 carry_bytes (omega arith) e))),
      )

-- what a rest makes of a line that wants a number, as the code joins it
pub joined-is : (says : ℕ → Option Line) (rest : Rest) (x : Option Line) → MatchOption (number_in rest) (x ≡ None) (λ n. x ≡ says n) → x ≡ numbered says rest
joined-is says Nothing x h = h
joined-is says (Number n) x h = h
joined-is says T x h = h
joined-is says Other x h = h

-- the same of a line of every number
pub numbered-is : (says : ℕ → Line) (rest : Rest) (x : Option Line) → MatchOption (number_in rest) (x ≡ None) (λ n. IsSomeAnd x (λ l. l ≡ says n)) → x ≡ numbered (always says) rest
numbered-is says Nothing x h = h
numbered-is says (Number n) None h = absurd h
numbered-is says (Number n) (Some l) h = ap Some h
numbered-is says T x h = h
numbered-is says Other x h = h

-- and of one whose word has to be right to its end
pub numbered-if : (says : ℕ → Line) (right : Bool) (rest : Rest) (y : Option ℕ) (x : Option Line) → y ≡ cond right (number_in rest) None → MatchOption y (x ≡ None) (λ n. IsSomeAnd x (λ l. l ≡ says n)) → x ≡ cond right (numbered (always says) rest) None
numbered-if says true rest y x e h = numbered-is says rest x (rw e at h)
numbered-if says false rest y x e h = rw e at h

-- ---- what a line says if a test holds
pub then-is : (b : Bool) (l : Line) (x : Option Line) → x ≡ then_some b l → x ≡ cond b (Some l) None
then-is true l x e = e
then-is false l x e = e

-- that nothing stands after its word, or the last byte of it
pub bare-is : (b : Bool) (l : Line) (rest : Rest) (x : Option Line) → x ≡ then_some b l → b ≡ true → rest ≡ Nothing → x ≡ bare l rest
bare-is b l rest x e t n = rw n (e ∙ ap (λ (u : Bool). then_some u l) t)

pub not-bare : (b : Bool) (l : Line) (rest : Rest) (x : Option Line) → x ≡ then_some b l → b ≡ false → (rest ≡ Nothing → ⊥) → x ≡ bare l rest
not-bare b l Nothing x e t n = absurd (n refl)
not-bare b l (Number v) x e t n = e ∙ ap (λ (u : Bool). then_some u l) t
not-bare b l T x e t n = e ∙ ap (λ (u : Bool). then_some u l) t
not-bare b l Other x e t n = e ∙ ap (λ (u : Bool). then_some u l) t

pub lettered-is : (b : Bool) (l : Line) (rest : Rest) (x : Option Line) → x ≡ then_some b l → b ≡ true → rest ≡ T → x ≡ lettered l rest
lettered-is b l rest x e t n = rw n (e ∙ ap (λ (u : Bool). then_some u l) t)

pub not-lettered : (b : Bool) (l : Line) (rest : Rest) (x : Option Line) → x ≡ then_some b l → b ≡ false → (rest ≡ T → ⊥) → x ≡ lettered l rest
not-lettered b l Nothing x e t n = e ∙ ap (λ (u : Bool). then_some u l) t
not-lettered b l (Number v) x e t n = e ∙ ap (λ (u : Bool). then_some u l) t
not-lettered b l T x e t n = absurd (n refl)
not-lettered b l Other x e t n = e ∙ ap (λ (u : Bool). then_some u l) t
