-- What a line of a script says, from its bytes. Definitions, and examples by computation.
use Rattle.std.specs.Prelude.{◌≡◌, ℕ, ◌+◌, ◌-◌, ◌*◌, ◌/◌, ◌%◌, ◌<◌, min, Bool, true, false, cond, ◌&&◌, List, [], ◌∷◌, ◌++◌, length, take, drop, ◌==◌, nat_lt, refl}
use Rattle.std.specs.Prelude.{Option, Some, None}
use Rattle.word.specs.Number.{worth, digit_of}
use Rattle.token.specs.Bytes.{within, is_digit}
use Rattle.token.specs.Token.{same_bytes}
use Rattle.lines.specs.declared.line.Line.{Line}
use Rattle.lines.specs.declared.line.Line.TheVariants.{Open, Steady, List as Listing, Step, State, Report, Save, Return, Forget, Time, Wait, Clock, Independent, Search, Word, Run, Begin, Carry}
use Rattle.lines.specs.declared.line.Rest.{Rest}
use Rattle.lines.specs.declared.line.Rest.TheVariants.{Nothing, Number, T, Other}
use Rattle.lines.specs.declared.line.Reading.{Reading}
use Rattle.lines.specs.Limit.{limit}
use Rattle.lines.specs.OneByte.{byte_next}
use Rattle.lines.specs.Two.{begun, run}

-- `list`, `state`, `report`, `open `, `steady `, `step ` and `independent `
abbrev pub list_bytes : List ℕ
list_bytes = 108 ∷ 105 ∷ 115 ∷ 116 ∷ []

abbrev pub state_bytes : List ℕ
state_bytes = 115 ∷ 116 ∷ 97 ∷ 116 ∷ 101 ∷ []

abbrev pub report_bytes : List ℕ
report_bytes = 114 ∷ 101 ∷ 112 ∷ 111 ∷ 114 ∷ 116 ∷ []

abbrev pub open_bytes : List ℕ
open_bytes = 111 ∷ 112 ∷ 101 ∷ 110 ∷ 32 ∷ []

abbrev pub steady_bytes : List ℕ
steady_bytes = 115 ∷ 116 ∷ 101 ∷ 97 ∷ 100 ∷ 121 ∷ 32 ∷ []

abbrev pub step_bytes : List ℕ
step_bytes = 115 ∷ 116 ∷ 101 ∷ 112 ∷ 32 ∷ []

-- `save `, `return ` and `forget `
abbrev pub save_bytes : List ℕ
save_bytes = 115 ∷ 97 ∷ 118 ∷ 101 ∷ 32 ∷ []

abbrev pub return_bytes : List ℕ
return_bytes = 114 ∷ 101 ∷ 116 ∷ 117 ∷ 114 ∷ 110 ∷ 32 ∷ []

abbrev pub forget_bytes : List ℕ
forget_bytes = 102 ∷ 111 ∷ 114 ∷ 103 ∷ 101 ∷ 116 ∷ 32 ∷ []

-- `time `, `wait ` and `clock`
abbrev pub time_bytes : List ℕ
time_bytes = 116 ∷ 105 ∷ 109 ∷ 101 ∷ 32 ∷ []

abbrev pub wait_bytes : List ℕ
wait_bytes = 119 ∷ 97 ∷ 105 ∷ 116 ∷ 32 ∷ []

abbrev pub clock_bytes : List ℕ
clock_bytes = 99 ∷ 108 ∷ 111 ∷ 99 ∷ 107 ∷ []

-- how many bytes of a line are kept: all, up to a word and a name that is too long already
abbrev pub kept_limit : ℕ
kept_limit = 25

unfoldable pub kept : List ℕ → ℕ
kept s = min kept_limit (length s)

-- `seek `
abbrev pub seek_bytes : List ℕ
seek_bytes = 115 ∷ 101 ∷ 101 ∷ 107 ∷ 32 ∷ []

abbrev pub independent_bytes : List ℕ
independent_bytes = 105 ∷ 110 ∷ 100 ∷ 101 ∷ 112 ∷ 101 ∷ 110 ∷ 100 ∷ 101 ∷ 110 ∷ 116 ∷ 32 ∷ []

-- `word ` and `run `
abbrev pub word_bytes : List ℕ
word_bytes = 119 ∷ 111 ∷ 114 ∷ 100 ∷ 32 ∷ []

abbrev pub run_bytes : List ℕ
run_bytes = 114 ∷ 117 ∷ 110 ∷ 32 ∷ []

-- `begin ` and `carry `
abbrev pub begin_bytes : List ℕ
begin_bytes = 98 ∷ 101 ∷ 103 ∷ 105 ∷ 110 ∷ 32 ∷ []

abbrev pub carry_bytes : List ℕ
carry_bytes = 99 ∷ 97 ∷ 114 ∷ 114 ∷ 121 ∷ 32 ∷ []

-- digits and nothing else
unfoldable pub digits_only : List ℕ → Bool
digits_only [] = true
digits_only (b ∷ s) = is_digit b && digits_only s

-- one digit or more, and a number below the limit
unfoldable pub is_number : List ℕ → Bool
is_number [] = false
is_number (b ∷ s) = digits_only (b ∷ s) && nat_lt (worth 0 (b ∷ s)) limit

-- what a line says of a form with a number, whatever number it is
abbrev pub always : (ℕ → Line) → ℕ → Option Line
always says n = Some (says n)

-- what the line says whose number is written so
unfoldable pub given : (ℕ → Option Line) → List ℕ → Option Line
given says s = cond (is_number s) (says (worth 0 s)) None

-- what stands before the first blank, and after it
unfoldable pub before_blank : List ℕ → List ℕ
before_blank [] = []
before_blank (b ∷ s) = cond (b == 32) [] (b ∷ before_blank s)

unfoldable pub after_blank : List ℕ → List ℕ
after_blank [] = []
after_blank (b ∷ s) = cond (b == 32) s (after_blank s)

-- two numbers with a blank between them
unfoldable pub given_two : List ℕ → Option Line
given_two s = cond (is_number (before_blank s) && is_number (after_blank s)) (Some (Independent (worth 0 (before_blank s)) (worth 0 (after_blank s)))) None

-- a waiting draw has sixteen bits
unfoldable pub small : ℕ → Option Line
small n = cond (nat_lt n 65536) (Some (Wait n)) None

-- a depth of one digit and a blank, and a line of which so many bytes are kept
unfoldable pub sought : (says : ℕ → ℕ → Line) → List ℕ → ℕ → Option Line
sought says [] k = None
sought says (d ∷ []) k = None
sought says (d ∷ b ∷ s) k = cond (b == 32) (cond (is_digit d) (Some (says (digit_of d) k)) None) None

-- the eighteen forms; every other line says nothing
unfoldable pub line_of : List ℕ → Option Line
line_of s =
    cond (same_bytes s list_bytes) (Some Listing)
    (cond (same_bytes s state_bytes) (Some State)
    (cond (same_bytes s report_bytes) (Some Report)
    (cond (same_bytes (take 5 s) open_bytes) (given (always Open) (drop 5 s))
    (cond (same_bytes (take 7 s) steady_bytes) (given (always Steady) (drop 7 s))
    (cond (same_bytes (take 5 s) step_bytes) (given (always Step) (drop 5 s))
    (cond (same_bytes (take 5 s) save_bytes) (Some (Save (kept s)))
    (cond (same_bytes (take 7 s) return_bytes) (Some (Return (kept s)))
    (cond (same_bytes (take 7 s) forget_bytes) (Some (Forget (kept s)))
    (cond (same_bytes (take 5 s) time_bytes) (given (always Time) (drop 5 s))
    (cond (same_bytes (take 5 s) wait_bytes) (given small (drop 5 s))
    (cond (same_bytes s clock_bytes) (Some Clock)
    (cond (same_bytes (take 12 s) independent_bytes) (given_two (drop 12 s))
    (cond (same_bytes (take 5 s) seek_bytes) (sought Search (drop 5 s) (kept s))
    (cond (same_bytes (take 5 s) word_bytes) (given (always Word) (drop 5 s))
    (cond (same_bytes (take 6 s) begin_bytes) (sought Begin (drop 6 s) (kept s))
    (cond (same_bytes (take 6 s) carry_bytes) (given (always Carry) (drop 6 s))
    (cond (same_bytes (take 4 s) run_bytes) (given (always Run) (drop 4 s)) None)))))))))))))))))

-- `step 307`
step_line : line_of (115 ∷ 116 ∷ 101 ∷ 112 ∷ 32 ∷ 51 ∷ 48 ∷ 55 ∷ []) ≡ Some (Step 307)
unfolding line_of given is_number digits_only is_digit Rattle.token.specs.Bytes.within same_bytes worth
step_line = refl

-- `steady 23`, `steady` and `steady23`
steady-lines : (line_of (steady_bytes ++ (50 ∷ 51 ∷ [])) ≡ Some (Steady 23)) × ((line_of (take 6 steady_bytes) ≡ None) × (line_of (take 6 steady_bytes ++ (50 ∷ 51 ∷ [])) ≡ None))
unfolding line_of given is_number digits_only is_digit Rattle.token.specs.Bytes.within same_bytes worth
steady-lines = (refl, (refl, refl))

-- `wait 65535` and `wait 65536`
wait-lines : (line_of (wait_bytes ++ (54 ∷ 53 ∷ 53 ∷ 51 ∷ 53 ∷ [])) ≡ Some (Wait 65535)) × (line_of (wait_bytes ++ (54 ∷ 53 ∷ 53 ∷ 51 ∷ 54 ∷ [])) ≡ None)
unfolding line_of given small is_number digits_only is_digit Rattle.token.specs.Bytes.within same_bytes worth
wait-lines = (refl, refl)

-- `independent 0 12`
independent-line : line_of (105 ∷ 110 ∷ 100 ∷ 101 ∷ 112 ∷ 101 ∷ 110 ∷ 100 ∷ 101 ∷ 110 ∷ 116 ∷ 32 ∷ 48 ∷ 32 ∷ 49 ∷ 50 ∷ []) ≡ Some (Independent 0 12)
unfolding line_of given_two before_blank after_blank is_number digits_only is_digit Rattle.token.specs.Bytes.within same_bytes worth
independent-line = refl

-- `independent 0`
no_second : line_of (105 ∷ 110 ∷ 100 ∷ 101 ∷ 112 ∷ 101 ∷ 110 ∷ 100 ∷ 101 ∷ 110 ∷ 116 ∷ 32 ∷ 48 ∷ []) ≡ None
unfolding line_of given_two before_blank after_blank is_number digits_only is_digit Rattle.token.specs.Bytes.within same_bytes worth
no_second = refl

-- `reports`
no-report : line_of (114 ∷ 101 ∷ 112 ∷ 111 ∷ 114 ∷ 116 ∷ 115 ∷ []) ≡ None
unfolding line_of same_bytes
no-report = refl

-- `return a`, `forget` and `save ` with no name
return-line : line_of (return_bytes ++ (97 ∷ [])) ≡ Some (Return 8)
unfolding line_of kept same_bytes
return-line = refl

no_forget : line_of (take 6 forget_bytes) ≡ None
unfolding line_of same_bytes
no_forget = refl

save-nothing : line_of save_bytes ≡ Some (Save 5)
unfolding line_of kept same_bytes
save-nothing = refl

-- `seek 3 a`, `seek 3`, `seek 10 a`
seek-lines : (line_of (seek_bytes ++ (51 ∷ 32 ∷ 97 ∷ [])) ≡ Some (Search 3 8)) × ((line_of (seek_bytes ++ (51 ∷ [])) ≡ None) × (line_of (seek_bytes ++ (49 ∷ 48 ∷ 32 ∷ 97 ∷ [])) ≡ None))
unfolding line_of sought kept is_digit Rattle.token.specs.Bytes.within same_bytes
seek-lines = (refl, (refl, refl))

-- `word 18446744073709551615` and `word 18446744073709551616`
word-lines :
    (line_of (word_bytes ++ (49 ∷ 56 ∷ 52 ∷ 52 ∷ 54 ∷ 55 ∷ 52 ∷ 52 ∷ 48 ∷ 55 ∷ 51 ∷ 55 ∷ 48 ∷ 57 ∷ 53 ∷ 53 ∷ 49 ∷ 54 ∷ 49 ∷ 53 ∷ [])) ≡ Some (Word 18446744073709551615))
    × (line_of (word_bytes ++ (49 ∷ 56 ∷ 52 ∷ 52 ∷ 54 ∷ 55 ∷ 52 ∷ 52 ∷ 48 ∷ 55 ∷ 51 ∷ 55 ∷ 48 ∷ 57 ∷ 53 ∷ 53 ∷ 49 ∷ 54 ∷ 49 ∷ 54 ∷ [])) ≡ None)
unfolding line_of given is_number digits_only is_digit Rattle.token.specs.Bytes.within same_bytes worth
word-lines = (refl, refl)

-- `run 10`, `run ` and `run`
run-lines : (line_of (run_bytes ++ (49 ∷ 48 ∷ [])) ≡ Some (Run 10)) × ((line_of run_bytes ≡ None) × (line_of (take 3 run_bytes) ≡ None))
unfolding line_of given is_number digits_only is_digit Rattle.token.specs.Bytes.within same_bytes worth
run-lines = (refl, (refl, refl))

-- `begin 3 a`, `begin 3`, `begin 10 a`
begin-lines : (line_of (begin_bytes ++ (51 ∷ 32 ∷ 97 ∷ [])) ≡ Some (Begin 3 9)) × ((line_of (begin_bytes ++ (51 ∷ [])) ≡ None) × (line_of (begin_bytes ++ (49 ∷ 48 ∷ 32 ∷ 97 ∷ [])) ≡ None))
unfolding line_of sought kept is_digit Rattle.token.specs.Bytes.within same_bytes
begin-lines = (refl, (refl, refl))

-- `carry 10`, `carry ` and `carry`
carry-lines : (line_of (carry_bytes ++ (49 ∷ 48 ∷ [])) ≡ Some (Carry 10)) × ((line_of carry_bytes ≡ None) × (line_of (take 5 carry_bytes) ≡ None))
unfolding line_of given is_number digits_only is_digit Rattle.token.specs.Bytes.within same_bytes worth
carry-lines = (refl, (refl, refl))

-- `open` without a number
no_number : line_of open_bytes ≡ None
unfolding line_of given is_number same_bytes
no_number = refl

-- ---- a line so far

-- what stands after the first five bytes, as the code keeps it
unfoldable pub rest_of : List ℕ → Rest
rest_of [] = Nothing
rest_of (b ∷ s) = cond (is_number (b ∷ s)) (Number (worth 0 (b ∷ s))) (cond (same_bytes (b ∷ s) (116 ∷ [])) T Other)

-- a number with one more digit
unfoldable pub grown : ℕ → ℕ → Rest
grown v d = cond (nat_lt (v * 10 + d) limit) (Number (v * 10 + d)) Other

-- the rest with one more digit
abbrev pub digit_next : Rest → ℕ → Rest
digit_next Nothing d = Number d
digit_next (Number v) d = grown v d
digit_next T d = Other
digit_next Other d = Other

-- the rest with one more byte that is no digit
abbrev pub letter_next : Rest → ℕ → Rest
letter_next Nothing b = cond (b == 116) T Other
letter_next (Number v) b = Other
letter_next T b = Other
letter_next Other b = Other

-- the rest with one more byte
unfoldable pub rest_next : Rest → ℕ → Rest
rest_next r b = byte_next digit_next letter_next r b

-- bytes as digits of base 256, after h
unfoldable pub packed : ℕ → List ℕ → ℕ
packed h [] = h
packed h (b ∷ s) = packed (h * 256 + b) s

-- the first five bytes, after a 1
unfoldable pub head_of : List ℕ → ℕ
head_of s = packed 1 (take 5 s)

-- the number that stands there
abbrev pub number_in : Rest → Option ℕ
number_in Nothing = None
number_in (Number n) = Some n
number_in T = None
number_in Other = None

-- what a rest makes of a line that wants a number, or nothing, or a last byte
abbrev pub numbered : (ℕ → Option Line) → Rest → Option Line
numbered says Nothing = None
numbered says (Number n) = says n
numbered says T = None
numbered says Other = None

abbrev pub bare : Line → Rest → Option Line
bare says Nothing = Some says
bare says (Number n) = None
bare says T = None
bare says Other = None

abbrev pub lettered : Line → Rest → Option Line
lettered says Nothing = None
lettered says (Number n) = None
lettered says T = Some says
lettered says Other = None

-- the first two bytes after the first five, after a 1
unfoldable pub after_of : List ℕ → ℕ
after_of s = packed 1 (take 2 (drop 5 s))

-- the first three, likewise
unfoldable pub further_of : List ℕ → ℕ
further_of s = packed 1 (take 3 (drop 5 s))

-- the least numbers of one byte, of two and of three, and the ends of `return `, `forget ` and `steady `
abbrev pub one_byte : ℕ
one_byte = 256

abbrev pub two_bytes : ℕ
two_bytes = 65536

abbrev pub three_bytes : ℕ
three_bytes = 16777216

abbrev pub return_end : ℕ
return_end = 93728

abbrev pub forget_end : ℕ
forget_end = 95264

abbrev pub steady_end : ℕ
steady_end = 96544

-- bytes with one more, up to the number of them whose least number is this
unfoldable pub bytes_next : (full : ℕ) → ℕ → ℕ → ℕ
bytes_next full a b = cond (nat_lt a full) (a * 256 + b) a

-- what stands after the first six bytes with one more byte, from the two after the first five before it
unfoldable pub mid_next : ℕ → Rest → ℕ → Rest
mid_next a r b = cond (nat_lt a one_byte) r (rest_next r b)

-- what stands after the first seven bytes with one more byte, from the two before them
unfoldable pub late_next : ℕ → Rest → ℕ → Rest
late_next a r b = cond (nat_lt a two_bytes) r (rest_next r b)

-- the least head of four bytes, and that of `run `
abbrev pub four_bytes : ℕ
four_bytes = 4294967296

abbrev pub run_head : ℕ
run_head = 6215265824

-- what stands after the first four bytes with one more byte, from the head before it
unfoldable pub early_next : ℕ → Rest → ℕ → Rest
early_next h r b = cond (nat_lt h four_bytes) r (rest_next r b)

-- a line whose first four bytes are `run `, and what stands after them
unfoldable pub ran_by : ℕ → Rest → Option Line
ran_by head early = cond (head / 256 == run_head) (numbered (always Run) early) None

unfoldable pub kept_next : ℕ → ℕ
kept_next k = cond (nat_lt k kept_limit) (k + 1) k

-- a line that ends a word so, and has so many bytes
unfoldable pub ended : (ℕ → Line) → ℕ → ℕ → ℕ → Option Line
ended says end after k = cond (after == end) (Some (says k)) None

-- a line that ends its word as `steady ` does, and what stands after that
unfoldable pub steadied : ℕ → Rest → Option Line
steadied after late = cond (after == steady_end) (numbered (always Steady) late) None

-- a line whose word ends with its sixth byte, a blank, and what stands after it
unfoldable pub carried_by : ℕ → Rest → Option Line
carried_by after mid = cond (after / 256 == 288) (numbered (always Carry) mid) None

-- a line that has a digit and a blank after these six bytes
unfoldable pub begun_by : ℕ → ℕ → Option Line
begun_by further k = cond (further % 256 == 32) (cond (within 73776 73785 (further / 256)) (Some (Begin (further / 256 - 73776) k)) None) None

-- a line whose word ends with its fifth byte, and that has a digit and a blank after it
unfoldable pub sought_by : ℕ → ℕ → Option Line
sought_by after k = cond (after % 256 == 32) (cond (within 304 313 (after / 256)) (Some (Search (after / 256 - 304) k)) None) None

abbrev pub Bytes : List ℕ → Type 0
Bytes [] = Unit {0}
Bytes (b ∷ s) = (b < 256) × Bytes s

-- the code has read these bytes of a line
pub record Reads (s : List ℕ) (r : Reading) : Type 0 where
  pub bytes : Bytes s
  pub head : r.head ≡ head_of s
  pub early : r.early ≡ rest_of (drop 4 s)
  pub rest : r.rest ≡ rest_of (drop 5 s)
  pub after : r.after ≡ after_of s
  pub mid : r.mid ≡ rest_of (drop 6 s)
  pub late : r.late ≡ rest_of (drop 7 s)
  pub further : r.further ≡ further_of s
  pub kept : r.kept ≡ kept s
  pub two : r.two ≡ run begun (drop 5 s)

-- no byte yet
abbrev pub empty : Reading
empty = record { head = 1; early = Nothing; rest = Nothing; after = 1; mid = Nothing; late = Nothing; further = 1; kept = 0; two = begun }
