-- A script: thirteen numbers a row, each row a call on what is lent (01, Rule machine: texts, draws, and the lengths of all that is lent). Definitions only.
use Rattle.std.specs.Prelude.{Bool, cond, ◌&&◌, List, [], ◌∷◌, ℕ, zero, suc, ◌+◌, ◌-◌, ◌/◌, eqb, leb, length, get_or, take, drop}
use Rattle.std.proofs.Math.Option.{Option, none, some, Option-elim}
use Rattle.machine.specs.Machine.{list', step', report', search', timed', run', save', return', forget', begin', carry', Ask, open', open_steady', on', Part, model, state, saves, clock, search, size, all_parts, Call, call}
use Rattle.script.specs.declared.Kind.{Kind}
use Rattle.script.specs.declared.Kind.TheVariants.{Open, List as Listing, Step, Report, Save, Return, Forget, Timed, Steady, Search, Run, Begin, Carry}
use Rattle.script.specs.declared.Row.{Row}

-- numbers of a row, of an answer, and of a row's part of the outputs: a listing, a report, or 1,024 events of a run
abbrev pub row_width : ℕ
row_width = 13

abbrev pub answer_width : ℕ
answer_width = 18

abbrev pub output_width : ℕ
output_width = 8192

-- the kinds of rows
abbrev pub open_kind : ℕ
open_kind = 1

abbrev pub list_kind : ℕ
list_kind = 2

abbrev pub step_kind : ℕ
step_kind = 3

abbrev pub report_kind : ℕ
report_kind = 4

abbrev pub save_kind : ℕ
save_kind = 5

abbrev pub return_kind : ℕ
return_kind = 6

abbrev pub forget_kind : ℕ
forget_kind = 7

abbrev pub timed_kind : ℕ
timed_kind = 8

abbrev pub steady_kind : ℕ
steady_kind = 9

abbrev pub search_kind : ℕ
search_kind = 10

abbrev pub run_kind : ℕ
run_kind = 11

abbrev pub begin_kind : ℕ
begin_kind = 12

abbrev pub carry_kind : ℕ
carry_kind = 13

abbrev pub last_kind : ℕ
last_kind = carry_kind

-- the numbers of kinds, which stand one after the other
unfoldable pub is_kind : ℕ → Bool
is_kind n = leb open_kind n && leb n last_kind

-- the number of a kind in a row
unfoldable pub kind_number : Kind → ℕ
kind_number Open = open_kind
kind_number Listing = list_kind
kind_number Step = step_kind
kind_number Report = report_kind
kind_number Save = save_kind
kind_number Return = return_kind
kind_number Forget = forget_kind
kind_number Timed = timed_kind
kind_number Steady = steady_kind
kind_number Search = search_kind
kind_number Run = run_kind
kind_number Begin = begin_kind
kind_number Carry = carry_kind

-- ---- rows

-- kind; place and size of a text or name, and of a list of waiting draws; a draw, a depth, a limit or a number of states; how many numbers of the output and of each part are lent; place and size of a list of words
unfoldable pub row_of : List ℕ → Row
row_of l = record {
  kind = get_or l 0 0;
  text = get_or l 1 0;
  size = get_or l 2 0;
  from = get_or l 3 0;
  count = get_or l 4 0;
  number = get_or l 5 0;
  output = get_or l 6 0;
  model = get_or l 7 0;
  state = get_or l 8 0;
  saves = get_or l 9 0;
  search = get_or l 10 0;
  start = get_or l 11 0;
  words = get_or l 12 0;
}

-- so many rows, one after the other
unfoldable pub rows : ℕ → List ℕ → List Row
rows zero l = []
rows (suc n) l = row_of l ∷ rows n (drop row_width l)

-- the whole rows of a script
unfoldable pub rows_of : List ℕ → List Row
rows_of l = rows (length l / row_width) l

-- the parts of the engine, in the order of a row
abbrev pub row_parts : List Part
row_parts = model ∷ state ∷ saves ∷ clock ∷ search ∷ []

-- how many numbers of each a row lends; 02, note 4: the clock is lent whole
unfoldable pub row_lengths : Row → Part → ℕ
row_lengths r model = r.model
row_lengths r state = r.state
row_lengths r saves = r.saves
row_lengths r clock = size clock
row_lengths r search = r.search

-- ---- calls

-- how many numbers there are to lend of each part, of outputs and of answers
pub record Room : Type 0 where
  pub parts : Part → ℕ
  pub outputs : ℕ
  pub answers : ℕ

-- each row has an output, of a listing's length, and an answer of its own
unfoldable pub room_after : Room → Room
room_after x = record { parts = x.parts; outputs = x.outputs - output_width; answers = x.answers - answer_width }

-- a row of one of the kinds, that asks for no more than there is: its text and its lists stand in so many bytes and numbers, what it lends is there, and its output is in its own part
unfoldable pub fits : Row → (texts numbers words : ℕ) → (Part → ℕ) → (outputs : ℕ) → Bool
fits r texts numbers words parts outputs =
    leb open_kind r.kind && (leb r.kind last_kind
    && (leb (r.text + r.size) texts && (leb (r.from + r.count) numbers && (leb (r.start + r.words) words
    && (all_parts (λ (p : Part). leb (row_lengths r p) (parts p)) row_parts && (leb r.output outputs && leb r.output output_width))))))

-- the bytes of a row's text or name
unfoldable pub row_text : List ℕ → Row → List ℕ
row_text texts r = take r.size (drop r.text texts)

-- 02, note 4: the waiting draws of a row
unfoldable pub row_draws : List ℕ → Row → List ℕ
row_draws numbers r = take r.count (drop r.from numbers)

-- R.1: the words of a row
unfoldable pub row_words : List ℕ → Row → List ℕ
row_words words r = take r.words (drop r.start words)

-- 01, Rule machine: what a row that fits asks: a text or a draw; 02, note 11: or a text under the steady profile; note 2: or a name; note 4: or waiting draws and a draw; notes 8 and 10: or a name and a depth; note 10: or a number of states; R.6: or words, waiting draws and a limit, with the length of the events' buffer
unfoldable pub row_ask : (texts numbers words : List ℕ) → Row → Ask
row_ask texts numbers words r =
    cond (eqb r.kind open_kind) (open' (row_text texts r))
    (cond (eqb r.kind steady_kind) (open_steady' (row_text texts r))
    (cond (eqb r.kind search_kind) (on' (search' (row_text texts r) r.number))
    (cond (eqb r.kind begin_kind) (on' (begin' (row_text texts r) r.number))
    (cond (eqb r.kind carry_kind) (on' (carry' r.number))
    (cond (eqb r.kind run_kind) (on' (run' (row_words words r) (row_draws numbers r) r.number r.output))
    (cond (eqb r.kind list_kind) (on' list')
    (cond (eqb r.kind report_kind) (on' report')
    (cond (eqb r.kind step_kind) (on' (step' r.number))
    (cond (eqb r.kind timed_kind) (on' (timed' (row_draws numbers r) r.number))
    (cond (eqb r.kind save_kind) (on' (save' (row_text texts r)))
    (cond (eqb r.kind return_kind) (on' (return' (row_text texts r))) (on' (forget' (row_text texts r))))))))))))))

-- 01, Rule machine: its call, with the lengths of what is lent
unfoldable pub row_call : (texts numbers words : List ℕ) → Row → Call
row_call texts numbers words r = call (row_ask texts numbers words r) (row_lengths r) r.output

-- a row is a call where it fits and there is room for its answer
unfoldable pub call_of : (texts numbers words : List ℕ) → Room → Row → Option Call
call_of texts numbers words x r = cond (leb answer_width x.answers && fits r (length texts) (length numbers) (length words) x.parts x.outputs) (some (row_call texts numbers words r)) none

-- the call of the first row of a script
unfoldable pub first_call : (script texts numbers words : List ℕ) → Room → Option Call
first_call script texts numbers words x = cond (leb row_width (length script)) (call_of texts numbers words x (row_of script)) none

-- 01, Rule machine: the calls of rows, up to the first that is none
unfoldable pub calls_of : (texts numbers words : List ℕ) → Room → List Row → List Call
calls_of texts numbers words x [] = []
calls_of texts numbers words x (r ∷ rs) = Option-elim (call_of texts numbers words x r) [] (λ c. c ∷ calls_of texts numbers words (room_after x) rs)

-- 01, Rule machine: the calls that a script makes, told by the script, the texts, the waiting draws, the words and the lengths of what is lent
unfoldable pub calls_in : (script texts numbers words : List ℕ) → Room → List Call
calls_in script texts numbers words x = calls_of texts numbers words x (rows_of script)
