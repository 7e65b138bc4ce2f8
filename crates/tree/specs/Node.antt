-- The nodes of a syntax tree as numbers: a kind and three fields of 16 bits. Assumes nothing: these are definitions.
use Rattle.std.specs.Prelude.{Bool, cond, ℕ, ◌+◌, ◌*◌, ◌/◌, ◌%◌}
use Rattle.grammar.specs.Grammar.{Relation, less, at_most, greater, at_least, same, differs}
use Rattle.grammar.specs.Syntax.{Op, plus, minus, times, divide, maximum, minimum, Join, without, union, inter}

-- how many numbers a field has
abbrev pub field : ℕ
field = 65536

-- a node: its kind, a token (or a sum's number), the root of its left part, and a third field
unfoldable pub cell : ℕ → ℕ → ℕ → ℕ → ℕ
cell kind token left third = kind + 256 * (token + 65536 * (left + 65536 * third))

unfoldable pub kind_of : ℕ → ℕ
kind_of c = c % 256

unfoldable pub token_of : ℕ → ℕ
token_of c = c / 256 % 65536

unfoldable pub left_of : ℕ → ℕ
left_of c = c / 16777216 % 65536

unfoldable pub third_of : ℕ → ℕ
third_of c = c / 1099511627776 % 65536

-- ---- kinds

-- a whole number; one with `-` before it; a name; abs
abbrev pub literal : ℕ
literal = 1

abbrev pub negative : ℕ
negative = 2

abbrev pub named : ℕ
named = 3

abbrev pub absolute : ℕ
absolute = 4

-- 5 to 10
unfoldable pub op_kind : Op → ℕ
op_kind plus = 5
op_kind minus = 6
op_kind times = 7
op_kind divide = 8
op_kind maximum = 9
op_kind minimum = 10

-- a set's range; 12 to 14 joined sets
abbrev pub range : ℕ
range = 11

unfoldable pub join_kind : Join → ℕ
join_kind without = 12
join_kind union = 13
join_kind inter = 14

-- 15 to 20 relations, 21 to 26 relations after `~`
unfoldable pub relation_kind : Relation → ℕ
relation_kind less = 15
relation_kind at_most = 16
relation_kind greater = 17
relation_kind at_least = 18
relation_kind same = 19
relation_kind differs = 20

unfoldable pub test_kind : Bool → Relation → ℕ
test_kind b r = cond b (relation_kind r + 6) (relation_kind r)

abbrev pub both : ℕ
both = 27

abbrev pub either : ℕ
either = 28

-- 29 a whole number of a rate or variable, 30 with `-`, 31 a decimal, 32 with `-`
unfoldable pub number_kind : Bool → Bool → ℕ
number_kind negated decimal = 29 + cond negated 1 0 + cond decimal 2 0

-- a rate's name; a rate with an atom
abbrev pub scale_name : ℕ
scale_name = 33

abbrev pub scaled : ℕ
scaled = 34

-- two values or two sets
abbrev pub pair : ℕ
pair = 35

-- actions
abbrev pub wait : ℕ
wait = 36

abbrev pub launch : ℕ
launch = 37

abbrev pub kill : ℕ
kill = 38

abbrev pub receive : ℕ
receive = 39

abbrev pub bind : ℕ
bind = 40

abbrev pub check : ℕ
check = 41

abbrev pub hand_send : ℕ
hand_send = 42

abbrev pub hand_receive : ℕ
hand_receive = 43

abbrev pub hand_bind : ℕ
hand_bind = 44

-- a branch without continuation; with one; with a gate; a branch and those after it; a sum
abbrev pub stop : ℕ
stop = 45

abbrev pub dot : ℕ
dot = 46

abbrev pub gate : ℕ
gate = 47

abbrev pub choice : ℕ
choice = 48

abbrev pub sum : ℕ
sum = 49

-- a call without values; with values; a value and those after it
abbrev pub call : ℕ
call = 50

abbrev pub call_with : ℕ
call_with = 51

abbrev pub argument : ℕ
argument = 52

-- a group; an item and those after it
abbrev pub group : ℕ
group = 53

abbrev pub item : ℕ
item = 54

-- a sum of a body and those after it; a definition
abbrev pub beside : ℕ
beside = 55

abbrev pub definition : ℕ
definition = 56

-- an item of the system line without values; with values; the same with a count; a whole number and those after it
abbrev pub start : ℕ
start = 57

abbrev pub start_with : ℕ
start_with = 58

abbrev pub counted : ℕ
counted = 59

abbrev pub counted_with : ℕ
counted_with = 60

abbrev pub whole : ℕ
whole = 61

-- an item of the system line and those after it; the last definition and the system line; a definition and those after it; a variable and what follows
abbrev pub system : ℕ
system = 62

abbrev pub last : ℕ
last = 63

abbrev pub next : ℕ
next = 64

abbrev pub variable : ℕ
variable = 65

-- a channel of two items; of three (66 is a channel name's, once it is settled)
abbrev pub two_items : ℕ
two_items = 67

abbrev pub three_items : ℕ
three_items = 68
