-- The starred specimens of 01 and 02, a row for each: a text, byte for byte, the calls made once it is opened, every answer of the rule machine, and the machine
-- that is left: the model that the text opens, with state, saves and clock.
-- That each row holds is proofs/Starred.antt. Assumes nothing: these are definitions.
use Rattle.std.specs.Prelude.{◌≡◌, List, [], ◌∷◌, map, ℕ, ℤ, pos, negsuc}
use Rattle.std.proofs.Math.Option.{Option, none, some}
use Rattle.value.specs.Items.{one_item}
use Rattle.model.specs.Opening.{Opening, refused, opened, opening}
use Rattle.model.specs.Texts as texts
use Rattle.rules.specs.Offers as offers
use Rattle.rules.specs.Kind as kind
use Rattle.rules.specs.Rules.{key}
use Rattle.rules.specs.Listing.{Entry, entry}
use Rattle.clock.specs.declared.Clock.{Clock}
use Rattle.machine.specs.Offer.{Process}
use Rattle.machine.specs.State.{State}
use Rattle.machine.specs.Saves.{Saves}
use Rattle.machine.specs.Machine.{listing_length, as_lent, filled, Answer, no, held_all, list', step', Ask, open', on', size, Call, call, Machine, closed, holding, answers, after}

-- 01, Specimens: those with a star, in 01's order
pub data Specimen : Type 0 where
  sheet : Specimen  -- this sheet
  row_one : Specimen  -- draw 299999999 takes row one
  row_two : Specimen  -- 300000000 row two
  minus_by_two : Specimen  -- 02, note 3: −7/2 is −4
  by_minus_two : Specimen  -- so is 7/−2
  both_minus : Specimen  -- while −7/−2 is 3
  turned : Specimen  -- 02, note 1: −2147483648/−1 is 2147483648
  three_and_five : Specimen  -- `3..5\4` holds 3 and 5
  unlit : Specimen  -- launch, launch, kill
  unbound : Specimen  -- two matching pairs: one entry unbound
  two_bound : Specimen  -- and two bound
  enabled : Specimen  -- a check on no pairs
  no_handshake : Specimen  -- one process both sending and receiving
  bracket : Specimen  -- a missing bracket gives 5, place 15

-- what a machine holds beside its model
pub record Left : Type 0 where
  pub state : State
  pub saves : Saves
  pub clock : Clock

-- what a row says of a list of calls: the answers, and what the machine is left with; none: it is closed
pub record Expected : Type 0 where
  pub answered : List Answer
  pub left : Option Left

-- what comes of a list of calls: the answers, and the machine after them
pub record Result : Type 0 where
  pub answered : List Answer
  pub left : Option Machine

-- the machine that holds this over the model of an opening; none where the opening has no model
unfoldable pub machine_with : Opening → Option Left → Option Machine
machine_with (opened m) (some x) = some (holding (held_all m x.state x.saves x.clock))
machine_with (opened m) none = some closed
machine_with (refused n p) (some x) = none
machine_with (refused n p) none = some closed

-- that, with the answers that a row says
abbrev pub due : Opening → Expected → Result
due o e = record { answered = e.answered; left = machine_with o e.left }

-- a call that is lent parts of the right lengths, and an output of this one
abbrev pub lent : Ask → ℕ → Call
lent k o = call k size o

-- a text that is opened in a fresh machine, the calls made after it, and what comes of all of them
pub record Row : Type 0 where
  pub text : List ℕ
  pub calls : List Call
  pub expected : Expected

-- 01, Specimens: the rule machine gives these answers, and is left as it is here, as a whole
unfoldable pub Holds : Row → Type 0
Holds r = let cs = lent (open' r.text) 0 ∷ r.calls in record { answered = answers closed cs; left = some (after closed cs) } ≡ due (opening r.text) r.expected

-- ---- the texts, but for the two that 01 has in full (crate model, Texts)

-- A[]={c![-7/2],1}.{c?[-4],1};A[];
abbrev pub minus_by_two_text : List ℕ
minus_by_two_text = 65 ∷ 91 ∷ 93 ∷ 61 ∷ 123 ∷ 99 ∷ 33 ∷ 91 ∷ 45 ∷ 55 ∷ 47 ∷ 50 ∷ 93 ∷ 44 ∷ 49 ∷ 125 ∷ 46 ∷ 123 ∷ 99 ∷ 63 ∷ 91 ∷ 45 ∷ 52 ∷ 93 ∷ 44 ∷ 49 ∷ 125 ∷ 59 ∷ 65 ∷ 91 ∷ 93 ∷ 59 ∷ []

-- A[]={c![7/-2],1}.{c?[-4],1};A[];
abbrev pub by_minus_two_text : List ℕ
by_minus_two_text = 65 ∷ 91 ∷ 93 ∷ 61 ∷ 123 ∷ 99 ∷ 33 ∷ 91 ∷ 55 ∷ 47 ∷ 45 ∷ 50 ∷ 93 ∷ 44 ∷ 49 ∷ 125 ∷ 46 ∷ 123 ∷ 99 ∷ 63 ∷ 91 ∷ 45 ∷ 52 ∷ 93 ∷ 44 ∷ 49 ∷ 125 ∷ 59 ∷ 65 ∷ 91 ∷ 93 ∷ 59 ∷ []

-- A[]={c![-7/-2],1}.{c?[3],1};A[];
abbrev pub both_minus_text : List ℕ
both_minus_text = 65 ∷ 91 ∷ 93 ∷ 61 ∷ 123 ∷ 99 ∷ 33 ∷ 91 ∷ 45 ∷ 55 ∷ 47 ∷ 45 ∷ 50 ∷ 93 ∷ 44 ∷ 49 ∷ 125 ∷ 46 ∷ 123 ∷ 99 ∷ 63 ∷ 91 ∷ 51 ∷ 93 ∷ 44 ∷ 49 ∷ 125 ∷ 59 ∷ 65 ∷ 91 ∷ 93 ∷ 59 ∷ []

-- A[]={c![-2147483648/-1],1}.{c?[2147483648],1};A[];
abbrev pub turned_text : List ℕ
turned_text = 65 ∷ 91 ∷ 93 ∷ 61 ∷ 123 ∷ 99 ∷ 33 ∷ 91 ∷ 45 ∷ 50 ∷ 49 ∷ 52 ∷ 55 ∷ 52 ∷ 56 ∷ 51 ∷ 54 ∷ 52 ∷ 56 ∷ 47 ∷ 45 ∷ 49 ∷ 93 ∷ 44 ∷ 49 ∷ 125 ∷ 46 ∷ 123 ∷ 99 ∷ 63 ∷ 91 ∷ 50 ∷ 49 ∷ 52 ∷ 55 ∷ 52 ∷ 56 ∷ 51 ∷ 54 ∷ 52 ∷ 56 ∷ 93 ∷ 44 ∷ 49 ∷ 125 ∷ 59 ∷ 65 ∷ 91 ∷ 93 ∷ 59 ∷ []

-- A[]={@c?[3..5\4],1};B[x]={@c![x],1};A[]||B[3]||B[4]||B[5];
abbrev pub without_text : List ℕ
without_text = 65 ∷ 91 ∷ 93 ∷ 61 ∷ 123 ∷ 64 ∷ 99 ∷ 63 ∷ 91 ∷ 51 ∷ 46 ∷ 46 ∷ 53 ∷ 92 ∷ 52 ∷ 93 ∷ 44 ∷ 49 ∷ 125 ∷ 59 ∷ 66 ∷ 91 ∷ 120 ∷ 93 ∷ 61 ∷ 123 ∷ 64 ∷ 99 ∷ 33 ∷ 91 ∷ 120 ∷ 93 ∷ 44 ∷ 49 ∷ 125 ∷ 59 ∷ 65 ∷ 91 ∷ 93 ∷ 124 ∷ 124 ∷ 66 ∷ 91 ∷ 51 ∷ 93 ∷ 124 ∷ 124 ∷ 66 ∷ 91 ∷ 52 ∷ 93 ∷ 124 ∷ 124 ∷ 66 ∷ 91 ∷ 53 ∷ 93 ∷ 59 ∷ []

-- A[]={c![1],1}.{c![1],1}.{c#[1],1}.{~c?[1],1};A[];
abbrev pub unlit_text : List ℕ
unlit_text = 65 ∷ 91 ∷ 93 ∷ 61 ∷ 123 ∷ 99 ∷ 33 ∷ 91 ∷ 49 ∷ 93 ∷ 44 ∷ 49 ∷ 125 ∷ 46 ∷ 123 ∷ 99 ∷ 33 ∷ 91 ∷ 49 ∷ 93 ∷ 44 ∷ 49 ∷ 125 ∷ 46 ∷ 123 ∷ 99 ∷ 35 ∷ 91 ∷ 49 ∷ 93 ∷ 44 ∷ 49 ∷ 125 ∷ 46 ∷ 123 ∷ 126 ∷ 99 ∷ 63 ∷ 91 ∷ 49 ∷ 93 ∷ 44 ∷ 49 ∷ 125 ∷ 59 ∷ 65 ∷ 91 ∷ 93 ∷ 59 ∷ []

-- A[]={c![1],1}.{c![2],1}.{c?[1..2],1};A[];
abbrev pub unbound_text : List ℕ
unbound_text = 65 ∷ 91 ∷ 93 ∷ 61 ∷ 123 ∷ 99 ∷ 33 ∷ 91 ∷ 49 ∷ 93 ∷ 44 ∷ 49 ∷ 125 ∷ 46 ∷ 123 ∷ 99 ∷ 33 ∷ 91 ∷ 50 ∷ 93 ∷ 44 ∷ 49 ∷ 125 ∷ 46 ∷ 123 ∷ 99 ∷ 63 ∷ 91 ∷ 49 ∷ 46 ∷ 46 ∷ 50 ∷ 93 ∷ 44 ∷ 49 ∷ 125 ∷ 59 ∷ 65 ∷ 91 ∷ 93 ∷ 59 ∷ []

-- A[]={c![1],1}.{c![2],1}.{c?[1..2](x),1};A[];
abbrev pub bound_text : List ℕ
bound_text = 65 ∷ 91 ∷ 93 ∷ 61 ∷ 123 ∷ 99 ∷ 33 ∷ 91 ∷ 49 ∷ 93 ∷ 44 ∷ 49 ∷ 125 ∷ 46 ∷ 123 ∷ 99 ∷ 33 ∷ 91 ∷ 50 ∷ 93 ∷ 44 ∷ 49 ∷ 125 ∷ 46 ∷ 123 ∷ 99 ∷ 63 ∷ 91 ∷ 49 ∷ 46 ∷ 46 ∷ 50 ∷ 93 ∷ 40 ∷ 120 ∷ 41 ∷ 44 ∷ 49 ∷ 125 ∷ 59 ∷ 65 ∷ 91 ∷ 93 ∷ 59 ∷ []

-- A[]={~c?[1],1};A[];
abbrev pub check_text : List ℕ
check_text = 65 ∷ 91 ∷ 93 ∷ 61 ∷ 123 ∷ 126 ∷ 99 ∷ 63 ∷ 91 ∷ 49 ∷ 93 ∷ 44 ∷ 49 ∷ 125 ∷ 59 ∷ 65 ∷ 91 ∷ 93 ∷ 59 ∷ []

-- A[]={@c![1],1}+{@c?[1],1};A[];
abbrev pub both_text : List ℕ
both_text = 65 ∷ 91 ∷ 93 ∷ 61 ∷ 123 ∷ 64 ∷ 99 ∷ 33 ∷ 91 ∷ 49 ∷ 93 ∷ 44 ∷ 49 ∷ 125 ∷ 43 ∷ 123 ∷ 64 ∷ 99 ∷ 63 ∷ 91 ∷ 49 ∷ 93 ∷ 44 ∷ 49 ∷ 125 ∷ 59 ∷ 65 ∷ 91 ∷ 93 ∷ 59 ∷ []

-- ---- calls and answers

-- a list call that is lent what it asks for
abbrev pub lists : Call
lists = lent (on' list') listing_length

-- a step with this draw
abbrev pub steps : ℕ → Call
steps d = lent (on' (step' d)) listing_length

-- an accepted opening
abbrev pub is_open : Answer
is_open = no 0 0 0 as_lent

-- an entry of this kind at place 0 and branch 0, with rate 1
abbrev pub one : ℕ → Entry
one c = entry (key c 0 0 0 0 0) 100000000

-- an accepted list or step: entry count, total, the chosen entry's number, the entries
abbrev pub listed : ℕ → ℕ → ℕ → List Entry → Answer
listed n t c es = record { number = 0; place = 0; branch = 0; count = n; total = t; chosen = c; run = []; used = []; listing = filled es }

-- the only entry is of this kind, with rate 1; a step takes it
abbrev pub only : ℕ → Answer
only c = listed 1 100000000 0 (one c ∷ [])

-- the sheet's two rows
abbrev pub sheet_rows : List Entry
sheet_rows = entry (key kind.handshake 0 0 2 0 0) 300000000 ∷ entry (key kind.wait 0 1 0 0 0) 25000000 ∷ []

-- ---- states

-- a process of sum n and definition d with these locals
abbrev pub process : ℕ → List ℤ → ℕ → Process
process n ls d = record { sum = n; locals = ls; definition = d }

-- the sheet's two lamps and post
abbrev pub bench : ℕ → ℕ → ℕ → State
bench x y z = record { processes = process 0 (pos x ∷ []) 0 ∷ process 0 (pos y ∷ []) 0 ∷ process 1 (pos z ∷ []) 1 ∷ []; pairs = [] }

-- one process, at sum n of the first definition, and these values lit on the channel with the first name
abbrev pub alone : ℕ → List ℤ → State
alone n vs = record { processes = process n [] 0 ∷ []; pairs = map (λ v. record { channel = one_item (offers.named 0); values = v ∷ [] }) vs }

-- no place has a save
abbrev pub unsaved : Saves
unsaved = none ∷ none ∷ none ∷ none ∷ none ∷ none ∷ none ∷ none ∷ []

-- answers and the state afterwards, with nothing saved and no time gone by
abbrev pub leaving : List Answer → State → Expected
leaving xs s = record { answered = xs; left = some (record { state = s; saves = unsaved; clock = record { ticks = 0; draws = 0 } }) }

-- ---- the rows

-- 01, Specimens: what each one says
unfoldable pub row : Specimen → Row
row sheet = record { text = texts.sheet; calls = lists ∷ []; expected = leaving (is_open ∷ listed 2 325000000 0 sheet_rows ∷ []) (bench 1 4 1) }
row row_one = record { text = texts.sheet; calls = steps 299999999 ∷ []; expected = leaving (is_open ∷ listed 2 325000000 0 sheet_rows ∷ []) (bench 2 4 1) }
row row_two = record { text = texts.sheet; calls = steps 300000000 ∷ []; expected = leaving (is_open ∷ listed 2 325000000 1 sheet_rows ∷ []) (bench 2 4 1) }
-- the quotient is launched, and the answer, −4, 3 or 2147483648, is received
row minus_by_two = record { text = minus_by_two_text; calls = steps 0 ∷ lists ∷ []; expected = leaving (is_open ∷ only kind.launch ∷ only kind.receive ∷ []) (alone 1 (negsuc 3 ∷ [])) }
row by_minus_two = record { text = by_minus_two_text; calls = steps 0 ∷ lists ∷ []; expected = leaving (is_open ∷ only kind.launch ∷ only kind.receive ∷ []) (alone 1 (negsuc 3 ∷ [])) }
row both_minus = record { text = both_minus_text; calls = steps 0 ∷ lists ∷ []; expected = leaving (is_open ∷ only kind.launch ∷ only kind.receive ∷ []) (alone 1 (pos 3 ∷ [])) }
row turned = record { text = turned_text; calls = steps 0 ∷ lists ∷ []; expected = leaving (is_open ∷ only kind.launch ∷ only kind.receive ∷ []) (alone 1 (pos 2147483648 ∷ [])) }
-- of three processes that send 3, 4 and 5, the first and the third are heard
row three_and_five = record { text = without_text; calls = lists ∷ []; expected = leaving (is_open ∷ listed 2 200000000 0 (entry (key kind.handshake 1 0 0 0 0) 100000000 ∷ entry (key kind.handshake 3 0 0 0 0) 100000000 ∷ []) ∷ []) (record { processes = process 0 [] 0 ∷ process 1 (pos 3 ∷ []) 1 ∷ process 1 (pos 4 ∷ []) 1 ∷ process 1 (pos 5 ∷ []) 1 ∷ []; pairs = [] }) }
-- after them a check for the pair is enabled
row unlit = record { text = unlit_text; calls = steps 0 ∷ steps 0 ∷ steps 0 ∷ lists ∷ []; expected = leaving (is_open ∷ only kind.launch ∷ only kind.launch ∷ only kind.kill ∷ only kind.check ∷ []) (alone 3 []) }
row unbound = record { text = unbound_text; calls = steps 0 ∷ steps 0 ∷ lists ∷ []; expected = leaving (is_open ∷ only kind.launch ∷ only kind.launch ∷ only kind.receive ∷ []) (alone 2 (pos 1 ∷ pos 2 ∷ [])) }
row two_bound = record { text = bound_text; calls = steps 0 ∷ steps 0 ∷ lists ∷ []; expected = leaving (is_open ∷ only kind.launch ∷ only kind.launch ∷ listed 2 200000000 0 (one kind.bind ∷ entry (key kind.bind 0 0 0 0 1) 100000000 ∷ []) ∷ []) (alone 2 (pos 1 ∷ pos 2 ∷ [])) }
row enabled = record { text = check_text; calls = lists ∷ []; expected = leaving (is_open ∷ only kind.check ∷ []) (alone 0 []) }
row no_handshake = record { text = both_text; calls = lists ∷ []; expected = leaving (is_open ∷ listed 0 0 0 [] ∷ []) (alone 0 []) }
row bracket = record { text = texts.bracket; calls = []; expected = record { answered = no 5 15 0 as_lent ∷ []; left = none } }
