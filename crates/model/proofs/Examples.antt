-- Small texts and what opening them gives, by computation: the bench sheet and a specimen of 01, both sides of a limit, texts for questions 7
-- to 10, channel names, groups in groups. A text that fits comes with its derivation.
use mathlib.Core.Path.{◌≡◌, refl}
use mathlib.Core.List.{List, [], ◌∷◌}
use mathlib.Core.Bool.{false}
use mathlib.Core.Option.{none, some}
use Prim.Native.Nat.{ℕ}
use lib.IntN.{pos, neg_ℤ}
use Rattle.grammar.specs.Grammar as derived
use Rattle.grammar.specs.Syntax.{plus}
use Rattle.value.specs.Items.{one_item}
use Rattle.model.specs.Good.{scale_limit}
use Rattle.model.specs.Resolved
use Rattle.model.specs.Words.{word_of}
use Rattle.model.specs.Opening.{refused, opened, opening}
use Rattle.model.specs.Texts.{sheet, bracket}
use Rattle.model.proofs.Computes.{judged_bytes, kinds_in, written, ran, judged_tree, placed, opens-so, stops_so}

-- ---- parts of derivations

-- a name; a whole number; a name and a whole number added
abbrev a_name : derived.Expr
a_name = derived.sum (derived.product derived.name derived.no_factors) derived.no_terms

abbrev a_whole : derived.Expr
a_whole = derived.sum (derived.product (derived.number derived.whole) derived.no_factors) derived.no_terms

abbrev next_one : derived.Expr
next_one = derived.sum (derived.product derived.name derived.no_factors) (derived.plus (derived.product (derived.number derived.whole) derived.no_factors) derived.no_terms)

-- a rate that is a whole number
abbrev a_rate : derived.Rate
a_rate = derived.plain (derived.fixed (derived.integer derived.whole))

-- a wait at the rate r
abbrev waits : derived.Rate → derived.Prefix
waits r = derived.prefix derived.no_gate derived.wait r derived.stop

-- {go,1}
abbrev go : derived.Prefix
go = waits a_rate

-- {c?[1](x),r}, then what follows
abbrev receives : derived.Rate → derived.Next → derived.Prefix
receives r n = derived.prefix derived.no_gate (derived.bind (derived.one_item a_name) (derived.one_set (derived.set (derived.single a_whole) derived.no_parts)) derived.last_name) r n

-- a prefix as a continuation
abbrev then : derived.Prefix → derived.Next
then p = derived.dot (derived.chain p)

-- a definition without parameters, and A[];
abbrev alone : derived.Prefix → derived.Start → derived.Model
alone p s = derived.definitions (derived.last_definition derived.no_params (derived.body p derived.no_choices derived.no_sums) (derived.last_start s))

abbrev once : derived.Start
once = derived.once derived.no_starts

abbrev counted : derived.Start
counted = derived.counted derived.no_starts

-- ---- 5

-- a missing bracket doesn't run on into the next definition
pub missing-bracket : opening bracket ≡ refused 5 15
unfolding judged_bytes kinds_in ran placed
missing-bracket = stops_so bracket 14 15 refl refl refl

-- a wait resolved, at a rate that is this scale
abbrev waiting : ℕ → Resolved.Scale → Resolved.Branch
waiting n r = record { gate = none; action = Resolved.wait n; rate = Resolved.plain r; next = [] }

-- {go,1} resolved
abbrev goes : Resolved.Branch
goes = waiting 5 (Resolved.fixed (pos 10000))

-- {c?[1](x),1} resolved, then what follows
abbrev receiving : List Resolved.Part → Resolved.Branch
receiving next =
    record { gate = none; action = Resolved.bind (one_item (Resolved.name 0)) (Resolved.single (Resolved.constant (pos 1)) ∷ []); rate = Resolved.plain (Resolved.fixed (pos 10000)); next = next }

-- a sum of one branch with n locals, of the first definition
abbrev sum_of : ℕ → Resolved.Branch → Resolved.Sum
sum_of n b = record { locals = n; definition = 0; branches = b ∷ [] }

-- one definition without parameters, of which the first sum is its own, with c channel names, started n times, in this text
abbrev several : List ℕ → List Resolved.Sum → ℕ → ℕ → Resolved.Model
several text ss c n =
    record { sums = ss; definitions = record { params = 0; sums = 0 ∷ [] } ∷ []; channels = c; starts = record { definition = 0; count = n; values = [] } ∷ []; words = word_of text }

-- with one sum
abbrev single : List ℕ → List Resolved.Branch → ℕ → ℕ → Resolved.Model
single text bs c n = several text (record { locals = 0; definition = 0; branches = bs } ∷ []) c n

-- ---- 7

-- A[]={go,1};256*A[];
abbrev most_text : List ℕ
most_text = 65 ∷ 91 ∷ 93 ∷ 61 ∷ 123 ∷ 103 ∷ 111 ∷ 44 ∷ 49 ∷ 125 ∷ 59 ∷ 50 ∷ 53 ∷ 54 ∷ 42 ∷ 65 ∷ 91 ∷ 93 ∷ 59 ∷ []

-- a count of 256 stands
pub most : opening most_text ≡ opened (single most_text (goes ∷ []) 0 256)
unfolding judged_bytes kinds_in written judged_tree
most = opens-so most_text (alone go counted) (opened (single most_text (goes ∷ []) 0 256)) refl refl refl

-- A[]={go,1};257*A[];
abbrev more_text : List ℕ
more_text = 65 ∷ 91 ∷ 93 ∷ 61 ∷ 123 ∷ 103 ∷ 111 ∷ 44 ∷ 49 ∷ 125 ∷ 59 ∷ 50 ∷ 53 ∷ 55 ∷ 42 ∷ 65 ∷ 91 ∷ 93 ∷ 59 ∷ []

-- one of 257 doesn't
pub more : opening more_text ≡ refused 7 11
unfolding judged_bytes kinds_in written judged_tree
more = opens-so more_text (alone go counted) (refused 7 11) refl refl refl

-- A[]={go,1099511627776};A[];
abbrev large_text : List ℕ
large_text = 65 ∷ 91 ∷ 93 ∷ 61 ∷ 123 ∷ 103 ∷ 111 ∷ 44 ∷ 49 ∷ 48 ∷ 57 ∷ 57 ∷ 53 ∷ 49 ∷ 49 ∷ 54 ∷ 50 ∷ 55 ∷ 55 ∷ 55 ∷ 54 ∷ 125 ∷ 59 ∷ 65 ∷ 91 ∷ 93 ∷ 59 ∷ []

-- a whole number out of range
pub large : opening large_text ≡ refused 7 8
unfolding judged_bytes kinds_in written judged_tree
large = opens-so large_text (alone go once) (refused 7 8) refl refl refl

-- A[]={go,-1099511627775};A[];
abbrev least_text : List ℕ
least_text = 65 ∷ 91 ∷ 93 ∷ 61 ∷ 123 ∷ 103 ∷ 111 ∷ 44 ∷ 45 ∷ 49 ∷ 48 ∷ 57 ∷ 57 ∷ 53 ∷ 49 ∷ 49 ∷ 54 ∷ 50 ∷ 55 ∷ 55 ∷ 55 ∷ 53 ∷ 125 ∷ 59 ∷ 65 ∷ 91 ∷ 93 ∷ 59 ∷ []

abbrev turned : derived.Model
turned = alone (waits (derived.plain (derived.fixed (derived.integer derived.negative)))) once

-- the least whole number stands
pub least : opening least_text ≡ opened (single least_text (waiting 5 (Resolved.fixed (neg_ℤ (pos scale_limit))) ∷ []) 0 1)
unfolding judged_bytes kinds_in written judged_tree
least = opens-so least_text turned (opened (single least_text (waiting 5 (Resolved.fixed (neg_ℤ (pos scale_limit))) ∷ []) 0 1)) refl refl refl

-- A[]={go,-1099511627776};A[];
abbrev below_text : List ℕ
below_text = 65 ∷ 91 ∷ 93 ∷ 61 ∷ 123 ∷ 103 ∷ 111 ∷ 44 ∷ 45 ∷ 49 ∷ 48 ∷ 57 ∷ 57 ∷ 53 ∷ 49 ∷ 49 ∷ 54 ∷ 50 ∷ 55 ∷ 55 ∷ 55 ∷ 54 ∷ 125 ∷ 59 ∷ 65 ∷ 91 ∷ 93 ∷ 59 ∷ []

-- one below it doesn't: its digits are at fault, not its `-`
pub below : opening below_text ≡ refused 7 9
unfolding judged_bytes kinds_in written judged_tree
below = opens-so below_text turned (refused 7 9) refl refl refl

-- ---- 8

-- A[x,x]={go,1};A[1,1];
abbrev twice_text : List ℕ
twice_text = 65 ∷ 91 ∷ 120 ∷ 44 ∷ 120 ∷ 93 ∷ 61 ∷ 123 ∷ 103 ∷ 111 ∷ 44 ∷ 49 ∷ 125 ∷ 59 ∷ 65 ∷ 91 ∷ 49 ∷ 44 ∷ 49 ∷ 93 ∷ 59 ∷ []

-- a parameter that is not new
pub twice : opening twice_text ≡ refused 8 4
unfolding judged_bytes kinds_in written judged_tree
twice =
    opens-so twice_text
    (derived.definitions (derived.last_definition (derived.params (derived.next_name derived.last_name)) (derived.body go derived.no_choices derived.no_sums) (derived.last_start (derived.once (derived.starts (derived.next_whole derived.whole (derived.last_whole derived.whole)))))))
    (refused 8 4) refl refl refl

-- A[]={c?[1](x),1}+{c?[1](x),1};A[];
abbrev apart_text : List ℕ
apart_text = 65 ∷ 91 ∷ 93 ∷ 61 ∷ 123 ∷ 99 ∷ 63 ∷ 91 ∷ 49 ∷ 93 ∷ 40 ∷ 120 ∷ 41 ∷ 44 ∷ 49 ∷ 125 ∷ 43 ∷ 123 ∷ 99 ∷ 63 ∷ 91 ∷ 49 ∷ 93 ∷ 40 ∷ 120 ∷ 41 ∷ 44 ∷ 49 ∷ 125 ∷ 59 ∷ 65 ∷ 91 ∷ 93 ∷ 59 ∷ []

-- two branches may bind the same name, as they don't meet
pub apart : opening apart_text ≡ opened (single apart_text (receiving [] ∷ receiving [] ∷ []) 1 1)
unfolding judged_bytes kinds_in written judged_tree
apart =
    opens-so apart_text
    (derived.definitions (derived.last_definition derived.no_params (derived.body (receives a_rate derived.stop) (derived.or (receives a_rate derived.stop) derived.no_choices) derived.no_sums) (derived.last_start once)))
    (opened (single apart_text (receiving [] ∷ receiving [] ∷ []) 1 1)) refl refl refl

-- A[]={c?[1](x),1}.{c?[1](x),1};A[];
abbrev meeting_text : List ℕ
meeting_text = 65 ∷ 91 ∷ 93 ∷ 61 ∷ 123 ∷ 99 ∷ 63 ∷ 91 ∷ 49 ∷ 93 ∷ 40 ∷ 120 ∷ 41 ∷ 44 ∷ 49 ∷ 125 ∷ 46 ∷ 123 ∷ 99 ∷ 63 ∷ 91 ∷ 49 ∷ 93 ∷ 40 ∷ 120 ∷ 41 ∷ 44 ∷ 49 ∷ 125 ∷ 59 ∷ 65 ∷ 91 ∷ 93 ∷ 59 ∷ []

-- one after the other do
pub meeting : opening meeting_text ≡ refused 8 24
unfolding judged_bytes kinds_in written judged_tree
meeting = opens-so meeting_text (alone (receives a_rate (then (receives a_rate derived.stop))) once) (refused 8 24) refl refl refl

-- ---- 9

-- A[]={c?[1](x),x};A[];
abbrev own_rate_text : List ℕ
own_rate_text = 65 ∷ 91 ∷ 93 ∷ 61 ∷ 123 ∷ 99 ∷ 63 ∷ 91 ∷ 49 ∷ 93 ∷ 40 ∷ 120 ∷ 41 ∷ 44 ∷ 120 ∷ 125 ∷ 59 ∷ 65 ∷ 91 ∷ 93 ∷ 59 ∷ []

-- a receive's own rate doesn't see the name it binds
pub own_rate : opening own_rate_text ≡ refused 9 14
unfolding judged_bytes kinds_in written judged_tree
own_rate = opens-so own_rate_text (alone (receives (derived.plain derived.named) derived.stop) once) (refused 9 14) refl refl refl

-- A[]={c?[1](x),1}.{go,x};A[];
abbrev follows_text : List ℕ
follows_text = 65 ∷ 91 ∷ 93 ∷ 61 ∷ 123 ∷ 99 ∷ 63 ∷ 91 ∷ 49 ∷ 93 ∷ 40 ∷ 120 ∷ 41 ∷ 44 ∷ 49 ∷ 125 ∷ 46 ∷ 123 ∷ 103 ∷ 111 ∷ 44 ∷ 120 ∷ 125 ∷ 59 ∷ 65 ∷ 91 ∷ 93 ∷ 59 ∷ []

-- what follows it does
pub follows : opening follows_text ≡ opened (several follows_text (sum_of 0 (receiving (Resolved.enter 1 ∷ [])) ∷ sum_of 1 (waiting 18 (Resolved.scale_local 0)) ∷ []) 1 1)
unfolding judged_bytes kinds_in written judged_tree
follows =
    opens-so follows_text
    (alone (receives a_rate (then (waits (derived.plain derived.named)))) once)
    (opened (several follows_text (sum_of 0 (receiving (Resolved.enter 1 ∷ [])) ∷ sum_of 1 (waiting 18 (Resolved.scale_local 0)) ∷ []) 1 1)) refl refl refl

-- g=0.5;A[]={go,1*g};A[];
abbrev decimal_value_text : List ℕ
decimal_value_text = 103 ∷ 61 ∷ 48 ∷ 46 ∷ 53 ∷ 59 ∷ 65 ∷ 91 ∷ 93 ∷ 61 ∷ 123 ∷ 103 ∷ 111 ∷ 44 ∷ 49 ∷ 42 ∷ 103 ∷ 125 ∷ 59 ∷ 65 ∷ 91 ∷ 93 ∷ 59 ∷ []

-- a decimal variable is no value in an expression
pub decimal_value : opening decimal_value_text ≡ refused 9 16
unfolding judged_bytes kinds_in written judged_tree
decimal_value =
    opens-so decimal_value_text
    (derived.variable derived.decimal (alone (waits (derived.scaled (derived.fixed (derived.integer derived.whole)) derived.name)) once))
    (refused 9 16) refl refl refl

-- g=0.5;A[]={go,g};A[];
abbrev decimal_scale_text : List ℕ
decimal_scale_text = 103 ∷ 61 ∷ 48 ∷ 46 ∷ 53 ∷ 59 ∷ 65 ∷ 91 ∷ 93 ∷ 61 ∷ 123 ∷ 103 ∷ 111 ∷ 44 ∷ 103 ∷ 125 ∷ 59 ∷ 65 ∷ 91 ∷ 93 ∷ 59 ∷ []

-- as a rate's scale it is one
pub decimal_scale : opening decimal_scale_text ≡ opened (single decimal_scale_text (waiting 9 (Resolved.fixed (pos 5000)) ∷ []) 0 1)
unfolding judged_bytes kinds_in written judged_tree
decimal_scale =
    opens-so decimal_scale_text
    (derived.variable derived.decimal (alone (waits (derived.plain derived.named)) once))
    (opened (single decimal_scale_text (waiting 9 (Resolved.fixed (pos 5000)) ∷ []) 0 1)) refl refl refl

-- A[]={(c)![1],1};A[];
abbrev bracketed_text : List ℕ
bracketed_text = 65 ∷ 91 ∷ 93 ∷ 61 ∷ 123 ∷ 40 ∷ 99 ∷ 41 ∷ 33 ∷ 91 ∷ 49 ∷ 93 ∷ 44 ∷ 49 ∷ 125 ∷ 59 ∷ 65 ∷ 91 ∷ 93 ∷ 59 ∷ []

-- a channel in brackets is no lone name
pub bracketed : opening bracketed_text ≡ refused 9 6
unfolding judged_bytes kinds_in written judged_tree
bracketed =
    opens-so bracketed_text
    (alone (derived.prefix derived.no_gate (derived.launch (derived.one_item (derived.sum (derived.product (derived.bracketed a_name) derived.no_factors) derived.no_terms)) (derived.one_value a_whole)) a_rate derived.stop) once)
    (refused 9 6) refl refl refl

-- ---- 10

-- A[]={go,1}||{go,1};129*A[];
abbrev crowd_text : List ℕ
crowd_text = 65 ∷ 91 ∷ 93 ∷ 61 ∷ 123 ∷ 103 ∷ 111 ∷ 44 ∷ 49 ∷ 125 ∷ 124 ∷ 124 ∷ 123 ∷ 103 ∷ 111 ∷ 44 ∷ 49 ∷ 125 ∷ 59 ∷ 49 ∷ 50 ∷ 57 ∷ 42 ∷ 65 ∷ 91 ∷ 93 ∷ 59 ∷ []

-- 258 processes
pub crowd : opening crowd_text ≡ refused 10 19
unfolding judged_bytes kinds_in written judged_tree
crowd =
    opens-so crowd_text
    (derived.definitions (derived.last_definition derived.no_params (derived.body go derived.no_choices (derived.beside go derived.no_choices derived.no_sums)) (derived.last_start counted)))
    (refused 10 19) refl refl refl

-- ---- channel names

-- {c![1],1}, then what follows
abbrev send : derived.Next → derived.Prefix
send n = derived.prefix derived.no_gate (derived.launch (derived.one_item a_name) (derived.one_value a_whole)) a_rate n

-- the same resolved as a sum, on channel name number c, then what follows
abbrev sends : ℕ → List Resolved.Part → Resolved.Sum
sends c next =
    sum_of 0 (record { gate = none; action = Resolved.launch (one_item (Resolved.name c)) (Resolved.constant (pos 1) ∷ []); rate = Resolved.plain (Resolved.fixed (pos 10000)); next = next })

-- A[]={c![1],1}.{d![1],1}.{c![1],1};A[];
abbrev channels_text : List ℕ
channels_text = 65 ∷ 91 ∷ 93 ∷ 61 ∷ 123 ∷ 99 ∷ 33 ∷ 91 ∷ 49 ∷ 93 ∷ 44 ∷ 49 ∷ 125 ∷ 46 ∷ 123 ∷ 100 ∷ 33 ∷ 91 ∷ 49 ∷ 93 ∷ 44 ∷ 49 ∷ 125 ∷ 46 ∷ 123 ∷ 99 ∷ 33 ∷ 91 ∷ 49 ∷ 93 ∷ 44 ∷ 49 ∷ 125 ∷ 59 ∷ 65 ∷ 91 ∷ 93 ∷ 59 ∷ []

-- they are numbered by first use
pub channels : opening channels_text ≡ opened (several channels_text (sends 0 (Resolved.enter 1 ∷ []) ∷ sends 1 (Resolved.enter 2 ∷ []) ∷ sends 0 [] ∷ []) 2 1)
unfolding judged_bytes kinds_in written judged_tree
channels =
    opens-so channels_text
    (alone (send (then (send (then (send derived.stop))))) once)
    (opened (several channels_text (sends 0 (Resolved.enter 1 ∷ []) ∷ sends 1 (Resolved.enter 2 ∷ []) ∷ sends 0 [] ∷ []) 2 1)) refl refl refl

-- ---- groups

-- A[]={go,1}.(A[]||(({go,1})||B[]));B[]={go,1};A[];
abbrev groups_text : List ℕ
groups_text = 65 ∷ 91 ∷ 93 ∷ 61 ∷ 123 ∷ 103 ∷ 111 ∷ 44 ∷ 49 ∷ 125 ∷ 46 ∷ 40 ∷ 65 ∷ 91 ∷ 93 ∷ 124 ∷ 124 ∷ 40 ∷ 40 ∷ 123 ∷ 103 ∷ 111 ∷ 44 ∷ 49 ∷ 125 ∷ 41 ∷ 124 ∷ 124 ∷ 66 ∷ 91 ∷ 93 ∷ 41 ∷ 41 ∷ 59 ∷ 66 ∷ 91 ∷ 93 ∷ 61 ∷ 123 ∷ 103 ∷ 111 ∷ 44 ∷ 49 ∷ 125 ∷ 59 ∷ 65 ∷ 91 ∷ 93 ∷ 59 ∷ []

-- (A[]||(({go,1})||B[]))
abbrev nested : derived.Cont
nested =
    derived.group (derived.item_call derived.no_args)
    (derived.also (derived.item_group (derived.item_group (derived.item_sum go derived.no_choices) derived.close) (derived.also (derived.item_call derived.no_args) derived.close)) derived.close)

abbrev groups_tree : derived.Model
groups_tree =
    derived.definitions
    (derived.next_definition derived.no_params (derived.body (derived.prefix derived.no_gate derived.wait a_rate (derived.dot nested)) derived.no_choices derived.no_sums)
    (derived.last_definition derived.no_params (derived.body go derived.no_choices derived.no_sums) (derived.last_start once)))

abbrev groups_model : Resolved.Model
groups_model =
    record {
      sums =
          sum_of 0
          (record { gate = none; action = Resolved.wait 5; rate = Resolved.plain (Resolved.fixed (pos 10000)); next = Resolved.call 0 [] ∷ Resolved.enter 1 ∷ Resolved.call 1 [] ∷ [] })
          ∷ sum_of 0 (waiting 18 (Resolved.fixed (pos 10000)))
          ∷ record { locals = 0; definition = 1; branches = waiting 35 (Resolved.fixed (pos 10000)) ∷ [] }
          ∷ [];
      definitions = record { params = 0; sums = 0 ∷ [] } ∷ record { params = 0; sums = 2 ∷ [] } ∷ [];
      channels = 0;
      starts = record { definition = 0; count = 1; values = [] } ∷ [];
      words = word_of groups_text;
    }

-- 01, Step: they are flattened left to right, here to A, {go,1} and B
pub groups : opening groups_text ≡ opened groups_model
unfolding judged_bytes kinds_in written judged_tree
groups = opens-so groups_text groups_tree (opened groups_model) refl refl refl

-- ---- the bench sheet

-- {@pass![n],2}.Lamp[n+1]
abbrev offer : derived.Prefix
offer = derived.prefix derived.no_gate (derived.hand_send (derived.one_item a_name) (derived.one_value a_name)) a_rate (derived.dot (derived.call (derived.args (derived.last_expr next_one))))

-- [n<3] -> {go,g*n}.Lamp[n+1]
abbrev glow : derived.Prefix
glow = derived.prefix (derived.gate (derived.cond (derived.holds a_name derived.less a_whole) derived.no_ands derived.no_ors)) derived.wait (derived.scaled derived.named derived.name) (derived.dot (derived.call (derived.args (derived.last_expr next_one))))

-- {@pass?[a..a+1](v),1.5}.Post[v]
abbrev accept : derived.Prefix
accept =
    derived.prefix derived.no_gate (derived.hand_bind (derived.one_item a_name) (derived.one_set (derived.set (derived.range a_name next_one) derived.no_parts)) derived.last_name) (derived.plain (derived.fixed derived.decimal))
    (derived.dot (derived.call (derived.args (derived.last_expr a_name))))

abbrev item : derived.Start
item = derived.once (derived.starts (derived.last_whole derived.whole))

abbrev sheet_tree : derived.Model
sheet_tree =
    derived.variable derived.decimal
    (derived.definitions
    (derived.next_definition (derived.params derived.last_name) (derived.body offer (derived.or glow derived.no_choices) derived.no_sums)
    (derived.last_definition (derived.params derived.last_name) (derived.body accept derived.no_choices derived.no_sums)
    (derived.next_start item (derived.next_start item (derived.last_start item))))))

-- n+1
abbrev increased : Resolved.Expr
increased = Resolved.binary plus (Resolved.local_at 0) (Resolved.constant (pos 1))

abbrev pub sheet_model : Resolved.Model
sheet_model =
    record {
      sums =
          record {
            locals = 1;
            definition = 0;
            branches =
                record { gate = none; action = Resolved.hand_send (one_item (Resolved.name 0)) (Resolved.local_at 0 ∷ []); rate = Resolved.plain (Resolved.fixed (pos 20000)); next = Resolved.call 0 (increased ∷ []) ∷ [] }
                ∷ record {
                  gate = some (Resolved.compare false derived.less (Resolved.local_at 0) (Resolved.constant (pos 3)));
                  action = Resolved.wait 34;
                  rate = Resolved.scaled (Resolved.fixed (pos 2500)) (Resolved.local_at 0);
                  next = Resolved.call 0 (increased ∷ []) ∷ [];
                }
                ∷ [];
          }
          ∷ record {
            locals = 1;
            definition = 1;
            branches =
                record {
                  gate = none;
                  action = Resolved.hand_bind (one_item (Resolved.name 0)) (Resolved.range (Resolved.local_at 0) increased ∷ []);
                  rate = Resolved.plain (Resolved.fixed (pos 15000));
                  next = Resolved.call 1 (Resolved.local_at 1 ∷ []) ∷ [];
                }
                ∷ [];
          }
          ∷ [];
      definitions = record { params = 1; sums = 0 ∷ [] } ∷ record { params = 1; sums = 1 ∷ [] } ∷ [];
      channels = 1;
      starts =
          record { definition = 0; count = 1; values = pos 1 ∷ [] } ∷ record { definition = 0; count = 1; values = pos 4 ∷ [] } ∷ record { definition = 1; count = 1; values = pos 1 ∷ [] } ∷ [];
      words = word_of sheet;
    }

-- 01, A bench sheet in full: the model it opens to
pub sheet-opens : opening sheet ≡ opened sheet_model
unfolding judged_bytes kinds_in written judged_tree
sheet-opens = opens-so sheet sheet_tree (opened sheet_model) refl refl refl
