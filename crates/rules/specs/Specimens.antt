-- The starred specimens of 01 that concern rules, listing, draws and pairs, by computation, one to a row.
use Rattle.std.specs.Prelude.{◌≡◌, refl, List, [], ◌∷◌, true, false, cond, ℕ, ◌*◌, ℤ, pos, nat_abs, ◌+ℤ◌}
use Rattle.std.proofs.Math.Option.{none, some, Option-elim}
use Rattle.value.specs.Arithmetic.{is_less}
use Rattle.value.specs.Items.{one_item, two_items, three_items}
use Rattle.rules.specs.Offers.{Item, number, named, Channel, Pair, Set, range, without, within, Query, wait, launch, kill, receive, bind, check, send, take, take_bind, Guard, bare, opened, shut, Branch, State}
use Rattle.rules.specs.Order.{less}
use Rattle.rules.specs.Kind as kind
use Rattle.rules.specs.Rules.{key, unchanged, launched, killed}
use Rattle.rules.specs.Pairs.{item_kind, item_value, item_numbers, channel_numbers, numbers, before, insert, remove, pairs_after}
use Rattle.rules.specs.Listing.{same_item, same_channel, all_within, matches, any_match, entry, weight_of, gather, when, unless, partner_action, partner, partners_in, of_action, of_guard, of_process, entries}
use Rattle.rules.specs.Draw.{weights, total, chosen}
use Rattle.rules.specs.Step.{replace, replace_both, change_of, bound_by, values_at, sent_by, on_action, goes, at_branch, one_acts, both_act, step}

-- ---- 01, A bench sheet in full: Lamp[n] and Post[a]
pub data Proc : Type 0 where
  lamp post : ℤ → Proc

abbrev pass : Channel
pass = one_item (named 0)

-- {@pass![n],2}.Lamp[n+1] and a second branch, which goes on as Lamp[n+1] too
abbrev lamp_branches : ℤ → Guard → List (Branch Proc)
lamp_branches n g =
    record { guard = bare (send (record { channel = pass; values = n ∷ [] })) 20000; next = λ vs. lamp (n +ℤ pos 1) ∷ [] }
    ∷ record { guard = g; next = λ vs. lamp (n +ℤ pos 1) ∷ [] } ∷ []

abbrev first_of : List ℤ → ℤ
first_of [] = pos 0
first_of (v ∷ vs) = v

-- [n<3] -> {go,g*n}, where g is 0.25; {@pass?[a..a+1](v),1.5}.Post[v]
abbrev sheet_branches : Proc → List (Branch Proc)
sheet_branches (lamp n) = lamp_branches n (cond (is_less n (pos 3)) (opened wait (2500 * nat_abs n)) shut)
sheet_branches (post a) =
    record { guard = bare (take_bind (record { channel = pass; sets = range a (a +ℤ pos 1) ∷ [] })) 15000; next = λ vs. post (first_of vs) ∷ [] } ∷ []

abbrev sheet : State Proc
sheet = record { processes = lamp (pos 1) ∷ lamp (pos 4) ∷ post (pos 1) ∷ []; pairs = [] }

abbrev sheet_weights : List ℕ
sheet_weights = 300000000 ∷ 25000000 ∷ []

-- ---- the other specimens: processes that all have the same branches, and end
abbrev pair : ℕ → Pair
pair v = record { channel = pass; values = pos v ∷ [] }

-- 3..5\4
abbrev three_or_five : Set
three_or_five = without (range (pos 3) (pos 5)) (range (pos 4) (pos 4))

abbrev query : Query
query = record { channel = pass; sets = three_or_five ∷ [] }

abbrev ending : Guard → Branch (Unit {0})
ending g = record { guard = g; next = λ vs. [] }

abbrev one : Guard → Unit {0} → List (Branch (Unit {0}))
one g u = ending g ∷ []

-- a process that both sends and receives
abbrev both : Unit {0} → List (Branch (Unit {0}))
both u = ending (bare (send (pair 3)) 1) ∷ ending (bare (take query) 1) ∷ []

abbrev alone : List Pair → State (Unit {0})
alone L = record { processes = tt ∷ []; pairs = L }

-- 02, note 7: channels of one item, of two, and a pair on one of them
abbrev name : Channel
name = one_item (named 0)

abbrev list : Item → Item → Channel
list a b = two_items a b

abbrev on : Channel → List ℤ → Pair
on c vs = record { channel = c; values = vs }

pub rows :
    -- this sheet, and its total
    (entries sheet_branches sheet ≡ entry (key kind.handshake 0 0 2 0 0) 300000000 ∷ entry (key kind.wait 0 1 0 0 0) 25000000 ∷ [])
    × (weights (entries sheet_branches sheet) ≡ sheet_weights)
    × (total sheet_weights ≡ 325000000)
    -- draws: row one, row two, none
    × (chosen sheet_weights 299999999 ≡ some 0)
    × (chosen sheet_weights 300000000 ≡ some 1)
    × (chosen sheet_weights 325000000 ≡ none)
    -- row one hands 1 over, row two acts alone
    × (step sheet_branches sheet (key kind.handshake 0 0 2 0 0) ≡ goes unchanged (lamp (pos 2) ∷ lamp (pos 4) ∷ post (pos 1) ∷ []))
    × (step sheet_branches sheet (key kind.wait 0 1 0 0 0) ≡ goes unchanged (lamp (pos 2) ∷ lamp (pos 4) ∷ post (pos 1) ∷ []))
    -- 3..5\4 holds 3 and 5, not 4; 5..4 is empty at both ends
    × (within three_or_five (pos 3) ≡ true)
    × (within three_or_five (pos 4) ≡ false)
    × (within three_or_five (pos 5) ≡ true)
    × (within (range (pos 5) (pos 4)) (pos 4) ≡ false)
    × (within (range (pos 5) (pos 4)) (pos 5) ≡ false)
    -- launch, launch, kill: unlit
    × (pairs_after (killed (pair 1)) (pairs_after (launched (pair 1)) (pairs_after (launched (pair 1)) [])) ≡ [])
    -- two matching pairs: one entry unbound, two bound
    × (entries (one (bare (receive query) 10000)) (alone (pair 3 ∷ pair 4 ∷ pair 5 ∷ [])) ≡ entry (key kind.receive 0 0 0 0 0) 100000000 ∷ [])
    × (entries (one (bare (bind query) 10000)) (alone (pair 3 ∷ pair 4 ∷ pair 5 ∷ [])) ≡ entry (key kind.bind 0 0 0 0 0) 100000000 ∷ entry (key kind.bind 0 0 0 0 2) 100000000 ∷ [])
    -- a check on no pairs is enabled
    × (entries (one (bare (check query) 10000)) (alone []) ≡ entry (key kind.check 0 0 0 0 0) 100000000 ∷ [])
    -- a name is no number; rate 0 is listed
    × (matches query (record { channel = one_item (number (pos 0)); values = pos 3 ∷ [] }) ≡ false)
    × (entries (one (bare wait 0)) (alone []) ≡ entry (key kind.wait 0 0 0 0 0) 0 ∷ [])
    -- one process both sending and receiving: no handshake; two such processes: each sends to the other
    × (entries both (alone []) ≡ [])
    × (entries both (record { processes = tt ∷ tt ∷ []; pairs = [] }) ≡ entry (key kind.handshake 0 0 1 1 0) 1 ∷ entry (key kind.handshake 1 0 0 1 0) 1 ∷ [])
    -- the kinds of entries, each with its number
    × (entries (one (bare wait 1)) (alone []) ≡ entry (key 1 0 0 0 0 0) 10000 ∷ [])
    × (entries (one (bare (launch (pair 3)) 1)) (alone []) ≡ entry (key 2 0 0 0 0 0) 10000 ∷ [])
    × (entries (one (bare (kill (pair 3)) 1)) (alone []) ≡ entry (key 3 0 0 0 0 0) 10000 ∷ [])
    × (entries (one (bare (receive query) 1)) (alone (pair 3 ∷ [])) ≡ entry (key 4 0 0 0 0 0) 10000 ∷ [])
    × (entries (one (bare (bind query) 1)) (alone (pair 3 ∷ [])) ≡ entry (key 5 0 0 0 0 0) 10000 ∷ [])
    × (entries (one (bare (check query) 1)) (alone []) ≡ entry (key 6 0 0 0 0 0) 10000 ∷ [])
    × (entries both (record { processes = tt ∷ tt ∷ []; pairs = [] }) ≡ entry (key 7 0 0 1 1 0) 1 ∷ entry (key 7 1 0 0 1 0) 1 ∷ [])
    -- the numbers of a pair: count of items, kind (0 number, 1 name) and value of three, count, values
    × (numbers (record { channel = one_item (number (pos 6)); values = pos 8 ∷ pos 9 ∷ [] }) ≡ pos 1 ∷ pos 0 ∷ pos 6 ∷ pos 0 ∷ pos 0 ∷ pos 0 ∷ pos 0 ∷ pos 2 ∷ pos 8 ∷ pos 9 ∷ [])
    × (numbers (record { channel = three_items (named 6) (number (pos 5)) (named 4); values = pos 8 ∷ [] }) ≡ pos 3 ∷ pos 1 ∷ pos 6 ∷ pos 0 ∷ pos 5 ∷ pos 1 ∷ pos 4 ∷ pos 1 ∷ pos 8 ∷ [])
    -- 02, note 7: at equal length, item for item, a name only with that name
    × (same_channel (list (named 0) (number (pos 1))) (list (named 0) (number (pos 1))) ≡ true)
    × (same_channel (list (named 0) (number (pos 1))) (list (named 0) (number (pos 2))) ≡ false)
    × (same_channel (list (named 0) (number (pos 1))) (list (number (pos 0)) (number (pos 1))) ≡ false)
    × (same_channel (list (named 0) (number (pos 1))) (list (number (pos 1)) (named 0)) ≡ false)
    × (same_channel name (list (named 0) (number (pos 0))) ≡ false)
    -- 02, note 7: fewer items stand first, a number before a name
    × (before (on (one_item (number (pos 9))) (pos 9 ∷ [])) (on (list (number (pos 1)) (number (pos 1))) (pos 1 ∷ [])) ≡ true)
    × (before (on (list (number (pos 9)) (named 0)) (pos 9 ∷ [])) (on (list (named 0) (number (pos 1))) (pos 1 ∷ [])) ≡ true)
unfolding entries gather when unless of_process of_guard of_action partners_in partner partner_action matches same_channel same_item all_within within any_match weights weight_of total chosen step at_branch one_acts both_act on_action change_of bound_by values_at sent_by replace replace_both pairs_after insert remove before numbers channel_numbers item_numbers item_kind item_value less Option-elim
rows = (refl, refl, refl, refl, refl, refl, refl, refl, refl, refl, refl, refl, refl, refl, refl, refl, refl, refl, refl, refl, refl, refl, refl, refl, refl, refl, refl, refl, refl, refl, refl, refl, refl, refl, refl, refl, refl)
