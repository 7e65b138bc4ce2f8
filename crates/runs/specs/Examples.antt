-- Small trees, evaluated (02, notes 8 to 10).
use Rattle.std.specs.Prelude.{◌≡◌, refl, List, [], ◌∷◌, true, false, ℕ, get_or}
use Rattle.std.proofs.Math.Option.{none, some, Option-elim}
use Rattle.runs.specs.Tree.{idle, refused, leads, Listed, unlisted, lists, way_in, found, nothing, unsure}
use Rattle.runs.specs.Walk.{behind, end_of, of_way, of_ways, of_listed, events, events_from, levels, walk, next, later_same, later, runs_of, led, follows, ending, judge, search, next_of, met_before}
use Rattle.runs.specs.Steps.{begun, under, ended, onto, walked, turn, carry, calls, states}
use Rattle.runs.specs.Marks.{mark, unmarked, going, gone, stepped, settled_by, ahead, onward, onwards, settled, carry_on, is_mark}

-- a state is a number of a list of listings
unfoldable pub over : List (Listed ℕ) → ℕ → Listed ℕ
over ls s = get_or ls s unlisted

-- state 0 weighs its first entry nothing, leads to 1 and to 2; 1 leads back; 2 has the wait
unfoldable pub small : List (Listed ℕ)
small = lists (idle ∷ leads false 1 ∷ leads false 2 ∷ []) ∷ lists (leads false 0 ∷ []) ∷ lists (leads true 0 ∷ []) ∷ []

-- the same, with an entry of 1 that is refused in the place of the wait
unfoldable pub broken : List (Listed ℕ)
broken = lists (leads false 1 ∷ []) ∷ lists (refused ∷ []) ∷ []

-- notes 8 to 10: each row is evaluated
pub record Rows : Type 0 where
  -- by length from zero, then by entry numbers
  pub in_order : runs_of (walk (over small) 0 2) ≡ [] ∷ (1 ∷ []) ∷ (2 ∷ []) ∷ (1 ∷ 0 ∷ []) ∷ (2 ∷ 0 ∷ []) ∷ []
  -- the earliest run; none within one entry
  pub earliest-run : search (over small) 0 8 ≡ found (2 ∷ 0 ∷ [])
  pub too-deep : search (over small) 0 1 ≡ nothing
  -- 27: an entry is refused within the depth; with a depth of 1 it isn't met
  pub not-sure : search (over broken) 0 2 ≡ unsure
  pub not-met : search (over broken) 0 1 ≡ nothing
  -- three states, then two more, the last of which is the wait's
  pub in-steps : calls (over small) 0 8 (3 ∷ 2 ∷ []) (under 0 begun) ≡ ended 5 (found (2 ∷ 0 ∷ []))

pub rows : Rows
unfolding over small broken behind end_of of_way of_ways of_listed events events_from levels walk next later_same later runs_of ending judge search next_of met_before way_in begun onto walked turn carry calls
rows = record { in_order = refl; earliest-run = refl; too-deep = refl; not-sure = refl; not-met = refl; in-steps = refl }

-- note 10: pieces from the beginning on; each row is evaluated
pub record Pieces : Type 0 where
  -- the empty run is counted first; by 0 nothing is walked
  pub empty_run : carry_on (over small) 0 2 1 (going 0 unmarked) ≡ going 1 (mark (some []) false)
  pub by_zero : carry_on (over small) 0 2 0 (going 0 unmarked) ≡ going 0 (mark none false)
  -- runs of the full depth are counted; the call that walks the last run says that the search has ended, by just so many states or by more
  pub but_one : carry_on (over small) 0 1 2 (going 0 unmarked) ≡ going 2 (mark (some (1 ∷ [])) false)
  pub last_run : carry_on (over small) 0 1 1 (going 2 (mark (some (1 ∷ [])) false)) ≡ gone 3 nothing
  pub past_end : carry_on (over small) 0 1 9 (going 0 unmarked) ≡ gone 3 nothing
  -- the fifth is the first to the wait
  pub at_wait : carry_on (over small) 0 8 2 (going 3 (mark (some (2 ∷ [])) false)) ≡ gone 5 (found (2 ∷ 0 ∷ []))
  -- 27: the entry that is refused isn't counted
  pub refused_after : carry_on (over broken) 0 2 2 (going 0 unmarked) ≡ gone 2 unsure
  -- a position that no beginning leaves, the last run of the walk under another count: by 0 it stays, and by more nothing is left
  pub lent_last : carry_on (over small) 0 2 0 (going 9 (mark (some (2 ∷ 0 ∷ [])) true)) ≡ going 9 (mark (some (2 ∷ 0 ∷ [])) true)
  pub lent_over : carry_on (over small) 0 2 1 (going 9 (mark (some (2 ∷ 0 ∷ [])) true)) ≡ gone 9 unsure
  -- how many states there are in all: up to the first to the wait, or all
  pub in_all : states (walk (over small) 0 2) ≡ 5
  pub all_three : states (walk (over small) 0 1) ≡ 3
  -- the exact test: a run from the start within the depth, absent exactly when the count is 0
  pub kept : is_mark (over small) 0 2 4 (some (1 ∷ 0 ∷ [])) ≡ true
  pub none_kept : is_mark (over small) 0 2 0 none ≡ true
  pub too_long : is_mark (over small) 0 1 4 (some (1 ∷ 0 ∷ [])) ≡ false
  pub weightless : is_mark (over small) 0 2 4 (some (0 ∷ [])) ≡ false
  pub none_counted : is_mark (over small) 0 2 0 (some []) ≡ false
  pub none_there : is_mark (over small) 0 2 1 none ≡ false

pub in_pieces : Pieces
unfolding over small broken behind end_of of_way of_ways of_listed events events_from levels walk next later_same later led follows ending next_of met_before way_in states stepped settled_by ahead onward onwards settled carry_on is_mark Option-elim
in_pieces =
    record {
      empty_run = refl;
      by_zero = refl;
      but_one = refl;
      last_run = refl;
      past_end = refl;
      at_wait = refl;
      refused_after = refl;
      lent_last = refl;
      lent_over = refl;
      in_all = refl;
      all_three = refl;
      kept = refl;
      none_kept = refl;
      too_long = refl;
      weightless = refl;
      none_counted = refl;
      none_there = refl;
    }
