-- Names of waits and their numbers in a small model, by computation: {b,1}.({a,1}+{b,1}) and, as a sum of its own, {c!1,1}.{a,1}. Its tokens 1, 7, 13 and 30 are waits.
use mathlib.Core.Path.{◌≡◌, refl}
use mathlib.Core.List.{List, [], ◌∷◌}
use mathlib.Core.Bool.{cond, ◌||◌}
use mathlib.Core.Option.{none, some}
use Prim.Native.Nat.{ℕ}
use lib.Dec.{eqb}
use lib.IntN.{pos}
use Rattle.value.specs.Items.{one_item}
use Rattle.token.specs.Token.{same_bytes}
use Rattle.model.specs.Lists.{each, any}
use Rattle.model.specs.Words.{same}
use Rattle.model.specs.Given.{place_in}
use Rattle.model.specs.Resolved
use Rattle.model.specs.Resolved.{firsts, or_zero}
use Rattle.waitnames.specs.Names.{wait_token, branch_waits, sum_waits, all_waits, insert, ascending, wait_tokens, name_tokens, wait_names, name_number, number_in, wait_number}

-- ---- a model

abbrev does : Resolved.Action → List Resolved.Part → Resolved.Branch
does a n = record { gate = none; action = a; rate = Resolved.plain (Resolved.fixed (pos 10000)); next = n }

abbrev sum_of : List Resolved.Branch → Resolved.Sum
sum_of b = record { locals = 0; definition = 0; branches = b }

-- a is 97, b is 98
abbrev bytes : ℕ → List ℕ
bytes k = cond (eqb k 7 || eqb k 30) (97 ∷ []) (98 ∷ [])

-- sums stand in no order here: numbers follow the text
abbrev small : Resolved.Model
small =
    record {
      sums = sum_of (does (Resolved.wait 30) [] ∷ []) ∷ sum_of (does (Resolved.wait 7) [] ∷ does (Resolved.wait 13) [] ∷ []) ∷ sum_of (does (Resolved.launch (one_item (Resolved.name 0)) (Resolved.constant (pos 1) ∷ [])) (Resolved.enter 0 ∷ []) ∷ does (Resolved.wait 1) (Resolved.enter 1 ∷ []) ∷ []) ∷ [];
      definitions = record { params = 0; sums = 2 ∷ [] } ∷ [];
      channels = 1;
      starts = [];
      words = bytes;
    }

-- ---- its waits

pub record Rows : Type 0 where
  -- in the order of the text, then the first of each name
  pub waits : wait_tokens small ≡ 1 ∷ 7 ∷ 13 ∷ 30 ∷ []
  pub first-met : name_tokens small ≡ 1 ∷ 7 ∷ []
  pub names : wait_names small ≡ (98 ∷ []) ∷ (97 ∷ []) ∷ []
  -- a later wait has the number of its name
  pub later-b : name_number small 13 ≡ 0
  pub later-a : name_number small 30 ≡ 1
  -- names lent as bytes: b, a, c, none, ab
  pub lent-b : wait_number small (98 ∷ []) ≡ some 0
  pub lent-a : wait_number small (97 ∷ []) ≡ some 1
  pub lent-c : wait_number small (99 ∷ []) ≡ none
  pub lent_nothing : wait_number small [] ≡ none
  pub lent_both : wait_number small (97 ∷ 98 ∷ []) ≡ none

pub rows : Rows
unfolding wait_number number_in wait_names name_number or_zero place_in name_tokens firsts wait_tokens ascending insert all_waits each any same sum_waits branch_waits wait_token same_bytes
rows =
    record {
      waits = refl;
      first-met = refl;
      names = refl;
      later-b = refl;
      later-a = refl;
      lent-b = refl;
      lent-a = refl;
      lent-c = refl;
      lent_nothing = refl;
      lent_both = refl;
    }
