-- A search in pieces by the run that was walked last, whether a refusal was met and the count, which are kept between two calls (02, note 10). Definitions only.
use Rattle.std.specs.Prelude.{List, [], Bool, true, false, cond, not, ◌&&◌, ℕ, zero, suc, eqb, leb, length}
use Rattle.std.proofs.Math.Option.{Option, none, some, Option-elim}
use Rattle.runs.specs.Tree.{Listed, Answer, found}
use Rattle.runs.specs.Walk.{later, follows, ending, Next, lost, finds, met_before, next_of}

-- note 10: where a search under way stands: the run that was walked last, absent before the first, and whether a refusal was met up to it
pub record Mark : Type 0 where
  pub last : Option (List ℕ)
  pub met : Bool

-- the two of them
abbrev pub mark : Option (List ℕ) → Bool → Mark
mark o m = record { last = o; met = m }

-- note 10: the beginning walks nothing
abbrev pub unmarked : Mark
unmarked = mark none false

-- note 10: what walking comes to, with the count of states since the beginning
pub data Going : Type 0 where
  going : (count : ℕ) → Mark → Going
  gone : (count : ℕ) → Answer → Going

-- note 10: the run that is found is walked; where none is left, the search has ended before
unfoldable pub stepped : ℕ → Next → Going
stepped c (lost m) = gone c (ending m)
stepped c (finds m h r) = cond h (gone (suc c) (found r)) (going (suc c) (mark (some r) m))

-- note 10: the search ends with the last run
unfoldable pub settled_by : ℕ → Mark → Next → Going
settled_by c p (lost m) = gone c (ending m)
settled_by c p (finds m h r) = going c p

module _ {S : Type 0} (ways : S → Listed S) (s : S) (d : ℕ) where
  -- note 10: the run that is walked next: the empty one first
  unfoldable pub ahead : Mark → Next
  ahead p = met_before p.met (Option-elim p.last (finds false false []) (λ r. next_of (later ways s d r)))

  -- note 10: one state more
  unfoldable pub onward : Going → Going
  onward (going c p) = stepped c (ahead p)
  onward (gone c a) = gone c a

  -- note 10: n states more, unless the search ends
  unfoldable pub onwards : ℕ → Going → Going
  onwards zero x = x
  onwards (suc n) x = onwards n (onward x)

  -- note 10: is there another?
  unfoldable pub settled : Going → Going
  settled (going c p) = settled_by c p (ahead p)
  settled (gone c a) = gone c a

  -- note 10: exactly n states, unless the search ends; by 0 nothing is walked
  unfoldable pub carry_on : ℕ → Going → Going
  carry_on zero x = x
  carry_on (suc n) x = settled (onwards (suc n) x)

  -- note 10: the exact test: a run from the start within the depth, absent exactly when the count is 0
  unfoldable pub is_mark : ℕ → Option (List ℕ) → Bool
  is_mark c none = eqb c 0
  is_mark c (some r) = not (eqb c 0) && (leb (length r) d && Option-elim (follows ways false s r) false (λ h. true))
