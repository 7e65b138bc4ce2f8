-- What carrying a search on answers (02, note 10), number by number. Definitions only.
use Rattle.std.specs.Prelude.{◌≡◌, ℕ, length, get_or, replicate}
use Rattle.machine.specs.Machine.{depth_limit, Answer}
use Rattle.searching.specs.Run.{entries_of}
use Rattle.resuming.specs.declared.Progress.{Progress}

-- 02, note 10: a number, a count and whether the search has ended, without a run
abbrev pub bare : (number count ended : ℕ) → Progress
bare n c e = record { number = n; count = c; ended = e; length = 0; run = replicate depth_limit 0 }

-- 02, note 10: the result is the answer
pub record Tells (a : Answer) (r : Progress) : Type 0 where
  pub number : r.number ≡ a.number
  pub count : r.count ≡ a.count
  pub ended : r.ended ≡ get_or a.used 0 0
  pub long : r.length ≡ length a.run
  pub run : r.run ≡ entries_of a.run
