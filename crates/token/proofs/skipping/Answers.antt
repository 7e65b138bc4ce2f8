-- The three returns of the test for a byte of a gap; above `/` no byte needs its sort.
use mathlib.Core.Path.{sym}
use borrow.Author.Tests.{ne_eqb}
use Rattle.token.specs.Bytes.{skips}
use Rattle.token.proofs.Runs.{skips-not}
use Rattle.token.proofs.Classes.{not-blank}
use Rattle.token.proofs.skipping.Goals as goal

pub returns-then-b-gt47 : goal.returns-then-b-gt47
returns-then-b-gt47 c =
    sym (skips-not c.args.b c.args.n c.if-b-gt47.true)

pub returns-in-Blank : goal.returns-in-Blank
unfolding skips
returns-in-Blank c =
    rw (← c.sort.ensures, c.in-Blank.is)

pub returns-in_default : goal.returns-in_default
unfolding skips
returns-in_default c =
    rw (← c.sort.ensures) (simp (ne_eqb _ _ (not-blank _ c.in_default.not-Blank)) c.starting.ensures)
