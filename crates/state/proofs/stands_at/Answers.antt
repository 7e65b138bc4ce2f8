-- Each answer is a case of `is_lit`, from the place that was found.
use mathlib.Core.Path.{sym, ap, ◌∙◌}
use mathlib.Core.Bool.{not}
use borrow.Author.Tests.{le-ltb}
use lib.ListN.{length}
use native.Mathlib.Omega.{arith}
use Rattle.state.proofs.Places.{lit-past, lit_stands}
use Rattle.state.proofs.stands_at.Goals as goal

pub returns-then-place-pairs : goal.returns-then-place-pairs
returns-then-place-pairs c =
    ap not c.is_before.ensures ∙ sym (lit_stands c.args.row.now c.args.pairs.now c.args.place _ c.requires (omega arith))

pub returns-else-place-pairs : goal.returns-else-place-pairs
returns-else-place-pairs c =
    le-ltb c.args.place (length c.args.pairs.now) c.if-place-pairs.false ∙ sym (lit-past c.args.row.now c.args.pairs.now (omega (arith, c.requires)))
