-- All runs where none was walked, else those after the last.
use Rattle.spend.specs.Spend.{spend}
use Rattle.pieces.specs.Walked.{ways_of}
use Rattle.pieces.proofs.Lengths.{reaches-as}
use Rattle.pieces.proofs.Carrying.{remaining-all, table-after, table-run, table-short}
use mathlib.Core.Path.{ap}
use Rattle.pieces.proofs.walk_on.Goals as goal

pub returns-then-position-eq0 : goal.returns-then-position-eq0
returns-then-position-eq0 c =
    (λ m s h st e. reaches-as (ap (spend c.args.further c.args.position.met) (remaining-all (ways_of c.args.sought m) s c.args.depth c.args.position c.if-position-eq0.true)) (c.walk_all.ensures.0 m s h st), c.walk_all.ensures.1)

pub walk_after-requires : goal.walk_after-requires
walk_after-requires c =
    let m = c.requires.0.0 in
    let s = c.requires.0.1 in
    let r = table-run (ways_of c.args.sought m) s c.args.depth c.args.position c.args.run.now c.if-position-eq0.false c.requires.2 c.requires.3 c.requires.0.4 in
    let k = table-short (ways_of c.args.sought m) s c.args.depth c.args.position c.args.run.now c.if-position-eq0.false c.requires.2 c.requires.3 c.requires.0.4 in
    ((m, s, c.requires.0.2, c.requires.0.3, r), c.requires.1, k)

pub returns : goal.returns
returns c = (
  λ m s h st e.
      let r = table-run (ways_of c.args.sought m) s c.args.depth c.args.position c.args.run.now c.if-position-eq0.false c.requires.2 c.requires.3 e in
      reaches-as (ap (spend c.args.further c.args.position.met) (table-after (ways_of c.args.sought m) s c.args.depth c.args.position c.args.run.now c.if-position-eq0.false c.requires.2 c.requires.3)) (c.walk_after.ensures.0 m s h st r),
  c.walk_after.ensures.1,
)
