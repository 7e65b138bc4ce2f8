-- The head tells which of the words begins the line.
use Rattle.lines.specs.declared.line.Line.TheVariants.{Open, Steady, Step, Time, Word, Run, Carry}
use Rattle.lines.specs.Line.{small, ended, steadied, carried_by, ran_by}
use Rattle.lines.proofs.Heads.{says-list, says-state, says-report, says-open, says-step, says-save, says-return, says-forget, says-time, says-wait, says-clock, says-independent, says-steady, says-seek, says-word, says-begin, says-carry, says-run, joined-is, numbered-is, numbered-if, then-is, bare-is, not-bare, lettered-is, not-lettered}
use Rattle.lines.proofs.line.Reading.says.Goals as goal
use Rattle.lines.proofs.line.Reading.says.Goals.{in-Nothing, in_default-matches, in-T, in_default-matches-2, in-Nothing-matches, in_default-matches-3}

pub returns-in-6113817460 : goal.returns-in-6113817460
returns-in-6113817460 c =
    λ s h. says-list h c.in-6113817460.is

pub returns-after-matches : goal.returns-after-matches
returns-after-matches c =
    λ s h. says-state h c.in-1595385410661.is
    (elim c.match-matches.branch [
      | in-Nothing w ↦ bare-is _ _ _ _ c.then_some.ensures w.matches-is w.in-Nothing.is
      | in_default-matches w ↦ not-bare _ _ _ _ c.then_some.ensures w.matches-is w.in_default-matches.not-Nothing
    ])

pub returns-after-matches-2 : goal.returns-after-matches-2
returns-after-matches-2 c =
    λ s h. says-report h c.in-1590839766898.is
    (elim c.match-matches-2.branch [
      | in-T w ↦ lettered-is _ _ _ _ c.then_some-in-1590839766898.ensures w.matches-is w.in-T.is
      | in_default-matches-2 w ↦ not-lettered _ _ _ _ c.then_some-in-1590839766898.ensures w.matches-is w.in_default-matches-2.not-T
    ])

pub returns-in-1578138693152 : goal.returns-in-1578138693152
returns-in-1578138693152 c =
    λ s h. says-open h c.in-1578138693152.is (numbered-is Open c.args.self.rest _ (rw c.number.ensures at c.map.ensures.cases))

pub returns-in-1595385671712 : goal.returns-in-1595385671712
returns-in-1595385671712 c =
    λ s h. says-step h c.in-1595385671712.is (numbered-is Step c.args.self.rest _ (rw c.number-in-1595385671712.ensures at c.map-in-1595385671712.ensures.cases))

pub returns-in-1595068015904 : goal.returns-in-1595068015904
returns-in-1595068015904 c =
    λ s h. says-save h c.in-1595068015904.is

pub returns-in-1590840030578 : goal.returns-in-1590840030578
unfolding ended
returns-in-1590840030578 c =
    λ s h. says-return h c.in-1590840030578.is (then-is _ _ _ c.then_some-in-1590840030578.ensures)

pub returns-in-1539468060517 : goal.returns-in-1539468060517
unfolding ended
returns-in-1539468060517 c =
    λ s h. says-forget h c.in-1539468060517.is (then-is _ _ _ c.then_some-in-1539468060517.ensures)

pub returns-in-1599496611104 : goal.returns-in-1599496611104
returns-in-1599496611104 c =
    λ s h. says-time h c.in-1599496611104.is (numbered-is Time c.args.self.rest _ (rw c.number-in-1599496611104.ensures at c.map-in-1599496611104.ensures.cases))

pub returns-in-1612247036960 : goal.returns-in-1612247036960
returns-in-1612247036960 c =
    λ s h. says-wait h c.in-1612247036960.is (joined-is small c.args.self.rest _ (rw c.number-in-1612247036960.ensures at c.and_then.ensures))

pub returns-after-matches-3 : goal.returns-after-matches-3
returns-after-matches-3 c =
    λ s h. says-clock h c.in-1526532629355.is
    (elim c.match-matches-3.branch [
      | in-Nothing-matches w ↦ bare-is _ _ _ _ c.then_some-in-1526532629355.ensures w.matches-is w.in-Nothing-matches.is
      | in_default-matches-3 w ↦ not-bare _ _ _ _ c.then_some-in-1526532629355.ensures w.matches-is w.in_default-matches-3.not-Nothing
    ])

pub returns-in-1552335267184 : goal.returns-in-1552335267184
returns-in-1552335267184 c =
    λ s h. says-independent h c.in-1552335267184.is c.says.ensures

pub returns-in-1595385667940 : goal.returns-in-1595385667940
unfolding steadied
returns-in-1595385667940 c =
    λ s h. says-steady h c.in-1595385667940.is (numbered-if Steady _ c.args.self.late _ _ c.number_if.ensures c.map-in-1595385667940.ensures.cases)

pub returns-in-1595134012192 : goal.returns-in-1595134012192
returns-in-1595134012192 c =
    λ s h. says-seek h c.in-1595134012192.is c.seek_line.ensures

pub returns-in-1612482503712 : goal.returns-in-1612482503712
returns-in-1612482503712 c =
    λ s h. says-word h c.in-1612482503712.is (numbered-is Word c.args.self.rest _ (rw c.number-in-1612482503712.ensures at c.map-in-1612482503712.ensures.cases))

pub returns-in-1522119698798 : goal.returns-in-1522119698798
returns-in-1522119698798 c =
    λ s h. says-begin h c.in-1522119698798.is c.begin_line.ensures

pub returns-in-1526348280441 : goal.returns-in-1526348280441
unfolding carried_by
returns-in-1526348280441 c =
    λ s h. says-carry h c.in-1526348280441.is (numbered-if Carry _ c.args.self.mid _ _ c.number_if-in-1526348280441.ensures c.map-in-1526348280441.ensures.cases)

pub returns-in_default : goal.returns-in_default
unfolding ran_by
returns-in_default c =
    λ s h.
    let m = c.in_default.in_default-own.rest in
    says-run h m.0.0.0.0.0.0.0.0.0.0.0.0.0.0.0.0.1 m.0.0.0.0.0.0.0.0.0.0.0.0.0.0.0.1 m.0.0.0.0.0.0.0.0.0.0.0.0.0.0.1 m.0.0.0.0.0.0.0.0.0.0.0.0.0.1 m.0.0.0.0.0.0.0.0.0.0.0.0.1 m.0.0.0.0.0.0.0.0.0.0.0.1 m.0.0.0.0.0.0.0.0.0.0.1 m.0.0.0.0.0.0.0.0.0.1 m.0.0.0.0.0.0.0.0.1 m.0.0.0.0.0.0.0.1 m.0.0.0.0.0.0.1 m.0.0.0.0.0.1 m.0.0.0.0.1 m.0.0.0.1 m.0.0.1 m.0.1 m.1 (numbered-if Run _ c.args.self.early _ _ c.number_if-in_default.ensures c.map-in_default.ensures.cases)
