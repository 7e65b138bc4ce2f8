-- The call, then the clock and the answer written over the numbers of theirs.
use mathlib.Core.Path.{◌≡◌, ap}
use mathlib.Core.List.{List, ◌++◌}
use Prim.Native.Nat.{ℕ, ◌+◌, ◌-◌}
use native.Mathlib.Omega.{arith}
use lib.ListN.{drop}
use Rattle.buffers.specs.Parts.{clock_in}
use Rattle.script.specs.Rows.{answer_width, row_call}
use Rattle.script.specs.Run.{lent_five, held, put_at}
use Rattle.script.proofs.Calling.{called}
use Rattle.script.proofs.Running.{clock-called, call-left}
use Rattle.script.proofs.Lent.make_row.Goals as goal

pub returns-clause-made : goal.returns-clause-made
returns-clause-made c =
    let row = c.args.row in
    let texts = c.args.given.texts.now in
    let numbers = c.args.given.numbers.now in
    let words = c.args.given.words.now in
    let lent = c.args.self.now in
    let outputs = drop c.args.output lent.outputs.now in
    let answers = drop c.args.answer lent.answers.now in
    let made = c.make-reply.new in
    let o : (c.args.output + row.output) - c.args.output ≡ row.output = omega arith in
    let a : (c.args.answer + answer_width) - c.args.answer ≡ answer_width = omega arith in
    rw (o, a) (ap (put_at c.args.output c.args.answer (held lent)) (call-left (row_call texts numbers words row) (lent_five lent.model.now lent.state.now lent.saves.now lent.clock.now lent.search.now) outputs answers c.make-reply.result.numbers _ _ _
    (clock-called texts numbers words row lent.model.now lent.state.now lent.saves.now lent.clock.now lent.search.now outputs c.make-reply.result.numbers _ _ _ c.make-reply.result.clock _ _ _ c.requires.lent.1.1.1.1.1
    (called row texts numbers words lent.model.now lent.state.now lent.saves.now (clock_in lent.clock.now) lent.search.now outputs c.make-reply.result.numbers made.model made.state made.saves c.make-reply.result.clock made.search made.outputs (rw o at c.make-reply.ensures))
    (ap (λ (l : List ℕ). l ++ drop 2 lent.clock.now) c.copy_from_slice.ensures.after))
    (ap (λ (l : List ℕ). l ++ drop answer_width answers) c.copy_from_slice-2.ensures.after)))
