-- One byte on, or to the end of the comment that begins here.
use mathlib.Core.Path.{ap, sym, ◌∙◌}
use Prim.Native.Nat.{ℕ, ◌+◌}
use lib.ListN.{get_or}
use Rattle.token.specs.Bytes.{starts}
use Rattle.token.proofs.Runs.{stride-is}
use Rattle.token.proofs.onward.Goals as goal

pub returns-then-starting : goal.returns-then-starting
returns-then-starting c =
    let e = stride-is c.args.s.now c.args.i c.starting.result (c.starting.ensures ∙ ap (starts (get_or c.args.s.now c.args.i 0)) c.peek.ensures) in
    c.line_end.ensures ∙ ap (λ (n : ℕ). c.args.i + n) (sym (e ∙ simp c.if-starting.true))

pub returns : goal.returns
returns c =
    let e = stride-is c.args.s.now c.args.i c.starting.result (c.starting.ensures ∙ ap (starts (get_or c.args.s.now c.args.i 0)) c.peek.ensures) in
    ap (λ (n : ℕ). c.args.i + n) (sym (e ∙ simp c.if-starting.false))
