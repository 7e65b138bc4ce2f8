-- Both tests, of the processes and of what follows them.
use mathlib.Core.Path.{◌≡◌, sym, ap, ◌∙◌}
use Prim.Native.Nat.{◌*◌}
use borrow.Author.Tests.{tests}
use Rattle.std.proofs.Common.{rules}
use Rattle.std.proofs.lemmas.Iterator.{YieldsList-from_slice}
use Rattle.std.proofs.lemmas.Iterator.Search.{all_from_yields_List}
use Rattle.machine.specs.State.{process_width}
use Rattle.state.specs.Test.{every, rows, is_zero, is_process}
use Rattle.state.proofs.Part.{tail-part}
use Rattle.state.proofs.Tests.{every_all, processes-fail, processes-rest}
use Rattle.state.proofs.are_processes.Goals as goal

pub returns-then-all : goal.returns-then-all
returns-then-all c =
    let t = is_process c.args.shape.scopes.now in
    let h : c.all.result ≡ every t (rows process_width c.args.n c.args.s.now) =
    all_from_yields_List t _ _ _ c.all.ensures.ran (YieldsList-from_slice c.first_rows-processes.result.now cc) (λ x b q k. (search (rules, tests), search (rules, tests)))
    ∙ every_all t c.first_rows-processes.result.now ∙ ap (every t) c.first_rows-processes.ensures.0 in
    c.all_zero.ensures ∙ ap (every is_zero) (tail-part (c.args.n * process_width) c.args.s.now) ∙ sym (processes-rest c.args.shape.scopes.now c.args.n c.args.s.now (sym h ∙ c.if-all.true))

pub returns-else-all : goal.returns-else-all
returns-else-all c =
    let t = is_process c.args.shape.scopes.now in
    let h : c.all.result ≡ every t (rows process_width c.args.n c.args.s.now) =
    all_from_yields_List t _ _ _ c.all.ensures.ran (YieldsList-from_slice c.first_rows-processes.result.now cc) (λ x b q k. (search (rules, tests), search (rules, tests)))
    ∙ every_all t c.first_rows-processes.result.now ∙ ap (every t) c.first_rows-processes.ensures.0 in
    c.if-all.false ∙ sym (processes-fail c.args.shape.scopes.now c.args.n c.args.s.now (sym h ∙ c.if-all.false))
