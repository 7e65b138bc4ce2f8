-- The numbers of the process, with the definition that is known of its sum, stored as the next row.
use mathlib.Core.Path.{ap, ◌∙◌}
use native.Mathlib.Omega.{arith}
use Prim.Native.Nat.{ℕ, ◌+◌, ◌*◌}
use Rattle.machine.specs.Offer.{Process}
use Rattle.machine.specs.State.{process_width, process_numbers}
use Rattle.eval.specs.Next.{known}
use Rattle.eval.proofs.Rows.{row-length, row-stored, rows-one}
use Rattle.eval.proofs.next.Rows.put_row.Goals as goal

pub returns-clause-written : goal.returns-clause-written
unfolding known
returns-clause-written c =
    let s = c.args.self.now in
    let p : Process = known c.args.scopes.now c.args.sum c.args.locals.now in
    let e = c.copy_from_slice.ensures.after ∙ (c.numbers_of-row.ensures ∙ ap (λ (d : ℕ). process_numbers (record { sum = c.args.sum; locals = c.args.locals.now; definition = d })) c.definition_in.ensures.0) in
    rows-one s.fresh.now _ s.next p
    (rw e (row-stored s.fresh.now (process_numbers p) (s.next * process_width) (s.next * process_width + process_width) (omega (arith, row-length p c.requires.1)) (omega (arith, c.requires.2))))
