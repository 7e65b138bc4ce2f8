-- The root or nothing: the laws of Continue.
use mathlib.Core.Path.{ap, sym, ◌∙◌}
use mathlib.Core.List.{List}
use native.Mathlib.Omega.{arith}
use lib.ListN.{length}
use Rattle.machine.specs.Offer.{Process, next_processes}
use Rattle.eval.specs.Next.{cut}
use Rattle.step.proofs.Continue.{continues, continuation, none-next, cut_most, cut-none}
use Rattle.step.proofs.count_next.Goals as goal

pub count_processes-requires : goal.count_processes-requires
count_processes-requires c =
    continuation c.args.tables.nodes.now c.args.tables.root c.args.tables.variables c.args.next c.in-Some.k c.in-Some.is c.requires.3

pub returns-in-Some : goal.returns-in-Some
returns-in-Some c =
    let d = c.requires.3 in
    let e = c.count_processes.ensures (length c.requires.1) c.requires.0 c.requires.2 c.requires.1 (continues c.args.tables.nodes.now c.args.tables.root c.args.tables.variables c.args.next c.in-Some.k c.in-Some.is d) in
    (λ m ls ps h. c.count_processes.ensures (length ls) m ps ls (continues c.args.tables.nodes.now c.args.tables.root c.args.tables.variables c.args.next c.in-Some.k c.in-Some.is h), rw e (cut_most (length (next_processes c.requires.0 c.requires.1 c.requires.2))))

pub returns-in-None : goal.returns-in-None
returns-in-None c =
    (λ m ls ps h. sym (ap (λ (xs : List Process). cut (length xs)) (none-next c.args.tables.nodes.now c.args.tables.root c.args.tables.variables c.args.next c.in-None.is h) ∙ cut-none), omega arith)
