-- The items of the system line stand at the place after the last definition's, and there is room for their processes.
use mathlib.Core.Path.{ap, ◌∙◌}
use Prim.Native.Nat.{ℕ, ◌-◌}
use Rattle.store.proofs.Opened.{opens-fit}
use Rattle.store.proofs.start.put_start.Goals as goal

pub put_items-requires : goal.put_items-requires
put_items-requires c =
    let D = c.args.definitions in
    let l = c.saturating_sub-line.ensures ∙ ap (λ (x : ℕ). x - D) c.saturating_sub.ensures in
    rw (l, c.requires.0) (opens-fit c.args.tables.nodes.now c.args.tables.scopes.now c.args.tables.root c.args.tables.variables D c.requires.1.0 c.requires.1.1)
