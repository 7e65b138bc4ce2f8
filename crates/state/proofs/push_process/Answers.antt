-- The definition's number, then the rest of the row: each as `process_pushed` says.
use mathlib.Core.Path.{◌≡◌, ap, ap₂, ◌∙◌}
use mathlib.Core.List.{List}
use Prim.Native.Nat.{ℕ, ◌+◌, ◌*◌, ◌≤◌, ◌<◌}
use native.Mathlib.Omega.{arith}
use lib.IntN.{ℤ, pos, nat_abs}
use lib.ListN.{length, set, length-set}
use lib.Seq.{get_or-set_other}
use Rattle.value.proofs.Kit.{back}
use Rattle.model.specs.Limits.{local_limit}
use Rattle.machine.specs.State.{state_length, process_width}
use Rattle.state.specs.Test.{at, is_below}
use Rattle.state.specs.Change.{process_added, process_pushed}
use Rattle.state.proofs.Change.{added-length}
use Rattle.state.proofs.push_process.Goals as goal

-- a number set after the counts leaves the count of processes, and a row its room
count-stays : (s : List ℤ) (i : ℕ) (v : ℤ) → 0 < i → at (set s i v) 0 ≡ at s 0
count-stays s i v p = get_or-set_other s i 0 v (pos 0) (λ q. omega arith)

row-length : (s ls : List ℤ) (sum i : ℕ) (v : ℤ) → 0 < i → length s ≡ state_length → nat_abs (at s 0) < 256 → length ls ≤ local_limit → length (process_added sum ls (set s i v)) ≡ length s
row-length s ls sum i v p w r f = added-length sum ls (set s i v) (omega (arith, ap nat_abs (count-stays s i v p), length-set s i v)) ∙ length-set s i v

pub put_process-requires : goal.put_process-requires
put_process-requires c =
    let i = 2 + c.counted-n.result * process_width + (1 + local_limit) in
    let e : at (set c.args.state.now i _) 0 ≡ at c.args.state.now 0 = count-stays c.args.state.now i _ (omega arith) in
    (length-set c.args.state.now i _ ∙ c.requires.0, ap (is_below 257) e ∙ c.requires.1, omega (arith, ap nat_abs e, c.requires.2), c.requires.3, c.requires.4)

pub shape_of-state : goal.shape_of-state
shape_of-state c =
    let i = 2 + c.counted-n.result * process_width + (1 + local_limit) in
    ap length c.put_process.ensures ∙ row-length c.args.state.now c.args.locals.now c.args.sum i _ (omega arith) c.requires.0 c.requires.2 c.requires.4

pub returns : goal.returns
unfolding process_pushed
returns c =
    c.put_process.ensures ∙ ap₂ (λ (j : ℕ) (z : ℤ). process_added c.args.sum c.args.locals.now (set c.args.state.now (2 + j * process_width + (1 + local_limit)) z)) c.counted-n.ensures.0 (back (pos c.args.definition) c.requires.5)
