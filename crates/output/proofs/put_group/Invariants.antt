-- What is left of the numbers has room before the bytes that stand there.
use Rattle.std.proofs.Common.{◌≡◌, ◌≤◌, length, ◌*◌}
use Rattle.output.proofs.put_group.Given as goal

abbrev pub invariant-loop-left : goal.invariant-loop-left
invariant-loop-left g l = (l.left ≤ length l.numbers) × ((l.left ≤ 8) × ((length l.text ≡ 328) × ((l.left * 41 ≤ l.at) × (l.at ≤ 328))))

abbrev pub decreases-loop-left : goal.decreases-loop-left
decreases-loop-left g l = l.left
