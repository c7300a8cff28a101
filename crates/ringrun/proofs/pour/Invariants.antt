use Rattle.std.proofs.Common.{length, ◌-◌, ◌≤◌}
use Rattle.ringrun.proofs.pour.Given as goal

abbrev pub invariant-loop-next : goal.invariant-loop-next
invariant-loop-next g l = 2048 ≤ length l.out

abbrev pub decreases-loop-next : goal.decreases-loop-next
decreases-loop-next g l = length l.block - l.next
