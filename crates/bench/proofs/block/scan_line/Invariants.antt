use Rattle.std.proofs.Common.{◌≡◌, ◌-◌, ◌≤◌, drop, length}
use Rattle.bench.specs.Block.{scan_of}
use Rattle.bench.proofs.block.scan_line.Given as goal

abbrev pub invariant-loop-next : goal.invariant-loop-next
invariant-loop-next l = record {
  later : l.from ≤ l.next;
  scans : scan_of l.initial.carry.bytes l.initial.carry.len l.from (drop l.from l.block) ≡ scan_of l.carry.bytes l.carry.len l.next (drop l.next l.block);
}

abbrev pub decreases-loop-next : goal.decreases-loop-next
decreases-loop-next l = length l.block - l.next
