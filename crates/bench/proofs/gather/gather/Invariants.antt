use Rattle.std.proofs.Common.{◌≤◌}
use Rattle.bench.specs.Gather.{Gathers}
use Rattle.bench.proofs.gather.gather.Given as goal

abbrev pub invariant-loop-count : goal.invariant-loop-count
invariant-loop-count l = record {
  later : l.from ≤ l.next;
  gathers : Gathers l.initial.carry.bytes l.initial.carry.len l.from l.block l.most l.events l.carry.bytes l.carry.len l.next l.count;
}
