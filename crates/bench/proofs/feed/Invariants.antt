use Rattle.std.proofs.Common.{drop, length, ◌*◌, ◌+◌, ◌-◌, ◌≡◌, ◌≤◌}
use Rattle.bench.specs.Bench.{run_with}
use Rattle.bench.specs.Block.{line_room, pour}
use Rattle.bench.specs.Print.{SameBuffer}
use Rattle.bench.proofs.feed.Given as goal

abbrev pub invariant-loop-next : goal.invariant-loop-next
invariant-loop-next l = record {
  same_running : length l.running ≡ length l.initial.running;
  same_kept : length l.kept ≡ length l.initial.kept;
  buffer : SameBuffer l.initial.text l.text;
  later : l.initial.text.at ≤ l.text.at;
  room : l.text.at + 2048 * l.left ≤ length l.initial.text.out.now + (l.initial.text.at - length l.initial.text.out.now);
  is : pour (line_room l.initial.text.out.now l.initial.text.at) (run_with l.initial.bench l.initial.running l.initial.kept) l.initial.carry.bytes l.initial.carry.len l.from (drop l.from l.block) l.initial.text.out.now l.initial.text.at
      ≡ pour l.left (run_with l.bench l.running l.kept) l.carry.bytes l.carry.len l.next (drop l.next l.block) l.text.out.now l.text.at;
}

abbrev pub decreases-loop-next : goal.decreases-loop-next
decreases-loop-next l = length l.block - l.next
