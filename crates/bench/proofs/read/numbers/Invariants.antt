use Rattle.std.proofs.Common.{◌≡◌, ◌-◌, length, take}
use Rattle.bench.specs.Read.{numbers}
use Rattle.bench.proofs.Reading.{ahead}
use Rattle.bench.proofs.read.numbers.Given as goal

abbrev pub invariant-loop-n : goal.invariant-loop-n
invariant-loop-n g l = record {
  full : length l.n-items ≡ g.row.N;
  read : numbers g.row.N l.s ≡ ahead (take l.n-index l.n-items) (numbers (g.row.N - l.n-index) l.rest);
}
