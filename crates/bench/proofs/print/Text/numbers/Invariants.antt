use Rattle.std.proofs.Common.{◌+◌, ◌*◌, ◌≤◌, take}
use Rattle.bench.specs.Decimal.{spaced}
use Rattle.bench.specs.Print.{Written}
use Rattle.bench.proofs.print.Text.numbers.Given as goal

abbrev pub invariant-loop-n : goal.invariant-loop-n
invariant-loop-n l = record {
  wrote : Written l.initial.self (spaced (take l.n-index l.ns)) l.self;
  room : l.self.at ≤ l.initial.self.at + 21 * l.n-index;
}
