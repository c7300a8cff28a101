use Rattle.std.proofs.Common.{drop, length, ◌++◌, ◌≡◌}
use Rattle.host.specs.Bytes.{numbers_to}
use Rattle.host.proofs.bytes.read_numbers.Given as goal

abbrev pub invariant-loop-j : goal.invariant-loop-j
invariant-loop-j l = (length l.m ≡ length l.initial.m) × (l.m ≡ numbers_to l.b l.j ++ drop l.j l.initial.m)
