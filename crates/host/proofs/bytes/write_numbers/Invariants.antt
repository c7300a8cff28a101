use Rattle.std.proofs.Common.{◌≡◌}
use Rattle.host.specs.Bytes.{bytes_to}
use Rattle.host.proofs.bytes.write_numbers.Given as goal

abbrev pub invariant-loop-j : goal.invariant-loop-j
invariant-loop-j l = l.b ≡ bytes_to l.m l.initial.b l.j
