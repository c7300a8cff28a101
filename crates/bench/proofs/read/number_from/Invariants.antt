use Rattle.std.proofs.Common.{◌≡◌, length}
use Rattle.bench.specs.Read.{number_from}
use Rattle.bench.proofs.read.number_from.Given as goal

abbrev pub invariant-loop-rest : goal.invariant-loop-rest
invariant-loop-rest l = number_from l.fn.v l.s ≡ number_from l.v l.rest

abbrev pub decreases-loop-rest : goal.decreases-loop-rest
decreases-loop-rest l = length l.rest
