use Rattle.std.proofs.Common.{◌≡◌}
use Rattle.rules.specs.Line.{released}
use Rattle.ring.proofs.Sweep.{sweep_to}
use Rattle.ring.proofs.events.release_all.Given as goal

abbrev pub invariant-loop-t : goal.invariant-loop-t
invariant-loop-t l = l.threads ≡ sweep_to (released l.line) l.initial.threads l.t-index
