use Rattle.ring.proofs.Blocks.{At}
use Rattle.rules.specs.State.{state}
use Rattle.ring.proofs.block.run_to.Given as goal

abbrev pub invariant-loop-j : goal.invariant-loop-j
invariant-loop-j l = At (state l.fn.c l.initial.running l.initial.kept) l.block l.initial.room l.n l.running l.kept l.room l.g l.threads l.j
