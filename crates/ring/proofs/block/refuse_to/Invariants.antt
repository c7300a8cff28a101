use Rattle.std.proofs.Common.{◌≡◌}
use Rattle.rules.specs.Block.{run_to, upto}
use Rattle.rules.specs.Refusal.{number_of}
use Rattle.rules.specs.Refusals.{unsound}
use Rattle.rules.specs.State.{State}
use Rattle.ring.proofs.block.refuse_to.Given as goal

abbrev pub invariant-loop-j : goal.invariant-loop-j
invariant-loop-j l = (s : State) → number_of l.r ≡ unsound s → upto s l.room ≡ run_to s l.block l.initial.room l.j
