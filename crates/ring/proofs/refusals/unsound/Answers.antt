use Rattle.std.proofs.Common.{rules}
use Rattle.rules.proofs.Sound.{sound_of}
use Rattle.rules.specs.Refusals.{unsound}
use Rattle.ring.proofs.refusals.unsound.Goals as goal

pub returns-clause-sound : goal.returns-clause-sound
unfolding unsound
returns-clause-sound c = sound_of _ (search rules)
