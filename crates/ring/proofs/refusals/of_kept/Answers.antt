use Rattle.std.proofs.Common.{rules}
use Rattle.rules.proofs.Kept.{kept_of}
use Rattle.rules.specs.Refusals.{kept_refusal}
use Rattle.ring.proofs.refusals.of_kept.Goals as goal

pub returns-clause-sound : goal.returns-clause-sound
unfolding kept_refusal
returns-clause-sound c = kept_of _ _ _ _ _ (search rules)
