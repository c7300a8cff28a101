use Rattle.std.proofs.Common.{rules, leb}
use Rattle.std.proofs.iter.Rest.{running}
use Rattle.ring.proofs.Images.{all_copies_are}
use Rattle.ring.proofs.sound.sound_copies.Goals as goal

pub returns : goal.returns
returns c = let a = c.args in all_copies_are a.s.cells a.s.threads a.m.now (λ v. leb v a.events) _ c.requires (search (rules, running))
