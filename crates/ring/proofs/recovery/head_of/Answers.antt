use Rattle.std.proofs.Common.{rules}
use Rattle.std.proofs.iter.Rest.{running}
use Rattle.ring.proofs.Images.{head_is}
use Rattle.ring.proofs.recovery.head_of.Goals as goal

pub returns : goal.returns
returns c = let a = c.args in rw (head_is a.s.cells a.mark a.tail a.m.now c.requires) (search (rules, running))
