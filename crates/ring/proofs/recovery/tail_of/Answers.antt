use Rattle.std.proofs.Common.{rules}
use Rattle.std.proofs.iter.Rest.{running}
use Rattle.ring.proofs.Images.{tail_is}
use Rattle.ring.proofs.recovery.tail_of.Goals as goal

pub returns : goal.returns
returns c = let a = c.args in rw (tail_is a.s.cells a.mark a.m.now c.requires.0) (search (rules, running))
