use Rattle.std.proofs.Common.{rules}
use Rattle.std.proofs.iter.Rest.{running}
use Rattle.ring.proofs.Images.{count_is}
use Rattle.ring.proofs.recovery.count_of.Goals as goal

pub returns : goal.returns
returns c = let a = c.args in rw (count_is a.s.cells a.mark a.m.now c.requires) (search (rules, running))
