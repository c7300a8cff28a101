use Rattle.std.proofs.Common.{rules}
use Rattle.std.proofs.iter.Rest.{running}
use Rattle.ring.proofs.Images.{top_mark_is}
use Rattle.ring.proofs.recovery.top_mark.Goals as goal

pub returns : goal.returns
returns c = let a = c.args in rw (top_mark_is a.s.cells a.m.now c.requires) (search (rules, running))
