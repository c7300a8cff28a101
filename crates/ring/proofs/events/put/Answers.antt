use Rattle.std.proofs.Common.{ap, ◌∙◌}
use Rattle.ring.proofs.OneThread.{put_left}
use Rattle.ring.specs.OneThread.{left}
use Rattle.rules.specs.State.{state}
use Rattle.rules.specs.Table.{Step}
use Rattle.ring.proofs.events.put.Goals as goal

pub returns : goal.returns
returns c =
    let a = c.args in
    let s = state a.c a.running.now a.kept.now in
    let e = rw c.of-t.ensures at (c.put-answer.ensures a.running.now) in
    rw (c.placed.ensures, c.done.ensures) (ap (λ (y : Step). left s a.i y) e ∙ put_left s a.i a.x)
