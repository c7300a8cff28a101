use Rattle.std.proofs.Common.{add-one, arith, length, ◌<◌}
use Rattle.ring.proofs.Sweep.{sweep_next}
use Rattle.rules.specs.Line.{released}
use Rattle.rules.specs.Record.{idle}
use Rattle.ring.proofs.events.release_all.Goals as goal

pub loop-t-preserved : goal.loop-t-preserved
loop-t-preserved c =
    let i = c.loop-t in
    let a = c.args in
    let h : i.t-index < length a.threads.now = omega arith in
    rw (add-one, c.release.ensures, i.invariant, sweep_next (released a.line) a.threads.now i.t-index idle h)
