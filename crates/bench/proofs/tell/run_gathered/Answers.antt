use Rattle.bench.proofs.Telling.{lines_ran}
use Rattle.bench.proofs.tell.run_gathered.Goals as goal

pub returns : goal.returns
returns c =
    let a = c.args in
    let h = c.requires in
    let d = c.run-d in
    lines_ran a.b a.running.now a.kept.now a.events.now a.room.now a.n h.0 h.1 _ _ _ _ d.ensures.left _ _ _ d.auto.room c.print_all-lines.ensures
