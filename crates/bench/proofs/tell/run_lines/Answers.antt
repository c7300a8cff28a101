use Rattle.std.proofs.Common.{arith}
use Rattle.bench.proofs.Gathering.{most_running}
use Rattle.bench.proofs.Telling.{told-poured}
use Rattle.bench.specs.Bench.{run_with}
use Rattle.bench.proofs.tell.run_lines.Goals as goal

pub returns-clause-same : goal.returns-clause-same
returns-clause-same c =
    let a = c.args in
    let m = c.most_of-most.ensures in
    told-poured a.left _ _ (run_with a.b a.running.now a.kept.now) _ _ _ _ _ _ _ _ _ _ _ _ _ c.gather-g.ensures.gathers m.small.0 (λ h. most_running a.b.phase a.left (omega arith)) c.run_gathered-bench.ensures
