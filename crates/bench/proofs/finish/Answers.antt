use Rattle.std.proofs.Common.{rules, sym, ◌∙◌}
use Rattle.bench.proofs.Blocks.{end_full, end_said}
use Rattle.bench.specs.Bench.{end_says, run_with}
use Rattle.bench.proofs.finish.Goals as goal

pub returns-then-not-has_room-clause-outcome : goal.returns-then-not-has_room-clause-outcome
returns-then-not-has_room-clause-outcome c = end_full _ _ _ _ _ (sym c.has_room.ensures ∙ c.if-not-has_room.true)

pub returns-clause-outcome : goal.returns-clause-outcome
unfolding end_says
returns-clause-outcome c =
    let a = c.args in
    let r = c.run_last-bench.ensures in
    end_said (run_with a.bench a.running.now a.kept.now) _ a.carry.now a.len a.at _ _ a.out.now _ _ _
    (sym c.has_room.ensures ∙ c.if-not-has_room.false) r.run r.printed.written.wrote c.end.ensures.written.wrote (search rules)
