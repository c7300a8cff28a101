use Rattle.bench.proofs.Running.{event_ran, event_said}
use Rattle.rules.specs.State.{state}
use Rattle.bench.proofs.run.event_line.Goals as goal

pub returns : goal.returns
returns c =
    let b = c.args.b in
    let s = state b.control c.args.running.now c.args.kept.now in
    let o = c.event-o.result in
    let f = c.event-o.ensures.outcome in
    let n = c.list_for-n in
    record {
      run = event_ran b.lines s c.args.e o.control _ _ o.answer f b.phase;
      printed = rw (← event_said b.lines s c.args.e o.control _ _ o.answer f n.result n.new.room n.ensures.lists, ← c.said_of-s.ensures) c.said.ensures;
    }
