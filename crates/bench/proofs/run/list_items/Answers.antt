use Rattle.std.proofs.Common.{rules, length, ◌≡◌, ◌∙◌}
use Rattle.bench.proofs.Running.{few, listed}
use Rattle.bench.proofs.run.list_items.Goals as goal

pub returns : goal.returns
returns c =
    let a = c.args in
    let g = a.control.ring in
    let l = c.list in
    let e : length a.room.now ≡ 64 = search rules in
    let n = c.unwrap_or.ensures ∙ l.ensures.count in
    record {
      few = few g.cells g.threads g.tries g.events a.kept.now a.room.now _ _ e l.auto.room n l.ensures.room;
      lists = listed g.cells g.threads g.tries g.events a.kept.now a.room.now _ _ e l.auto.room n l.ensures.room;
    }
