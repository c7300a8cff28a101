use Rattle.std.proofs.Common.{ap, ◌∙◌}
use Rattle.ring.specs.OneThread.{go_of, unless}
use Rattle.rules.proofs.Limit.{counts_below}
use Rattle.rules.proofs.Rows.{keep_row}
use Rattle.rules.specs.Table.{Step}
use Rattle.ring.proofs.one.go.Goals as goal

pub returns-in-Ok : goal.returns-in-Ok
unfolding go_of unless
returns-in-Ok c =
    let a = c.args in
    let o = c.in-Ok.ensures in
    let y = c.requires.1 o.accepted.1 in
    let l = ap (λ (x : Step). x.moved.ring.events) c.row-answer.ensures ∙ (keep_row a.t.now.ring a.t.now.who a.t.now.thread a.m.now y.ring y.thread y.image y.long).events in
    rw (c.count-t.ensures ∙ counts_below _ (rw l o.accepted.0), ← o.refusal, ← c.row-answer.ensures)
