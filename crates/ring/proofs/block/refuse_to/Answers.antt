use Rattle.std.proofs.Common.{add-one, sym, ◌∙◌}
use Rattle.ring.proofs.Blocks.{event_refused, text_refused}
use Rattle.rules.proofs.Block.{one_more}
use Rattle.rules.specs.Block.{event_runs}
use Rattle.rules.specs.State.{out}
use Rattle.ring.proofs.block.refuse_to.Goals as goal
use Rattle.ring.proofs.block.refuse_to.Goals.{else-is_kind, then-is_kind}

pub loop-j-preserved : goal.loop-j-preserved
unfolding event_runs
loop-j-preserved c =
    let i = c.loop-j in
    let a = c.args in
    let k = sym c.is_kind.ensures in
    λ s q. rw (add-one, c.tell.ensures, c.into.ensures)
    (one_more s s a.block.now a.room.now i.room i.j (out s _) (elim c.if-is_kind.branch [
      | then-is_kind w ↦ rw w.refusal-is (event_refused s a.r _ _ _ (k ∙ w.if-is_kind.true) q)
      | else-is_kind w ↦ rw w.refusal-is (text_refused s _ _ _ (k ∙ w.if-is_kind.false))
    ]) (i.invariant s q))
