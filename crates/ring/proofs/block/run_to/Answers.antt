use Rattle.std.proofs.Common.{ap, refl, rules, sym, Some, ◌∙◌}
use Rattle.ring.proofs.Blocks.{at_by, event_at, kept_at, moved_at, text_at, written_at}
use Rattle.ring.proofs.OneThread.{put_left, take_left, go_left}
use Rattle.rules.specs.Record.{thread_at}
use Rattle.rules.specs.State.{state}
use Rattle.ring.proofs.block.run_to.Goals as goal
use Rattle.ring.proofs.block.run_to.Goals.{in-None, in-Some+in-Back+in-Err, in-Some+in-Back+in-Ok, in-Some+in-Go, in-Some+in-Put, in-Some+in-Take, in-Some+in_default, in_default-via-in-Put+else-i-g, in_default-via-in-Take+else-i-g-2, in_default-via-in-Go+else-i-g-3, in_default-via-in_default}

pub loop-j-preserved : goal.loop-j-preserved
unfolding thread_at
loop-j-preserved c =
    let a = c.loop-j.invariant in
    let l = c.loop-j-test.true in
    let s = state (record { ring = c.loop-j.g; thread = c.loop-j.threads }) c.loop-j.running c.loop-j.kept in
    let e = c.event_in.ensures in
    let t = c.tell.ensures in
    elim c.match-event_in.branch [
      | in-Some+in-Put w ↦ at_by _ _ w.running-is w.kept-is w.g-is w.threads-is w.answer-is t (moved_at a l _ _ w.in-Put.i _ (sym (w.in-Some.is ∙ ap Some w.in-Put.is) ∙ e) (w.put-answer.ensures c.loop-j.running) (put_left s _ _) refl)
      | in-Some+in-Take w ↦ at_by _ _ w.running-is w.kept-is w.g-is w.threads-is w.answer-is t (moved_at a l _ _ w.in-Take.i _ (sym (w.in-Some.is ∙ ap Some w.in-Take.is) ∙ e) (w.take-answer.ensures c.loop-j.running) (take_left s _) refl)
      | in-Some+in-Go w ↦ at_by _ _ w.running-is w.kept-is w.g-is w.threads-is w.answer-is t (moved_at a l _ _ w.in-Go.i _ (sym (w.in-Some.is ∙ ap Some w.in-Go.is) ∙ e) w.go-answer.ensures (go_left s _) (search rules))
      | in-Some+in-Back+in-Err w ↦ at_by _ _ w.running-is w.kept-is w.g-is w.threads-is (w.answer-is ∙ w.into.ensures) t (kept_at a l _ _ (sym (w.in-Some.is ∙ ap Some w.in-Back.is) ∙ e) (search rules))
      | in-Some+in-Back+in-Ok w ↦ at_by _ _ w.running-is w.kept-is w.g-is w.threads-is w.answer-is t
          (written_at a l _ _ _ _ (sym (w.in-Some.is ∙ ap Some w.in-Back.is) ∙ e) w.in-Ok.ensures.refusal w.in-Ok.ensures.accepted.0 (w.written.ensures.threads, rw (w.of.ensures.0, w.of.ensures.1) at w.written.ensures.kept) w.count-g.ensures (search rules))
      | in-Some+in_default w ↦ at_by _ _ w.running-is w.kept-is w.g-is w.threads-is w.answer-is t (event_at a l _ _ _ w.any-o.result.control w.any-o.result.answer (sym (w.in-Some.is ∙ ap Some (elim w.in_default.branch [ in_default-via-in-Put+else-i-g v ↦ v.in-Put.is ∙ sym v.e-is | in_default-via-in-Take+else-i-g-2 v ↦ v.in-Take.is ∙ sym v.e-is | in_default-via-in-Go+else-i-g-3 v ↦ v.in-Go.is ∙ sym v.e-is | in_default-via-in_default v ↦ sym v.e-is ])) ∙ e) w.any-o.ensures (search rules) (search rules))
      | in-None w ↦ at_by _ _ w.running-is w.kept-is w.g-is w.threads-is (w.answer-is ∙ w.into-answer.ensures) t (text_at a l _ (sym w.in-None.is ∙ e))
    ]
