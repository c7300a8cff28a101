use Rattle.std.proofs.Common.{arith, drop, inl, length, refl, rules, sym, ◌∙◌, ◌≡◌, ◌≤◌}
use Rattle.bench.proofs.Blocks.{progress, room-start, room_next, room_within, run_line, run_scan, run_stop, stopped}
use Rattle.bench.specs.Bench.{run_with}
use Rattle.bench.specs.Block.{line_room, pour, poured}
use Rattle.bench.proofs.feed.Goals as goal
use Rattle.bench.proofs.feed.Goals.{else-loop-next-test, then-loop-next-test+then-block-next}

pub loop-next-init : goal.loop-next-init
loop-next-init c =
    let a = c.args in
    let e = c.line_room-left.ensures in
    record { same_running = refl; same_kept = refl; buffer = record { size = refl; name = refl }; later = omega arith; room = rw e (room-start a.out.now a.at); is = rw e }

pub returns : goal.returns
returns c =
    let a = c.args in
    let l = c.loop-next in
    let i = l.invariant in
    let z = c.loop-next-test in
    let g = run_with a.bench a.running.now a.kept.now in
    let e : pour (line_room a.out.now a.at) g a.carry.now.bytes a.carry.now.len a.from (drop a.from a.block.now) a.out.now a.at
    ≡ poured (run_with z.bench z.running z.kept) z.carry.bytes z.carry.len z.next z.text.out.now z.text.at =
    elim z.branch [
      | else-loop-next-test w ↦
          rw (w.carry-is, w.running-is, w.kept-is, w.bench-is, w.next-is, w.text-is)
          (i.is ∙ run_stop l.left _ _ _ _ _ _ _ (λ h. absurd (omega (arith, h, w.loop-next-test.false))) (inl w.loop-next-test.false))
      | then-loop-next-test+then-block-next w ↦
          let r = w.run_lines in
          let s = w.scan_line-next in
          rw (w.carry-is, w.running-is, w.kept-is, w.bench-is, w.next-is, w.text-is)
          (i.is ∙ rw (r.ensures.same, run_scan r.result.left _ r.new.carry.bytes _ r.new.carry.len r.result.next _ _ _ _ _ s.ensures.scan) (run_stop r.result.left _ _ _ _ _ _ _ s.ensures.stops.1 w.then-block-next.either))
    ] in
    let fits : a.at ≤ length a.out.now → z.text.at ≤ length z.text.out.now =
    λ h. elim z.branch [
      | else-loop-next-test w ↦ rw w.text-is (omega (arith, i.room, i.buffer.size, h))
      | then-loop-next-test+then-block-next w ↦
          let r = w.run_lines in
          rw w.text-is (room_within a.at l.text.at l.left (length a.out.now) r.new.text.at r.result.left _ i.later i.room r.ensures.room.1 r.ensures.room.2 (r.ensures.buffer.size ∙ i.buffer.size) h)
    ] in
    record {
      outcome = stopped _ _ _ _ _ _ _ _ e (search rules);
      room = (λ h. let f = fits h in search (rules, f), progress _ a.block.now g a.carry.now.bytes a.carry.now.len a.from a.out.now a.at (sym e));
    }

pub loop-next-preserved : goal.loop-next-preserved
loop-next-preserved c =
    let l = c.loop-next in
    let i = l.invariant in
    let a = c.args in
    let r = c.run_lines in
    let t = r.new.text in
    let s = c.scan_line-next in
    let w = c.run_line-bench in
    let p = w.ensures.printed in
    let h = c.if-block-next.false in
    let z = c.if-left-eq0.false in
    let size = r.ensures.buffer.size ∙ i.buffer.size in
    record {
      same_running = w.auto.running ∙ r.auto.running ∙ i.same_running;
      same_kept = w.auto.kept ∙ r.auto.kept ∙ i.same_kept;
      buffer = record { size = p.written.buffer.size ∙ size; name = p.written.buffer.name ∙ r.ensures.buffer.name ∙ i.buffer.name };
      later = omega arith;
      room = room_next a.at l.text.at l.left (length a.out.now) t.at r.result.left _ i.later i.room r.ensures.room.1 r.ensures.room.2 size _ z p.near;
      is = rw (c.clear.ensures.bytes, c.clear.ensures.len) (i.is ∙ r.ensures.same ∙ run_scan r.result.left _ r.new.carry.bytes _ r.new.carry.len r.result.next _ _ _ _ _ s.ensures.scan
          ∙ run_line r.result.left _ _ _ _ _ _ _ _ _ _ _ h (s.ensures.stops.1 h) z c.line.ensures w.ensures.run p.written.wrote.place p.written.wrote.bytes);
    }
