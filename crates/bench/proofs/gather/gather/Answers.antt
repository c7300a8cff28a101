use Rattle.std.proofs.Common.{arith}
use Rattle.bench.proofs.Gathering.{gather_line, gather_scan}
use Rattle.bench.proofs.Stored.{copied}
use Rattle.bench.proofs.gather.gather.Goals as goal

pub loop-count-preserved : goal.loop-count-preserved
loop-count-preserved c =
    let l = c.loop-count in
    let h = c.if-block-next.false in
    let s = c.scan_line-next.ensures in
    record {
      later = omega arith;
      gathers = rw (c.clear.ensures.bytes, c.clear.ensures.len)
          (gather_line _ _ _ _ _ l.events _ _ c.in-Some.three _ _ _ (gather_scan _ _ _ _ _ _ l.carry.bytes _ l.carry.len l.next _ _ _ l.invariant.gathers s.scan)
          h (s.stops.1 h) c.loop-count-test.true (omega arith)
          (cc) (omega arith) (copied _ _ _ _ _ c.copy_from_slice.ensures.after (omega arith) (omega arith)));
    }
