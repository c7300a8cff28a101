use Rattle.std.proofs.Common.{arith}
use Rattle.bench.proofs.Printing.{one_more}
use Rattle.bench.proofs.print.Text.numbers.Goals as goal

pub loop-n-preserved : goal.loop-n-preserved
loop-n-preserved c = record {
  wrote = one_more _ _ _ c.args.ns.now c.loop-n.n-index c.loop-n-test.true c.loop-n.invariant.wrote (rw c.from.ensures at c.number.ensures.wrote);
  room = omega arith;
}
