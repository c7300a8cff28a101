use Rattle.std.proofs.Common.{rules, sym, ◌∙◌}
use Rattle.bench.proofs.Reading.{numbers_more}
use Rattle.bench.proofs.read.numbers.Goals as goal

pub loop-n-preserved : goal.loop-n-preserved
loop-n-preserved g c = let i = c.loop-n.invariant in record {
  full = search rules;
  read = i.read ∙ numbers_more _ _ _ _ _ _ c.loop-n-test.true (sym i.full) (sym c.in_ok-n.ensures);
}
