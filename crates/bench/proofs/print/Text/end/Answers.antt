use Rattle.std.proofs.Common.{arith}
use Rattle.bench.proofs.Printing.{and_then}
use Rattle.bench.specs.Print.{line_text, end_text}
use Rattle.bench.proofs.print.Text.end.Goals as goal

pub returns : goal.returns
unfolding line_text end_text
returns c = record {
  written = rw (← c.from.ensures) (and_then c.word.ensures (and_then c.number.ensures.wrote c.byte.ensures));
  near = omega arith;
}
