use Rattle.std.proofs.Common.{arith}
use Rattle.bench.proofs.Printing.{and_then, then_numbers}
use Rattle.bench.specs.Print.{counted_text, line_text}
use Rattle.bench.proofs.print.Text.counted.Goals as goal

pub returns : goal.returns
unfolding counted_text line_text
returns c =
    let numbers = then_numbers c.args.ns.now c.args.items.now c.numbers.ensures.wrote c.numbers-2.ensures.wrote in
    record {
      written = rw (← c.from.ensures) (and_then c.decimal.ensures.wrote (and_then c.byte.ensures (and_then c.word.ensures (and_then numbers c.byte-2.ensures))));
      near = omega arith;
    }
