use Rattle.std.proofs.Common.{arith, [], ◌∷◌}
use Rattle.bench.proofs.Printing.{and_then, then_numbers}
use Rattle.bench.specs.Print.{line_text, said_text}
use Rattle.bench.proofs.print.Text.refused.Goals as goal

pub returns : goal.returns
unfolding line_text said_text
returns c =
    let numbers = then_numbers (c.args.l ∷ []) (c.from.result ∷ []) c.number.ensures.wrote c.number-2.ensures.wrote in
    record {
      written = rw (← c.from.ensures) (and_then c.word.ensures (and_then numbers c.byte.ensures));
      near = omega arith;
    }
