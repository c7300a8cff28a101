use Rattle.std.proofs.Common.{◌≡◌}
use Rattle.bench.specs.Gather.{AnswersPrinted, printed_to}
use Rattle.bench.proofs.tell.print_all.Given as goal

abbrev pub invariant-loop-six : goal.invariant-loop-six
invariant-loop-six l = let p = printed_to l.e l.l l.room l.six-index in (l.count ≡ p.count) × AnswersPrinted p l.six-index l.initial.text l.line l.text
