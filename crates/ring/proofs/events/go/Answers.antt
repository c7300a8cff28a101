use Rattle.std.proofs.Common.{ap, rules, ◌∙◌}
use Rattle.ring.proofs.OneThread.{any_needs_of, go_left}
use Rattle.ring.specs.OneThread.{left}
use Rattle.rules.specs.State.{state}
use Rattle.rules.specs.Table.{Step}
use Rattle.ring.proofs.events.go.Goals as goal

pub go-answer-requires : goal.go-answer-requires
go-answer-requires c =
    let a = c.args in
    rw c.of-t.ensures (any_needs_of (state a.c a.running.now a.kept.now) a.i c.requires (search rules))

pub returns : goal.returns
returns c =
    let a = c.args in
    let s = state a.c a.running.now a.kept.now in
    let e = rw c.of-t.ensures at c.go-answer.ensures in
    rw (c.placed.ensures, c.done.ensures) (ap (λ (y : Step). left s a.i y) e ∙ go_left s a.i)
