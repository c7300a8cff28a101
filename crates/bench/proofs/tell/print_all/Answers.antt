use Rattle.bench.proofs.Telling.{answer_in, print_more}
use Rattle.bench.proofs.tell.print_all.Goals as goal

pub loop-six-preserved : goal.loop-six-preserved
loop-six-preserved c =
    let a = c.args in
    let l = c.loop-six in
    let parts = c.as_chunks.ensures in
    let e = answer_in a.room.now c.as_chunks.result.0.now _ l.six-index parts.front parts.front_len c.loop-six-test.true in
    print_more a.e a.l a.room.now _ l.text _ l.six-index l.count l.line _ _ l.invariant (rw e at c.next_count-count.ensures) c.next_line-line.ensures (rw (c.said_of_six.ensures, e) at c.said.ensures)
