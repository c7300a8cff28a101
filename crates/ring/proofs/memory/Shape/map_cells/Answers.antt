use Rattle.std.proofs.Common.{◌≡◌, ◌≢◌, add-one, arith}
use Rattle.rules.proofs.Memory.{cell_other}
use Rattle.rules.specs.Memory.{cell_at}
use Rattle.ring.proofs.memory.Shape.map_cells.Goals as goal

pub loop-j-preserved : goal.loop-j-preserved
loop-j-preserved g c =
    let i = c.loop-j in
    let R = c.args.self.cells in
    record {
      rest = λ k h. let n : k ≢ i.j = omega arith in rw (c.set_cell.ensures, cell_other R i.m k i.j c.f.result n) (i.invariant.rest k (omega arith));
      made =
          λ f agrees.
          let e : c.cell-c.result ≡ cell_at R c.args.m.now i.j = rw c.cell-c.ensures (i.invariant.rest i.j (omega arith)) in
          let d = agrees i.j c.f.result c.loop-j-test.true (rw e at c.f.ensures) in
          rw (add-one, c.set_cell.ensures, d, i.invariant.made f agrees);
    }
