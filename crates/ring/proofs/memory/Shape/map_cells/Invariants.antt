use Rattle.std.proofs.Common.{◌≡◌, ℕ, ◌<◌, ◌≤◌}
use Rattle.rules.specs.declared.Cell.{Cell}
use Rattle.rules.specs.Memory.{cell_at, cells_to}
use Rattle.ring.proofs.memory.Shape.map_cells.Given as goal

abbrev pub invariant-loop-j : goal.invariant-loop-j
invariant-loop-j g l = record {
  rest : (k : ℕ) → l.j ≤ k → cell_at l.self.cells l.m k ≡ cell_at l.self.cells l.initial.m k;
  made : (f : ℕ → Cell → Cell) → ((j : ℕ) (d : Cell) → j < l.self.cells → goal.F-post g l.f j (cell_at l.self.cells l.initial.m j) d → d ≡ f j (cell_at l.self.cells l.initial.m j)) → l.m ≡ cells_to l.self.cells f l.initial.m l.j;
}
