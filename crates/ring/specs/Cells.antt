-- How large the indexes of an image's cells are.
use Rattle.std.specs.Prelude.{ℕ, ◌+◌, ◌<◌, List}
use Rattle.rules.specs.declared.Cell.{Cell}
use Rattle.rules.specs.Numbers.{max_cells, run_limit}
use Rattle.rules.specs.Memory.{cell_at}

-- an index to which a ring's R can be added, and times 64 a place
abbrev pub IndexFits : Cell → Type 0
IndexFits c = c.index < run_limit + max_cells

-- all indexes of an image's R cells
abbrev pub IndexesFit : ℕ → List ℕ → Type 0
IndexesFit R m = (j : ℕ) → j < R → IndexFits (cell_at R m j)
