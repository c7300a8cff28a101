-- Document 01, "Listing, reading, host": the cell reader.
use Rattle.std.specs.Prelude.{ℕ, ◌*◌, List, [], Bool, cond, ◌&&◌, leb, ltb, length}
use Rattle.rules.specs.Numbers.{max_cells}
use Rattle.rules.specs.Memory.{cell_from, cell_numbers, cells_size}

-- the image that is told
abbrev pub chosen : Bool → List ℕ → List ℕ → List ℕ
chosen isKept running kept = cond isKept kept running

-- refused where R is out of range, cell ≥ R, or the chosen image is under 4R numbers
unfoldable pub readable : ℕ → ℕ → List ℕ → Bool
readable R j m = leb 1 R && (leb R max_cells && (ltb j R && leb (cells_size R) (length m)))

-- the four numbers of one cell as part of the image, or a part of length 0
unfoldable pub cell_part : Bool → ℕ → ℕ → List ℕ → List ℕ → List ℕ
cell_part isKept R j running kept =
    let m = chosen isKept running kept in
    cond (readable R j m) (cell_numbers R m j) []

-- how many bytes into the chosen image that part begins: a number has four bytes. A part of length 0 begins where the image does
unfoldable pub part_from : Bool → ℕ → ℕ → List ℕ → List ℕ → ℕ
part_from isKept R j running kept = cond (readable R j (chosen isKept running kept)) (4 * cell_from j) 0
