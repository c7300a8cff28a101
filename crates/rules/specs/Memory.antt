-- Document 01, "Numbers and memory": where each number stands in an image. No other definition knows, but for the made-up images of `Cases`.
use Rattle.std.specs.Prelude.{ℕ, zero, suc, ◌+◌, ◌*◌, List, [], ◌∷◌, set, get_or, take, drop}
use Rattle.rules.specs.declared.Cell.{Cell}
use Rattle.rules.specs.Record.{cell}

-- cell j of R stands at 4j: safe, index, item, mark
unfoldable pub cell_at : ℕ → List ℕ → ℕ → Cell
cell_at R m j = cell (get_or m (4 * j) 0) (get_or m (4 * j + 1) 0) (get_or m (4 * j + 2) 0) (get_or m (4 * j + 3) 0)

unfoldable pub set_cell : ℕ → List ℕ → ℕ → Cell → List ℕ
set_cell R m j c = set (set (set (set m (4 * j) c.safe) (4 * j + 1) c.index) (4 * j + 2) c.item) (4 * j + 3) c.mark

-- the number that it begins at, its four numbers as they stand, and how many numbers the cells take
abbrev pub cell_from : ℕ → ℕ
cell_from j = 4 * j

unfoldable pub cell_numbers : ℕ → List ℕ → ℕ → List ℕ
cell_numbers R m j = take 4 (drop (4 * j) m)

abbrev pub cells_size : ℕ → ℕ
cells_size R = 4 * R

-- the cells that a run of numbers holds, in order; fewer than four numbers at the end are none
unfoldable pub cells_in : List ℕ → List Cell
cells_in (s ∷ i ∷ x ∷ k ∷ m) = cell s i x k ∷ cells_in m
cells_in _ = []

-- at 4R stand the n local copies of Head, then closed, then Tail
unfoldable pub copy_at : ℕ → List ℕ → ℕ → ℕ
copy_at R m t = get_or m (4 * R + t) 0

unfoldable pub set_copy : ℕ → List ℕ → ℕ → ℕ → List ℕ
set_copy R m t v = set m (4 * R + t) v

unfoldable pub closed_at : ℕ → ℕ → List ℕ → ℕ
closed_at R n m = get_or m (4 * R + n) 0

unfoldable pub set_closed : ℕ → ℕ → List ℕ → ℕ → List ℕ
set_closed R n m v = set m (4 * R + n) v

unfoldable pub tail_at : ℕ → ℕ → List ℕ → ℕ
tail_at R n m = get_or m (4 * R + n + 1) 0

unfoldable pub set_tail : ℕ → ℕ → List ℕ → ℕ → List ℕ
set_tail R n m v = set m (4 * R + n + 1) v

-- how many numbers an image has
abbrev pub size : ℕ → ℕ → ℕ
size R n = 4 * R + n + 2

-- the first k cells, each made anew from its place and what it was
abbrev pub cells_to : ℕ → (ℕ → Cell → Cell) → List ℕ → ℕ → List ℕ
cells_to R f m zero = m
cells_to R f m (suc k) = set_cell R (cells_to R f m k) k (f k (cell_at R m k))

-- the first k copies, each v
abbrev pub copies_to : ℕ → ℕ → List ℕ → ℕ → List ℕ
copies_to R v m zero = m
copies_to R v m (suc k) = set_copy R (copies_to R v m k) k v

-- the first k numbers of m over those of r
abbrev pub over_to : List ℕ → List ℕ → ℕ → List ℕ
over_to m r zero = r
over_to m r (suc k) = set (over_to m r k) k (get_or m k 0)

-- a lent memory made fresh: cell j is (1, j, 0, 0), all else zero
unfoldable pub fresh_image : ℕ → ℕ → List ℕ → List ℕ
fresh_image R n m = set_tail R n (set_closed R n (copies_to R 0 (cells_to R (λ j c. cell 1 j 0 0) m R) n) 0) 0
