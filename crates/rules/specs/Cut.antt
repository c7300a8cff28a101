-- Document 01, "The cut": what recovery reads from the kept image, and what it leaves there.
use Rattle.std.specs.Prelude.{ℕ, zero, suc, ◌+◌, ◌-◌, max, min, List, [], ◌∷◌, Bool, cond, ◌&&◌, not, eqb, ltb, leb}
use Rattle.rules.specs.declared.Cell.{Cell}
use Rattle.rules.specs.declared.Found.{Found}
use Rattle.rules.specs.Upto.{max_to, count_to, join_from}
use Rattle.rules.specs.Record.{cell}
use Rattle.rules.specs.Memory.{cell_at, copy_at, closed_at, set_tail, cells_to, copies_to}
use Rattle.rules.specs.Answers.{found}
use Rattle.rules.specs.Table.{blank}

-- pass mark = largest of all marks and copies
unfoldable pub pass_mark : ℕ → ℕ → List ℕ → ℕ
pass_mark R n m = max (max_to (λ j. (cell_at R m j).mark) R) (max_to (copy_at R m) n)

-- an occupied cell with index ≥ pass mark
unfoldable pub queued : ℕ → Cell → Bool
queued mark c = not (blank c) && leb mark c.index

-- Tail = largest queued index + 1, the pass mark if nothing is queued
abbrev pub tail_to : ℕ → ℕ → List ℕ → ℕ → ℕ
tail_to R mark m zero = mark
tail_to R mark m (suc k) = cond (queued mark (cell_at R m k)) (max (tail_to R mark m k) ((cell_at R m k).index + 1)) (tail_to R mark m k)

-- Head = smallest queued index; where nothing is queued it is Tail, which is then the pass mark
abbrev pub head_to : ℕ → ℕ → ℕ → List ℕ → ℕ → ℕ
head_to R mark tail m zero = tail
head_to R mark tail m (suc k) = cond (queued mark (cell_at R m k)) (min (head_to R mark tail m k) (cell_at R m k).index) (head_to R mark tail m k)

unfoldable pub tail_of : ℕ → ℕ → List ℕ → ℕ
tail_of R mark m = tail_to R mark m R

unfoldable pub head_of : ℕ → ℕ → List ℕ → ℕ
head_of R mark m = head_to R mark (tail_of R mark m) m R

unfoldable pub count_of : ℕ → ℕ → List ℕ → ℕ
count_of R mark m = count_to (λ j. queued mark (cell_at R m j)) R

-- what a cut of this kept image finds
unfoldable pub finds : ℕ → ℕ → List ℕ → Found
finds R n m =
    let mark = pass_mark R n m in
    found mark (head_of R mark m) (tail_of R mark m) (closed_at R n m) (count_of R mark m)

-- a queued item under its number
pub record Entry : Type 0 where
  pub number : ℕ
  pub item : ℕ

abbrev pub entry : ℕ → ℕ → Entry
entry x i = record { number = x; item = i }

-- the queued cells whose index is x, by cell
unfoldable pub entry_if : ℕ → ℕ → List ℕ → ℕ → ℕ → List Entry
entry_if R mark m x j =
    let c = cell_at R m j in
    cond (queued mark c && eqb c.index x) (entry x c.item ∷ []) []

unfoldable pub entries_at : ℕ → ℕ → List ℕ → ℕ → List Entry
entries_at R mark m x = join_from (entry_if R mark m x) 0 R

-- queue = occupied cells with index ≥ pass mark, by rising index, equal indexes by cell
unfoldable pub queue_of : ℕ → ℕ → List ℕ → List Entry
queue_of R n m =
    let mark = pass_mark R n m in
    join_from (entries_at R mark m) mark (tail_of R mark m - mark)

-- occupied cells below the pass mark become blank with index + R, other cells keep index and item; every safe is 1, every mark is Head
unfoldable pub mended : ℕ → ℕ → ℕ → Cell → Cell
mended R mark head c = cond (not (blank c) && ltb c.index mark) (cell 1 (c.index + R) 0 head) (cell 1 c.index c.item head)

-- the image that a cut leaves: every copy is Head, closed stays, Tail is the recovered one
unfoldable pub recovered : ℕ → ℕ → List ℕ → List ℕ
recovered R n m =
    let mark = pass_mark R n m in
    let head = head_of R mark m in
    set_tail R n (copies_to R head (cells_to R (λ j. mended R mark head) m R) n) (tail_of R mark m)
