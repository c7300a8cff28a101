-- Document 01, "Events": both sides of each row of the step table, in one ring of 2 cells. Each line is what the definitions give and what the page says, the whole record and image.
use Prim.Native.Nat.{ℕ}
use mathlib.Core.Path.{◌≡◌, refl}
use mathlib.Core.List.{List, [], ◌∷◌, map}
use Rattle.rules.specs.declared.Line.{Line}
use Rattle.rules.specs.declared.Line.TheVariants.{None, Copy, Tail, Cell as CellLine}
use Rattle.rules.specs.declared.Cell.{Cell}
use Rattle.rules.specs.declared.Thread.{Thread}
use Rattle.rules.specs.declared.Ring.{Ring}
use Rattle.rules.specs.declared.Answer.{Answer}
use Rattle.rules.specs.declared.Answer.TheVariants.{Drew, Looked, SawHead, Landed, Missed, Asked, Waiting, Ok, Closed, SetClosed, Took, Flagged, Passed, SawTail, Lifted, Copied, Item, Empty}
use Rattle.rules.specs.Record.{cell, zero_cell, idle, ring_of}
use Rattle.rules.specs.Memory.{cell_at, set_cell, set_copy, closed_at, set_closed, tail_at, set_tail}
use Rattle.rules.specs.Answers.{by}
use Rattle.rules.specs.Places.{P1, P2, P3, P4, P5, P6, P7, P8, P9, P10, T1, T2, T3, T4, T5, T6, T7, T8, T9, T10}
use Rattle.rules.specs.Table.{Step, step, same, row_wait, row_p1, row_p2, row_p3, row_p4, row_p5, row_p6, row_p7, row_p8, row_p9, row_p10, row_t1, row_t2, row_t3, row_t4, row_t5, row_t6, row_t7, row_t8, row_t9, row_t10, put_row, take_row, row}

pub record Pair : Type 0 where
  pub worked : Step
  pub page : Step

-- R 2, n 2, S 5, event count 100, Head 9
abbrev pub ring : Ring
ring = ring_of 2 2 5 100 9

-- place, number, looked-at cell, tries, awaited line; the item is 77
abbrev pub thread : ℕ → ℕ → Cell → ℕ → Line → Thread
thread p v c k l = record { place = p; item = 77; number = v; looked = c; tries = k; awaited = l }

abbrev pub holds : ℕ → ℕ → ℕ → Cell → ℕ → Line → Thread
holds x p v c k l = record { place = p; item = x; number = v; looked = c; tries = k; awaited = l }

-- cell 0, cell 1 with a neighbour's numbers, copies 3 and 4, closed, Tail, and one number past the image
abbrev pub image : Cell → ℕ → ℕ → List ℕ
image c closed tail = c.safe ∷ c.index ∷ c.item ∷ c.mark ∷ 0 ∷ 5 ∷ 55 ∷ 1 ∷ 3 ∷ 4 ∷ closed ∷ tail ∷ 99 ∷ []

-- thread 1 does the row of its place
abbrev pub does : Thread → List ℕ → Thread → Answer → List ℕ → Pair
does t m t' a m' = record { worked = row ring 1 t m; page = step ring t' a m' }

abbrev pub c : Cell
c = cell 1 6 0 2

abbrev pub o : Cell
o = cell 0 6 66 2

unfoldable pub rows : List Pair
rows =
    -- P1: open to P2, closed to P7
    does (thread P1 6 c 2 Tail) (image c 0 12) (thread P2 12 zero_cell 2 Tail) (Drew (by 1 12)) (image c 0 13)
    ∷ does (thread P1 6 c 2 Tail) (image c 1 12) (thread P7 12 zero_cell 2 Tail) (Drew (by 1 12)) (image c 1 13)
    -- P2: blank and index ≤ number with safe 1, with safe 0; index above; occupied
    ∷ does (thread P2 6 zero_cell 2 None) (image c 0 12) (thread P4 6 c 2 None) (Looked (by 1 6) 0) (image c 0 12)
    ∷ does (thread P2 6 zero_cell 2 None) (image (cell 0 4 0 2) 0 12) (thread P3 6 (cell 0 4 0 2) 2 None) (Looked (by 1 6) 0) (image (cell 0 4 0 2) 0 12)
    ∷ does (thread P2 6 zero_cell 2 None) (image (cell 1 7 0 2) 0 12) (thread P8 6 (cell 1 7 0 2) 2 None) (Looked (by 1 6) 0) (image (cell 1 7 0 2) 0 12)
    ∷ does (thread P2 6 zero_cell 2 None) (image o 0 12) (thread P8 6 o 2 None) (Looked (by 1 6) 0) (image o 0 12)
    -- P3: Head ≤ number, Head above
    ∷ does (thread P3 9 c 2 None) (image c 0 12) (thread P4 9 c 2 None) (SawHead (by 1 9) 9) (image c 0 12)
    ∷ does (thread P3 8 c 2 None) (image c 0 12) (thread P8 8 c 2 None) (SawHead (by 1 8) 9) (image c 0 12)
    -- P4: matches; each of the four numbers different, below and above
    ∷ does (thread P4 8 (cell 0 6 0 2) 2 None) (image (cell 0 6 0 2) 0 12) (thread P5 8 (cell 0 6 0 2) 2 None) (Landed (by 1 8) 0 77) (image (cell 1 8 77 2) 0 12)
    ∷ does (thread P4 8 (cell 0 6 0 2) 2 None) (image c 0 12) (thread P8 8 (cell 0 6 0 2) 2 None) (Missed (by 1 8) 0) (image c 0 12)
    ∷ does (thread P4 8 (cell 1 4 0 2) 2 None) (image c 0 12) (thread P8 8 (cell 1 4 0 2) 2 None) (Missed (by 1 8) 0) (image c 0 12)
    ∷ does (thread P4 8 (cell 1 6 1 2) 2 None) (image c 0 12) (thread P8 8 (cell 1 6 1 2) 2 None) (Missed (by 1 8) 0) (image c 0 12)
    ∷ does (thread P4 8 (cell 1 6 0 1) 2 None) (image c 0 12) (thread P8 8 (cell 1 6 0 1) 2 None) (Missed (by 1 8) 0) (image c 0 12)
    ∷ does (thread P4 8 c 2 None) (image (cell 0 6 0 2) 0 12) (thread P8 8 c 2 None) (Missed (by 1 8) 0) (image (cell 0 6 0 2) 0 12)
    ∷ does (thread P4 8 (cell 1 8 0 2) 2 None) (image c 0 12) (thread P8 8 (cell 1 8 0 2) 2 None) (Missed (by 1 8) 0) (image c 0 12)
    ∷ does (thread P4 8 c 2 None) (image (cell 1 6 1 2) 0 12) (thread P8 8 c 2 None) (Missed (by 1 8) 0) (image (cell 1 6 1 2) 0 12)
    ∷ does (thread P4 8 (cell 1 6 0 3) 2 None) (image c 0 12) (thread P8 8 (cell 1 6 0 3) 2 None) (Missed (by 1 8) 0) (image c 0 12)
    -- P5
    ∷ does (thread P5 7 c 2 None) (image c 0 12) (thread P6 7 c 2 (CellLine 1)) (Asked (by 1 7)) (image c 0 12)
    -- P6: awaiting, not awaiting
    ∷ does (thread P6 6 c 2 (CellLine 0)) (image c 0 12) (thread P6 6 c 2 (CellLine 0)) (Waiting (by 1 6)) (image c 0 12)
    ∷ does (thread P6 6 c 2 None) (image c 0 12) idle (Ok (by 1 6) 77) (image c 0 12)
    -- P7
    ∷ does (thread P7 6 c 2 None) (image c 1 12) (thread P10 6 c 2 Tail) (Asked (by 1 6)) (image c 1 12)
    -- P8: Head + R ≤ number; tries now S; neither
    ∷ does (thread P8 11 c 1 None) (image c 0 12) (thread P9 11 c 4 None) (SawHead (by 1 11) 9) (image c 0 12)
    ∷ does (thread P8 10 c 4 None) (image c 0 12) (thread P9 10 c 4 None) (SawHead (by 1 10) 9) (image c 0 12)
    ∷ does (thread P8 10 c 3 None) (image c 0 12) (thread P1 10 c 4 None) (SawHead (by 1 10) 9) (image c 0 12)
    -- P9
    ∷ does (thread P9 6 c 4 None) (image c 0 12) (thread P7 6 c 4 None) (SetClosed (by 1 6)) (image c 1 12)
    -- P10: awaiting, not awaiting
    ∷ does (thread P10 6 c 4 Tail) (image c 1 12) (thread P10 6 c 4 Tail) (Waiting (by 1 6)) (image c 1 12)
    ∷ does (thread P10 6 c 4 None) (image c 1 12) idle (Closed (by 1 6)) (image c 1 12)
    -- T1: Head is one more
    ∷ record { worked = row ring 1 (thread T1 6 c 2 None) (image c 0 12); page = step (ring_of 2 2 5 100 10) (thread T2 9 zero_cell 2 None) (Drew (by 1 9)) (image c 0 12) }
    -- T2: index above, blank or occupied; blank below; index = number, blank or occupied; occupied below
    ∷ does (thread T2 4 zero_cell 0 None) (image c 0 12) (thread T6 4 c 0 None) (Looked (by 1 4) 0) (image c 0 12)
    ∷ does (thread T2 4 zero_cell 0 None) (image o 0 12) (thread T6 4 o 0 None) (Looked (by 1 4) 0) (image o 0 12)
    ∷ does (thread T2 8 zero_cell 0 None) (image c 0 12) (thread T5 8 c 0 None) (Looked (by 1 8) 0) (image c 0 12)
    ∷ does (thread T2 6 zero_cell 0 None) (image c 0 12) (thread T5 6 c 0 None) (Looked (by 1 6) 0) (image c 0 12)
    ∷ does (thread T2 6 zero_cell 0 None) (image o 0 12) (thread T3 6 o 0 None) (Looked (by 1 6) 0) (image o 0 12)
    ∷ does (thread T2 8 zero_cell 0 None) (image o 0 12) (thread T4 8 o 0 None) (Looked (by 1 8) 0) (image o 0 12)
    -- T3: matches, else
    ∷ does (holds 0 T3 6 o 0 None) (image o 0 12) (holds 66 T8 6 o 0 None) (Took (by 1 6) 0 66) (image (cell 0 8 0 7) 0 12)
    ∷ does (holds 0 T3 6 o 0 None) (image c 0 12) (holds 0 T2 6 o 0 None) (Missed (by 1 6) 0) (image c 0 12)
    -- T4: matches, else
    ∷ does (thread T4 8 (cell 1 6 66 2) 0 None) (image (cell 1 6 66 2) 0 12) (thread T6 8 (cell 1 6 66 2) 0 None) (Flagged (by 1 8) 0) (image o 0 12)
    ∷ does (thread T4 8 (cell 1 6 66 2) 0 None) (image c 0 12) (thread T2 8 (cell 1 6 66 2) 0 None) (Missed (by 1 8) 0) (image c 0 12)
    -- T5: matches, else
    ∷ does (thread T5 8 c 0 None) (image c 0 12) (thread T6 8 c 0 None) (Passed (by 1 8) 0) (image (cell 1 10 0 9) 0 12)
    ∷ does (thread T5 8 c 0 None) (image o 0 12) (thread T2 8 c 0 None) (Missed (by 1 8) 0) (image o 0 12)
    -- T6: Tail ≤ number + 1, Tail above
    ∷ does (thread T6 8 c 0 None) (image c 0 9) (thread T7 8 c 0 None) (SawTail (by 1 8) 9) (image c 0 9)
    ∷ does (thread T6 8 c 0 None) (image c 0 10) (thread T1 8 c 0 None) (SawTail (by 1 8) 10) (image c 0 10)
    -- T7: Head the larger, Tail the larger
    ∷ does (thread T7 7 c 0 None) (image c 0 8) (thread T8 7 c 0 None) (Lifted (by 1 7) 9) (image c 0 9)
    ∷ does (thread T7 7 c 0 None) (image c 0 10) (thread T8 7 c 0 None) (Lifted (by 1 7) 10) (image c 0 10)
    -- T8: own copy
    ∷ does (thread T8 7 c 0 None) (image c 0 12) (thread T9 7 c 0 None) (Copied (by 1 7) 8) (1 ∷ 6 ∷ 0 ∷ 2 ∷ 0 ∷ 5 ∷ 55 ∷ 1 ∷ 3 ∷ 8 ∷ 0 ∷ 12 ∷ 99 ∷ [])
    -- T9
    ∷ does (thread T9 7 c 0 None) (image c 0 12) (thread T10 7 c 0 (Copy 1)) (Asked (by 1 7)) (image c 0 12)
    -- T10: awaiting; ITEM; EMPTY
    ∷ does (thread T10 7 c 0 (Copy 1)) (image c 0 12) (thread T10 7 c 0 (Copy 1)) (Waiting (by 1 7)) (image c 0 12)
    ∷ does (thread T10 7 c 0 None) (image c 0 12) idle (Item (by 1 7) 77) (image c 0 12)
    ∷ does (holds 0 T10 7 c 0 None) (image c 0 12) idle (Empty (by 1 7)) (image c 0 12)
    ∷ []

pub rows_hold : map (λ (l : Pair). l.worked) rows ≡ map (λ (l : Pair). l.page) rows
unfolding rows cell_at set_cell set_copy closed_at set_closed tail_at set_tail same row_wait row_p1 row_p2 row_p3 row_p4 row_p5 row_p6 row_p7 row_p8 row_p9 row_p10 row_t1 row_t2 row_t3 row_t4 row_t5 row_t6 row_t7 row_t8 row_t9 row_t10 put_row take_row row
rows_hold = refl
