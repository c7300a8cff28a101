-- Document 01, "Events": the step table, one definition for each row, in the page's order.
use Rattle.std.specs.Prelude.{ℕ, ◌+◌, ◌-◌, ◌%◌, max, List, Bool, cond, ◌&&◌, ◌||◌, eqb, ltb, leb}
use Rattle.rules.specs.declared.Line.{Line}
use Rattle.rules.specs.declared.Line.TheVariants.{Copy, Tail, Cell as CellLine}
use Rattle.rules.specs.declared.Cell.{Cell}
use Rattle.rules.specs.declared.Thread.{Thread}
use Rattle.rules.specs.declared.Ring.{Ring}
use Rattle.rules.specs.declared.Moved.{Moved}
use Rattle.rules.specs.declared.Answer.{Answer}
use Rattle.rules.specs.declared.Answer.TheVariants.{Drew, Looked, SawHead, Landed, Missed, Asked, Waiting, Ok, Closed, SetClosed, Took, Flagged, Passed, SawTail, Lifted, Copied, Item, Empty}
use Rattle.rules.specs.Record.{cell, zero_cell, idle, drawn}
use Rattle.rules.specs.Memory.{cell_at, set_cell, set_copy, closed_at, set_closed, tail_at, set_tail}
use Rattle.rules.specs.Line.{is_none}
use Rattle.rules.specs.Answers.{by}
use Rattle.rules.specs.Places.{P1, P2, P3, P4, P5, P6, P7, P8, P9, P10, T1, T2, T3, T4, T5, T6, T7, T8, T9, T10}

-- what a row leaves: the ring's numbers, the thread and the answer, and the running image
pub record Step : Type 0 where
  pub moved : Moved
  pub running : List ℕ

abbrev pub leaves : Moved → List ℕ → Step
leaves r m = record { moved = r; running = m }

abbrev pub step : Ring → Thread → Answer → List ℕ → Step
step g t a m = leaves (record { ring = g; thread = t; answer = a }) m

-- a thread that goes to place p, and what else becomes of it
abbrev pub to : Thread → ℕ → Thread
to t p = record { place = p; item = t.item; number = t.number; looked = t.looked; tries = t.tries; awaited = t.awaited }

abbrev pub drawing : Thread → ℕ → ℕ → Thread
drawing t v p = record { place = p; item = t.item; number = v; looked = zero_cell; tries = t.tries; awaited = t.awaited }

abbrev pub looking : Thread → Cell → ℕ → Thread
looking t c p = record { place = p; item = t.item; number = t.number; looked = c; tries = t.tries; awaited = t.awaited }

abbrev pub awaiting : Thread → Line → ℕ → Thread
awaiting t l p = record { place = p; item = t.item; number = t.number; looked = t.looked; tries = t.tries; awaited = l }

abbrev pub trying : Thread → ℕ → ℕ → Thread
trying t k p = record { place = p; item = t.item; number = t.number; looked = t.looked; tries = k; awaited = t.awaited }

abbrev pub holding : Thread → ℕ → ℕ → Thread
holding t x p = record { place = p; item = x; number = t.number; looked = t.looked; tries = t.tries; awaited = t.awaited }

-- the cell's place in the ring, and the cell at number mod R in the running image
abbrev pub spot : Ring → Thread → ℕ
spot g t = t.number % g.cells

abbrev pub cell_of : Ring → Thread → List ℕ → Cell
cell_of g t m = cell_at g.cells m (spot g t)

-- "matches" compares all four numbers with those last looked at
unfoldable pub same : Cell → Cell → Bool
same c d = eqb c.safe d.safe && (eqb c.index d.index && (eqb c.item d.item && eqb c.mark d.mark))

abbrev pub matches : Ring → Thread → List ℕ → Bool
matches g t m = same (cell_of g t m) t.looked

-- item 0 means blank
abbrev pub blank : Cell → Bool
blank c = eqb c.item 0

-- P6, P10, T10: awaiting: waiting, nothing changes; else the last answer, idle
unfoldable pub row_wait : Ring → ℕ → Thread → List ℕ → Answer → Step
row_wait g i t m last = cond (is_none t.awaited) (step g idle last m) (step g t (Waiting (by i t.number)) m)

-- P1: number = Tail, Tail + 1, looked-at cell zeroed; drew; closed to P7, else P2
unfoldable pub row_p1 : Ring → ℕ → Thread → List ℕ → Step
row_p1 g i t m =
    let tail = tail_at g.cells g.threads m in
    step g (drawing t tail (cond (eqb (closed_at g.cells g.threads m) 1) P7 P2)) (Drew (by i tail)) (set_tail g.cells g.threads m (tail + 1))

-- P2: look at cell; looked; blank and index ≤ number: safe 1 to P4, safe 0 to P3; else P8
unfoldable pub row_p2 : Ring → ℕ → Thread → List ℕ → Step
row_p2 g i t m =
    let c = cell_of g t m in
    step g (looking t c (cond (blank c && leb c.index t.number) (cond (eqb c.safe 1) P4 P3) P8)) (Looked (by i t.number) (spot g t)) m

-- P3: saw Head; Head ≤ number to P4, else P8
unfoldable pub row_p3 : Ring → ℕ → Thread → List ℕ → Step
row_p3 g i t m = step g (to t (cond (leb g.head t.number) P4 P8)) (SawHead (by i t.number) g.head) m

-- P4: matches: cell becomes (1, number, item, mark as it was), landed number item, P5; else missed, P8
unfoldable pub row_p4 : Ring → ℕ → Thread → List ℕ → Step
row_p4 g i t m =
    cond (matches g t m)
    (step g (to t P5) (Landed (by i t.number) (spot g t) t.item) (set_cell g.cells m (spot g t) (cell 1 t.number t.item (cell_of g t m).mark)))
    (step g (to t P8) (Missed (by i t.number) (spot g t)) m)

-- P5: await cell; asked; P6
unfoldable pub row_p5 : Ring → ℕ → Thread → List ℕ → Step
row_p5 g i t m = step g (awaiting t (CellLine (spot g t)) P6) (Asked (by i t.number)) m

-- P6: awaiting: waiting, nothing changes; else OK, idle
unfoldable pub row_p6 : Ring → ℕ → Thread → List ℕ → Step
row_p6 g i t m = row_wait g i t m (Ok (by i t.number) t.item)

-- P7: await Tail line; asked; P10
unfoldable pub row_p7 : Ring → ℕ → Thread → List ℕ → Step
row_p7 g i t m = step g (awaiting t Tail P10) (Asked (by i t.number)) m

-- P8: tries + 1; saw Head; Head + R ≤ number or tries now S: P9, tries becoming S − 1 in both cases; else P1
abbrev pub gives_up : Ring → Thread → Bool
gives_up g t = leb (g.head + g.cells) t.number || eqb (t.tries + 1) g.tries

unfoldable pub row_p8 : Ring → ℕ → Thread → List ℕ → Step
row_p8 g i t m = step g (cond (gives_up g t) (trying t (g.tries - 1) P9) (trying t (t.tries + 1) P1)) (SawHead (by i t.number) g.head) m

-- P9: closed = 1; set closed; P7
unfoldable pub row_p9 : Ring → ℕ → Thread → List ℕ → Step
row_p9 g i t m = step g (to t P7) (SetClosed (by i t.number)) (set_closed g.cells g.threads m 1)

-- P10: as P6, answering CLOSED
unfoldable pub row_p10 : Ring → ℕ → Thread → List ℕ → Step
row_p10 g i t m = row_wait g i t m (Closed (by i t.number))

-- T1: number = Head, Head + 1, looked-at cell zeroed; drew; T2
unfoldable pub row_t1 : Ring → ℕ → Thread → List ℕ → Step
row_t1 g i t m = step (drawn g) (drawing t g.head T2) (Drew (by i g.head)) m

-- T2: look at cell; looked; index > number to T6; blank to T5; index = number to T3; else T4
unfoldable pub row_t2 : Ring → ℕ → Thread → List ℕ → Step
row_t2 g i t m =
    let c = cell_of g t m in
    step g (looking t c (cond (ltb t.number c.index) T6 (cond (blank c) T5 (cond (eqb c.index t.number) T3 T4)))) (Looked (by i t.number) (spot g t)) m

-- T3, T5: the cell becomes (safe, number + R, 0, number + 1)
abbrev pub passed_cell : Ring → Thread → List ℕ → Cell
passed_cell g t m = cell (cell_of g t m).safe (t.number + g.cells) 0 (t.number + 1)

-- T3: matches: cell becomes (safe, number + R, 0, number + 1), thread's item is the cell's, took number item, T8; else missed, T2
unfoldable pub row_t3 : Ring → ℕ → Thread → List ℕ → Step
row_t3 g i t m =
    let x = (cell_of g t m).item in
    cond (matches g t m)
    (step g (holding t x T8) (Took (by i t.number) (spot g t) x) (set_cell g.cells m (spot g t) (passed_cell g t m)))
    (step g (to t T2) (Missed (by i t.number) (spot g t)) m)

-- T4: matches: safe = 0, flagged, T6; else missed, T2
unfoldable pub row_t4 : Ring → ℕ → Thread → List ℕ → Step
row_t4 g i t m =
    let c = cell_of g t m in
    cond (matches g t m)
    (step g (to t T6) (Flagged (by i t.number) (spot g t)) (set_cell g.cells m (spot g t) (cell 0 c.index c.item c.mark)))
    (step g (to t T2) (Missed (by i t.number) (spot g t)) m)

-- T5: matches: cell becomes (safe, number + R, 0, number + 1), passed number, T6; else missed, T2
unfoldable pub row_t5 : Ring → ℕ → Thread → List ℕ → Step
row_t5 g i t m =
    cond (matches g t m)
    (step g (to t T6) (Passed (by i t.number) (spot g t)) (set_cell g.cells m (spot g t) (passed_cell g t m)))
    (step g (to t T2) (Missed (by i t.number) (spot g t)) m)

-- T6: saw Tail; Tail ≤ number + 1 to T7, else T1
unfoldable pub row_t6 : Ring → ℕ → Thread → List ℕ → Step
row_t6 g i t m =
    let tail = tail_at g.cells g.threads m in
    step g (to t (cond (leb tail (t.number + 1)) T7 T1)) (SawTail (by i t.number) tail) m

-- T7: Tail = larger of Tail and Head; lifted; T8
unfoldable pub row_t7 : Ring → ℕ → Thread → List ℕ → Step
row_t7 g i t m =
    let tail = max (tail_at g.cells g.threads m) g.head in
    step g (to t T8) (Lifted (by i t.number) tail) (set_tail g.cells g.threads m tail)

-- T8: own local copy = number + 1; copied number + 1; T9
unfoldable pub row_t8 : Ring → ℕ → Thread → List ℕ → Step
row_t8 g i t m = step g (to t T9) (Copied (by i t.number) (t.number + 1)) (set_copy g.cells m i (t.number + 1))

-- T9: await own copy; asked; T10
unfoldable pub row_t9 : Ring → ℕ → Thread → List ℕ → Step
row_t9 g i t m = step g (awaiting t (Copy i) T10) (Asked (by i t.number)) m

-- T10: as P6, answering ITEM with the item, or EMPTY if it is zero
unfoldable pub row_t10 : Ring → ℕ → Thread → List ℕ → Step
row_t10 g i t m = row_wait g i t m (cond (eqb t.item 0) (Empty (by i t.number)) (Item (by i t.number) t.item))

-- the row of a busy thread's place: the put places, then the take places
unfoldable pub put_row : Ring → ℕ → Thread → List ℕ → Step
put_row g i t m =
    let p = t.place in
    cond (eqb p P1) (row_p1 g i t m)
    (cond (eqb p P2) (row_p2 g i t m)
    (cond (eqb p P3) (row_p3 g i t m)
    (cond (eqb p P4) (row_p4 g i t m)
    (cond (eqb p P5) (row_p5 g i t m)
    (cond (eqb p P6) (row_p6 g i t m)
    (cond (eqb p P7) (row_p7 g i t m)
    (cond (eqb p P8) (row_p8 g i t m)
    (cond (eqb p P9) (row_p9 g i t m)
    (row_p10 g i t m)))))))))

unfoldable pub take_row : Ring → ℕ → Thread → List ℕ → Step
take_row g i t m =
    let p = t.place in
    cond (eqb p T1) (row_t1 g i t m)
    (cond (eqb p T2) (row_t2 g i t m)
    (cond (eqb p T3) (row_t3 g i t m)
    (cond (eqb p T4) (row_t4 g i t m)
    (cond (eqb p T5) (row_t5 g i t m)
    (cond (eqb p T6) (row_t6 g i t m)
    (cond (eqb p T7) (row_t7 g i t m)
    (cond (eqb p T8) (row_t8 g i t m)
    (cond (eqb p T9) (row_t9 g i t m)
    (row_t10 g i t m)))))))))

unfoldable pub row : Ring → ℕ → Thread → List ℕ → Step
row g i t m = cond (ltb t.place T1) (put_row g i t m) (take_row g i t m)
