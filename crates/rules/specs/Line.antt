-- Document 01, "Numbers and memory" and "Events": the lines, what each carries, and which waits it ends.
use Rattle.std.specs.Prelude.{ℕ, List, Bool, true, false, cond, eqb, ltb}
use Rattle.rules.specs.declared.Line.{Line}
use Rattle.rules.specs.declared.Line.TheVariants.{None, Copy, Tail, Cell as CellLine}
use Rattle.rules.specs.declared.Thread.{Thread}
use Rattle.rules.specs.Memory.{cell_at, set_cell, copy_at, set_copy, closed_at, set_closed, tail_at, set_tail}

-- a line as two numbers: its kind and its place
abbrev pub line_kind : Line → ℕ
line_kind None = 0
line_kind (CellLine j) = 1
line_kind (Copy t) = 2
line_kind Tail = 3

abbrev pub line_place : Line → ℕ
line_place None = 0
line_place (CellLine j) = j
line_place (Copy t) = t
line_place Tail = 0

abbrev pub is_none : Line → Bool
is_none None = true
is_none (CellLine j) = false
is_none (Copy t) = false
is_none Tail = false

-- the lines of a ring of R cells and n threads
unfoldable pub line_exists : ℕ → ℕ → Line → Bool
line_exists R n None = false
line_exists R n (CellLine j) = ltb j R
line_exists R n (Copy t) = ltb t n
line_exists R n Tail = true

-- what a line carries: a cell's four numbers, one copy, or closed and Tail together
unfoldable pub carries_cell : Line → ℕ → Bool
carries_cell None i = false
carries_cell (CellLine j) i = eqb j i
carries_cell (Copy t) i = false
carries_cell Tail i = false

unfoldable pub carries_copy : Line → ℕ → Bool
carries_copy None i = false
carries_copy (CellLine j) i = false
carries_copy (Copy t) i = eqb t i
carries_copy Tail i = false

unfoldable pub carries_tail : Line → Bool
carries_tail None = false
carries_tail (CellLine j) = false
carries_tail (Copy t) = false
carries_tail Tail = true

-- kept once the line is copied from running
unfoldable pub carried : ℕ → ℕ → Line → List ℕ → List ℕ → List ℕ
carried R n None running kept = kept
carried R n (CellLine j) running kept = set_cell R kept j (cell_at R running j)
carried R n (Copy t) running kept = set_copy R kept t (copy_at R running t)
carried R n Tail running kept = set_tail R n (set_closed R n kept (closed_at R n running)) (tail_at R n running)

-- whether a written line ends the wait for an awaited one
unfoldable pub ends : Line → Line → Bool
ends l None = false
ends l (CellLine j) = carries_cell l j
ends l (Copy t) = carries_copy l t
ends l Tail = carries_tail l

-- a thread once the line is written: awaiting that line it awaits nothing
unfoldable pub released : Line → Thread → Thread
released l t =
    record { place = t.place; item = t.item; number = t.number; looked = t.looked; tries = t.tries; awaited = cond (ends l t.awaited) None t.awaited }
