-- Random runs of the model in tests/, which was written from document 01 alone: the definitions give its answers, event by event, and leave its record and images.
-- This file is written by `cargo run --bin compared` in tests/, and a test there sees that it is what the model gives.
use mathlib.Core.Path.{◌≡◌, refl}
use Rattle.std.specs.Prelude.{ℕ, List, [], ◌∷◌, map, replicate}
use Rattle.rules.specs.declared.Line.{Line}
use Rattle.rules.specs.declared.Line.TheVariants.{None, Copy, Tail, Cell as CellLine}
use Rattle.rules.specs.declared.Cell.{Cell}
use Rattle.rules.specs.declared.Thread.{Thread}
use Rattle.rules.specs.declared.Ring.{Ring}
use Rattle.rules.specs.declared.Control.{Control}
use Rattle.rules.specs.declared.Event.{Event}
use Rattle.rules.specs.declared.Event.TheVariants.{Put, Take, Go, Back, Cut as CutEvent}
use Rattle.rules.specs.declared.Answer.{Answer}
use Rattle.rules.specs.declared.Answer.TheVariants.{Refused, Begun, Drew, Looked, SawHead, Landed, Missed, Asked, Waiting, Ok, Closed, SetClosed, Took, Flagged, Passed, SawTail, Lifted, Copied, Item, Empty, Written, Cut}
use Rattle.rules.specs.Numbers.{in_range}
use Rattle.rules.specs.Record.{cell, idle, ring_of, thread_at, with_thread}
use Rattle.rules.specs.Memory.{size, cell_at, set_cell, copy_at, set_copy, closed_at, set_closed, tail_at, set_tail, fresh_image}
use Rattle.rules.specs.Line.{line_exists, carries_cell, carries_copy, carries_tail, carried, ends, released}
use Rattle.rules.specs.Answers.{by, found}
use Rattle.rules.specs.Table.{same, row_wait, row_p1, row_p2, row_p3, row_p4, row_p5, row_p6, row_p7, row_p8, row_p9, row_p10, row_t1, row_t2, row_t3, row_t4, row_t5, row_t6, row_t7, row_t8, row_t9, row_t10, put_row, take_row, row}
use Rattle.rules.specs.Cut.{pass_mark, queued, tail_of, head_of, count_of, finds, mended, recovered}
use Rattle.rules.specs.Sound.{sound_ring, all_zero, sound_number, sound_busy, sound_thread, sound_record, sound_cell, sound_image}
use Rattle.rules.specs.State.{State, state, accept}
use Rattle.rules.specs.Refusals.{unsound, own_refusal}
use Rattle.rules.specs.Events.{begin_put, begin_take, step_thread, write_back, cut, does, inner, event, fresh_state, after, answers}

-- what a run answers and leaves, by the definitions and by the model
pub record Left : Type 0 where
  pub answers : List Answer
  pub state : State

abbrev left : List Answer → State → Left
left l s = record { answers = l; state = s }

pub record Run : Type 0 where
  pub worked : Left
  pub model : Left

-- from a fresh ring over memory that held sevens
abbrev run : ℕ → ℕ → ℕ → List Event → Left → Run
run R n S es m =
    let s = fresh_state R n S (replicate (size R n) 7) (replicate (size R n) 7) in
    record { worked = left (answers s es) (after s es); model = m }

abbrev thread : ℕ → ℕ → ℕ → Cell → ℕ → Line → Thread
thread p x v c k l = record { place = p; item = x; number = v; looked = c; tries = k; awaited = l }

abbrev control : Ring → List Thread → Control
control g l = record { ring = g; thread = l }

abbrev pub runs : List Run
runs =
    run 1 3 3 (Put 0 1000 ∷ CutEvent ∷ Take 2 ∷ Go 2 ∷ Take 0 ∷ Put 1 1005 ∷ Go 2 ∷ Go 2 ∷ Go 0 ∷ Go 2 ∷ Go 2 ∷ Go 0 ∷ Go 0 ∷ Go 1 ∷ Go 2 ∷ Go 2 ∷ Go 0 ∷ Go 1 ∷ CutEvent ∷ Take 1 ∷ Take 2 ∷ CutEvent ∷ Put 2 1022 ∷ Go 2 ∷ Take 1 ∷ Go 1 ∷ Go 2 ∷ Go 1 ∷ Put 0 4294967295 ∷ Go 1 ∷ Go 0 ∷ Go 0 ∷ Go 0 ∷ Go 0 ∷ Go 2 ∷ Go 2 ∷ Back (CellLine 0) ∷ Back (CellLine 0) ∷ Go 2 ∷ Go 2 ∷ CutEvent ∷ Take 1 ∷ Take 2 ∷ Take 0 ∷ Go 0 ∷ Go 1 ∷ Go 1 ∷ Go 1 ∷ Go 1 ∷ Go 2 ∷ Go 2 ∷ Go 0 ∷ Go 1 ∷ Go 0 ∷ Go 2 ∷ Go 1 ∷ Go 2 ∷ Go 1 ∷ Go 1 ∷ Go 1 ∷ Back (Copy 1) ∷ Go 0 ∷ Go 0 ∷ Go 1 ∷ Go 2 ∷ Put 1 1065 ∷ Go 1 ∷ CutEvent ∷ Take 1 ∷ Go 1 ∷ []) (left (Begun 0 ∷ Cut (found 0 0 0 0 0) ∷ Begun 2 ∷ Drew (by 2 0) ∷ Begun 0 ∷ Begun 1 ∷ Looked (by 2 0) 0 ∷ Passed (by 2 0) 0 ∷ Drew (by 0 1) ∷ SawTail (by 2 0) 0 ∷ Lifted (by 2 0) 2 ∷ Looked (by 0 1) 0 ∷ Passed (by 0 1) 0 ∷ Drew (by 1 2) ∷ Copied (by 2 0) 1 ∷ Asked (by 2 0) ∷ SawTail (by 0 1) 3 ∷ Looked (by 1 2) 0 ∷ Cut (found 0 0 0 0 0) ∷ Begun 1 ∷ Begun 2 ∷ Cut (found 0 0 0 0 0) ∷ Begun 2 ∷ Drew (by 2 0) ∷ Begun 1 ∷ Drew (by 1 0) ∷ Looked (by 2 0) 0 ∷ Looked (by 1 0) 0 ∷ Begun 0 ∷ Passed (by 1 0) 0 ∷ Drew (by 0 1) ∷ Looked (by 0 1) 0 ∷ Landed (by 0 1) 0 4294967295 ∷ Asked (by 0 1) ∷ Missed (by 2 0) 0 ∷ SawHead (by 2 0) 1 ∷ Written (CellLine 0) ∷ Written (CellLine 0) ∷ Drew (by 2 2) ∷ Looked (by 2 2) 0 ∷ Cut (found 1 1 2 0 1) ∷ Begun 1 ∷ Begun 2 ∷ Begun 0 ∷ Drew (by 0 1) ∷ Drew (by 1 2) ∷ Looked (by 1 2) 0 ∷ Flagged (by 1 2) 0 ∷ SawTail (by 1 2) 2 ∷ Drew (by 2 3) ∷ Looked (by 2 3) 0 ∷ Looked (by 0 1) 0 ∷ Lifted (by 1 2) 4 ∷ Took (by 0 1) 0 4294967295 ∷ Missed (by 2 3) 0 ∷ Copied (by 1 2) 3 ∷ Looked (by 2 3) 0 ∷ Asked (by 1 2) ∷ Waiting (by 1 2) ∷ Waiting (by 1 2) ∷ Written (Copy 1) ∷ Copied (by 0 1) 2 ∷ Asked (by 0 1) ∷ Empty (by 1 2) ∷ Passed (by 2 3) 0 ∷ Begun 1 ∷ Drew (by 1 4) ∷ Cut (found 3 3 3 0 0) ∷ Begun 1 ∷ Drew (by 1 3) ∷ []) (state (control (ring_of 1 3 3 70 4) (idle ∷ thread 12 0 3 (cell 0 0 0 0) 0 None ∷ idle ∷ idle ∷ idle ∷ idle ∷ idle ∷ idle ∷ [])) (1 ∷ 2 ∷ 0 ∷ 3 ∷ 3 ∷ 3 ∷ 3 ∷ 0 ∷ 3 ∷ []) (1 ∷ 2 ∷ 0 ∷ 3 ∷ 3 ∷ 3 ∷ 3 ∷ 0 ∷ 3 ∷ []))) ∷
    run 3 3 4 (Put 2 1000 ∷ Put 1 1001 ∷ Go 1 ∷ Go 1 ∷ Go 2 ∷ Go 2 ∷ Go 2 ∷ Go 2 ∷ Go 2 ∷ Go 2 ∷ Go 1 ∷ Back (CellLine 1) ∷ Go 1 ∷ Go 1 ∷ Go 2 ∷ Take 2 ∷ Go 2 ∷ Go 2 ∷ Go 2 ∷ Go 1 ∷ Back (CellLine 0) ∷ CutEvent ∷ Take 1 ∷ Go 1 ∷ CutEvent ∷ Take 2 ∷ Go 2 ∷ Put 1 1027 ∷ Go 2 ∷ Go 2 ∷ Go 2 ∷ Go 2 ∷ Back (Copy 2) ∷ Go 2 ∷ Put 2 1034 ∷ Go 1 ∷ Go 2 ∷ Go 2 ∷ Go 2 ∷ Go 1 ∷ Go 2 ∷ Go 2 ∷ Go 1 ∷ Go 1 ∷ Take 0 ∷ CutEvent ∷ Take 1 ∷ Put 2 1047 ∷ Go 2 ∷ Go 1 ∷ Go 2 ∷ Go 1 ∷ Go 2 ∷ Go 2 ∷ Back (CellLine 2) ∷ Go 1 ∷ Go 1 ∷ Go 2 ∷ Go 1 ∷ Back (CellLine 1) ∷ Go 1 ∷ Put 2 1061 ∷ Go 2 ∷ Take 0 ∷ Go 1 ∷ Go 1 ∷ Go 2 ∷ Go 2 ∷ Go 2 ∷ Back (CellLine 0) ∷ []) (left (Begun 2 ∷ Begun 1 ∷ Drew (by 1 0) ∷ Looked (by 1 0) 0 ∷ Drew (by 2 1) ∷ Looked (by 2 1) 1 ∷ Landed (by 2 1) 1 1000 ∷ Asked (by 2 1) ∷ Waiting (by 2 1) ∷ Waiting (by 2 1) ∷ Landed (by 1 0) 0 1001 ∷ Written (CellLine 1) ∷ Asked (by 1 0) ∷ Waiting (by 1 0) ∷ Ok (by 2 1) 1000 ∷ Begun 2 ∷ Drew (by 2 0) ∷ Looked (by 2 0) 0 ∷ Took (by 2 0) 0 1001 ∷ Waiting (by 1 0) ∷ Written (CellLine 0) ∷ Cut (found 1 1 2 0 1) ∷ Begun 1 ∷ Drew (by 1 1) ∷ Cut (found 1 1 2 0 1) ∷ Begun 2 ∷ Drew (by 2 1) ∷ Begun 1 ∷ Looked (by 2 1) 1 ∷ Took (by 2 1) 1 1000 ∷ Copied (by 2 1) 2 ∷ Asked (by 2 1) ∷ Written (Copy 2) ∷ Item (by 2 1) 1000 ∷ Begun 2 ∷ Drew (by 1 2) ∷ Drew (by 2 3) ∷ Looked (by 2 3) 0 ∷ Landed (by 2 3) 0 1034 ∷ Looked (by 1 2) 2 ∷ Asked (by 2 3) ∷ Waiting (by 2 3) ∷ Landed (by 1 2) 2 1027 ∷ Asked (by 1 2) ∷ Begun 0 ∷ Cut (found 2 2 2 0 0) ∷ Begun 1 ∷ Begun 2 ∷ Drew (by 2 2) ∷ Drew (by 1 2) ∷ Looked (by 2 2) 2 ∷ Looked (by 1 2) 2 ∷ Landed (by 2 2) 2 1047 ∷ Asked (by 2 2) ∷ Written (CellLine 2) ∷ Missed (by 1 2) 2 ∷ Looked (by 1 2) 2 ∷ Ok (by 2 2) 1047 ∷ Took (by 1 2) 2 1047 ∷ Written (CellLine 1) ∷ Copied (by 1 2) 3 ∷ Begun 2 ∷ Drew (by 2 3) ∷ Begun 0 ∷ Asked (by 1 2) ∷ Waiting (by 1 2) ∷ Looked (by 2 3) 0 ∷ Landed (by 2 3) 0 1061 ∷ Asked (by 2 3) ∷ Written (CellLine 0) ∷ []) (state (control (ring_of 3 3 4 70 3) (thread 11 0 0 (cell 0 0 0 0) 0 None ∷ thread 20 1047 2 (cell 1 2 1047 2) 0 (Copy 1) ∷ thread 6 1061 3 (cell 1 3 0 2) 0 None ∷ idle ∷ idle ∷ idle ∷ idle ∷ idle ∷ [])) (1 ∷ 3 ∷ 1061 ∷ 2 ∷ 1 ∷ 4 ∷ 0 ∷ 2 ∷ 1 ∷ 5 ∷ 0 ∷ 3 ∷ 2 ∷ 3 ∷ 2 ∷ 0 ∷ 4 ∷ []) (1 ∷ 3 ∷ 1061 ∷ 2 ∷ 1 ∷ 4 ∷ 0 ∷ 2 ∷ 1 ∷ 2 ∷ 1047 ∷ 2 ∷ 2 ∷ 2 ∷ 2 ∷ 0 ∷ 2 ∷ []))) ∷
    run 1 2 2 (Put 0 1000 ∷ Go 0 ∷ Go 8 ∷ Put 1 0 ∷ Go 0 ∷ Go 0 ∷ Go 0 ∷ Take 1 ∷ Go 0 ∷ Go 0 ∷ Back (CellLine 0) ∷ Go 0 ∷ Put 0 1010 ∷ Go 0 ∷ Go 0 ∷ Go 1 ∷ Go 0 ∷ Go 0 ∷ Go 0 ∷ Go 0 ∷ Go 0 ∷ Back (Copy 64) ∷ Go 0 ∷ Go 0 ∷ Go 0 ∷ Go 0 ∷ CutEvent ∷ Take 0 ∷ Go 0 ∷ Go 0 ∷ Go 0 ∷ Go 0 ∷ Take 1 ∷ Go 0 ∷ Back (Copy 0) ∷ Go 1 ∷ Go 0 ∷ Put 0 1034 ∷ Go 1 ∷ Go 0 ∷ Go 0 ∷ Go 0 ∷ Go 0 ∷ Go 0 ∷ Back (CellLine 0) ∷ Go 1 ∷ Go 0 ∷ Put 0 1044 ∷ Go 1 ∷ Go 0 ∷ Go 0 ∷ Go 0 ∷ Go 0 ∷ Go 0 ∷ Go 0 ∷ Back (CellLine 0) ∷ Go 0 ∷ Go 0 ∷ Go 0 ∷ Go 0 ∷ Go 0 ∷ Go 0 ∷ Go 0 ∷ Go 0 ∷ Go 0 ∷ Go 1 ∷ Go 0 ∷ Go 0 ∷ Go 0 ∷ Go 0 ∷ []) (left (Begun 0 ∷ Drew (by 0 0) ∷ Refused 2 ∷ Refused 6 ∷ Looked (by 0 0) 0 ∷ Landed (by 0 0) 0 1000 ∷ Asked (by 0 0) ∷ Begun 1 ∷ Waiting (by 0 0) ∷ Waiting (by 0 0) ∷ Written (CellLine 0) ∷ Ok (by 0 0) 1000 ∷ Begun 0 ∷ Drew (by 0 1) ∷ Looked (by 0 1) 0 ∷ Drew (by 1 0) ∷ SawHead (by 0 1) 1 ∷ Drew (by 0 2) ∷ Looked (by 0 2) 0 ∷ SawHead (by 0 2) 1 ∷ SetClosed (by 0 2) ∷ Refused 3 ∷ Asked (by 0 2) ∷ Waiting (by 0 2) ∷ Waiting (by 0 2) ∷ Waiting (by 0 2) ∷ Cut (found 0 0 1 0 1) ∷ Begun 0 ∷ Drew (by 0 0) ∷ Looked (by 0 0) 0 ∷ Took (by 0 0) 0 1000 ∷ Copied (by 0 0) 1 ∷ Begun 1 ∷ Asked (by 0 0) ∷ Written (Copy 0) ∷ Drew (by 1 1) ∷ Item (by 0 0) 1000 ∷ Begun 0 ∷ Looked (by 1 1) 0 ∷ Drew (by 0 1) ∷ Looked (by 0 1) 0 ∷ Landed (by 0 1) 0 1034 ∷ Asked (by 0 1) ∷ Waiting (by 0 1) ∷ Written (CellLine 0) ∷ Missed (by 1 1) 0 ∷ Ok (by 0 1) 1034 ∷ Begun 0 ∷ Looked (by 1 1) 0 ∷ Drew (by 0 2) ∷ Looked (by 0 2) 0 ∷ SawHead (by 0 2) 2 ∷ Drew (by 0 3) ∷ Looked (by 0 3) 0 ∷ SawHead (by 0 3) 2 ∷ Written (CellLine 0) ∷ SetClosed (by 0 3) ∷ Asked (by 0 3) ∷ Waiting (by 0 3) ∷ Waiting (by 0 3) ∷ Waiting (by 0 3) ∷ Waiting (by 0 3) ∷ Waiting (by 0 3) ∷ Waiting (by 0 3) ∷ Waiting (by 0 3) ∷ Took (by 1 1) 0 1034 ∷ Waiting (by 0 3) ∷ Waiting (by 0 3) ∷ Waiting (by 0 3) ∷ Waiting (by 0 3) ∷ []) (state (control (ring_of 1 2 2 67 2) (thread 10 1044 3 (cell 1 1 1034 1) 1 Tail ∷ thread 18 1034 1 (cell 1 1 1034 1) 0 None ∷ idle ∷ idle ∷ idle ∷ idle ∷ idle ∷ idle ∷ [])) (1 ∷ 2 ∷ 0 ∷ 2 ∷ 1 ∷ 0 ∷ 1 ∷ 4 ∷ []) (1 ∷ 1 ∷ 1034 ∷ 1 ∷ 1 ∷ 0 ∷ 0 ∷ 1 ∷ []))) ∷
    run 1 3 1 (Put 2 1000 ∷ Go 2 ∷ Go 2 ∷ Take 0 ∷ Go 2 ∷ Go 2 ∷ Back (CellLine 0) ∷ Go 2 ∷ Take 2 ∷ Take 1 ∷ Go 2 ∷ Go 2 ∷ Go 2 ∷ Go 2 ∷ Go 0 ∷ Go 2 ∷ Back (Copy 2) ∷ Go 2 ∷ Back Tail ∷ Take 2 ∷ Back (CellLine 0) ∷ Go 2 ∷ Go 2 ∷ Go 2 ∷ Go 2 ∷ Go 2 ∷ Back Tail ∷ Go 2 ∷ Go 2 ∷ Back (Copy 2) ∷ Go 2 ∷ Take 2 ∷ Go 2 ∷ Back Tail ∷ Go 2 ∷ Go 2 ∷ Go 2 ∷ Back Tail ∷ Go 2 ∷ Go 2 ∷ Go 2 ∷ Back (Copy 2) ∷ Go 2 ∷ Go 1 ∷ Put 2 1044 ∷ Go 2 ∷ Back (CellLine 0) ∷ Go 2 ∷ Go 2 ∷ Back (CellLine 0) ∷ Go 2 ∷ Go 2 ∷ Go 2 ∷ Go 2 ∷ Go 2 ∷ Back (CellLine 0) ∷ Back (CellLine 0) ∷ Go 2 ∷ Put 2 1058 ∷ Go 2 ∷ Go 2 ∷ Go 2 ∷ Go 2 ∷ Go 2 ∷ Back Tail ∷ Go 2 ∷ Take 2 ∷ Go 2 ∷ Go 2 ∷ Go 2 ∷ []) (left (Begun 2 ∷ Drew (by 2 0) ∷ Looked (by 2 0) 0 ∷ Begun 0 ∷ Landed (by 2 0) 0 1000 ∷ Asked (by 2 0) ∷ Written (CellLine 0) ∷ Ok (by 2 0) 1000 ∷ Begun 2 ∷ Begun 1 ∷ Drew (by 2 0) ∷ Looked (by 2 0) 0 ∷ Took (by 2 0) 0 1000 ∷ Copied (by 2 0) 1 ∷ Drew (by 0 1) ∷ Asked (by 2 0) ∷ Written (Copy 2) ∷ Item (by 2 0) 1000 ∷ Written Tail ∷ Begun 2 ∷ Written (CellLine 0) ∷ Drew (by 2 2) ∷ Looked (by 2 2) 0 ∷ Passed (by 2 2) 0 ∷ SawTail (by 2 2) 1 ∷ Lifted (by 2 2) 3 ∷ Written Tail ∷ Copied (by 2 2) 3 ∷ Asked (by 2 2) ∷ Written (Copy 2) ∷ Empty (by 2 2) ∷ Begun 2 ∷ Drew (by 2 3) ∷ Written Tail ∷ Looked (by 2 3) 0 ∷ Passed (by 2 3) 0 ∷ SawTail (by 2 3) 3 ∷ Written Tail ∷ Lifted (by 2 3) 4 ∷ Copied (by 2 3) 4 ∷ Asked (by 2 3) ∷ Written (Copy 2) ∷ Empty (by 2 3) ∷ Drew (by 1 4) ∷ Begun 2 ∷ Drew (by 2 4) ∷ Written (CellLine 0) ∷ Looked (by 2 4) 0 ∷ Landed (by 2 4) 0 1044 ∷ Written (CellLine 0) ∷ Asked (by 2 4) ∷ Waiting (by 2 4) ∷ Waiting (by 2 4) ∷ Waiting (by 2 4) ∷ Waiting (by 2 4) ∷ Written (CellLine 0) ∷ Written (CellLine 0) ∷ Ok (by 2 4) 1044 ∷ Begun 2 ∷ Drew (by 2 5) ∷ Looked (by 2 5) 0 ∷ SawHead (by 2 5) 5 ∷ SetClosed (by 2 5) ∷ Asked (by 2 5) ∷ Written Tail ∷ Closed (by 2 5) ∷ Begun 2 ∷ Drew (by 2 5) ∷ Looked (by 2 5) 0 ∷ Flagged (by 2 5) 0 ∷ []) (state (control (ring_of 1 3 1 70 6) (thread 12 0 1 (cell 0 0 0 0) 0 None ∷ thread 12 0 4 (cell 0 0 0 0) 0 None ∷ thread 16 0 5 (cell 1 4 1044 4) 0 None ∷ idle ∷ idle ∷ idle ∷ idle ∷ idle ∷ [])) (0 ∷ 4 ∷ 1044 ∷ 4 ∷ 0 ∷ 0 ∷ 4 ∷ 1 ∷ 6 ∷ []) (1 ∷ 4 ∷ 1044 ∷ 4 ∷ 0 ∷ 0 ∷ 4 ∷ 1 ∷ 6 ∷ []))) ∷
    run 2 2 3 (CutEvent ∷ Put 1 1001 ∷ Take 0 ∷ Go 1 ∷ Go 1 ∷ Back (CellLine 1) ∷ Go 0 ∷ Go 0 ∷ Go 0 ∷ Go 0 ∷ Go 1 ∷ Go 1 ∷ Go 1 ∷ Go 0 ∷ Go 0 ∷ Go 0 ∷ Go 1 ∷ Back (Copy 0) ∷ Go 0 ∷ Go 1 ∷ Go 1 ∷ Go 1 ∷ Put 0 1022 ∷ Go 0 ∷ Go 1 ∷ Go 1 ∷ Go 0 ∷ Back (CellLine 1) ∷ Go 1 ∷ Go 0 ∷ CutEvent ∷ Take 0 ∷ Go 0 ∷ Put 1 1033 ∷ Go 0 ∷ Go 1 ∷ Go 0 ∷ Go 0 ∷ Go 1 ∷ Go 1 ∷ Go 0 ∷ Go 1 ∷ Go 0 ∷ Back (Copy 0) ∷ Back (CellLine 0) ∷ Go 1 ∷ Take 1 ∷ Go 0 ∷ Go 1 ∷ Put 0 1049 ∷ Go 1 ∷ Go 1 ∷ Go 1 ∷ Go 1 ∷ Back (Copy 1) ∷ Go 0 ∷ Go 1 ∷ Go 0 ∷ Go 0 ∷ Go 0 ∷ Back (CellLine 1) ∷ Go 0 ∷ Put 1 1062 ∷ Take 0 ∷ CutEvent ∷ Take 1 ∷ Go 1 ∷ Put 0 1067 ∷ Go 0 ∷ Go 1 ∷ []) (left (Cut (found 0 0 0 0 0) ∷ Begun 1 ∷ Begun 0 ∷ Drew (by 1 0) ∷ Looked (by 1 0) 0 ∷ Written (CellLine 1) ∷ Drew (by 0 0) ∷ Looked (by 0 0) 0 ∷ Passed (by 0 0) 0 ∷ SawTail (by 0 0) 1 ∷ Missed (by 1 0) 0 ∷ SawHead (by 1 0) 1 ∷ Drew (by 1 1) ∷ Lifted (by 0 0) 2 ∷ Copied (by 0 0) 1 ∷ Asked (by 0 0) ∷ Looked (by 1 1) 1 ∷ Written (Copy 0) ∷ Empty (by 0 0) ∷ Landed (by 1 1) 1 1001 ∷ Asked (by 1 1) ∷ Waiting (by 1 1) ∷ Begun 0 ∷ Drew (by 0 2) ∷ Waiting (by 1 1) ∷ Waiting (by 1 1) ∷ Looked (by 0 2) 0 ∷ Written (CellLine 1) ∷ Ok (by 1 1) 1001 ∷ Landed (by 0 2) 0 1022 ∷ Cut (found 1 1 2 0 1) ∷ Begun 0 ∷ Drew (by 0 1) ∷ Begun 1 ∷ Looked (by 0 1) 1 ∷ Drew (by 1 2) ∷ Took (by 0 1) 1 1001 ∷ Copied (by 0 1) 2 ∷ Looked (by 1 2) 0 ∷ Landed (by 1 2) 0 1033 ∷ Asked (by 0 1) ∷ Asked (by 1 2) ∷ Waiting (by 0 1) ∷ Written (Copy 0) ∷ Written (CellLine 0) ∷ Ok (by 1 2) 1033 ∷ Begun 1 ∷ Item (by 0 1) 1001 ∷ Drew (by 1 2) ∷ Begun 0 ∷ Looked (by 1 2) 0 ∷ Took (by 1 2) 0 1033 ∷ Copied (by 1 2) 3 ∷ Asked (by 1 2) ∷ Written (Copy 1) ∷ Drew (by 0 3) ∷ Item (by 1 2) 1033 ∷ Looked (by 0 3) 1 ∷ Landed (by 0 3) 1 1049 ∷ Asked (by 0 3) ∷ Written (CellLine 1) ∷ Ok (by 0 3) 1049 ∷ Begun 1 ∷ Begun 0 ∷ Cut (found 3 3 4 0 1) ∷ Begun 1 ∷ Drew (by 1 3) ∷ Begun 0 ∷ Drew (by 0 4) ∷ Looked (by 1 3) 1 ∷ []) (state (control (ring_of 2 2 3 70 4) (thread 2 1067 4 (cell 0 0 0 0) 0 None ∷ thread 13 0 3 (cell 1 3 1049 3) 0 None ∷ idle ∷ idle ∷ idle ∷ idle ∷ idle ∷ idle ∷ [])) (1 ∷ 4 ∷ 0 ∷ 3 ∷ 1 ∷ 3 ∷ 1049 ∷ 3 ∷ 3 ∷ 3 ∷ 0 ∷ 5 ∷ []) (1 ∷ 4 ∷ 0 ∷ 3 ∷ 1 ∷ 3 ∷ 1049 ∷ 3 ∷ 3 ∷ 3 ∷ 0 ∷ 4 ∷ []))) ∷
    run 1 2 2 (Go 1 ∷ Put 1 1000 ∷ Go 1 ∷ Go 1 ∷ Take 0 ∷ Go 1 ∷ Go 1 ∷ Go 0 ∷ Go 0 ∷ Go 0 ∷ Go 1 ∷ Go 0 ∷ Back (CellLine 0) ∷ Go 0 ∷ Back (Copy 0) ∷ Go 0 ∷ Back (CellLine 0) ∷ Take 0 ∷ Go 1 ∷ Go 0 ∷ Put 1 1019 ∷ Go 0 ∷ Back (CellLine 0) ∷ Go 0 ∷ Go 1 ∷ Go 1 ∷ Go 0 ∷ Go 1 ∷ Go 0 ∷ Go 0 ∷ Go 0 ∷ Back (Copy 0) ∷ Go 0 ∷ Take 0 ∷ Go 0 ∷ Go 1 ∷ Go 1 ∷ Go 0 ∷ Go 0 ∷ Go 1 ∷ Go 0 ∷ Go 0 ∷ Go 0 ∷ Go 0 ∷ Go 0 ∷ Go 1 ∷ Back (Copy 0) ∷ Go 0 ∷ Go 1 ∷ Take 0 ∷ Go 0 ∷ Go 1 ∷ Go 0 ∷ Go 0 ∷ Go 1 ∷ Go 1 ∷ Go 1 ∷ Go 1 ∷ Go 0 ∷ Go 1 ∷ Go 0 ∷ Go 0 ∷ Go 0 ∷ Go 0 ∷ Go 1 ∷ Go 0 ∷ Go 1 ∷ Go 1 ∷ Take 1 ∷ Go 0 ∷ []) (left (Refused 5 ∷ Begun 1 ∷ Drew (by 1 0) ∷ Looked (by 1 0) 0 ∷ Begun 0 ∷ Landed (by 1 0) 0 1000 ∷ Asked (by 1 0) ∷ Drew (by 0 0) ∷ Looked (by 0 0) 0 ∷ Took (by 0 0) 0 1000 ∷ Waiting (by 1 0) ∷ Copied (by 0 0) 1 ∷ Written (CellLine 0) ∷ Asked (by 0 0) ∷ Written (Copy 0) ∷ Item (by 0 0) 1000 ∷ Written (CellLine 0) ∷ Begun 0 ∷ Ok (by 1 0) 1000 ∷ Drew (by 0 1) ∷ Begun 1 ∷ Looked (by 0 1) 0 ∷ Written (CellLine 0) ∷ Passed (by 0 1) 0 ∷ Drew (by 1 1) ∷ Looked (by 1 1) 0 ∷ SawTail (by 0 1) 2 ∷ SawHead (by 1 1) 2 ∷ Lifted (by 0 1) 2 ∷ Copied (by 0 1) 2 ∷ Asked (by 0 1) ∷ Written (Copy 0) ∷ Empty (by 0 1) ∷ Begun 0 ∷ Drew (by 0 2) ∷ Drew (by 1 2) ∷ Looked (by 1 2) 0 ∷ Looked (by 0 2) 0 ∷ Passed (by 0 2) 0 ∷ Missed (by 1 2) 0 ∷ SawTail (by 0 2) 3 ∷ Lifted (by 0 2) 3 ∷ Copied (by 0 2) 3 ∷ Asked (by 0 2) ∷ Waiting (by 0 2) ∷ SawHead (by 1 2) 3 ∷ Written (Copy 0) ∷ Empty (by 0 2) ∷ SetClosed (by 1 2) ∷ Begun 0 ∷ Drew (by 0 3) ∷ Asked (by 1 2) ∷ Looked (by 0 3) 0 ∷ Passed (by 0 3) 0 ∷ Waiting (by 1 2) ∷ Waiting (by 1 2) ∷ Waiting (by 1 2) ∷ Waiting (by 1 2) ∷ SawTail (by 0 3) 3 ∷ Waiting (by 1 2) ∷ Lifted (by 0 3) 4 ∷ Copied (by 0 3) 4 ∷ Asked (by 0 3) ∷ Waiting (by 0 3) ∷ Waiting (by 1 2) ∷ Waiting (by 0 3) ∷ Waiting (by 1 2) ∷ Waiting (by 1 2) ∷ Refused 4 ∷ Waiting (by 0 3) ∷ []) (state (control (ring_of 1 2 2 68 4) (thread 20 0 3 (cell 1 3 0 3) 0 (Copy 0) ∷ thread 10 1019 2 (cell 1 2 0 2) 1 Tail ∷ idle ∷ idle ∷ idle ∷ idle ∷ idle ∷ idle ∷ [])) (1 ∷ 4 ∷ 0 ∷ 4 ∷ 4 ∷ 0 ∷ 1 ∷ 4 ∷ []) (1 ∷ 1 ∷ 0 ∷ 1 ∷ 3 ∷ 0 ∷ 0 ∷ 0 ∷ []))) ∷
    []

pub compared : map (λ (r : Run). r.worked) runs ≡ map (λ (r : Run). r.model) runs
unfolding in_range thread_at with_thread cell_at set_cell copy_at set_copy closed_at set_closed tail_at set_tail fresh_image line_exists carries_cell carries_copy carries_tail carried ends released same row_wait row_p1 row_p2 row_p3 row_p4 row_p5 row_p6 row_p7 row_p8 row_p9 row_p10 row_t1 row_t2 row_t3 row_t4 row_t5 row_t6 row_t7 row_t8 row_t9 row_t10 put_row take_row row pass_mark queued tail_of head_of count_of finds mended recovered sound_ring all_zero sound_number sound_busy sound_thread sound_record sound_cell sound_image accept unsound own_refusal begin_put begin_take step_thread write_back cut does inner event fresh_state after answers
compared = refl
