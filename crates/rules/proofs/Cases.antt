-- Cases A to J hold.
use mathlib.Core.Path.{◌≡◌, refl}
use mathlib.Core.List.{map}
use Rattle.rules.specs.Numbers.{in_range}
use Rattle.rules.specs.Record.{thread_at, with_thread}
use Rattle.rules.specs.Memory.{cell_at, set_cell, copy_at, set_copy, closed_at, set_closed, tail_at, set_tail, fresh_image}
use Rattle.rules.specs.Line.{line_exists, carries_cell, carries_copy, carries_tail, carried, ends, released}
use Rattle.rules.specs.Table.{same, row_wait, row_p1, row_p2, row_p3, row_p4, row_p5, row_p6, row_p7, row_p8, row_p9, row_p10, row_t1, row_t2, row_t3, row_t4, row_t5, row_t6, row_t7, row_t8, row_t9, row_t10, put_row, take_row, row}
use Rattle.rules.specs.Cut.{pass_mark, queued, tail_of, head_of, count_of, finds, entry_if, entries_at, queue_of, mended, recovered}
use Rattle.rules.specs.Sound.{sound_ring, all_zero, sound_number, sound_busy, sound_thread, sound_record, sound_cell, sound_image}
use Rattle.rules.specs.State.{accept}
use Rattle.rules.specs.Refusals.{unsound, own_refusal, kept_refusal}
use Rattle.rules.specs.Events.{begin_put, begin_take, step_thread, write_back, cut, does, inner, event, fresh_state, after, answers}
use Rattle.rules.specs.Cases.{Case, cases}

pub cases_hold : map (λ (c : Case). c.worked) cases ≡ map (λ (c : Case). c.page) cases
unfolding in_range thread_at with_thread cell_at set_cell copy_at set_copy closed_at set_closed tail_at set_tail fresh_image line_exists carries_cell carries_copy carries_tail carried ends released same row_wait row_p1 row_p2 row_p3 row_p4 row_p5 row_p6 row_p7 row_p8 row_p9 row_p10 row_t1 row_t2 row_t3 row_t4 row_t5 row_t6 row_t7 row_t8 row_t9 row_t10 put_row take_row row pass_mark queued tail_of head_of count_of finds entry_if entries_at queue_of mended recovered sound_ring all_zero sound_number sound_busy sound_thread sound_record sound_cell sound_image accept unsound own_refusal kept_refusal begin_put begin_take step_thread write_back cut does inner event fresh_state after answers cases
cases_hold = refl
