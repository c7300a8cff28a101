-- The examples hold.
use mathlib.Core.Path.{◌≡◌, refl}
use mathlib.Core.List.{map}
use Rattle.rules.specs.Numbers.{in_range}
use Rattle.rules.specs.Record.{thread_at, with_thread}
use Rattle.rules.specs.Memory.{cell_at, set_cell, copy_at, set_copy, closed_at, set_closed, tail_at, set_tail, fresh_image}
use Rattle.rules.specs.Line.{line_exists, carries_cell, carries_copy, carries_tail, carried, ends, released}
use Rattle.rules.specs.Table.{same, row_wait, row_p1, row_p2, row_p3, row_p4, row_p5, row_p6, row_p7, row_p8, row_p9, row_p10, row_t1, row_t2, row_t3, row_t4, row_t5, row_t6, row_t7, row_t8, row_t9, row_t10, put_row, take_row, row}
use Rattle.rules.specs.Cut.{pass_mark, queued, tail_of, head_of, count_of, finds, entry_if, entries_at, queue_of, mended, recovered}
use Rattle.rules.specs.Sound.{sound_ring, all_zero, sound_number, sound_busy, sound_thread, sound_record, sound_cell, sound_image}
use Rattle.rules.specs.State.{accept}
use Rattle.rules.specs.Refusals.{setup_refusal, unsound, own_refusal, kept_refusal}
use Rattle.rules.specs.Events.{begin_put, begin_take, step_thread, write_back, cut, does, inner, event, fresh_state, setup}
use Rattle.rules.specs.Listing.{items}
use Rattle.bench.specs.Text.{bytes}
use Rattle.bench.specs.Read.{number, after_space, first_word, command_of, line_of}
use Rattle.bench.specs.Decimal.{decimal}
use Rattle.bench.specs.Print.{line_text, counted_text, said_text, end_text}
use Rattle.bench.specs.Bench.{next_line, first_line, first_says, event_says, ran_line, line_says, end_says}
use Rattle.bench.specs.Stream.{keep_byte, feed_byte, says_byte, last_ran, last_says, finish_says, finish, output}
use Rattle.bench.specs.Examples.{Example, examples}

pub examples_hold : map (λ (x : Example). output (bytes x.input)) examples ≡ map (λ (x : Example). bytes x.printed) examples
unfolding in_range thread_at with_thread cell_at set_cell copy_at set_copy closed_at set_closed tail_at set_tail fresh_image line_exists carries_cell carries_copy carries_tail carried ends released same row_wait row_p1 row_p2 row_p3 row_p4 row_p5 row_p6 row_p7 row_p8 row_p9 row_p10 row_t1 row_t2 row_t3 row_t4 row_t5 row_t6 row_t7 row_t8 row_t9 row_t10 put_row take_row row pass_mark queued tail_of head_of count_of finds entry_if entries_at queue_of mended recovered sound_ring all_zero sound_number sound_busy sound_thread sound_record sound_cell sound_image accept setup_refusal unsound own_refusal kept_refusal begin_put begin_take step_thread write_back cut does inner event fresh_state setup items number after_space first_word command_of line_of decimal line_text counted_text said_text end_text next_line first_line first_says event_says ran_line line_says end_says keep_byte feed_byte says_byte last_ran last_says finish_says finish output examples
examples_hold = refl
