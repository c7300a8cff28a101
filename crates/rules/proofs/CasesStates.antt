-- Document 01, "Events", "The cut", "Listing, reading, host": whole states. Each line is what the definitions give and what the page says, in a ring of 2 cells and 3 threads.
use Prim.Native.Nat.{ℕ}
use mathlib.Core.Path.{◌≡◌, refl}
use mathlib.Core.List.{List, [], ◌∷◌, ◌++◌, map}
use lib.ListN.{replicate}
use Rattle.rules.specs.declared.Line.{Line}
use Rattle.rules.specs.declared.Line.TheVariants.{None, Copy, Tail, Cell as CellLine}
use Rattle.rules.specs.declared.Thread.{Thread}
use Rattle.rules.specs.declared.Control.{Control}
use Rattle.rules.specs.declared.Event.{Event}
use Rattle.rules.specs.declared.Event.TheVariants.{Put, Take, Go, Back, Cut as CutEvent}
use Rattle.rules.specs.declared.Answer.{Answer}
use Rattle.rules.specs.declared.Answer.TheVariants.{Refused, Begun, Waiting, Written, Cut}
use Rattle.rules.specs.Numbers.{in_range}
use Rattle.rules.specs.Record.{cell, zero_cell, idle, ring_of, thread_at, with_thread}
use Rattle.rules.specs.Memory.{cell_at, set_cell, copy_at, set_copy, closed_at, set_closed, tail_at, set_tail, fresh_image}
use Rattle.rules.specs.Line.{line_exists, carries_cell, carries_copy, carries_tail, carried, ends, released}
use Rattle.rules.specs.Answers.{by, found}
use Rattle.rules.specs.Places.{P1, P6, P10, T1, T10}
use Rattle.rules.specs.Table.{same, row_wait, row_p6, put_row, row}
use Rattle.rules.specs.Cut.{pass_mark, queued, tail_of, head_of, count_of, finds, entry, entry_if, entries_at, queue_of, mended, recovered}
use Rattle.rules.specs.Sound.{sound_ring, all_zero, sound_number, sound_busy, sound_thread, sound_record, sound_cell, sound_image}
use Rattle.rules.specs.State.{State, state, Out, out, accept}
use Rattle.rules.specs.Refusals.{setup_refusal, unsound, own_refusal, kept_refusal, listing_refusal}
use Rattle.rules.specs.Events.{begin_put, begin_take, step_thread, write_back, cut, does, inner, event, fresh_state, setup}
use Rattle.rules.specs.Listing.{items, in_front, listed_count, listed_room, host_kept}

-- a thread's place, item, number, awaited line
abbrev pub thread : ℕ → ℕ → ℕ → Line → Thread
thread p x v l = record { place = p; item = x; number = v; looked = cell 1 2 0 1; tries = 2; awaited = l }

-- three threads, at an event count and Head
abbrev pub control : ℕ → ℕ → Thread → Thread → Thread → Control
control e h a b c = record { ring = ring_of 2 3 5 e h; thread = a ∷ b ∷ c ∷ idle ∷ idle ∷ idle ∷ idle ∷ idle ∷ [] }

abbrev pub running : List ℕ
running = 1 ∷ 6 ∷ 66 ∷ 2 ∷ 0 ∷ 5 ∷ 0 ∷ 4 ∷ 3 ∷ 5 ∷ 6 ∷ 1 ∷ 12 ∷ 99 ∷ []

abbrev pub kept : List ℕ
kept = 0 ∷ 4 ∷ 44 ∷ 1 ∷ 1 ∷ 3 ∷ 33 ∷ 0 ∷ 0 ∷ 4 ∷ 1 ∷ 0 ∷ 7 ∷ 98 ∷ []

-- thread 1 awaits cell 1, thread 2 awaits Tail
abbrev pub before : State
before = state (control 100 9 idle (thread P6 77 5 (CellLine 1)) (thread P10 78 6 Tail)) running kept

pub record Done : Type 0 where
  pub worked : Out
  pub page : Out

abbrev pub does_then : Event → Control → List ℕ → List ℕ → Answer → Done
does_then e c r k a = record { worked = event before e; page = out (state c r k) a }

unfoldable pub done : List Done
done =
    -- a begin sets place and a put's item, nothing else
    does_then (Put 0 711) (control 101 9 (record { place = P1; item = 711; number = 0; looked = zero_cell; tries = 0; awaited = None }) (thread P6 77 5 (CellLine 1)) (thread P10 78 6 Tail)) running kept (Begun 0)
    ∷ does_then (Take 0) (control 101 9 (record { place = T1; item = 0; number = 0; looked = zero_cell; tries = 0; awaited = None }) (thread P6 77 5 (CellLine 1)) (thread P10 78 6 Tail)) running kept (Begun 0)
    -- a step of one that waits
    ∷ does_then (Go 1) (control 101 9 idle (thread P6 77 5 (CellLine 1)) (thread P10 78 6 Tail)) running kept (Waiting (by 1 5))
    -- each line copied from running to kept; who awaits it awaits nothing
    ∷ does_then (Back (CellLine 0)) (control 101 9 idle (thread P6 77 5 (CellLine 1)) (thread P10 78 6 Tail)) running
    (1 ∷ 6 ∷ 66 ∷ 2 ∷ 1 ∷ 3 ∷ 33 ∷ 0 ∷ 0 ∷ 4 ∷ 1 ∷ 0 ∷ 7 ∷ 98 ∷ []) (Written (CellLine 0))
    ∷ does_then (Back (CellLine 1)) (control 101 9 idle (thread P6 77 5 None) (thread P10 78 6 Tail)) running
    (0 ∷ 4 ∷ 44 ∷ 1 ∷ 0 ∷ 5 ∷ 0 ∷ 4 ∷ 0 ∷ 4 ∷ 1 ∷ 0 ∷ 7 ∷ 98 ∷ []) (Written (CellLine 1))
    ∷ does_then (Back (Copy 1)) (control 101 9 idle (thread P6 77 5 (CellLine 1)) (thread P10 78 6 Tail)) running
    (0 ∷ 4 ∷ 44 ∷ 1 ∷ 1 ∷ 3 ∷ 33 ∷ 0 ∷ 0 ∷ 5 ∷ 1 ∷ 0 ∷ 7 ∷ 98 ∷ []) (Written (Copy 1))
    ∷ does_then (Back Tail) (control 101 9 idle (thread P6 77 5 (CellLine 1)) (thread P10 78 6 None)) running
    (0 ∷ 4 ∷ 44 ∷ 1 ∷ 1 ∷ 3 ∷ 33 ∷ 0 ∷ 0 ∷ 4 ∷ 1 ∷ 1 ∷ 12 ∷ 98 ∷ []) (Written Tail)
    -- a cut: index 4 is queued, index 3 is below the pass mark 4; both images then hold this
    ∷ does_then CutEvent (control 101 4 idle idle idle)
    (1 ∷ 4 ∷ 44 ∷ 4 ∷ 1 ∷ 5 ∷ 0 ∷ 4 ∷ 4 ∷ 4 ∷ 4 ∷ 0 ∷ 5 ∷ 99 ∷ [])
    (1 ∷ 4 ∷ 44 ∷ 4 ∷ 1 ∷ 5 ∷ 0 ∷ 4 ∷ 4 ∷ 4 ∷ 4 ∷ 0 ∷ 5 ∷ 98 ∷ []) (Cut (found 4 4 5 0 1))
    -- a refusal gives its number; record and images stay untouched
    ∷ does_then (Take 3) before.control running kept (Refused 2)
    ∷ []

pub done_hold : map (λ (d : Done). d.worked) done ≡ map (λ (d : Done). d.page) done
unfolding done in_range thread_at with_thread cell_at set_cell copy_at set_copy closed_at set_closed tail_at set_tail line_exists carries_cell carries_copy carries_tail carried ends released same row_wait row_p6 put_row row pass_mark queued tail_of head_of count_of finds mended recovered sound_ring all_zero sound_number sound_busy sound_thread sound_record sound_cell sound_image accept unsound own_refusal begin_put begin_take step_thread write_back cut does inner event
done_hold = refl

-- threads that await one copy, and another
pub copy_waits : (event (state (control 100 9 (thread T10 0 5 (Copy 0)) (thread T10 0 6 (Copy 1)) (thread P6 77 4 (CellLine 1))) running kept) (Back (Copy 1))).state.control
    ≡ control 101 9 (thread T10 0 5 (Copy 0)) (thread T10 0 6 None) (thread P6 77 4 (CellLine 1))
unfolding in_range thread_at cell_at copy_at closed_at tail_at line_exists carries_cell carries_copy carries_tail ends released same sound_ring all_zero sound_number sound_busy sound_thread sound_record sound_cell sound_image accept unsound own_refusal write_back does inner event
copy_waits = refl

-- setup: fresh; refused it hands back a record of zeros and leaves the images
abbrev pub zeros : State
zeros = state (record { ring = ring_of 0 0 0 0 0; thread = replicate 8 idle }) running kept

pub setups : setup 2 1 5 (replicate 11 7 ++ 99 ∷ []) (replicate 11 8) ∷ setup 2 0 5 running kept ∷ setup 2 4 5 running kept ∷ setup 3 3 5 (replicate 17 7) kept ∷ setup 3 3 5 running (replicate 17 8) ∷ []
    ≡ state (record { ring = ring_of 2 1 5 0 0; thread = replicate 8 idle }) (1 ∷ 0 ∷ 0 ∷ 0 ∷ 1 ∷ 1 ∷ 0 ∷ 0 ∷ 0 ∷ 0 ∷ 0 ∷ 99 ∷ []) (1 ∷ 0 ∷ 0 ∷ 0 ∷ 1 ∷ 1 ∷ 0 ∷ 0 ∷ 0 ∷ 0 ∷ 0 ∷ [])
    ∷ zeros
    ∷ state (record { ring = ring_of 2 4 5 0 0; thread = replicate 8 idle }) (1 ∷ 0 ∷ 0 ∷ 0 ∷ 1 ∷ 1 ∷ 0 ∷ 0 ∷ 0 ∷ 0 ∷ 0 ∷ 0 ∷ 0 ∷ 0 ∷ []) (1 ∷ 0 ∷ 0 ∷ 0 ∷ 1 ∷ 1 ∷ 0 ∷ 0 ∷ 0 ∷ 0 ∷ 0 ∷ 0 ∷ 0 ∷ 0 ∷ [])
    ∷ state (record { ring = ring_of 0 0 0 0 0; thread = replicate 8 idle }) (replicate 17 7) kept
    ∷ state (record { ring = ring_of 0 0 0 0 0; thread = replicate 8 idle }) running (replicate 17 8) ∷ []
unfolding setup setup_refusal fresh_state fresh_image in_range set_cell cell_at set_copy set_closed set_tail
setups = refl

-- queued by rising index, equal indexes by cell; the listing; a room too small and one with more
abbrev pub tied : List ℕ
tied = 1 ∷ 9 ∷ 90 ∷ 0 ∷ 1 ∷ 8 ∷ 81 ∷ 0 ∷ 1 ∷ 8 ∷ 82 ∷ 0 ∷ 1 ∷ 7 ∷ 70 ∷ 8 ∷ 0 ∷ 1 ∷ 50 ∷ []

pub tied_queue : queue_of 4 1 tied ≡ entry 8 81 ∷ entry 8 82 ∷ entry 9 90 ∷ []
unfolding pass_mark queued tail_of entry_if entries_at queue_of cell_at copy_at
tied_queue = refl

pub listings : listed_room 4 1 5 100 tied (5 ∷ 5 ∷ 5 ∷ 5 ∷ 5 ∷ []) ∷ listed_room 4 1 5 100 tied (5 ∷ 5 ∷ 5 ∷ []) ∷ []
    ≡ (81 ∷ 82 ∷ 90 ∷ 5 ∷ 5 ∷ []) ∷ (5 ∷ 5 ∷ 5 ∷ []) ∷ []
unfolding listed_room listing_refusal items in_front in_range pass_mark queued tail_of entry_if entries_at queue_of cell_at copy_at closed_at tail_at sound_cell sound_image
listings = refl

pub listed-counts : listed_count 4 1 5 100 tied (5 ∷ 5 ∷ 5 ∷ 5 ∷ 5 ∷ []) ∷ listed_count 4 1 5 100 tied (5 ∷ 5 ∷ 5 ∷ []) ∷ [] ≡ 3 ∷ 0 ∷ []
unfolding listed_count listing_refusal items in_range pass_mark queued tail_of entry_if entries_at queue_of cell_at copy_at closed_at tail_at sound_cell sound_image
listed-counts = refl

-- host recovery leaves the kept image as a cut would; refused it leaves it
pub hosts : host_kept 4 1 5 100 tied ∷ host_kept 4 1 5 8 tied ∷ []
    ≡ (1 ∷ 9 ∷ 90 ∷ 8 ∷ 1 ∷ 8 ∷ 81 ∷ 8 ∷ 1 ∷ 8 ∷ 82 ∷ 8 ∷ 1 ∷ 11 ∷ 0 ∷ 8 ∷ 8 ∷ 1 ∷ 10 ∷ []) ∷ tied ∷ []
unfolding host_kept kept_refusal in_range pass_mark queued tail_of head_of mended recovered cell_at set_cell copy_at set_copy closed_at tail_at set_tail sound_cell sound_image
hosts = refl
