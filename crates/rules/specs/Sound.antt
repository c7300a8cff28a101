-- Document 01, "Numbers and memory": sound records and sound images.
use Rattle.std.specs.Prelude.{ℕ, ◌+◌, List, Bool, cond, ◌&&◌, ◌||◌, not, eqb, ltb, leb}
use Rattle.rules.specs.declared.Cell.{Cell}
use Rattle.rules.specs.declared.Thread.{Thread}
use Rattle.rules.specs.declared.Ring.{Ring}
use Rattle.rules.specs.declared.Control.{Control}
use Rattle.rules.specs.Numbers.{in_range, max_threads, run_limit}
use Rattle.rules.specs.Upto.{all_to}
use Rattle.rules.specs.Record.{zero_cell, thread_at}
use Rattle.rules.specs.Memory.{cell_at, copy_at, closed_at, tail_at}
use Rattle.rules.specs.Line.{is_none, line_exists}
use Rattle.rules.specs.Places.{P1, T1, putting, in_table}
use Rattle.rules.specs.Table.{same, blank}

-- R, n, S are in range, event count is at most 1,000,000, Head is at most the event count
unfoldable pub sound_ring : Ring → Bool
sound_ring g = in_range g.cells g.threads g.tries && (leb g.events run_limit && leb g.head g.events)

-- all fields zero
unfoldable pub all_zero : Thread → Bool
all_zero t = eqb t.place 0 && (eqb t.item 0 && (eqb t.number 0 && (same t.looked zero_cell && (eqb t.tries 0 && is_none t.awaited))))

-- a number below the event count; P1 and T1 may hold zero instead
unfoldable pub sound_number : Ring → Thread → Bool
sound_number g t = ltb t.number g.events || ((eqb t.place P1 || eqb t.place T1) && eqb t.number 0)

-- a place below, tries below S, an awaited line that exists, a nonzero item if it is putting, and such a number
unfoldable pub sound_busy : Ring → Thread → Bool
sound_busy g t =
    in_table t.place
    && (ltb t.tries g.tries
    && ((is_none t.awaited || line_exists g.cells g.threads t.awaited)
    && (not (putting t.place && eqb t.item 0)
    && sound_number g t)))

-- an idle thread, or one at or above n, has all fields zero
unfoldable pub sound_thread : Ring → ℕ → Thread → Bool
sound_thread g i t = cond (eqb t.place 0 || leb g.threads i) (all_zero t) (sound_busy g t)

unfoldable pub sound_record : Control → Bool
sound_record c = sound_ring c.ring && all_to (λ i. sound_thread c.ring i (thread_at c i)) max_threads

-- safe is 0 or 1, the mark at most the event count, an occupied cell's index below the event count and a blank one's below event count + R
unfoldable pub sound_cell : ℕ → ℕ → Cell → Bool
sound_cell R e c = leb c.safe 1 && (leb c.mark e && ltb c.index (cond (blank c) (e + R) e))

-- closed is 0 or 1, copies and Tail are at most the event count
unfoldable pub sound_image : ℕ → ℕ → ℕ → List ℕ → Bool
sound_image R n e m =
    all_to (λ j. sound_cell R e (cell_at R m j)) R
    && (all_to (λ t. leb (copy_at R m t) e) n
    && (leb (closed_at R n m) 1
    && leb (tail_at R n m) e))
