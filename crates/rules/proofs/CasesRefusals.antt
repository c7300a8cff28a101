-- Document 01, "Refusal numbers" and what is sound: both sides of each test, and the order of the tests. Each line is the number that the definitions give and the page's.
use Prim.Native.Nat.{ℕ}
use mathlib.Core.Path.{◌≡◌, refl}
use mathlib.Core.List.{List, [], ◌∷◌, map}
use Rattle.rules.specs.declared.Line.{Line}
use Rattle.rules.specs.declared.Line.TheVariants.{None, Copy, Tail, Cell as CellLine}
use Rattle.rules.specs.declared.Cell.{Cell}
use Rattle.rules.specs.declared.Thread.{Thread}
use Rattle.rules.specs.declared.Ring.{Ring}
use Rattle.rules.specs.declared.Control.{Control}
use Rattle.rules.specs.declared.Event.TheVariants.{Put, Take, Go, Back, Cut}
use Rattle.rules.specs.Numbers.{in_range}
use Rattle.rules.specs.Record.{cell, zero_cell, idle, ring_of, thread_at}
use Rattle.rules.specs.Memory.{cell_at, copy_at, closed_at, tail_at}
use Rattle.rules.specs.Line.{line_exists}
use Rattle.rules.specs.Places.{P1, P2, P10, T1, T2, T10}
use Rattle.rules.specs.Table.{same}
use Rattle.rules.specs.Sound.{sound_ring, all_zero, sound_number, sound_busy, sound_thread, sound_record, sound_cell, sound_image}
use Rattle.rules.specs.State.{State, state}
use Rattle.rules.specs.Refusals.{setup_refusal, unsound, own_refusal, refusal, kept_refusal, listing_refusal}

pub record Number : Type 0 where
  pub worked : ℕ
  pub page : ℕ

abbrev pub number : ℕ → ℕ → Number
number w p = record { worked = w; page = p }

-- R 2, n 2, S 5, event count 100, Head 9, and an image of 4R + n + 2 numbers
abbrev pub ring : Ring
ring = ring_of 2 2 5 100 9

abbrev pub image : Cell → ℕ → ℕ → ℕ → List ℕ
image c copy closed tail = 1 ∷ 6 ∷ 0 ∷ 2 ∷ c.safe ∷ c.index ∷ c.item ∷ c.mark ∷ 3 ∷ copy ∷ closed ∷ tail ∷ []

abbrev pub good : List ℕ
good = image (cell 0 5 55 1) 4 0 12

abbrev pub bad : List ℕ
bad = image (cell 0 5 55 1) 4 2 12

abbrev pub shorter : List ℕ
shorter = 1 ∷ 6 ∷ 0 ∷ 2 ∷ 0 ∷ 5 ∷ 55 ∷ 1 ∷ 3 ∷ 4 ∷ 2 ∷ []

abbrev pub busy : ℕ → ℕ → ℕ → ℕ → Line → Thread
busy p x v k l = record { place = p; item = x; number = v; looked = cell 7 7 7 7; tries = k; awaited = l }

-- thread 0 is idle, thread 1 is the one given, and a thread that the ring doesn't have
abbrev pub control : Ring → Thread → Thread → Control
control g t u = record { ring = g; thread = idle ∷ t ∷ u ∷ idle ∷ idle ∷ idle ∷ idle ∷ idle ∷ [] }

abbrev pub base : State
base = state (control ring (busy P2 77 6 2 None) idle) good good

abbrev pub with_ring : Ring → State
with_ring g = state (control g idle idle) good good

abbrev pub with_thread : Thread → State
with_thread t = state (control ring t idle) good good

-- a cut of a state with one image changed, and of both ways round
abbrev pub with_running : List ℕ → State
with_running m = state (control ring idle idle) m good

abbrev pub with_kept : List ℕ → State
with_kept m = state (control ring idle idle) good m

abbrev pub at_limit : State
at_limit = with_ring (ring_of 2 2 5 1000000 9)

unfoldable pub refusals : List Number
refusals =
    -- accepted
    number (refusal base (Put 0 5)) 0
    ∷ number (refusal base (Take 0)) 0
    ∷ number (refusal base (Go 1)) 0
    ∷ number (refusal base (Back (CellLine 1))) 0
    ∷ number (refusal base (Back (Copy 1))) 0
    ∷ number (refusal base (Back Tail)) 0
    ∷ number (refusal base Cut) 0
    -- 2: thread ≥ n
    ∷ number (refusal base (Put 2 5)) 2
    ∷ number (refusal base (Take 2)) 2
    ∷ number (refusal base (Go 2)) 2
    -- 3: cell ≥ R, or copy ≥ n
    ∷ number (refusal base (Back (CellLine 2))) 3
    ∷ number (refusal base (Back (Copy 2))) 3
    ∷ number (refusal base (Back None)) 3
    -- 4: begin on a busy thread; 5: step of an idle thread; 6: put of item 0
    ∷ number (refusal base (Put 1 5)) 4
    ∷ number (refusal base (Take 1)) 4
    ∷ number (refusal base (Go 0)) 5
    ∷ number (refusal base (Put 0 0)) 6
    -- 2 before 4, 5 and 6, 4 before 6
    ∷ number (refusal base (Put 2 0)) 2
    ∷ number (refusal base (Put 1 0)) 4
    -- 7: event count already 1,000,000; before 2, 3, 5 and 6, a cut too; event 1,000,000 is accepted
    ∷ number (refusal at_limit (Put 2 0)) 7
    ∷ number (refusal at_limit (Take 2)) 7
    ∷ number (refusal at_limit (Go 2)) 7
    ∷ number (refusal at_limit (Back None)) 7
    ∷ number (refusal at_limit Cut) 7
    ∷ number (refusal (with_ring (ring_of 2 2 5 999999 9)) Cut) 0
    -- 8, then 10, then 12, then 7, whichever image it is
    ∷ number (refusal (state (control (ring_of 2 2 5 1000000 9) idle idle) bad good) Cut) 12
    ∷ number (refusal (state (control (ring_of 2 2 5 1000000 9) idle idle) good bad) (Go 2)) 12
    ∷ number (refusal (state (control (ring_of 2 2 5 1000000 9) idle idle) shorter bad) Cut) 10
    ∷ number (refusal (state (control (ring_of 2 2 5 1000000 9) idle idle) bad shorter) (Put 2 0)) 10
    ∷ number (refusal (state (control (ring_of 2 2 5 1000001 9) idle idle) shorter bad) Cut) 8
    ∷ []

unfoldable pub records : List Number
records =
    -- R, n, S, event count and Head
    number (refusal (with_ring (ring_of 0 2 5 100 9)) Cut) 8
    ∷ number (refusal (with_ring (ring_of 65 2 5 100 9)) Cut) 8
    ∷ number (refusal (with_ring (ring_of 64 2 5 100 9)) Cut) 10
    ∷ number (refusal (with_ring (ring_of 2 0 5 100 9)) Cut) 8
    ∷ number (refusal (with_ring (ring_of 2 9 5 100 9)) Cut) 8
    ∷ number (refusal (with_ring (ring_of 2 8 5 100 9)) Cut) 10
    ∷ number (refusal (with_ring (ring_of 2 2 0 100 9)) Cut) 8
    ∷ number (refusal (with_ring (ring_of 2 2 256 100 9)) Cut) 8
    ∷ number (refusal (with_ring (ring_of 2 2 255 100 9)) Cut) 0
    ∷ number (refusal (with_ring (ring_of 2 2 1 100 9)) Cut) 0
    ∷ number (refusal (with_ring (ring_of 2 2 5 1000001 9)) Cut) 8
    ∷ number (refusal (with_ring (ring_of 2 2 5 100 101)) Cut) 8
    ∷ number (refusal (with_ring (ring_of 2 2 5 100 100)) Cut) 0
    -- a busy thread's place, tries, awaited line, item and number
    ∷ number (refusal (with_thread (busy T10 0 99 4 (Copy 1))) Cut) 0
    ∷ number (refusal (with_thread (busy 21 0 99 4 (Copy 1))) Cut) 8
    ∷ number (refusal (with_thread (busy T10 0 99 5 (Copy 1))) Cut) 8
    ∷ number (refusal (with_thread (busy T10 0 99 4 (Copy 2))) Cut) 8
    ∷ number (refusal (with_thread (busy T10 0 99 4 (CellLine 1))) Cut) 0
    ∷ number (refusal (with_thread (busy T10 0 99 4 (CellLine 2))) Cut) 8
    ∷ number (refusal (with_thread (busy T10 0 99 4 Tail)) Cut) 0
    ∷ number (refusal (with_thread (busy T10 0 100 4 Tail)) Cut) 8
    ∷ number (refusal (with_thread (busy P10 0 99 4 Tail)) Cut) 8
    ∷ number (refusal (with_thread (busy P10 1 99 4 Tail)) Cut) 0
    ∷ number (refusal (with_thread (busy P1 0 99 4 Tail)) Cut) 8
    ∷ number (refusal (with_thread (busy T1 0 99 4 Tail)) Cut) 0
    -- a number below the event count; P1 and T1 may hold zero instead
    ∷ number (refusal (with_thread (busy P1 1 100 4 None)) Cut) 8
    ∷ number (refusal (state (control (ring_of 1 1 5 0 0) idle idle) (1 ∷ 0 ∷ 0 ∷ 0 ∷ 0 ∷ 0 ∷ 0 ∷ []) (1 ∷ 0 ∷ 0 ∷ 0 ∷ 0 ∷ 0 ∷ 0 ∷ [])) Cut) 0
    ∷ number (refusal (state (record { ring = ring_of 1 1 5 0 0; thread = busy P1 1 0 0 None ∷ [] }) (1 ∷ 0 ∷ 0 ∷ 0 ∷ 0 ∷ 0 ∷ 0 ∷ []) (1 ∷ 0 ∷ 0 ∷ 0 ∷ 0 ∷ 0 ∷ 0 ∷ [])) Cut) 0
    ∷ number (refusal (state (record { ring = ring_of 1 1 5 0 0; thread = busy T1 0 0 0 None ∷ [] }) (1 ∷ 0 ∷ 0 ∷ 0 ∷ 0 ∷ 0 ∷ 0 ∷ []) (1 ∷ 0 ∷ 0 ∷ 0 ∷ 0 ∷ 0 ∷ 0 ∷ [])) Cut) 0
    ∷ number (refusal (state (record { ring = ring_of 1 1 5 0 0; thread = busy T2 0 0 0 None ∷ [] }) (1 ∷ 0 ∷ 0 ∷ 0 ∷ 0 ∷ 0 ∷ 0 ∷ []) (1 ∷ 0 ∷ 0 ∷ 0 ∷ 0 ∷ 0 ∷ 0 ∷ [])) Cut) 8
    -- an idle thread has all fields zero, and one at or above n
    ∷ number (refusal (with_thread (record { place = 0; item = 1; number = 0; looked = zero_cell; tries = 0; awaited = None })) Cut) 8
    ∷ number (refusal (with_thread (record { place = 0; item = 0; number = 1; looked = zero_cell; tries = 0; awaited = None })) Cut) 8
    ∷ number (refusal (with_thread (record { place = 0; item = 0; number = 0; looked = cell 1 0 0 0; tries = 0; awaited = None })) Cut) 8
    ∷ number (refusal (with_thread (record { place = 0; item = 0; number = 0; looked = cell 0 1 0 0; tries = 0; awaited = None })) Cut) 8
    ∷ number (refusal (with_thread (record { place = 0; item = 0; number = 0; looked = cell 0 0 1 0; tries = 0; awaited = None })) Cut) 8
    ∷ number (refusal (with_thread (record { place = 0; item = 0; number = 0; looked = cell 0 0 0 1; tries = 0; awaited = None })) Cut) 8
    ∷ number (refusal (with_thread (record { place = 0; item = 0; number = 0; looked = zero_cell; tries = 1; awaited = None })) Cut) 8
    ∷ number (refusal (with_thread (record { place = 0; item = 0; number = 0; looked = zero_cell; tries = 0; awaited = Tail })) Cut) 8
    ∷ number (refusal (state (control ring idle (busy P2 77 6 2 None)) good good) Cut) 8
    ∷ []

-- a changed image, as running and as kept
abbrev pub images : List ℕ → ℕ → List Number → List Number
images m k rest = number (refusal (with_running m) Cut) k ∷ number (refusal (with_kept m) Cut) k ∷ rest

unfoldable pub sound_images : List Number
sound_images =
    images good 0
    (images shorter 10
    -- safe, mark, an occupied cell's index, a blank one's
    (images (image (cell 1 5 55 1) 4 0 12) 0
    (images (image (cell 2 5 55 1) 4 0 12) 12
    (images (image (cell 0 5 55 100) 4 0 12) 0
    (images (image (cell 0 5 55 101) 4 0 12) 12
    (images (image (cell 0 99 55 1) 4 0 12) 0
    (images (image (cell 0 100 55 1) 4 0 12) 12
    (images (image (cell 0 101 0 1) 4 0 12) 0
    (images (image (cell 0 102 0 1) 4 0 12) 12
    -- copies, closed, Tail
    (images (image (cell 0 5 55 1) 100 0 12) 0
    (images (image (cell 0 5 55 1) 101 0 12) 12
    (images (image (cell 0 5 55 1) 4 1 12) 0
    (images bad 12
    (images (image (cell 0 5 55 1) 4 0 100) 0
    (images (image (cell 0 5 55 1) 4 0 101) 12 [])))))))))))))))

-- the entries without a lent record
unfoldable pub entries : List Number
entries =
    -- setup: 1 before 10
    number (setup_refusal 2 2 5 good good) 0
    ∷ number (setup_refusal 0 2 5 good good) 1
    ∷ number (setup_refusal 65 2 5 [] []) 1
    ∷ number (setup_refusal 2 0 5 good good) 1
    ∷ number (setup_refusal 2 9 5 good good) 1
    ∷ number (setup_refusal 2 2 0 good good) 1
    ∷ number (setup_refusal 2 2 256 good good) 1
    ∷ number (setup_refusal 2 2 5 shorter good) 10
    ∷ number (setup_refusal 2 2 5 good shorter) 10
    ∷ number (setup_refusal 2 2 5 bad bad) 0
    -- host recovery: 8, 10, 12, never 7
    ∷ number (kept_refusal 2 2 5 100 good) 0
    ∷ number (kept_refusal 2 2 5 1000000 good) 0
    ∷ number (kept_refusal 2 2 5 1000001 shorter) 8
    ∷ number (kept_refusal 0 2 5 100 good) 8
    ∷ number (kept_refusal 2 9 5 100 good) 8
    ∷ number (kept_refusal 2 2 256 100 good) 8
    ∷ number (kept_refusal 2 2 5 100 shorter) 10
    ∷ number (kept_refusal 2 2 5 100 bad) 12
    ∷ number (kept_refusal 2 2 5 11 good) 12
    ∷ number (kept_refusal 2 2 5 12 good) 0
    -- the listing: the same, then 11
    ∷ number (listing_refusal 2 2 5 100 good (0 ∷ 0 ∷ [])) 0
    ∷ number (listing_refusal 2 2 5 1000000 good (0 ∷ 0 ∷ [])) 0
    ∷ number (listing_refusal 2 2 5 100 good (0 ∷ [])) 11
    ∷ number (listing_refusal 2 2 5 100 bad (0 ∷ [])) 12
    ∷ number (listing_refusal 2 2 5 100 shorter (0 ∷ [])) 10
    ∷ number (listing_refusal 2 2 5 1000001 shorter (0 ∷ [])) 8
    ∷ number (listing_refusal 65 2 5 100 good (0 ∷ [])) 8
    ∷ number (listing_refusal 2 0 5 100 good (0 ∷ [])) 8
    ∷ number (listing_refusal 2 2 0 100 good (0 ∷ [])) 8
    ∷ []

abbrev pub Holds : List Number → Type 0
Holds l = map (λ (n : Number). n.worked) l ≡ map (λ (n : Number). n.page) l

pub refusals_hold : Holds refusals
unfolding refusals refusal unsound own_refusal in_range thread_at cell_at copy_at closed_at tail_at line_exists same sound_ring all_zero sound_number sound_busy sound_thread sound_record sound_cell sound_image
refusals_hold = refl

pub records_hold : Holds records
unfolding records refusal unsound own_refusal in_range thread_at cell_at copy_at closed_at tail_at line_exists same sound_ring all_zero sound_number sound_busy sound_thread sound_record sound_cell sound_image
records_hold = refl

pub images_hold : Holds sound_images
unfolding sound_images refusal unsound own_refusal in_range thread_at cell_at copy_at closed_at tail_at line_exists same sound_ring all_zero sound_number sound_busy sound_thread sound_record sound_cell sound_image
images_hold = refl

pub entries_hold : Holds entries
unfolding entries setup_refusal kept_refusal listing_refusal in_range cell_at copy_at closed_at tail_at sound_cell sound_image
entries_hold = refl
