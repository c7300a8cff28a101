-- Document 01, "Refusal numbers": for each entry its tests in order. 0 is no refusal.
use Rattle.std.specs.Prelude.{ℕ, List, Bool, cond, ◌&&◌, not, eqb, ltb, leb, length}
use Rattle.rules.specs.declared.Line.{Line}
use Rattle.rules.specs.declared.Thread.{Thread}
use Rattle.rules.specs.declared.Ring.{Ring}
use Rattle.rules.specs.declared.Control.{Control}
use Rattle.rules.specs.declared.Event.{Event}
use Rattle.rules.specs.declared.Event.TheVariants.{Put, Take, Go, Back, Cut}
use Rattle.rules.specs.Numbers.{in_range, run_limit}
use Rattle.rules.specs.Record.{thread_at}
use Rattle.rules.specs.Memory.{size}
use Rattle.rules.specs.Line.{line_exists}
use Rattle.rules.specs.Sound.{sound_record, sound_image}
use Rattle.rules.specs.State.{State}

-- k where the test holds, else what the next tests give
abbrev pub refuse : Bool → ℕ → ℕ → ℕ
refuse b k next = cond b k next

-- an image shorter than 4R + n + 2
abbrev pub short : ℕ → ℕ → List ℕ → Bool
short R n m = ltb (length m) (size R n)

abbrev pub full : Ring → Bool
full g = eqb g.events run_limit

abbrev pub no_thread : Ring → ℕ → Bool
no_thread g i = leb g.threads i

abbrev pub is_idle : Thread → Bool
is_idle t = eqb t.place 0

-- setup
unfoldable pub setup_refusal : ℕ → ℕ → ℕ → List ℕ → List ℕ → ℕ
setup_refusal R n S running kept =
    refuse (not (in_range R n S)) 1
    (refuse (short R n running) 10
    (refuse (short R n kept) 10 0))

-- what every event tests first: the record, then the images
unfoldable pub unsound : State → ℕ
unsound s =
    let g = s.control.ring in
    refuse (not (sound_record s.control)) 8
    (refuse (short g.cells g.threads s.running) 10
    (refuse (short g.cells g.threads s.kept) 10
    (refuse (not (sound_image g.cells g.threads g.events s.running)) 12
    (refuse (not (sound_image g.cells g.threads g.events s.kept)) 12 0))))

-- what each event tests then; thread i is t
abbrev pub put_refusal : Ring → ℕ → Thread → ℕ → ℕ
put_refusal g i t x = refuse (full g) 7 (refuse (no_thread g i) 2 (refuse (not (is_idle t)) 4 (refuse (eqb x 0) 6 0)))

abbrev pub take_refusal : Ring → ℕ → Thread → ℕ
take_refusal g i t = refuse (full g) 7 (refuse (no_thread g i) 2 (refuse (not (is_idle t)) 4 0))

abbrev pub go_refusal : Ring → ℕ → Thread → ℕ
go_refusal g i t = refuse (full g) 7 (refuse (no_thread g i) 2 (refuse (is_idle t) 5 0))

abbrev pub back_refusal : Ring → Line → ℕ
back_refusal g l = refuse (full g) 7 (refuse (not (line_exists g.cells g.threads l)) 3 0)

abbrev pub cut_refusal : Ring → ℕ
cut_refusal g = refuse (full g) 7 0

unfoldable pub own_refusal : Control → Event → ℕ
own_refusal c (Put i x) = put_refusal c.ring i (thread_at c i) x
own_refusal c (Take i) = take_refusal c.ring i (thread_at c i)
own_refusal c (Go i) = go_refusal c.ring i (thread_at c i)
own_refusal c (Back l) = back_refusal c.ring l
own_refusal c Cut = cut_refusal c.ring

-- an event's refusal, by all its tests in order
unfoldable pub refusal : State → Event → ℕ
refusal s e = cond (eqb (unsound s) 0) (own_refusal s.control e) (unsound s)

-- host recovery, where no record is lent
unfoldable pub kept_refusal : ℕ → ℕ → ℕ → ℕ → List ℕ → ℕ
kept_refusal R n S e kept =
    refuse (not (in_range R n S && leb e run_limit)) 8
    (refuse (short R n kept) 10
    (refuse (not (sound_image R n e kept)) 12 0))

-- the listing: the same, and room for R numbers
unfoldable pub listing_refusal : ℕ → ℕ → ℕ → ℕ → List ℕ → List ℕ → ℕ
listing_refusal R n S e kept room =
    refuse (not (in_range R n S && leb e run_limit)) 8
    (refuse (short R n kept) 10
    (refuse (not (sound_image R n e kept)) 12
    (refuse (ltb (length room) R) 11 0)))
