-- A put's begin, a take's begin and a step by the ring's numbers and the one thread that they move.
-- No entry's statement speaks of it: it is proved to be what document 01's events leave.
use Rattle.std.specs.Prelude.{ℕ, List, cond, eqb}
use Rattle.rules.specs.declared.Thread.{Thread}
use Rattle.rules.specs.declared.Ring.{Ring}
use Rattle.rules.specs.declared.Control.{Control}
use Rattle.rules.specs.declared.Moved.{Moved}
use Rattle.rules.specs.declared.Answer.{Answer}
use Rattle.rules.specs.declared.Answer.TheVariants.{Refused, Begun}
use Rattle.rules.specs.Record.{with_thread, with_ring, counted}
use Rattle.rules.specs.Places.{P1, T1}
use Rattle.rules.specs.Table.{Step, leaves, row}
use Rattle.rules.specs.State.{State, state, Out, out}
use Rattle.rules.specs.Refusals.{put_refusal, take_refusal, go_refusal}
use Rattle.rules.specs.Events.{begins}

abbrev pub moved : Ring → Thread → Answer → Moved
moved g t a = record { ring = g; thread = t; answer = a }

-- r, or the refusal k where that is a number other than 0
unfoldable pub unless : ℕ → Step → Ring → Thread → List ℕ → Step
unless k r g t m = cond (eqb k 0) r (leaves (moved g t (Refused k)) m)

unfoldable pub put_of : Ring → ℕ → Thread → ℕ → List ℕ → Step
put_of g i t x m = unless (put_refusal g i t x) (leaves (moved (counted g) (begins t P1 x) (Begun i)) m) g t m

unfoldable pub take_of : Ring → ℕ → Thread → List ℕ → Step
take_of g i t m = unless (take_refusal g i t) (leaves (moved (counted g) (begins t T1 t.item) (Begun i)) m) g t m

unfoldable pub go_of : Ring → ℕ → Thread → List ℕ → Step
go_of g i t m =
    let r = row g i t m in
    unless (go_refusal g i t) (leaves (moved (counted r.moved.ring) r.moved.thread r.moved.answer) r.running) g t m

-- the record with it, and the whole outcome
abbrev pub placed : Control → ℕ → Moved → Control
placed c i r = with_thread (with_ring c r.ring) i r.thread

abbrev pub left : State → ℕ → Step → Out
left s i r = out (state (placed s.control i r.moved) r.running s.kept) r.moved.answer
