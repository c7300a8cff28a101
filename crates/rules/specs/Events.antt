-- Document 01, "Events": begin, step, write back, cut, as one function from state and event to state and answer; setup; runs.
use Rattle.std.specs.Prelude.{ℕ, List, [], ◌∷◌, map, cond, eqb}
use Rattle.rules.specs.declared.Line.{Line}
use Rattle.rules.specs.declared.Thread.{Thread}
use Rattle.rules.specs.declared.Control.{Control}
use Rattle.rules.specs.declared.Event.{Event}
use Rattle.rules.specs.declared.Event.TheVariants.{Put, Take, Go, Back, Cut as CutEvent}
use Rattle.rules.specs.declared.Answer.{Answer}
use Rattle.rules.specs.declared.Answer.TheVariants.{Begun, Written, Cut}
use Rattle.rules.specs.Record.{thread_at, with_thread, with_ring, counted, headed, control_of, fresh_control, zero_control}
use Rattle.rules.specs.Memory.{size, over_to, fresh_image}
use Rattle.rules.specs.Line.{carried, released}
use Rattle.rules.specs.Places.{P1, T1}
use Rattle.rules.specs.Table.{row}
use Rattle.rules.specs.Cut.{finds, recovered}
use Rattle.rules.specs.State.{State, state, Out, out, accept}
use Rattle.rules.specs.Refusals.{setup_refusal, unsound, own_refusal}

-- each accepted event adds 1 to the event count
abbrev pub counts : Control → Control
counts c = with_ring c (counted c.ring)

-- a begin sets place P1 or T1 and a put's item, nothing else
abbrev pub begins : Thread → ℕ → ℕ → Thread
begins t p x = record { place = p; item = x; number = t.number; looked = t.looked; tries = t.tries; awaited = t.awaited }

unfoldable pub begin_put : State → ℕ → ℕ → Out
begin_put s i x = out (state (counts (with_thread s.control i (begins (thread_at s.control i) P1 x))) s.running s.kept) (Begun i)

unfoldable pub begin_take : State → ℕ → Out
begin_take s i =
    let t = thread_at s.control i in
    out (state (counts (with_thread s.control i (begins t T1 t.item))) s.running s.kept) (Begun i)

-- a step does one row
unfoldable pub step_thread : State → ℕ → Out
step_thread s i =
    let r = row s.control.ring i (thread_at s.control i) s.running in
    out (state (counts (with_thread (with_ring s.control r.moved.ring) i r.moved.thread)) r.running s.kept) r.moved.answer

-- a write-back copies the line from running to kept, and every thread awaiting it awaits nothing
unfoldable pub write_back : State → Line → Out
write_back s l =
    let g = s.control.ring in
    out (state (counts (record { ring = g; thread = map (released l) s.control.thread })) s.running (carried g.cells g.threads l s.running s.kept))
    (Written l)

-- all threads go idle, running memory is lost, both images then hold what recovery makes of kept
unfoldable pub cut : State → Out
cut s =
    let g = s.control.ring in
    let f = finds g.cells g.threads s.kept in
    let k = recovered g.cells g.threads s.kept in
    out (state (counts (control_of (headed g f.head))) (over_to k s.running (size g.cells g.threads)) k) (Cut f)

-- an accepted event
unfoldable pub does : State → Event → Out
does s (Put i x) = begin_put s i x
does s (Take i) = begin_take s i
does s (Go i) = step_thread s i
does s (Back l) = write_back s l
does s CutEvent = cut s

-- an event of a sound state, and of any state
unfoldable pub inner : State → Event → Out
inner s e = accept (own_refusal s.control e) (does s e) s

unfoldable pub event : State → Event → Out
event s e = accept (unsound s) (inner s e) s

-- setup: the fresh record and fresh images; a refused one hands back a record of zeros and leaves the images
unfoldable pub fresh_state : ℕ → ℕ → ℕ → List ℕ → List ℕ → State
fresh_state R n S running kept = state (fresh_control R n S) (fresh_image R n running) (fresh_image R n kept)

unfoldable pub setup : ℕ → ℕ → ℕ → List ℕ → List ℕ → State
setup R n S running kept = cond (eqb (setup_refusal R n S running kept) 0) (fresh_state R n S running kept) (state zero_control running kept)

-- a run of events: the state it leaves, and its answers
unfoldable pub after : State → List Event → State
after s [] = s
after s (e ∷ es) = after (event s e).state es

unfoldable pub answers : State → List Event → List Answer
answers s [] = []
answers s (e ∷ es) = (event s e).answer ∷ answers (event s e).state es
