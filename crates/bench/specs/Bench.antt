-- Document 01, "ringrun": what each line of input does, and what it prints.
use Rattle.std.specs.Prelude.{ℕ, ◌+◌, ◌≡◌, List, [], cond, eqb, ltb, take, Option, Some, None}
use Rattle.rules.specs.declared.Event.{Event}
use Rattle.rules.specs.declared.Event.TheVariants as event
use Rattle.rules.specs.declared.Control.{Control}
use Rattle.rules.specs.Record.{zero_control}
use Rattle.rules.specs.State.{State, state}
use Rattle.rules.specs.Refusals.{setup_refusal, kept_refusal}
use Rattle.rules.specs.Events.{setup, event}
use Rattle.rules.specs.Listing.{items}
use Rattle.bench.specs.declared.read.Command.{Command}
use Rattle.bench.specs.declared.read.Command.TheVariants.{Ring, Event as EventOf}
use Rattle.bench.specs.declared.print.Said.TheVariants.{Refused}
use Rattle.bench.specs.declared.Bench.{Bench}
use Rattle.bench.specs.declared.Phase.{Phase}
use Rattle.bench.specs.declared.Phase.TheVariants.{First, Running, Ended}
use Rattle.bench.specs.Read.{line_of}
use Rattle.bench.specs.declared.print.Text.{Text}
use Rattle.bench.specs.Print.{LineWritten, said_of, said_text, end_text}

-- before the first line, running, or ended by a refused first line; how many lines were read; the machine
pub record Run : Type 0 where
  pub phase : Phase
  pub lines : ℕ
  pub state : State

abbrev pub run : Phase → ℕ → State → Run
run p l s = record { phase = p; lines = l; state = s }

-- the same as the code holds it: a bench and the two images
abbrev pub run_with : Bench → List ℕ → List ℕ → Run
run_with b running kept = run b.phase b.lines (state b.control running kept)

abbrev pub bench_of : Phase → ℕ → Control → Bench
bench_of p l c = record { phase = p; lines = l; control = c }

abbrev pub fresh_bench : Bench
fresh_bench = bench_of First 0 zero_control

-- the input line's number, from 1; a count of 64 bits stays at its largest number
unfoldable pub next_line : ℕ → ℕ
next_line l = cond (ltb l 18446744073709551615) (l + 1) l

abbrev pub refused_text : ℕ → ℕ → List ℕ
refused_text l k = said_text 0 l [] (Some (Refused k))

-- the first line sets the ring up, or is refused, and then nothing more is read
abbrev pub first_refusal : State → Option Command → ℕ
first_refusal s (Some (Ring R n S)) = setup_refusal R n S s.running s.kept
first_refusal s (Some (EventOf e)) = 9
first_refusal s None = 9

abbrev pub first_state : State → Option Command → State
first_state s (Some (Ring R n S)) = setup R n S s.running s.kept
first_state s (Some (EventOf e)) = s
first_state s None = s

unfoldable pub first_line : ℕ → State → Option Command → Run
first_line l s c = run (cond (eqb (first_refusal s c) 0) Running Ended) l (first_state s c)

unfoldable pub first_says : ℕ → State → Option Command → List ℕ
first_says l s c = cond (eqb (first_refusal s c) 0) [] (refused_text l (first_refusal s c))

-- the items that a cut queues
abbrev pub items_of : Control → List ℕ → Event → List ℕ
items_of c kept (event.Put t x) = []
items_of c kept (event.Take t) = []
items_of c kept (event.Go t) = []
items_of c kept (event.Back l) = []
items_of c kept event.Cut = items c.ring.cells c.ring.threads kept

-- any other line is an event, or is refused and nothing changes
unfoldable pub event_says : ℕ → State → Event → List ℕ
event_says l s e =
    let o = event s e in
    said_text o.state.control.ring.events l (items_of s.control s.kept e) (said_of o.answer)

abbrev pub next_state : State → Option Command → State
next_state s (Some (Ring R n S)) = s
next_state s (Some (EventOf e)) = (event s e).state
next_state s None = s

abbrev pub next_says : ℕ → State → Option Command → List ℕ
next_says l s (Some (Ring R n S)) = refused_text l 9
next_says l s (Some (EventOf e)) = event_says l s e
next_says l s None = refused_text l 9

-- a command as line l, in each phase
abbrev pub ran_in : Phase → ℕ → State → Option Command → Run
ran_in First l s c = first_line l s c
ran_in Running l s c = run Running l (next_state s c)
ran_in Ended l s c = run Ended l s

abbrev pub says_in : Phase → ℕ → State → Option Command → List ℕ
says_in First l s c = first_says l s c
says_in Running l s c = next_says l s c
says_in Ended l s c = []

-- a line, without its newline
unfoldable pub ran_line : Run → List ℕ → Run
ran_line r b = ran_in r.phase (next_line r.lines) r.state (line_of b)

unfoldable pub line_says : Run → List ℕ → List ℕ
line_says r b = says_in r.phase (next_line r.lines) r.state (line_of b)

-- last, always: the event count
unfoldable pub end_says : Run → List ℕ
end_says r = end_text r.state.control.ring.events

-- a line was run and its text printed; there was room for 2,048 bytes
pub record LineRan (after : Run) (says : List ℕ) (before : Text) (b : Bench) (running kept : List ℕ) (left : Text) : Type 0 where
  pub run : run_with b running kept ≡ after
  pub printed : LineWritten before says left

-- the room holds the items in front, if the kept image is sound; where it isn't, the event is refused and prints none
abbrev pub Lists : Control → List ℕ → Event → List ℕ → ℕ → Type 0
Lists c kept e room n =
    kept_refusal c.ring.cells c.ring.threads c.ring.tries c.ring.events kept ≡ 0 → take n room ≡ items_of c kept e
