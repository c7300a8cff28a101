-- Lines gathered into a block of events, run at once: the numbers that the block holds, and what is printed of its answers.
use Rattle.std.specs.Prelude.{ℕ, zero, suc, ◌+◌, ◌*◌, ◌-◌, ◌≤◌, min, ◌≡◌, List, [], ◌∷◌, ◌++◌, cond, eqb, ltb, length, take, drop, get_or, Option, Some, None}
use Rattle.std.proofs.lemmas.List.Edits.{sets}
use Rattle.rules.specs.declared.Line.TheVariants as line
use Rattle.rules.specs.declared.Event.{Event}
use Rattle.rules.specs.declared.Event.TheVariants as event
use Rattle.rules.specs.Answers.{found}
use Rattle.rules.specs.Block.{event_runs}
use Rattle.bench.specs.declared.read.Command.{Command}
use Rattle.bench.specs.declared.read.Command.TheVariants.{Ring, Event as EventOf}
use Rattle.bench.specs.declared.print.Said.{Said}
use Rattle.bench.specs.declared.print.Said.TheVariants.{Refused, Ok, Closed, Item, Empty, Cut}
use Rattle.bench.specs.declared.Phase.{Phase}
use Rattle.bench.specs.declared.Phase.TheVariants.{First, Running, Ended}
use Rattle.bench.specs.declared.Bench.{Bench}
use Rattle.bench.specs.declared.print.Text.{Text}
use Rattle.bench.specs.Print.{Written, said_of, said_text}
use Rattle.bench.specs.Bench.{Run, run, run_with, next_line}
use Rattle.bench.specs.Block.{pour}

-- an event's three numbers, if it is run in a block: a cut is run by itself, whose line has the items from before it
abbrev pub three_of_event : Event → Option (List ℕ)
three_of_event (event.Put i x) = Some (1 ∷ i ∷ x ∷ [])
three_of_event (event.Take i) = Some (2 ∷ i ∷ 0 ∷ [])
three_of_event (event.Go i) = Some (3 ∷ i ∷ 0 ∷ [])
three_of_event (event.Back line.None) = None
three_of_event (event.Back (line.Cell j)) = Some (4 ∷ j ∷ 0 ∷ [])
three_of_event (event.Back (line.Copy j)) = Some (5 ∷ j ∷ 0 ∷ [])
three_of_event (event.Back line.Tail) = Some (6 ∷ 0 ∷ 0 ∷ [])
three_of_event event.Cut = None

-- a line's command as three numbers: kind 0 where it is refused
abbrev pub three_of : Option Command → Option (List ℕ)
three_of None = Some (0 ∷ 0 ∷ 0 ∷ [])
three_of (Some (Ring R n S)) = Some (0 ∷ 0 ∷ 0 ∷ [])
three_of (Some (EventOf e)) = three_of_event e

-- how many lines may be gathered: only a running ring has events
abbrev pub most_of : Phase → ℕ → ℕ
most_of First m = 0
most_of Running m = min m 256
most_of Ended m = 0

-- what the first k events of a block leave, each of them a line: the run, and the text that is printed
pub record Told : Type 0 where
  pub run : Run
  pub text : List ℕ

-- event k as the next line
unfoldable pub tells : Told → List ℕ → ℕ → Told
tells u block k =
    let o = event_runs u.run.state block k in
    let l = next_line u.run.lines in
    record {
      run = run u.run.phase l o.state;
      text = u.text ++ said_text o.state.control.ring.events l [] (said_of o.answer);
    }

abbrev pub told_to : Run → List ℕ → ℕ → Told
told_to r block zero = record { run = r; text = [] }
told_to r block (suc k) = tells (told_to r block k) block k

-- k lines from place i on are in the block of events: to pour from there is to run these, to print what they say, and to pour what is left.
-- More than none are gathered only where the ring is running
unfoldable pub Gathers : List ℕ → ℕ → ℕ → List ℕ → ℕ → List ℕ → List ℕ → ℕ → ℕ → ℕ → Type 0
Gathers c n i s most block after len next k =
    (m : ℕ) (r : Run) (out : List ℕ) (at : ℕ) → most ≤ m → (1 ≤ most → r.phase ≡ Running)
    → (let t = told_to r block k in
    pour m r c n i (drop i s) out at ≡ pour (m - k) t.run after len next (drop next s) (sets out at t.text) (at + length t.text))

-- what is printed of an answer's six numbers
unfoldable pub said_six : List ℕ → Option Said
said_six x =
    let a = get_or x 1 0 in
    let c = get_or x 3 0 in
    let k = get_or x 0 0 in
    cond (eqb k 0) (Some (Refused a))
    (cond (eqb k 9) (Some (Ok a c))
    (cond (eqb k 10) (Some (Closed a))
    (cond (eqb k 18) (Some (Item a c))
    (cond (eqb k 19) (Some (Empty a))
    (cond (eqb k 21) (Some (Cut (found a (get_or x 2 0) c (get_or x 4 0) (get_or x 5 0)))) None)))))

-- answer k of a room
abbrev pub answer_at : List ℕ → ℕ → List ℕ
answer_at room k = take 6 (drop (6 * k) room)

-- the event count after an answer with that number: a refusal adds nothing; a count of 32 bits stays at its largest number
unfoldable pub next_count : ℕ → ℕ → ℕ
next_count e k = cond (eqb k 0) e (cond (ltb e 4294967295) (e + 1) e)

-- what the first k answers of a room leave: the event count, the line's number, and the text
pub record Printed : Type 0 where
  pub count : ℕ
  pub line : ℕ
  pub text : List ℕ

abbrev pub printed : ℕ → ℕ → List ℕ → Printed
printed e l t = record { count = e; line = l; text = t }

-- answer k as the next line
unfoldable pub prints : Printed → List ℕ → ℕ → Printed
prints u room k =
    let x = answer_at room k in
    let e = next_count u.count (get_or x 0 0) in
    let l = next_line u.line in
    printed e l (u.text ++ said_text e l [] (said_six x))

abbrev pub printed_to : ℕ → ℕ → List ℕ → ℕ → Printed
printed_to e l room zero = printed e l []
printed_to e l room (suc k) = prints (printed_to e l room k) room k

-- a block's lines were run and their text printed
pub record LinesRan (t : Told) (lines : ℕ) (before : Text) (b : Bench) (running kept : List ℕ) (after : Text) : Type 0 where
  pub run : run_with b running kept ≡ t.run
  pub written : Written before t.text after
  pub near : after.at ≤ before.at + 2048 * lines

-- a room's answers were printed
pub record AnswersPrinted (p : Printed) (lines : ℕ) (before : Text) (l : ℕ) (after : Text) : Type 0 where
  pub line : l ≡ p.line
  pub written : Written before p.text after
  pub near : after.at ≤ before.at + 2048 * lines
