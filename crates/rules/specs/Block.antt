-- A block of events as numbers: three for each event (kind, thread or line, item), six for each answer.
use Rattle.std.specs.Prelude.{ℕ, zero, suc, ◌*◌, ◌+◌, ◌/◌, min, List, [], ◌∷◌, Bool, cond, ◌&&◌, eqb, leb, length, get_or, Option, Some, None}
use Rattle.std.proofs.lemmas.List.Edits.{sets}
use Rattle.rules.specs.declared.Line.TheVariants.{Cell, Copy, Tail}
use Rattle.rules.specs.declared.Event.{Event}
use Rattle.rules.specs.declared.Event.TheVariants.{Put, Take, Go, Back, Cut}
use Rattle.rules.specs.declared.Answer.{Answer}
use Rattle.rules.specs.Answers.{numbers}
use Rattle.rules.specs.State.{State, Out, refused}
use Rattle.rules.specs.Events.{event}

-- kinds are 1 to 7 in ringrun's order: put, take, go, back cell, back copy, back tail, cut
unfoldable pub is_kind : ℕ → Bool
is_kind k = leb 1 k && leb k 7

-- the event of a kind, a thread or line and an item; a number that the kind has no use for is not looked at. A number that is no kind makes a cut too: `event_in` tells them apart
unfoldable pub event_of : ℕ → ℕ → ℕ → Event
event_of k i x =
    cond (eqb k 1) (Put i x)
    (cond (eqb k 2) (Take i)
    (cond (eqb k 3) (Go i)
    (cond (eqb k 4) (Back (Cell i))
    (cond (eqb k 5) (Back (Copy i))
    (cond (eqb k 6) (Back Tail) Cut)))))

-- the event that three numbers are, if they are one
unfoldable pub event_in : List ℕ → Option Event
event_in l =
    let k = get_or l 0 0 in
    cond (is_kind k) (Some (event_of k (get_or l 1 0) (get_or l 2 0))) None

-- three numbers run on a state; where they are no event they are not understood, and nothing changes
unfoldable pub runs : State → ℕ → ℕ → ℕ → Out
runs s k i x = cond (is_kind k) (event s (event_of k i x)) (refused s 9)

-- an answer in six numbers: its own, its values, and zeros
abbrev pub filled_up : ℕ → List ℕ → List ℕ
filled_up zero l = []
filled_up (suc k) [] = 0 ∷ filled_up k []
filled_up (suc k) (x ∷ l) = x ∷ filled_up k l

unfoldable pub six : Answer → List ℕ
six a = filled_up 6 (numbers a)

-- what the first k events of a block leave: the state, and the room with their answers
pub record Upto : Type 0 where
  pub state : State
  pub room : List ℕ

abbrev pub upto : State → List ℕ → Upto
upto s room = record { state = s; room = room }

-- the three numbers of event k
abbrev pub kind_at : List ℕ → ℕ → ℕ
kind_at block k = get_or block (3 * k) 0

abbrev pub place_at : List ℕ → ℕ → ℕ
place_at block k = get_or block (3 * k + 1) 0

abbrev pub item_at : List ℕ → ℕ → ℕ
item_at block k = get_or block (3 * k + 2) 0

unfoldable pub event_runs : State → List ℕ → ℕ → Out
event_runs s block k = runs s (kind_at block k) (place_at block k) (item_at block k)

unfoldable pub one : Upto → List ℕ → ℕ → Upto
one u block k = let o = event_runs u.state block k in upto o.state (sets u.room (6 * k) (six o.answer))

abbrev pub run_to : State → List ℕ → List ℕ → ℕ → Upto
run_to s block room zero = upto s room
run_to s block room (suc k) = one (run_to s block room k) block k

-- as many events as stand whole in the block and have room for their answers
unfoldable pub event_count : List ℕ → List ℕ → ℕ
event_count block room = min (length block / 3) (length room / 6)

unfoldable pub run_block : State → List ℕ → List ℕ → Upto
run_block s block room = run_to s block room (event_count block room)
