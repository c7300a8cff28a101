-- A block of events: one event more.
use Prim.Native.Nat.{ℕ, suc, ◌*◌}
use mathlib.Core.Path.{◌≡◌}
use mathlib.Core.List.{List}
use lib.Seq.{sets}
use Rattle.rules.specs.State.{State, Out}
use Rattle.rules.specs.Block.{six, upto, event_runs, one, run_to}

pub one_more : (s t : State) (block room now : List ℕ) (k : ℕ) (o : Out) → o ≡ event_runs t block k → upto t now ≡ run_to s block room k
    → upto o.state (sets now (6 * k) (six o.answer)) ≡ run_to s block room (suc k)
unfolding one
one_more s t block room now k o p q = rw (← q, p)
