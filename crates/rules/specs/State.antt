-- The state that an event is given, and what it leaves: document 01's record and its two images.
use Rattle.std.specs.Prelude.{ℕ, List, cond, eqb}
use Rattle.rules.specs.declared.Control.{Control}
use Rattle.rules.specs.declared.Answer.{Answer}
use Rattle.rules.specs.declared.Answer.TheVariants.{Refused}

pub record State : Type 0 where
  pub control : Control
  pub running : List ℕ
  pub kept : List ℕ

abbrev pub state : Control → List ℕ → List ℕ → State
state c r k = record { control = c; running = r; kept = k }

pub record Out : Type 0 where
  pub state : State
  pub answer : Answer

abbrev pub out : State → Answer → Out
out s a = record { state = s; answer = a }

-- a refusal gives its number; record and images stay untouched
abbrev pub refused : State → ℕ → Out
refused s k = out s (Refused k)

-- o, or the refusal k where that is a number other than 0
unfoldable pub accept : ℕ → Out → State → Out
accept k o s = cond (eqb k 0) o (refused s k)
