-- A refusal as the entries hand it on.
use mathlib.Core.Path.{◌≡◌, refl, sym}
use mathlib.Core.Logic.{◌≢◌}
use native.Mathlib.Omega.{arith}
use Rattle.rules.specs.declared.Refusal.{Refusal}
use Rattle.rules.specs.declared.Refusal.TheVariants.{Range, Thread, Line, Busy, Idle, Blank, Full, Record, Text, Short, Room, Image}
use Rattle.rules.specs.declared.Event.{Event}
use Rattle.rules.specs.Refusal.{number_of, answer_of}
use Rattle.rules.specs.State.{State, out}
use Rattle.rules.specs.Refusals.{unsound, own_refusal}
use Rattle.rules.specs.Events.{does, inner, event}
use Rattle.rules.proofs.Events.{event-inner, event-refused, inner-does, inner-refused}

-- no refusal has the number 0
pub numbered : (r : Refusal) → number_of r ≢ 0
numbered Range = λ e. omega arith
numbered Thread = λ e. omega arith
numbered Line = λ e. omega arith
numbered Busy = λ e. omega arith
numbered Idle = λ e. omega arith
numbered Blank = λ e. omega arith
numbered Full = λ e. omega arith
numbered Record = λ e. omega arith
numbered Text = λ e. omega arith
numbered Short = λ e. omega arith
numbered Room = λ e. omega arith
numbered Image = λ e. omega arith

-- an event of a state that is not sound, and of one that is
pub event_unsound : (s : State) (e : Event) (r : Refusal) → number_of r ≡ unsound s → event s e ≡ out s (answer_of r)
event_unsound s e r h = sym (event-refused s e (number_of r) h (numbered r))

pub event_sound : (s : State) (e : Event) → 0 ≡ unsound s → event s e ≡ inner s e
event_sound s e h = sym (event-inner s e 0 h refl)

-- an event that is refused for itself, and one that is not
pub inner_refused : (s : State) (e : Event) (r : Refusal) → number_of r ≡ own_refusal s.control e → inner s e ≡ out s (answer_of r)
inner_refused s e r h = sym (inner-refused s e (number_of r) h (numbered r))

pub inner_accepted : (s : State) (e : Event) → 0 ≡ own_refusal s.control e → inner s e ≡ does s e
inner_accepted s e h = sym (inner-does s e 0 h refl)

-- what an entry of one event leaves
pub ruleset entry = (event_unsound, event_sound)
