-- Document 01, "Refusal numbers": each refusal's number.
use Rattle.std.specs.Prelude.{ℕ, Result, Ok, Err}
use Rattle.rules.specs.declared.Refusal.{Refusal}
use Rattle.rules.specs.declared.Refusal.TheVariants.{Range, Thread, Line, Busy, Idle, Blank, Full, Record, Text, Short, Room, Image}
use Rattle.rules.specs.declared.Answer.{Answer}
use Rattle.rules.specs.declared.Answer.TheVariants.{Refused}

abbrev pub number_of : Refusal → ℕ
number_of Range = 1
number_of Thread = 2
number_of Line = 3
number_of Busy = 4
number_of Idle = 5
number_of Blank = 6
number_of Full = 7
number_of Record = 8
number_of Text = 9
number_of Short = 10
number_of Room = 11
number_of Image = 12

-- the number of what was refused, 0 where nothing was
abbrev pub refusal_of : {A : Type 0} → Result A Refusal → ℕ
refusal_of (Ok a) = 0
refusal_of (Err r) = number_of r

-- a refusal as an event's answer
abbrev pub answer_of : Refusal → Answer
answer_of r = Refused (number_of r)
