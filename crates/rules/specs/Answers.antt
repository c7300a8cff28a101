-- Document 01, "Events" and "The cut": each answer's number and values (docs/ANSWERS.md).
use Rattle.std.specs.Prelude.{ℕ, List, [], ◌∷◌}
use Rattle.rules.specs.declared.By.{By}
use Rattle.rules.specs.declared.Found.{Found}
use Rattle.rules.specs.declared.Answer.{Answer}
use Rattle.rules.specs.declared.Answer.TheVariants.{Refused, Begun, Drew, Looked, SawHead, Landed, Missed, Asked, Waiting, Ok, Closed, SetClosed, Took, Flagged, Passed, SawTail, Lifted, Copied, Item, Empty, Written, Cut}
use Rattle.rules.specs.Line.{line_kind, line_place}

abbrev pub by : ℕ → ℕ → By
by t n = record { thread = t; number = n }

abbrev pub found : ℕ → ℕ → ℕ → ℕ → ℕ → Found
found m h t c k = record { mark = m; head = h; tail = t; closed = c; count = k }

-- an answer in numbers: first its own, then its values
unfoldable pub numbers : Answer → List ℕ
numbers (Refused k) = 0 ∷ k ∷ []
numbers (Begun t) = 1 ∷ t ∷ []
numbers (Drew b) = 2 ∷ b.thread ∷ b.number ∷ []
numbers (Looked b j) = 3 ∷ b.thread ∷ b.number ∷ j ∷ []
numbers (SawHead b v) = 4 ∷ b.thread ∷ b.number ∷ v ∷ []
numbers (Landed b j x) = 5 ∷ b.thread ∷ b.number ∷ j ∷ x ∷ []
numbers (Missed b j) = 6 ∷ b.thread ∷ b.number ∷ j ∷ []
numbers (Asked b) = 7 ∷ b.thread ∷ b.number ∷ []
numbers (Waiting b) = 8 ∷ b.thread ∷ b.number ∷ []
numbers (Ok b x) = 9 ∷ b.thread ∷ b.number ∷ x ∷ []
numbers (Closed b) = 10 ∷ b.thread ∷ b.number ∷ []
numbers (SetClosed b) = 11 ∷ b.thread ∷ b.number ∷ []
numbers (Took b j x) = 12 ∷ b.thread ∷ b.number ∷ j ∷ x ∷ []
numbers (Flagged b j) = 13 ∷ b.thread ∷ b.number ∷ j ∷ []
numbers (Passed b j) = 14 ∷ b.thread ∷ b.number ∷ j ∷ []
numbers (SawTail b v) = 15 ∷ b.thread ∷ b.number ∷ v ∷ []
numbers (Lifted b v) = 16 ∷ b.thread ∷ b.number ∷ v ∷ []
numbers (Copied b v) = 17 ∷ b.thread ∷ b.number ∷ v ∷ []
numbers (Item b x) = 18 ∷ b.thread ∷ b.number ∷ x ∷ []
numbers (Empty b) = 19 ∷ b.thread ∷ b.number ∷ []
numbers (Written l) = 20 ∷ line_kind l ∷ line_place l ∷ []
numbers (Cut f) = 21 ∷ f.mark ∷ f.head ∷ f.tail ∷ f.closed ∷ f.count ∷ []
