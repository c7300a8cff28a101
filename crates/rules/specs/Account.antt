-- Document 01, "The account of demand 3": worked out from answers alone; nothing here looks into a cell.
use Rattle.std.specs.Prelude.{ℕ, ◌+◌, ◌-◌, max, List, [], ◌∷◌, cond, eqb, leb}
use Rattle.rules.specs.declared.Line.{Line}
use Rattle.rules.specs.declared.Found.{Found}
use Rattle.rules.specs.declared.Answer.{Answer}
use Rattle.rules.specs.declared.Answer.TheVariants.{Refused, Begun, Drew, Looked, SawHead, Landed, Missed, Asked, Waiting, Ok, Closed, SetClosed, Took, Flagged, Passed, SawTail, Lifted, Copied, Item, Empty, Written, Cut}
use Rattle.rules.specs.Upto.{max_to, join_from}
use Rattle.rules.specs.Line.{carries_cell, carries_copy}
use Rattle.rules.specs.Cut.{Entry, entry}

-- what the account knows of the stretch since the last cut. An item 0 and a value 0 stand for none.
pub record Account : Type 0 where
  -- "Head after the last cut (0 at first)"
  pub head : ℕ
  -- under each number: the item queued by the last cut, or landed since, and the cell that it landed in
  pub landed : ℕ → ℕ
  pub spot : ℕ → ℕ
  -- of these: "items queued by the last cut, under their numbers, and those landed whose cell was written since landing"
  pub durable : ℕ → ℕ
  -- for each cell: the largest "number + 1 for each took or passed", and the largest of those "whose cell was written since"
  pub passed : ℕ → ℕ
  pub passed_written : ℕ → ℕ
  -- for each thread: the largest "copied value", and the largest of those "whose copy was written since"
  pub copied : ℕ → ℕ
  pub copied_written : ℕ → ℕ
  -- above every landed number, so that going through them in order ends
  pub bound : ℕ

-- f, and v at x
abbrev pub at : {A : Type 0} → (ℕ → A) → ℕ → A → ℕ → A
at f x v y = cond (eqb y x) v (f y)

-- at first: nothing
unfoldable pub opened : Account
opened =
    record { head = 0; landed = λ x. 0; spot = λ x. 0; durable = λ x. 0; passed = λ j. 0; passed_written = λ j. 0; copied = λ t. 0; copied_written = λ t. 0; bound = 0 }

-- "its pass mark is the largest of: Head after the last cut; each copied value whose copy was written since; number + 1 for each took or passed whose cell was written since"
unfoldable pub mark_of : ℕ → ℕ → Account → ℕ
mark_of R n a = max a.head (max (max_to a.copied_written n) (max_to a.passed_written R))

-- "its queue: .. with number ≥ that mark, in order of number"
unfoldable pub listed : Account → ℕ → List Entry
listed a x = cond (eqb (a.durable x) 0) [] (entry x (a.durable x) ∷ [])

unfoldable pub queue_by : ℕ → ℕ → Account → List Entry
queue_by R n a = join_from (listed a) (mark_of R n a) (a.bound - mark_of R n a)

-- the Head and Tail of a queue over a pass mark: smallest number, largest number + 1; both the pass mark if nothing is queued
unfoldable pub first_of : ℕ → List Entry → ℕ
first_of mark [] = mark
first_of mark (e ∷ q) = e.number

unfoldable pub past_of : ℕ → List Entry → ℕ
past_of mark [] = mark
past_of mark (e ∷ q) = past_of (e.number + 1) q

-- landed number item, in this cell
abbrev pub lands : Account → ℕ → ℕ → ℕ → Account
lands a x j i =
    record { head = a.head; landed = at a.landed x i; spot = at a.spot x j; durable = at a.durable x 0; passed = a.passed; passed_written = a.passed_written; copied = a.copied; copied_written = a.copied_written; bound = max a.bound (x + 1) }

-- took or passed number, in this cell
abbrev pub passes : Account → ℕ → ℕ → Account
passes a x j =
    record { head = a.head; landed = a.landed; spot = a.spot; durable = a.durable; passed = at a.passed j (max (a.passed j) (x + 1)); passed_written = a.passed_written; copied = a.copied; copied_written = a.copied_written; bound = a.bound }

-- copied a value, by this thread
abbrev pub copies : Account → ℕ → ℕ → Account
copies a t v =
    record { head = a.head; landed = a.landed; spot = a.spot; durable = a.durable; passed = a.passed; passed_written = a.passed_written; copied = at a.copied t (max (a.copied t) v); copied_written = a.copied_written; bound = a.bound }

-- written: everything that landed, was passed or copied before, in a cell or a copy that the line carries, is now written since
abbrev pub writes : Account → Line → Account
writes a l =
    record {
      head = a.head;
      landed = a.landed;
      spot = a.spot;
      durable = λ x. cond (carries_cell l (a.spot x)) (a.landed x) (a.durable x);
      passed = a.passed;
      passed_written = λ j. cond (carries_cell l j) (a.passed j) (a.passed_written j);
      copied = a.copied;
      copied_written = λ t. cond (carries_copy l t) (a.copied t) (a.copied_written t);
      bound = a.bound;
    }

-- cut: the next stretch begins with the account's own queue, and the Head that the cut answered
abbrev pub restarts : ℕ → ℕ → Account → Found → Account
restarts R n a f =
    let kept : ℕ → ℕ = λ x. cond (leb (mark_of R n a) x) (a.durable x) 0 in
    record { head = f.head; landed = kept; spot = a.spot; durable = kept; passed = λ j. 0; passed_written = λ j. 0; copied = λ t. 0; copied_written = λ t. 0; bound = a.bound }

-- what each answer enters
unfoldable pub enters : ℕ → ℕ → Account → Answer → Account
enters R n a (Refused k) = a
enters R n a (Begun t) = a
enters R n a (Drew b) = a
enters R n a (Looked b j) = a
enters R n a (SawHead b v) = a
enters R n a (Landed b j x) = lands a b.number j x
enters R n a (Missed b j) = a
enters R n a (Asked b) = a
enters R n a (Waiting b) = a
enters R n a (Ok b x) = a
enters R n a (Closed b) = a
enters R n a (SetClosed b) = a
enters R n a (Took b j x) = passes a b.number j
enters R n a (Flagged b j) = a
enters R n a (Passed b j) = passes a b.number j
enters R n a (SawTail b v) = a
enters R n a (Lifted b v) = a
enters R n a (Copied b v) = copies a b.thread v
enters R n a (Item b x) = a
enters R n a (Empty b) = a
enters R n a (Written l) = writes a l
enters R n a (Cut f) = restarts R n a f

-- the account of a run's answers
unfoldable pub account : ℕ → ℕ → Account → List Answer → Account
account R n a [] = a
account R n a (x ∷ xs) = account R n (enters R n a x) xs
