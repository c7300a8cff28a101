-- Demand 3: what events and their answers tell of the puts and takes of a whole run, any number of cuts included. Nothing here looks into a cell or a thread's record.
use Rattle.std.specs.Prelude.{ℕ, ◌+◌, ◌<◌, ◌≡◌, Bool, true, false, cond, leb}
use mathlib.Core.List.{List, [], ◌∷◌, ◌++◌, Memᴰ}
use Rattle.std.proofs.Math.Option.{Option, none, some}
use Rattle.rules.specs.declared.By.{By}
use Rattle.rules.specs.declared.Found.{Found}
use Rattle.rules.specs.declared.Event.{Event}
use Rattle.rules.specs.declared.Event.TheVariants.{Put, Take, Go, Back, Cut as CutEvent}
use Rattle.rules.specs.declared.Answer.{Answer}
use Rattle.rules.specs.declared.Answer.TheVariants.{Refused, Begun, Drew, Looked, SawHead, Landed, Missed, Asked, Waiting, Ok, Closed, SetClosed, Took, Flagged, Passed, SawTail, Lifted, Copied, Item, Empty, Written, Cut}
use Rattle.rules.specs.Account.{at}

-- a stands in the list
abbrev pub In : {A : Type 0} → A → List A → Type 0
In a l = Memᴰ a l

-- a cut: what it answered, and the number that each thread's take held when it was cut off
pub record CutOff : Type 0 where
  pub found : Found
  pub held : ℕ → Option ℕ

pub record Tale : Type 0 where
  -- under each number, in the order of the answers: the items of the OK answers, of the ITEM answers, of the landed answers
  pub confirmed : ℕ → List ℕ
  pub handed : ℕ → List ℕ
  pub landings : ℕ → List ℕ
  -- for each thread: whether what it began is a take, and the number that this take holds
  pub taking : ℕ → Bool
  pub holds : ℕ → Option ℕ
  -- every cut so far, the last one first
  pub cuts : List CutOff
  -- CLOSED was answered
  pub closed : Bool

-- at first: nothing
unfoldable pub untold : Tale
untold = record { confirmed = λ x. []; handed = λ x. []; landings = λ x. []; taking = λ t. false; holds = λ t. none; cuts = []; closed = false }

-- one item more under a number
abbrev pub adds : (ℕ → List ℕ) → ℕ → ℕ → ℕ → List ℕ
adds f x i = at f x (f x ++ i ∷ [])

abbrev pub is_take : Event → Bool
is_take (Put i x) = false
is_take (Take i) = true
is_take (Go i) = false
is_take (Back l) = false
is_take CutEvent = false

abbrev pub begun : Tale → ℕ → Bool → Tale
begun h t b = record { confirmed = h.confirmed; handed = h.handed; landings = h.landings; taking = at h.taking t b; holds = h.holds; cuts = h.cuts; closed = h.closed }

abbrev pub holding : Tale → ℕ → Option ℕ → Tale
holding h t o = record { confirmed = h.confirmed; handed = h.handed; landings = h.landings; taking = h.taking; holds = at h.holds t o; cuts = h.cuts; closed = h.closed }

-- what each answer to an event tells. A take holds a number from drew until ITEM, EMPTY, or until saw Tail sends it back to T1: where Tail is past number + 1.
unfoldable pub tells : Tale → Event → Answer → Tale
tells h e (Refused k) = h
tells h e (Begun t) = begun h t (is_take e)
tells h e (Drew b) = holding h b.thread (cond (h.taking b.thread) (some b.number) none)
tells h e (Looked b j) = h
tells h e (SawHead b v) = h
tells h e (Landed b j x) = record { confirmed = h.confirmed; handed = h.handed; landings = adds h.landings b.number x; taking = h.taking; holds = h.holds; cuts = h.cuts; closed = h.closed }
tells h e (Missed b j) = h
tells h e (Asked b) = h
tells h e (Waiting b) = h
tells h e (Ok b x) = record { confirmed = adds h.confirmed b.number x; handed = h.handed; landings = h.landings; taking = h.taking; holds = h.holds; cuts = h.cuts; closed = h.closed }
tells h e (Closed b) = record { confirmed = h.confirmed; handed = h.handed; landings = h.landings; taking = h.taking; holds = h.holds; cuts = h.cuts; closed = true }
tells h e (SetClosed b) = h
tells h e (Took b j x) = h
tells h e (Flagged b j) = h
tells h e (Passed b j) = h
tells h e (SawTail b v) = holding h b.thread (cond (leb v (b.number + 1)) (h.holds b.thread) none)
tells h e (Lifted b v) = h
tells h e (Copied b v) = h
tells h e (Item b x) = record { confirmed = h.confirmed; handed = adds h.handed b.number x; landings = h.landings; taking = h.taking; holds = at h.holds b.thread none; cuts = h.cuts; closed = h.closed }
tells h e (Empty b) = holding h b.thread none
tells h e (Written l) = h
tells h e (Cut f) =
    record { confirmed = h.confirmed; handed = h.handed; landings = h.landings; taking = λ t. false; holds = λ t. none; cuts = record { found = f; held = h.holds } ∷ h.cuts; closed = h.closed }

-- the tale of a run's events and their answers
unfoldable pub tale : Tale → List Event → List Answer → Tale
tale h [] [] = h
tale h [] (a ∷ l) = h
tale h (e ∷ es) [] = h
tale h (e ∷ es) (a ∷ l) = tale (tells h e a) es l

-- "gone with a take that was cut off while it held that put's number": at this cut the take of thread t held x, and x fell below the pass mark
abbrev pub GoneAt : ℕ → CutOff → ℕ → ℕ → Type 0
GoneAt n c t x = (t < n) × (c.held t ≡ some x) × (x < c.found.mark)

-- .. at one of these cuts
abbrev pub Gone : ℕ → List CutOff → ℕ → Type 0
Gone n l x = (c : CutOff) × In c l × ((t : ℕ) × GoneAt n c t x)

-- a tale that leaves none of these answers out: every OK, every ITEM and every landed answer stands in it under its number, and CLOSED too
pub record Heard (l : List Answer) (h : Tale) : Type 0 where
  pub oks : (b : By) (i : ℕ) → In (Ok b i) l → In i (h.confirmed b.number)
  pub items : (b : By) (i : ℕ) → In (Item b i) l → In i (h.handed b.number)
  pub landings : (b : By) (j i : ℕ) → In (Landed b j i) l → In i (h.landings b.number)
  pub closed : (b : By) → In (Closed b) l → h.closed ≡ true

-- a tale that tells of no others: every OK, every ITEM and every landed answer that stands in it under a number is one of these with that number, and CLOSED too
pub record Answered (l : List Answer) (h : Tale) : Type 0 where
  pub oks : (x i : ℕ) → In i (h.confirmed x) → (b : By) × (b.number ≡ x) × In (Ok b i) l
  pub items : (x i : ℕ) → In i (h.handed x) → (b : By) × (b.number ≡ x) × In (Item b i) l
  pub landings : (x i : ℕ) → In i (h.landings x) → (b : By) × ((j : ℕ) × (b.number ≡ x) × In (Landed b j i) l)
  pub closed : h.closed ≡ true → (b : By) × In (Closed b) l
