-- Demand 3, sentence by sentence, for a run of any events from a fresh ring.
use Rattle.std.specs.Prelude.{ℕ, ◌≤◌, ◌<◌, ◌≡◌, ◌≢◌, List, [], ◌∷◌, true, length}
use Rattle.rules.specs.declared.By.{By}
use Rattle.rules.specs.declared.Found.{Found}
use Rattle.rules.specs.declared.Event.{Event}
use Rattle.rules.specs.declared.Event.TheVariants.{Cut as CutEvent}
use Rattle.rules.specs.declared.Answer.TheVariants.{Landed, Ok, Item, Cut}
use Rattle.rules.specs.Numbers.{run_limit}
use Rattle.rules.specs.Cut.{Entry, entry, queue_of}
use Rattle.rules.specs.State.{State}
use Rattle.rules.specs.Refusals.{setup_refusal}
use Rattle.rules.specs.Events.{event, fresh_state, after, answers}
use Rattle.rules.specs.Account.{Account, opened, account}
use Rattle.rules.specs.Agreement.{Agreement}
use Rattle.rules.specs.Tale.{In, CutOff, Tale, untold, tells, tale, GoneAt, Gone, Heard, Answered}

-- nothing stands in the queue under this number
abbrev pub Unqueued : ℕ → List Entry → Type 0
Unqueued x q = (e : Entry) → In e q → e.number ≢ x

-- "exactly one of these", for number x and item i: by what was handed out under x, by the queue, and by whether x is gone
pub data ExactlyOne (x i : ℕ) (handed : List ℕ) (queue : List Entry) (IsGone : Type 0) : Type 0 where
  -- "handed out by ITEM, once": this item and no other
  first : handed ≡ i ∷ [] → Unqueued x queue → ¬ IsGone → ExactlyOne x i handed queue IsGone
  -- "still queued": nothing was handed out under x
  second : handed ≡ [] → In (entry x i) queue → ¬ IsGone → ExactlyOne x i handed queue IsGone
  -- "gone": nothing was handed out under x, and nothing is queued under it
  third : handed ≡ [] → Unqueued x queue → IsGone → ExactlyOne x i handed queue IsGone

-- a cut of this kept image that answers f, after a run with the account a and the tale h; h' is the tale with this cut in it
pub record AtCut (R n : ℕ) (kept : List ℕ) (f : Found) (a : Account) (h h' : Tale) : Type 0 where
  -- "two accounts agree"
  pub agreement : Agreement R n kept f a
  -- "every put confirmed OK is then exactly one of these: handed out by ITEM, once; still queued; or gone with a take that was cut off while it held that put's number"
  pub fates : (x i : ℕ) → In i (h.confirmed x) → ExactlyOne x i (h.handed x) (queue_of R n kept) (Gone n h'.cuts x)
  -- "at most one a thread for each cut": the tale has one number for each thread, and `fates` and `landed_new` say which put that is
  pub one_a_thread : (c : CutOff) → In c h'.cuts → (t x y : ℕ) → GoneAt n c t x → GoneAt n c t y → x ≡ y
  -- "all of them ahead of everything queued": what was gone at any cut so far is ahead of what this one queues
  pub ahead : (x : ℕ) → Gone n h'.cuts x → (e : Entry) → In e (queue_of R n kept) → x < e.number
  -- "CLOSED answered, cut: closed 1", and at every later cut
  pub closed : h.closed ≡ true → f.closed ≡ 1

-- a number that is new after a run with the account a and the tale h
pub record New (n x : ℕ) (a : Account) (h : Tale) : Type 0 where
  -- nothing was handed out under it, ever
  pub unhanded : h.handed x ≡ []
  -- nothing was confirmed under it, ever
  pub unconfirmed : h.confirmed x ≡ []
  -- it is not gone, at any cut so far
  pub ungone : ¬ Gone n h.cuts x
  -- the last cut queued nothing under it, and nothing landed under it since (a landing that a cut lost may have had it)
  pub unlanded : a.landed x ≡ 0

-- a run of the events es from the state s: its account, from the answers alone, and its tale, from events and answers
abbrev pub account_of : ℕ → ℕ → State → List Event → Account
account_of R n s es = account R n opened (answers s es)

abbrev pub tale_of : State → List Event → Tale
tale_of s es = tale untold es (answers s es)

-- what holds after any events es, refused ones and cuts among them; s is a fresh ring
pub record Demand3 (R n : ℕ) (s : State) (es : List Event) : Type 0 where
  -- "at each power cut within the run limit": such a cut is accepted
  pub within : (after s es).control.ring.events < run_limit → (f : Found) × ((event (after s es) CutEvent).answer ≡ Cut f)
  -- .. and at each accepted cut
  pub cut : (f : Found) → (event (after s es) CutEvent).answer ≡ Cut f → AtCut R n (after s es).kept f (account_of R n s es) (tale_of s es) (tells (tale_of s es) CutEvent (Cut f))
  -- no OK, no ITEM, no landed answer and no CLOSED is left out of the tale
  pub heard : Heard (answers s es) (tale_of s es)
  -- .. and none stands in it that was not answered
  pub answered : Answered (answers s es) (tale_of s es)
  -- a put is told by its number: two OK answers never carry the same
  pub one_ok : (x : ℕ) → length ((tale_of s es).confirmed x) ≤ 1
  -- .. and no put lands again under a number that was confirmed, handed out or gone: where the next event lands a put, its number is new. So ITEM and gone tell of this put, of none before it
  pub landed_new : (e : Event) (b : By) (j i : ℕ) → (event (after s es) e).answer ≡ Landed b j i → New n b.number (account_of R n s es) (tale_of s es)
  -- nothing is handed out twice, and nothing from nothing: an ITEM hands out what a put landed under that number
  pub one_item : (x : ℕ) → length ((tale_of s es).handed x) ≤ 1
  pub item_landed : (x i : ℕ) → In i ((tale_of s es).handed x) → In i ((tale_of s es).landings x)
  -- .. which no cut lost: where the next event answers ITEM, the account has the item under its number, queued by the last cut or landed since
  pub item_not_lost : (e : Event) (b : By) (i : ℕ) → (event (after s es) e).answer ≡ Item b i → (account_of R n s es).landed b.number ≡ i
  -- .. and an OK confirms what a put landed under that number
  pub ok_landed : (x i : ℕ) → In i ((tale_of s es).confirmed x) → In i ((tale_of s es).landings x)
  -- .. which no cut lost: where the next event answers OK, the account has the item under its number, written since it landed
  pub ok_durable : (e : Event) (b : By) (i : ℕ) → (event (after s es) e).answer ≡ Ok b i → (account_of R n s es).durable b.number ≡ i

-- demand 3: of every fresh ring, whatever memory it is lent, and of every run from it
abbrev pub Demand3Holds : Type 0
Demand3Holds = (R n S : ℕ) (running kept : List ℕ) → setup_refusal R n S running kept ≡ 0 → (es : List Event) → Demand3 R n (fresh_state R n S running kept) es
