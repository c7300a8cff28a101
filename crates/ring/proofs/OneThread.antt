-- An event of one thread leaves what document 01's event leaves.
use Prim.Native.Nat.{ℕ, zero, suc, ◌≤◌, ◌<◌}
use mathlib.Core.Path.{◌≡◌, refl, ap}
use mathlib.Core.Logic.{◌≢◌}
use native.Mathlib.Omega.{arith}
use borrow.Author.Tests.{ltb-true, ltb-false}
use mathlib.Core.List.{List, [], ◌∷◌}
use mathlib.Core.Bool.{Bool, true, false, cond}
use lib.Dec.{eqb, ltb}
use lib.ListN.{length, set, get_or}
use Rattle.std.proofs.lemmas.List.{get_or_past}
use Rattle.rules.specs.declared.Thread.{Thread}
use Rattle.rules.specs.declared.Control.{Control}
use Rattle.rules.specs.declared.Answer.TheVariants.{Refused}
use Rattle.rules.specs.declared.Event.TheVariants.{Put, Take, Go}
use Rattle.rules.specs.Numbers.{max_threads, run_limit}
use Rattle.rules.specs.Record.{idle, thread_at, with_thread}
use Rattle.rules.specs.Facts.{Ready, Sound}
use Rattle.rules.proofs.Keep.{busy_at}
use Rattle.rules.specs.State.{State, state, out, refused, accept}
use Rattle.rules.specs.Refusals.{own_refusal, put_refusal, take_refusal, go_refusal}
use Rattle.rules.specs.Table.{Step, leaves}
use Rattle.rules.specs.Events.{begin_put, begin_take, step_thread, does, inner}
use Rattle.ring.specs.OneThread.{moved, unless, put_of, take_of, go_of, left}

-- a thread in its own place
set_own : {A : Type 0} (l : List A) (i : ℕ) (d : A) → set l i (get_or l i d) ≡ l
set_own [] i d = refl
set_own (x ∷ l) zero d = refl
set_own (x ∷ l) (suc i) d = ap (λ r. x ∷ r) (set_own l i d)

-- a refusal leaves all as it was
unmoved : (s : State) (i k : ℕ) → left s i (leaves (moved s.control.ring (thread_at s.control i) (Refused k)) s.running) ≡ refused s k
unfolding with_thread thread_at
unmoved s i k = ap (λ l. out (state (record { ring = s.control.ring; thread = l }) s.running s.kept) (Refused k)) (set_own s.control.thread i _)

by_refusal : (s : State) (i k : ℕ) (r : Step) → left s i (unless k r s.control.ring (thread_at s.control i) s.running) ≡ accept k (left s i r) s
unfolding unless accept
by_refusal s i k r = by (eqb k 0)
  where
    by : (b : Bool) → left s i (cond b r (leaves (moved s.control.ring (thread_at s.control i) (Refused k)) s.running)) ≡ cond b (left s i r) (refused s k)
    by true = refl
    by false = unmoved s i k

module _ (s : State) (i : ℕ) where
  abbrev own : Thread
  own = thread_at s.control i

  pub put_left : (x : ℕ) → left s i (put_of s.control.ring i own x s.running) ≡ inner s (Put i x)
  unfolding put_of inner own_refusal does begin_put with_thread
  put_left x = by_refusal s i (put_refusal s.control.ring i own x) _

  pub take_left : left s i (take_of s.control.ring i own s.running) ≡ inner s (Take i)
  unfolding take_of inner own_refusal does begin_take with_thread
  take_left = by_refusal s i (take_refusal s.control.ring i own) _

  pub go_left : left s i (go_of s.control.ring i own s.running) ≡ inner s (Go i)
  unfolding go_of inner own_refusal does step_thread with_thread
  go_left = by_refusal s i (go_refusal s.control.ring i own) _

-- what a thread's event needs of a sound state
pub needs_of : (s : State) (i : ℕ) → Sound s → i < max_threads
    → (s.control.ring.events ≤ run_limit) × ((thread_at s.control i).place ≢ 0 → Ready s.control.ring i (thread_at s.control i) s.running)
needs_of s i h l = (h.control.ring.events, λ z. record { ring = h.control.ring; thread = busy_at (h.control.threads i l) z; long = h.long_running; image = h.running })

-- a thread past the last is idle
past-thread : (c : Control) (i : ℕ) → length c.thread ≤ i → thread_at c i ≡ idle
unfolding thread_at
past-thread c i h = get_or_past c.thread i idle h

pub any_needs_of : (s : State) (i : ℕ) → Sound s → length s.control.thread ≤ max_threads
    → (s.control.ring.events ≤ run_limit) × ((thread_at s.control i).place ≢ 0 → Ready s.control.ring i (thread_at s.control i) s.running)
any_needs_of s i h l = (h.control.ring.events, λ z. (needs_of s i h (near (ltb i max_threads) refl z)).1 z)
  where
    idle_there : max_threads ≤ i → thread_at s.control i ≡ idle
    idle_there g = past-thread s.control i (omega arith)

    near : (b : Bool) → ltb i max_threads ≡ b → (thread_at s.control i).place ≢ 0 → i < max_threads
    near true q z = ltb-true i max_threads q
    near false q z = absurd (z (ap (λ (t : Thread). t.place) (idle_there (ltb-false i max_threads q))))
