-- Accepted and refused events: a refused one changes nothing; an accepted one keeps all sound and adds exactly 1 to the event count.
use Prim.Native.Nat.{ℕ, ◌+◌, ◌≤◌}
use mathlib.Core.Path.{◌≡◌, refl, ap}
use mathlib.Core.Logic.{◌≢◌}
use mathlib.Core.Bool.{Bool, true, false, cond}
use native.Mathlib.Omega.{arith}
use lib.Dec.{eqb}
use borrow.Author.Tests.{eqb-true, eqb-false, eq-eqb, ne_eqb}
use Rattle.rules.specs.declared.Event.{Event}
use Rattle.rules.specs.declared.Event.TheVariants.{Put, Take, Go, Back, Cut as CutEvent}
use Rattle.rules.specs.Numbers.{run_limit}
use Rattle.rules.specs.Record.{thread_at, with_thread}
use Rattle.rules.specs.State.{State, refused, accept}
use Rattle.rules.specs.Refusals.{unsound, own_refusal, refusal}
use Rattle.rules.specs.Events.{begin_put, begin_take, step_thread, write_back, cut, does, inner, event}
use Rattle.rules.specs.Facts.{Sound}
use Rattle.rules.proofs.Sound.{sound_of, of_sound}
use Rattle.rules.proofs.Accepted.{go_accepted}
use Rattle.rules.proofs.Rows.{keep_row}
use Rattle.rules.proofs.Keep.{busy_at, does_sound}

-- no refusal: the state is sound, and no test of the event's own holds
pub both_pass : (s : State) (e : Event) → refusal s e ≡ 0 → (unsound s ≡ 0) × (own_refusal s.control e ≡ 0)
unfolding refusal
both_pass s e h = by (eqb (unsound s) 0) refl h
  where
    by : (b : Bool) → eqb (unsound s) 0 ≡ b → cond b (own_refusal s.control e) (unsound s) ≡ 0 → (unsound s ≡ 0) × (own_refusal s.control e ≡ 0)
    by true q h = (eqb-true _ _ q, h)
    by false q h = absurd (eqb-false _ _ q h)

pub refused_changes_nothing : (s : State) (e : Event) → refusal s e ≢ 0 → event s e ≡ refused s (refusal s e)
unfolding refusal event inner accept
refused_changes_nothing s e h = by (eqb (unsound s) 0) refl h
  where
    own : (b : Bool) → eqb (own_refusal s.control e) 0 ≡ b → own_refusal s.control e ≢ 0 → cond b (does s e) (refused s (own_refusal s.control e)) ≡ refused s (own_refusal s.control e)
    own true q z = absurd (z (eqb-true _ _ q))
    own false q z = refl

    by : (b : Bool) → eqb (unsound s) 0 ≡ b → cond b (own_refusal s.control e) (unsound s) ≢ 0
        → cond b (cond (eqb (own_refusal s.control e) 0) (does s e) (refused s (own_refusal s.control e))) (refused s (unsound s)) ≡ refused s (cond b (own_refusal s.control e) (unsound s))
    by true q z = own (eqb (own_refusal s.control e) 0) refl z
    by false q z = refl

pub accepted_does : (s : State) (e : Event) → refusal s e ≡ 0 → event s e ≡ does s e
unfolding event inner accept
accepted_does s e h = let p = both_pass s e h in rw (eq-eqb (unsound s) 0 p.0, eq-eqb (own_refusal s.control e) 0 p.1)

pub accepted_keeps_sound : (s : State) (e : Event) → refusal s e ≡ 0 → unsound (event s e).state ≡ 0
accepted_keeps_sound s e h =
    let p = both_pass s e h in
    rw (accepted_does s e h) (of_sound (does s e).state (does_sound s e (sound_of s p.0) p.1))

-- the event count of an accepted event
counted_once : (s : State) (e : Event) → Sound s → own_refusal s.control e ≡ 0 → (does s e).state.control.ring.events ≡ s.control.ring.events + 1
unfolding does begin_put begin_take step_thread write_back cut with_thread
counted_once s (Put i x) h q = refl
counted_once s (Take i) h q = refl
counted_once s (Go i) h q =
    let a = go_accepted s.control i h.control q in
    let b = busy_at (h.control.threads i (omega (arith, h.control.ring.range.most_threads))) (eqb-false _ _ a.2) in
    ap (λ n. n + 1) (keep_row s.control.ring i (thread_at s.control i) s.running h.control.ring b h.running h.long_running).events
counted_once s (Back l) h q = refl
counted_once s CutEvent h q = refl

pub accepted_adds_one : (s : State) (e : Event) → refusal s e ≡ 0 → (event s e).state.control.ring.events ≡ s.control.ring.events + 1
accepted_adds_one s e h = let p = both_pass s e h in rw (accepted_does s e h) (counted_once s e (sound_of s p.0) p.1)

pub never_past_the_limit : (s : State) (e : Event) → refusal s e ≡ 0 → (event s e).state.control.ring.events ≤ run_limit
never_past_the_limit s e h = (sound_of (event s e).state (accepted_keeps_sound s e h)).control.ring.events

-- an event of a sound state, by the refusal that its own tests give
pub inner-refused : (s : State) (e : Event) (k : ℕ) → k ≡ own_refusal s.control e → k ≢ 0 → refused s k ≡ inner s e
unfolding inner accept
inner-refused s e k q z = rw (← q, ne_eqb k 0 z)

pub inner-does : (s : State) (e : Event) (k : ℕ) → k ≡ own_refusal s.control e → k ≡ 0 → does s e ≡ inner s e
unfolding inner accept
inner-does s e k q z = rw (← q, eq-eqb k 0 z)

-- an event of any state, by the refusal that the tests of soundness give
pub event-refused : (s : State) (e : Event) (k : ℕ) → k ≡ unsound s → k ≢ 0 → refused s k ≡ event s e
unfolding event accept
event-refused s e k q z = rw (← q, ne_eqb k 0 z)

pub event-inner : (s : State) (e : Event) (k : ℕ) → k ≡ unsound s → k ≡ 0 → inner s e ≡ event s e
unfolding event accept
event-inner s e k q z = rw (← q, eq-eqb k 0 z)
