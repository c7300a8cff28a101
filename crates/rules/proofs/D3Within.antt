-- After every run from a fresh ring the state is sound, so a cut within the run limit is accepted.
use Prim.Native.Nat.{ℕ, ◌<◌}
use mathlib.Core.Path.{◌≡◌, ap}
use mathlib.Core.List.{List, [], ◌∷◌}
use native.Mathlib.Omega.{arith}
use native.Mathlib.Decide.{ℕ_discrete}
use borrow.Author.Tests.{eq-eqb, ne_eqb}
use Rattle.rules.specs.declared.Found.{Found}
use Rattle.rules.specs.declared.Event.{Event}
use Rattle.rules.specs.declared.Event.TheVariants.{Cut as CutEvent}
use Rattle.rules.specs.declared.Answer.TheVariants.{Cut}
use Rattle.rules.specs.Numbers.{run_limit}
use Rattle.rules.specs.Cut.{finds}
use Rattle.rules.specs.State.{State}
use Rattle.rules.specs.Refusals.{setup_refusal, unsound, own_refusal, refusal}
use Rattle.rules.specs.Events.{cut, does, event, setup, fresh_state, after}
use Rattle.rules.proofs.Fresh.{setup_sound}
use Rattle.rules.proofs.Events.{refused_changes_nothing, accepted_does, accepted_keeps_sound}

step_sound : (s : State) (e : Event) → unsound s ≡ 0 → unsound (event s e).state ≡ 0
step_sound s e h = elim (ℕ_discrete (refusal s e) 0) [ yes p ↦ accepted_keeps_sound s e p | no p ↦ rw (refused_changes_nothing s e p) h ]

run_sound : (s : State) → unsound s ≡ 0 → (es : List Event) → unsound (after s es) ≡ 0
unfolding after
run_sound s h [] = h
run_sound s h (e ∷ es) = run_sound (event s e).state (step_sound s e h) es

fresh_sound : (R n S : ℕ) (r k : List ℕ) → setup_refusal R n S r k ≡ 0 → unsound (fresh_state R n S r k) ≡ 0
unfolding setup
fresh_sound R n S r k h = rw (eq-eqb (setup_refusal R n S r k) 0 h) at (setup_sound R n S r k h)

cut-within : (s : State) → unsound s ≡ 0 → s.control.ring.events < run_limit → (f : Found) × ((event s CutEvent).answer ≡ Cut f)
unfolding does cut
cut-within s h l = (finds s.control.ring.cells s.control.ring.threads s.kept, ap (λ o. o.answer) (accepted_does s CutEvent unrefused))
  where
    unrefused : refusal s CutEvent ≡ 0
    unrefused = unfold refusal own_refusal in rw (eq-eqb (unsound s) 0 h, ne_eqb s.control.ring.events run_limit (omega arith))

-- a cut within the run limit, after any run from a fresh ring
pub within : (R n S : ℕ) (r k : List ℕ) → setup_refusal R n S r k ≡ 0 → (es : List Event)
    → (after (fresh_state R n S r k) es).control.ring.events < run_limit → (f : Found) × ((event (after (fresh_state R n S r k) es) CutEvent).answer ≡ Cut f)
within R n S r k h es = cut-within (after (fresh_state R n S r k) es) (run_sound (fresh_state R n S r k) (fresh_sound R n S r k h) es)
