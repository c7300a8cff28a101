-- A block's events one by one, as its loops go through them.
use Prim.Native.Nat.{ℕ, suc, ◌+◌, ◌*◌, ◌≤◌, ◌<◌}
use mathlib.Core.Path.{◌≡◌, refl, ap, sym, ◌∙◌}
use mathlib.Core.List.{List, [], ◌∷◌, map}
use mathlib.Core.Bool.{Bool, true, false, cond}
use native.Mathlib.Numerals.{add-one}
use native.Mathlib.Omega.{arith}
use lib.ListN.{length, set}
use lib.Seq.{sets, length-sets}
use Rattle.rules.specs.declared.Line.{Line}
use Rattle.rules.specs.declared.Event.TheVariants.{Back}
use Rattle.rules.specs.declared.Thread.{Thread}
use Rattle.rules.specs.declared.Ring.{Ring}
use Rattle.rules.specs.declared.Control.{Control}
use Rattle.rules.specs.declared.Moved.{Moved}
use Rattle.rules.specs.declared.Answer.{Answer}
use Rattle.rules.specs.declared.Answer.TheVariants.{Written}
use Rattle.rules.specs.Numbers.{run_limit}
use Rattle.rules.specs.Record.{with_thread, counted_at}
use Rattle.rules.specs.Table.{Step, leaves}
use Rattle.rules.specs.Line.{released, carried}
use Rattle.rules.specs.State.{State, state, Out, out, refused}
use Rattle.rules.specs.Refusal.{number_of, answer_of}
use Rattle.rules.specs.declared.Refusal.{Refusal}
use Rattle.rules.specs.declared.Refusal.TheVariants.{Text}
use Rattle.rules.specs.Refusals.{unsound, own_refusal, back_refusal}
use Rattle.rules.specs.Events.{write_back, does, inner, event}
use Rattle.rules.specs.Facts.{Sound}
use Rattle.std.specs.Prelude.{Some, None}
use Rattle.rules.specs.declared.Event.{Event}
use Rattle.rules.specs.Block.{is_kind, event_of, event_in, runs, six, upto, kind_at, place_at, item_at, event_runs, run_to}
use Rattle.rules.proofs.Tests.{cond_cases}
use Rattle.rules.proofs.Sound.{of_sound}
use Rattle.rules.proofs.Keep.{inner_sound}
use Rattle.ring.proofs.Entries.{event_unsound, event_sound, inner_refused, inner_accepted}
use Rattle.rules.proofs.Limit.{counts_below}
use Rattle.rules.proofs.Block.{one_more}
use Rattle.ring.specs.OneThread.{placed, left}

pub runs_sound : (s : State) (k i x : ℕ) → Sound s → Sound (runs s k i x).state
unfolding runs
runs_sound s k i x h =
    cond_cases (λ (o : Out). Sound o.state) (is_kind k)
    (λ q. rw (event_sound s (event_of k i x) (sym (of_sound s h))) (inner_sound s (event_of k i x) h))
    (λ q. h)

-- three numbers that are an event, and three that are none
runs_event : (s : State) (k i x : ℕ) (e : Event) → Some e ≡ event_in (k ∷ i ∷ x ∷ []) → Sound s → inner s e ≡ runs s k i x
unfolding runs event_in
runs_event s k i x e q h = by (is_kind k) q
  where
    by : (b : Bool) → Some e ≡ cond b (Some (event_of k i x)) None → inner s e ≡ cond b (event s (event_of k i x)) (refused s 9)
    by true q = sym (event_sound s e (sym (of_sound s h))) ∙ ap (λ e. event s e) cc
    by false q = absurd cc

runs_text : (s : State) (k i x : ℕ) → None ≡ event_in (k ∷ i ∷ x ∷ []) → out s (answer_of Text) ≡ runs s k i x
unfolding runs event_in
runs_text s k i x q = by (is_kind k) q
  where
    by : (b : Bool) → None ≡ cond b (Some (event_of k i x)) None → out s (answer_of Text) ≡ cond b (event s (event_of k i x)) (refused s 9)
    by true q = absurd cc
    by false q = refl

-- one event more
pub next : (s₀ s : State) (block room₀ room : List ℕ) (j : ℕ) (o : Out) → Sound s
    → o ≡ runs s (kind_at block j) (place_at block j) (item_at block j) → upto s room ≡ run_to s₀ block room₀ j
    → Sound o.state × (upto o.state (sets room (6 * j) (six o.answer)) ≡ run_to s₀ block room₀ (suc j))
unfolding event_runs
next s₀ s block room₀ room j o h p q =
    (rw p (runs_sound s (kind_at block j) (place_at block j) (item_at block j) h), one_more s₀ s block room₀ room j o p q)

-- of a state that is not sound every event is refused, and of any state what is no event
pub event_refused : (s : State) (r : Refusal) (k i x : ℕ) → is_kind k ≡ true → number_of r ≡ unsound s → out s (answer_of r) ≡ runs s k i x
unfolding runs
event_refused s r k i x h q = rw (h, event_unsound s (event_of k i x) r q)

pub text_refused : (s : State) (k i x : ℕ) → is_kind k ≡ false → out s (answer_of Text) ≡ runs s k i x
unfolding runs
text_refused s k i x h = rw h

-- event j's three numbers
abbrev pub three : List ℕ → ℕ → List ℕ
three block j = kind_at block j ∷ place_at block j ∷ item_at block j ∷ []

-- the loop over the events of a sound state, before event j
pub record At (s : State) (block room₀ : List ℕ) (n : ℕ) (running kept room : List ℕ) (g : Ring) (threads : List Thread) (j : ℕ) : Type 0 where
  pub inside : j ≤ n
  pub same_running : length running ≡ length s.running
  pub same_kept : length kept ≡ length s.kept
  pub same_room : length room ≡ length room₀
  pub sound : Sound (state (record { ring = g; thread = threads }) running kept)
  pub is : upto (state (record { ring = g; thread = threads }) running kept) room ≡ run_to s block room₀ j

module _ {s : State} {block room₀ : List ℕ} {n : ℕ} where
  -- where the ways of the match meet, with the answer in the room
  pub at_by : {running running' kept kept' now : List ℕ} {g g' : Ring} {threads threads' : List Thread} {x y : Answer} {j : ℕ} (room : List ℕ) (i : ℕ)
      → running ≡ running' → kept ≡ kept' → g ≡ g' → threads ≡ threads' → x ≡ y → now ≡ sets room i (six x)
      → (now ≡ sets room i (six y) → At s block room₀ n running' kept' now g' threads' j) → At s block room₀ n running kept now g threads j
  at_by room i p q e t u r h = rw (p, q, e, t) (h (rw u at r))

  module _ {running kept room : List ℕ} {g : Ring} {threads : List Thread} {j : ℕ} (a : At s block room₀ n running kept room g threads j) (l : j < n) where
    abbrev before : State
    before = state (record { ring = g; thread = threads }) running kept

    -- what event j leaves, and its answer in the room
    pub whole_at : (running' kept' room' : List ℕ) (d : Control) (x : Answer)
        → out (state d running' kept') x ≡ runs before (kind_at block j) (place_at block j) (item_at block j)
        → length running' ≡ length running → length kept' ≡ length kept → room' ≡ sets room (6 * j) (six x)
        → At s block room₀ n running' kept' room' d.ring d.thread (j + 1)
    whole_at running' kept' room' d x e p q r =
        let h = next s before block room₀ room j (out (state d running' kept') x) a.sound e a.is in
        record {
          inside = omega arith;
          same_running = p ∙ a.same_running;
          same_kept = q ∙ a.same_kept;
          same_room = ap (λ m. length m) r ∙ (length-sets room (6 * j) (six x) ∙ a.same_room);
          sound = h.0;
          is = rw (r, add-one j) h.1;
        }

    -- an event, and one that is none
    pub event_at : {e : Event} (running' kept' room' : List ℕ) (d : Control) (x : Answer)
        → Some e ≡ event_in (three block j) → out (state d running' kept') x ≡ inner before e
        → length running' ≡ length running → length kept' ≡ length kept → room' ≡ sets room (6 * j) (six x)
        → At s block room₀ n running' kept' room' d.ring d.thread (j + 1)
    event_at {e} running' kept' room' d x t q = whole_at running' kept' room' d x (q ∙ runs_event before (kind_at block j) (place_at block j) (item_at block j) e t a.sound)

    pub text_at : (room' : List ℕ) → None ≡ event_in (three block j) → room' ≡ sets room (6 * j) (six (answer_of Text)) → At s block room₀ n running kept room' g threads (j + 1)
    text_at room' t = whole_at running kept room' before.control (answer_of Text) (runs_text before (kind_at block j) (place_at block j) (item_at block j) t) refl refl

    -- an event of one thread
    pub moved_at : {e : Event} {y : Step} (running' room' : List ℕ) (i : ℕ) (m : Moved) → Some e ≡ event_in (three block j)
        → leaves m running' ≡ y → left before i y ≡ inner before e
        → length running' ≡ length running → room' ≡ sets room (6 * j) (six m.answer)
        → At s block room₀ n running' kept room' m.ring (set threads i m.thread) (j + 1)
    unfolding with_thread
    moved_at {e} {y} running' room' i m t q o p r =
        event_at running' kept room' (placed before.control i m) m.answer t (ap (λ (y : Step). left before i y) q ∙ o) p refl r

    -- a write-back that is refused, and one that is not
    pub kept_at : {line : Line} (room' : List ℕ) (r : Refusal) → Some (Back line) ≡ event_in (three block j) → number_of r ≡ back_refusal g line
        → room' ≡ sets room (6 * j) (six (answer_of r)) → At s block room₀ n running kept room' g threads (j + 1)
    unfolding own_refusal
    kept_at {line} room' r t q = event_at running kept room' before.control (answer_of r) t (sym (inner_refused before (Back line) r q)) refl refl

    pub written_at : {line : Line} (kept' room' : List ℕ) (g' : Ring) (threads' : List Thread) → Some (Back line) ≡ event_in (three block j)
        → 0 ≡ back_refusal g line → g.events < run_limit
        → (threads' ≡ map (released line) threads) × (kept' ≡ carried g.cells g.threads line running kept) → g' ≡ counted_at g
        → length kept' ≡ length kept → room' ≡ sets room (6 * j) (six (Written line))
        → At s block room₀ n running kept' room' g' threads' (j + 1)
    unfolding own_refusal does write_back
    written_at {line} kept' room' g' threads' t q b e d =
        event_at running kept' room' (record { ring = g'; thread = threads' }) (Written line) t
        (rw (e.0, e.1, d ∙ counts_below g b) (sym (inner_accepted before (Back line) q))) refl
