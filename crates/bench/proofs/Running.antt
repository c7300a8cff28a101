-- Laws of a line run over the ring.
use Prim.Native.Nat.{ℕ, ◌≤◌}
use mathlib.Core.Path.{◌≡◌, refl, ap, ◌∙◌}
use mathlib.Core.List.{List, [], ◌++◌}
use mathlib.Core.Bool.{Bool, true, false, cond, ◌&&◌, not}
use native.Mathlib.Omega.{arith}
use lib.ListN.{length, take, drop, length-append, length-drop}
use lib.Seq.{take_at}
use lib.Dec.{eqb, leb}
use borrow.Author.Tests.{eqb-true, eq-eqb, ne_eqb, leb-true, le-ltb, not-false}
use Rattle.rules.specs.declared.Control.{Control}
use Rattle.rules.specs.declared.Event.{Event}
use Rattle.rules.specs.declared.Answer.{Answer}
use Rattle.rules.specs.declared.Answer.TheVariants.{Refused}
use Rattle.rules.specs.Numbers.{in_range, run_limit}
use Rattle.rules.specs.Sound.{sound_record, sound_ring, sound_image}
use Rattle.rules.specs.Record.{zero_control}
use Rattle.rules.specs.State.{State, state, Out, out, accept}
use Rattle.rules.specs.Refusals.{short, unsound, kept_refusal, listing_refusal, setup_refusal}
use Rattle.rules.specs.Listing.{items, in_front, listed_count, listed_room}
use Rattle.rules.specs.Events.{inner, event, setup}
use Rattle.rules.proofs.Tests.{both, unrefused}
use Rattle.std.specs.Prelude.{Some}
use Rattle.bench.specs.declared.read.Command.TheVariants.{Ring}
use Rattle.bench.specs.declared.Phase.{Phase}
use Rattle.bench.specs.declared.Phase.TheVariants.{Running, Ended}
use Rattle.bench.specs.Print.{said_of, said_text}
use Rattle.bench.specs.Bench.{run, run_with, bench_of, items_of, Lists, event_says, refused_text, first_line, first_says}

-- ---- a sound state's kept image can be listed
sound_kept : (s : State) → unsound s ≡ 0
    → (let g = s.control.ring in kept_refusal g.cells g.threads g.tries g.events s.kept ≡ 0)
unfolding unsound kept_refusal sound_record sound_ring
sound_kept s e =
    let g = s.control.ring in
    let a = unrefused (not (sound_record s.control)) 8 _ (omega arith) e in
    let b = unrefused (short g.cells g.threads s.running) 10 _ (omega arith) a.1 in
    let c = unrefused (short g.cells g.threads s.kept) 10 _ (omega arith) b.1 in
    let d = unrefused (not (sound_image g.cells g.threads g.events s.running)) 12 _ (omega arith) c.1 in
    let f = unrefused (not (sound_image g.cells g.threads g.events s.kept)) 12 0 (omega arith) d.1 in
    let r = (both (sound_ring g) _ (not-false (sound_record s.control) a.0)).0 in
    let i = both (in_range g.cells g.threads g.tries) _ r in
    let j = both (leb g.events run_limit) _ i.1 in
    rw (i.0, j.0, c.0, f.0)

-- ---- an event's line
text_by : (t : Bool) (l n : ℕ) (s : State) (e : Event) (room : List ℕ) (x : Out) (k : ℕ) → (t ≡ true → take n room ≡ items_of s.control s.kept e)
    → (let o = cond t x (record { state = s; answer = Refused k }) in
    said_text o.state.control.ring.events l (take n room) (said_of o.answer)
    ≡ said_text o.state.control.ring.events l (items_of s.control s.kept e) (said_of o.answer))
unfolding said_text
text_by true l n s e room x k h = rw (h refl)
text_by false l n s e room x k h = refl

event-text : (l n : ℕ) (s : State) (e : Event) (room : List ℕ) → Lists s.control s.kept e room n
    → said_text (event s e).state.control.ring.events l (take n room) (said_of (event s e).answer) ≡ event_says l s e
unfolding event_says event accept
event-text l n s e room h = text_by (eqb (unsound s) 0) l n s e room (inner s e) (unsound s) (λ z. h (sound_kept s (eqb-true (unsound s) 0 z)))

module _ (l : ℕ) (s : State) (e : Event) (c : Control) (r k : List ℕ) (a : Answer) (f : out (state c r k) a ≡ event s e) where
  pub event_ran : (p : Phase) → run_with (bench_of p l c) r k ≡ run p l (event s e).state
  event_ran p = ap (λ (x : Out). run p l x.state) f

  pub event_said : (n : ℕ) (room : List ℕ) → Lists s.control s.kept e room n
      → said_text c.ring.events l (take n room) (said_of a) ≡ event_says l s e
  event_said n room h = ap (λ (x : Out). said_text x.state.control.ring.events l (take n room) (said_of x.answer)) f ∙ event-text l n s e room h

-- ---- a first line that sets the ring up, or is refused
module _ (l R n S x : ℕ) (running kept : List ℕ) (c : Control) (r k : List ℕ)
    (e : x ≡ setup_refusal R n S running kept) (f : state c r k ≡ setup R n S running kept) where
  abbrev blank : State
  blank = state zero_control running kept

  pub ring_ran : x ≡ 0 → run_with (bench_of Running l c) r k ≡ first_line l blank (Some (Ring R n S))
  unfolding first_line
  ring_ran z = rw (f, ← e, eq-eqb x 0 z)

  pub ring_silent : x ≡ 0 → first_says l blank (Some (Ring R n S)) ≡ []
  unfolding first_says
  ring_silent z = rw (← e, eq-eqb x 0 z)

  pub ring_refused : (x ≡ 0 → ⊥) → run_with (bench_of Ended l c) r k ≡ first_line l blank (Some (Ring R n S))
  unfolding first_line
  ring_refused z = rw (f, ← e, ne_eqb x 0 z)

  pub ring_says : (x ≡ 0 → ⊥) → first_says l blank (Some (Ring R n S)) ≡ refused_text l x
  unfolding first_says
  ring_says z = rw (← e, ne_eqb x 0 z)

-- ---- the listing's room of 64 numbers holds the items, and no more
module _ (R n S e : ℕ) (kept room left : List ℕ) (count : ℕ) (size : length room ≡ 64) (same : length left ≡ length room)
    (f : count ≡ listed_count R n S e kept room) (g : left ≡ listed_room R n S e kept room) where
  few_by : (t : Bool) → count ≡ cond t (length (items R n kept)) 0 → left ≡ cond t (in_front (items R n kept) room) room → count ≤ 64
  unfolding in_front
  few_by true h k =
      let xs = items R n kept in
      let z = ap length k in
      omega (arith, length-append xs (drop (length xs) room), length-drop (length xs) room)
  few_by false h k = omega arith

  pub few : count ≤ 64
  unfolding listed_count listed_room
  few = few_by (eqb (listing_refusal R n S e kept room) 0) f g

  pub listed : kept_refusal R n S e kept ≡ 0 → take count left ≡ items R n kept
  unfolding listed_count listed_room in_front listing_refusal kept_refusal in_range
  listed z =
      let a = unrefused (not (in_range R n S && leb e run_limit)) 8 _ (omega arith) z in
      let b = unrefused (short R n kept) 10 _ (omega arith) a.1 in
      let c = unrefused (not (sound_image R n e kept)) 12 0 (omega arith) b.1 in
      let i = both (in_range R n S) (leb e run_limit) (not-false _ a.0) in
      let m = (both (leb 1 R) _ i.0).1 in
      let w = leb-true R 64 (both (leb R 64) _ m).0 in
      let r : listing_refusal R n S e kept room ≡ 0 = rw (a.0, b.0, c.0, le-ltb (length room) R (omega arith)) in
      let k : count ≡ length (items R n kept) = f ∙ rw r in
      let l : left ≡ items R n kept ++ drop (length (items R n kept)) room = g ∙ rw r in
      rw (k, l) (take_at (items R n kept) _ (length (items R n kept)) refl)
