-- What an accepted write-back leaves, in document 01's words.
use Prim.Native.Nat.{ℕ, ◌+◌, ◌≤◌, ◌<◌}
use mathlib.Core.Path.{◌≡◌, refl, sym, ap, ◌∙◌}
use mathlib.Core.Logic.{◌≢◌}
use mathlib.Core.Bool.{Bool, true, false, cond}
use mathlib.Core.List.{List}
use native.Mathlib.Omega.{arith}
use lib.ListN.{length}
use borrow.Author.Tests.{eqb-true, eq-eqb, ltb-true}
use Rattle.rules.specs.declared.Line.{Line}
use Rattle.rules.specs.declared.Line.TheVariants.{None, Copy, Tail, Cell as CellLine}
use Rattle.rules.specs.declared.Thread.{Thread}
use Rattle.rules.specs.declared.Event.TheVariants.{Back}
use Rattle.rules.specs.declared.Answer.TheVariants.{Written}
use Rattle.rules.specs.Record.{ring_of, thread_at}
use Rattle.rules.specs.Memory.{cell_at, copy_at, closed_at, set_closed, tail_at, size}
use Rattle.rules.specs.Line.{line_place, line_exists, carried, ends, released, carries_cell, carries_copy, carries_tail}
use Rattle.rules.specs.State.{State, Out}
use Rattle.rules.specs.Refusals.{refusal}
use Rattle.rules.specs.Events.{write_back, does, event}
use Rattle.rules.proofs.Memory.{length-set_closed, cell_same, cell_other, cell_copy, cell_closed, cell_tail, copy_same, copy_other, copy_cell, copy_closed, copy_tail, closed_same, closed_cell, closed_copy, closed_tail, tail_same, tail_cell, tail_copy}
use Rattle.rules.proofs.Sound.{sound_of}
use Rattle.rules.proofs.Accepted.{back_accepted}
use Rattle.rules.proofs.Keep.{released_at}
use Rattle.rules.proofs.Events.{both_pass, accepted_does}

-- every thread awaiting the line awaits nothing
module _ (R n : ℕ) where
  pub wait_ends : (l : Line) (t : Thread) → line_exists R n l ≡ true → t.awaited ≡ l → (released l t).awaited ≡ None
  unfolding released ends carries_cell carries_copy carries_tail line_exists
  wait_ends None t e q = cc
  wait_ends (CellLine j) t e q = rw (q, eq-eqb j j refl)
  wait_ends (Copy i) t e q = rw (q, eq-eqb i i refl)
  wait_ends Tail t e q = rw q

-- every other thread waits on
ends_only : (l w : Line) → ends l w ≡ true → w ≡ l
unfolding ends carries_cell carries_copy carries_tail
ends_only None None e = cc
ends_only None (CellLine j) e = cc
ends_only None (Copy i) e = cc
ends_only None Tail e = cc
ends_only (CellLine k) None e = cc
ends_only (CellLine k) (CellLine j) e = ap CellLine (sym (eqb-true k j e))
ends_only (CellLine k) (Copy i) e = cc
ends_only (CellLine k) Tail e = cc
ends_only (Copy k) None e = cc
ends_only (Copy k) (CellLine j) e = cc
ends_only (Copy k) (Copy i) e = ap Copy (sym (eqb-true k i e))
ends_only (Copy k) Tail e = cc
ends_only Tail None e = cc
ends_only Tail (CellLine j) e = cc
ends_only Tail (Copy i) e = cc
ends_only Tail Tail e = refl

pub waits_on : (l : Line) (t : Thread) → t.awaited ≢ l → released l t ≡ t
unfolding released
waits_on l t d = by (ends l t.awaited) refl
  where
    by : (b : Bool) → ends l t.awaited ≡ b
        → record { place = t.place; item = t.item; number = t.number; looked = t.looked; tries = t.tries; awaited = cond b None t.awaited } ≡ t
    by true e = absurd (d (ends_only l t.awaited e))
    by false e = refl

-- kept shows the written line as running has it, and all else as it was
pub record Carries (R n : ℕ) (l : Line) (running kept kept' : List ℕ) : Type 0 where
  pub cell : (j : ℕ) → j < R → l ≡ CellLine j → cell_at R kept' j ≡ cell_at R running j
  pub other_cell : (j : ℕ) → j < R → l ≢ CellLine j → cell_at R kept' j ≡ cell_at R kept j
  pub copy : (t : ℕ) → t < n → l ≡ Copy t → copy_at R kept' t ≡ copy_at R running t
  pub other_copy : (t : ℕ) → t < n → l ≢ Copy t → copy_at R kept' t ≡ copy_at R kept t
  pub closed : l ≡ Tail → closed_at R n kept' ≡ closed_at R n running
  pub other_closed : l ≢ Tail → closed_at R n kept' ≡ closed_at R n kept
  pub tail : l ≡ Tail → tail_at R n kept' ≡ tail_at R n running
  pub other_tail : l ≢ Tail → tail_at R n kept' ≡ tail_at R n kept

no_line : ◌≡◌ {A = ℕ} 0 1 → ⊥
no_line q = omega arith

pub carries : (R n : ℕ) (l : Line) (running kept : List ℕ) → size R n ≤ length kept → line_exists R n l ≡ true → Carries R n l running kept (carried R n l running kept)
unfolding carried line_exists
carries R n None running kept long e = absurd (no_line (cc))
carries R n (CellLine i) running kept long e =
    let h = ltb-true i R e in
    record {
      cell = λ j l q. let p : i ≡ j = ap line_place q in rw (← p) (cell_same R kept i (cell_at R running i) (omega arith));
      other_cell = λ j l d. cell_other R kept j i (cell_at R running i) (λ p. d (ap CellLine (sym p)));
      copy = λ t l q. absurd (no_line (cc));
      other_copy = λ t l d. copy_cell R kept i h (cell_at R running i) t;
      closed = λ q. absurd (no_line (cc));
      other_closed = λ d. closed_cell R kept i h (cell_at R running i) n;
      tail = λ q. absurd (no_line (cc));
      other_tail = λ d. tail_cell R kept i h (cell_at R running i) n;
    }
carries R n (Copy i) running kept long e =
    let h = ltb-true i n e in
    record {
      cell = λ j l q. absurd (no_line (cc));
      other_cell = λ j l d. cell_copy R kept j l i (copy_at R running i);
      copy = λ t l q. let p : i ≡ t = ap line_place q in rw (← p) (copy_same R kept i (copy_at R running i) (omega arith));
      other_copy = λ t l d. copy_other R kept t i (copy_at R running i) (λ p. d (ap Copy (sym p)));
      closed = λ q. absurd (no_line (cc));
      other_closed = λ d. closed_copy R n kept i (copy_at R running i) h;
      tail = λ q. absurd (no_line (cc));
      other_tail = λ d. tail_copy R n kept i (copy_at R running i) h;
    }
carries R n Tail running kept long e =
    let c = closed_at R n running in
    let k = set_closed R n kept c in
    record {
      cell = λ j l q. absurd (no_line (cc));
      other_cell = λ j l d. cell_tail R k j l n (tail_at R n running) ∙ cell_closed R kept j l n c;
      copy = λ t l q. absurd (no_line (cc));
      other_copy = λ t l d. copy_tail R n k t (tail_at R n running) l ∙ copy_closed R n kept t c l;
      closed = λ q. closed_tail R n k (tail_at R n running) ∙ closed_same R n kept c (omega arith);
      other_closed = λ d. absurd (d refl);
      tail = λ q. tail_same R n k (tail_at R n running) (omega (arith, length-set_closed R n kept c));
      other_tail = λ d. absurd (d refl);
    }

-- a write-back of line l, in a ring of R cells and n threads
pub record AfterBack (R n : ℕ) (l : Line) (s : State) (o : Out) : Type 0 where
  -- it answers written with the line; one event more
  pub answer : o.answer ≡ Written l
  pub ring : o.state.control.ring ≡ ring_of R n s.control.ring.tries (s.control.ring.events + 1) s.control.ring.head
  -- the line is copied from running to kept
  pub running : o.state.running ≡ s.running
  pub kept : Carries R n l s.running s.kept o.state.kept
  -- every thread awaiting the line awaits nothing, every other is as it was
  pub ended : (i : ℕ) → (thread_at s.control i).awaited ≡ l → (thread_at o.state.control i).awaited ≡ None
  pub others : (i : ℕ) → (thread_at s.control i).awaited ≢ l → thread_at o.state.control i ≡ thread_at s.control i

pub back_leaves : (s : State) (l : Line) → refusal s (Back l) ≡ 0 → AfterBack s.control.ring.cells s.control.ring.threads l s (event s (Back l))
unfolding does write_back thread_at
back_leaves s l h =
    let R = s.control.ring.cells in
    let n = s.control.ring.threads in
    let p = both_pass s (Back l) h in
    let k = sound_of s p.0 in
    let e = (back_accepted s.control l k.control p.1).1 in
    rw (accepted_does s (Back l) h)
    (record {
      answer = refl;
      ring = refl;
      running = refl;
      kept = carries R n l s.running s.kept k.long_kept e;
      ended = λ i q. rw (released_at l s.control i) (wait_ends R n l (thread_at s.control i) e q);
      others = λ i d. released_at l s.control i ∙ waits_on l (thread_at s.control i) d;
    })
