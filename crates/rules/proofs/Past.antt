-- Nothing past the 4R + n + 2 numbers of an image is touched, and no image gets longer or shorter.
use Prim.Native.Nat.{ℕ, ◌+◌, ◌*◌, ◌≤◌, ◌<◌}
use mathlib.Core.Path.{◌≡◌, refl, ◌∙◌}
use mathlib.Core.Bool.{true, cond}
use mathlib.Core.List.{List}
use native.Mathlib.Omega.{arith}
use native.Mathlib.Nat.{mod-lt}
use lib.Dec.{eqb, ltb}
use lib.ListN.{length, get_or}
use lib.Seq.{get_or-set_other}
use borrow.Author.Tests.{ltb-true, eqb-true}
use Rattle.rules.specs.declared.Line.{Line}
use Rattle.rules.specs.declared.Line.TheVariants.{None, Copy, Tail, Cell as CellLine}
use Rattle.rules.specs.declared.Cell.{Cell}
use Rattle.rules.specs.declared.Thread.{Thread}
use Rattle.rules.specs.declared.Ring.{Ring}
use Rattle.rules.specs.declared.Answer.{Answer}
use Rattle.rules.specs.declared.Event.{Event}
use Rattle.rules.specs.declared.Event.TheVariants.{Put, Take, Go, Back, Cut as CutEvent}
use Rattle.rules.specs.Record.{cell, thread_at}
use Rattle.rules.specs.Memory.{set_cell, set_copy, closed_at, set_closed, set_tail, size, cells_to, copies_to, over_to, fresh_image}
use Rattle.rules.specs.Line.{is_none, line_exists, carried}
use Rattle.rules.specs.Places.{P1, P2, P3, P4, P5, P6, P7, P8, P9, T1, T2, T3, T4, T5, T6, T7, T8, T9}
use Rattle.rules.specs.Table.{Step, spot, matches, row_wait, row_p1, row_p2, row_p3, row_p4, row_p5, row_p6, row_p7, row_p8, row_p9, row_p10, row_t1, row_t2, row_t3, row_t4, row_t5, row_t6, row_t7, row_t8, row_t9, row_t10, put_row, take_row, row}
use Rattle.rules.specs.Cut.{recovered}
use Rattle.rules.specs.State.{State}
use Rattle.rules.specs.Refusals.{setup_refusal, kept_refusal, own_refusal, refusal}
use Rattle.rules.specs.Events.{begin_put, begin_take, step_thread, write_back, cut, does, event, fresh_state, setup}
use Rattle.rules.specs.Listing.{host_kept}
use Rattle.rules.specs.Facts.{Sound}
use Rattle.rules.proofs.Tests.{cond_cases}
use Rattle.rules.proofs.Memory.{length-set_cell, length-set_copy, length-set_closed, length-set_tail, length-cells_to, length-copies_to, length-over_to, number-cell, number_cells, number_copies, over-past}
use Rattle.rules.proofs.Sound.{sound_of}
use Rattle.rules.proofs.Accepted.{go_accepted, back_accepted}
use Rattle.rules.proofs.Recovered.{length_recovered, number_recovered}
use Rattle.rules.proofs.Events.{both_pass, accepted_does}
use Rattle.rules.proofs.Kept.{kept_of}

-- an image that was m: as long as it was, and past its 4R + n + 2 numbers as it was
pub record Stays (R n : ℕ) (m m' : List ℕ) : Type 0 where
  pub long : length m' ≡ length m
  pub past : (i : ℕ) → size R n ≤ i → get_or m' i 0 ≡ get_or m i 0

module _ (R n : ℕ) where
  pub stays : (m : List ℕ) → Stays R n m m
  stays m = record { long = refl; past = λ i l. refl }

  pub then_stays : (a b d : List ℕ) → Stays R n a b → Stays R n b d → Stays R n a d
  then_stays a b d p q = record { long = q.long ∙ p.long; past = λ i l. q.past i l ∙ p.past i l }

  pub past_cell : (m : List ℕ) (j : ℕ) (c : Cell) → j < R → Stays R n m (set_cell R m j c)
  past_cell m j c h = record { long = length-set_cell R m j c; past = λ i l. number-cell R m j c i h (omega arith) }

  pub past_copy : (m : List ℕ) (t v : ℕ) → t < n → Stays R n m (set_copy R m t v)
  unfolding set_copy
  past_copy m t v h = record { long = length-set_copy R m t v; past = λ i l. get_or-set_other m (4 * R + t) i v 0 (omega arith) }

  pub past_closed : (m : List ℕ) (v : ℕ) → Stays R n m (set_closed R n m v)
  unfolding set_closed
  past_closed m v = record { long = length-set_closed R n m v; past = λ i l. get_or-set_other m (4 * R + n) i v 0 (omega arith) }

  pub past_tail : (m : List ℕ) (v : ℕ) → Stays R n m (set_tail R n m v)
  unfolding set_tail
  past_tail m v = record { long = length-set_tail R n m v; past = λ i l. get_or-set_other m (4 * R + n + 1) i v 0 (omega arith) }

  pub past_fresh : (m : List ℕ) → Stays R n m (fresh_image R n m)
  unfolding fresh_image
  past_fresh m =
      let f : ℕ → Cell → Cell = λ j c. cell 1 j 0 0 in
      let a = cells_to R f m R in
      let b = copies_to R 0 a n in
      let p : Stays R n m a = record { long = length-cells_to R f m R; past = λ i l. number_cells R f m R i (omega arith) (omega arith) } in
      let q : Stays R n a b = record { long = length-copies_to R 0 a n; past = λ i l. number_copies R 0 a n i (omega arith) } in
      then_stays m b _ (then_stays m a b p q) (then_stays b (set_closed R n b 0) _ (past_closed b 0) (past_tail (set_closed R n b 0) 0))

  pub past_recovered : (m : List ℕ) → size R n ≤ length m → Stays R n m (recovered R n m)
  past_recovered m h = record { long = length_recovered R n m h; past = number_recovered R n m h }

  pub past_over : (k m : List ℕ) → Stays R n m (over_to k m (size R n))
  past_over k m = record { long = length-over_to k m (size R n); past = over-past k m (size R n) }

  pub past_carried : (l : Line) (running kept : List ℕ) → line_exists R n l ≡ true → Stays R n kept (carried R n l running kept)
  unfolding carried line_exists
  past_carried None running kept e = stays kept
  past_carried (CellLine j) running kept e = past_cell kept j _ (ltb-true _ _ e)
  past_carried (Copy t) running kept e = past_copy kept t _ (ltb-true _ _ e)
  past_carried Tail running kept e = then_stays kept (set_closed R n kept (closed_at R n running)) _ (past_closed kept _) (past_tail _ _)

-- a step's row touches nothing past the running image
module _ (g : Ring) (i : ℕ) (t : Thread) (m : List ℕ) (some : 1 ≤ g.cells) (here : i < g.threads) where
  abbrev Within : Step → Type 0
  Within s = Stays g.cells g.threads m s.running

  within_wait : (a : Answer) → Within (row_wait g i t m a)
  unfolding row_wait
  within_wait a = cond_cases Within (is_none t.awaited) (λ q. stays _ _ m) (λ q. stays _ _ m)

  within_cell : (c : Cell) → Stays g.cells g.threads m (set_cell g.cells m (spot g t) c)
  within_cell c = past_cell _ _ m (spot g t) c (mod-lt t.number some)

  pub within_put : Within (put_row g i t m)
  unfolding put_row row_p1 row_p2 row_p3 row_p4 row_p5 row_p6 row_p7 row_p8 row_p9 row_p10
  within_put =
      let at : (p : ℕ) (x y : Step) → Within x → Within y → Within (cond (eqb t.place p) x y) = λ p x y a b. cond_cases Within (eqb t.place p) (λ e. a) (λ e. b) in
      at P1 _ _ (past_tail _ _ m _)
      (at P2 _ _ (stays _ _ m)
      (at P3 _ _ (stays _ _ m)
      (at P4 _ _ (cond_cases Within (matches g t m) (λ e. within_cell _) (λ e. stays _ _ m))
      (at P5 _ _ (stays _ _ m)
      (at P6 _ _ (within_wait _)
      (at P7 _ _ (stays _ _ m)
      (at P8 _ _ (stays _ _ m)
      (at P9 _ _ (past_closed _ _ m 1)
      (within_wait _)))))))))

  pub within_take : Within (take_row g i t m)
  unfolding take_row row_t1 row_t2 row_t3 row_t4 row_t5 row_t6 row_t7 row_t8 row_t9 row_t10
  within_take =
      let at : (p : ℕ) (x y : Step) → Within x → Within y → Within (cond (eqb t.place p) x y) = λ p x y a b. cond_cases Within (eqb t.place p) (λ e. a) (λ e. b) in
      at T1 _ _ (stays _ _ m)
      (at T2 _ _ (stays _ _ m)
      (at T3 _ _ (cond_cases Within (matches g t m) (λ e. within_cell _) (λ e. stays _ _ m))
      (at T4 _ _ (cond_cases Within (matches g t m) (λ e. within_cell _) (λ e. stays _ _ m))
      (at T5 _ _ (cond_cases Within (matches g t m) (λ e. within_cell _) (λ e. stays _ _ m))
      (at T6 _ _ (stays _ _ m)
      (at T7 _ _ (past_tail _ _ m _)
      (at T8 _ _ (past_copy _ _ m i _ here)
      (at T9 _ _ (stays _ _ m)
      (within_wait _)))))))))

  pub within_row : Within (row g i t m)
  unfolding row
  within_row = cond_cases Within (ltb t.place T1) (λ e. within_put) (λ e. within_take)

-- both images of a state
pub record BothStay (s s' : State) : Type 0 where
  pub running : Stays s.control.ring.cells s.control.ring.threads s.running s'.running
  pub kept : Stays s.control.ring.cells s.control.ring.threads s.kept s'.kept

does_stays : (s : State) (e : Event) → Sound s → own_refusal s.control e ≡ 0 → BothStay s (does s e).state
unfolding does begin_put begin_take step_thread write_back cut
does_stays s (Put i x) h q = record { running = stays _ _ _; kept = stays _ _ _ }
does_stays s (Take i) h q = record { running = stays _ _ _; kept = stays _ _ _ }
does_stays s (Go i) h q = record {
  running = within_row s.control.ring i (thread_at s.control i) s.running h.control.ring.range.some_cells (go_accepted s.control i h.control q).1;
  kept = stays _ _ _;
}
does_stays s (Back l) h q = record { running = stays _ _ _; kept = past_carried _ _ l _ _ (back_accepted s.control l h.control q).1 }
does_stays s CutEvent h q = record {
  running = past_over _ _ (recovered s.control.ring.cells s.control.ring.threads s.kept) s.running;
  kept = past_recovered _ _ s.kept h.long_kept;
}

-- an accepted event touches nothing past 4R + n + 2, in either image
pub accepted_stays : (s : State) (e : Event) → refusal s e ≡ 0 → BothStay s (event s e).state
accepted_stays s e h = let p = both_pass s e h in rw (accepted_does s e h) (does_stays s e (sound_of s p.0) p.1)

-- setup too, and host recovery
pub setup_stays : (R n S : ℕ) (running kept : List ℕ) → Stays R n running (setup R n S running kept).running × Stays R n kept (setup R n S running kept).kept
unfolding setup fresh_state
setup_stays R n S running kept =
    cond_cases (λ (s : State). Stays R n running s.running × Stays R n kept s.kept) (eqb (setup_refusal R n S running kept) 0)
    (λ q. (past_fresh R n running, past_fresh R n kept)) (λ q. (stays R n running, stays R n kept))

pub host_stays : (R n S e : ℕ) (kept : List ℕ) → Stays R n kept (host_kept R n S e kept)
unfolding host_kept
host_stays R n S e kept =
    cond_cases (Stays R n kept) (eqb (kept_refusal R n S e kept) 0) (λ q. past_recovered R n kept (kept_of R n S e kept (eqb-true _ _ q)).long) (λ q. stays R n kept)
