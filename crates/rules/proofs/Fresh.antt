-- A fresh image shows what document 01 says, and an accepted setup leaves a sound state.
use Prim.Native.Nat.{ℕ, ◌≤◌, ◌<◌}
use mathlib.Core.Path.{◌≡◌, refl, ◌∙◌}
use mathlib.Core.Logic.{inl}
use mathlib.Core.Bool.{not}
use mathlib.Core.List.{List}
use native.Mathlib.Omega.{arith}
use lib.Dec.{lit<}
use lib.ListN.{length}
use borrow.Author.Tests.{ltb-false, eq-eqb, not-false}
use Rattle.rules.specs.Numbers.{in_range}
use Rattle.rules.specs.Record.{cell, idle, thread_at}
use Rattle.rules.specs.Memory.{cell_at, copy_at, closed_at, set_closed, tail_at, size, cells_to, copies_to, fresh_image}
use Rattle.rules.specs.Refusals.{short, setup_refusal, unsound}
use Rattle.rules.specs.Events.{fresh_state, setup}
use Rattle.rules.specs.Facts.{InRange, SoundImage}
use Rattle.rules.proofs.Tests.{unrefused, get_or-all}
use Rattle.rules.proofs.Memory.{length-set_closed, length-cells_to, length-copies_to, cell_closed, cell_tail, cells_at, copies_cell, copies_at, copy_closed, copy_tail, closed_same, closed_tail, tail_same}
use Rattle.rules.proofs.Sound.{range_of, of_sound}
use Rattle.rules.proofs.Past.{past_fresh}

module _ (R n : ℕ) (m : List ℕ) (long : size R n ≤ length m) where
  abbrev cells : List ℕ
  cells = cells_to R (λ j c. cell 1 j 0 0) m R

  abbrev copies : List ℕ
  copies = copies_to R 0 cells n

  same_length : length copies ≡ length m
  same_length = length-copies_to R 0 cells n ∙ length-cells_to R (λ j c. cell 1 j 0 0) m R

  -- cell j is (1, j, 0, 0)
  pub fresh_cell : (j : ℕ) → j < R → cell_at R (fresh_image R n m) j ≡ cell 1 j 0 0
  unfolding fresh_image
  fresh_cell j l =
      cell_tail R (set_closed R n copies 0) j l n 0
      ∙ (cell_closed R copies j l n 0 ∙ (copies_cell R 0 cells n j l ∙ cells_at R (λ j c. cell 1 j 0 0) m R j (omega arith) l))

  -- all else zero
  pub fresh_copy : (t : ℕ) → t < n → copy_at R (fresh_image R n m) t ≡ 0
  unfolding fresh_image
  fresh_copy t l =
      let q = length-cells_to R (λ j c. cell 1 j 0 0) m R in
      copy_tail R n (set_closed R n copies 0) t 0 l ∙ (copy_closed R n copies t 0 l ∙ copies_at R 0 cells n t (omega arith) l)

  pub fresh_closed : closed_at R n (fresh_image R n m) ≡ 0
  unfolding fresh_image
  fresh_closed = let q = same_length in closed_tail R n (set_closed R n copies 0) 0 ∙ closed_same R n copies 0 (omega arith)

  pub fresh_tail : tail_at R n (fresh_image R n m) ≡ 0
  unfolding fresh_image
  fresh_tail = let q = same_length in tail_same R n (set_closed R n copies 0) 0 (omega (arith, length-set_closed R n copies 0))

  pub fresh_sound : SoundImage R n 0 (fresh_image R n m)
  fresh_sound = record {
    cells = λ j l. rw (fresh_cell j l) (record { safe = omega arith; mark = omega arith; blank = omega arith; occupied = λ z. absurd (z refl) });
    copies = λ t l. omega (arith, fresh_copy t l);
    closed = omega (arith, fresh_closed);
    tail = omega (arith, fresh_tail);
  }

-- what an accepted setup was not refused for
pub setup_of : (R n S : ℕ) (running kept : List ℕ) → setup_refusal R n S running kept ≡ 0 → InRange R n S × (size R n ≤ length running) × (size R n ≤ length kept)
unfolding setup_refusal
setup_of R n S running kept h =
    let a = unrefused (not (in_range R n S)) 1 _ (lit< tt) h in
    let b = unrefused (short R n running) 10 _ (lit< tt) a.1 in
    let d = unrefused (short R n kept) 10 0 (lit< tt) b.1 in
    (range_of R n S (not-false _ a.0), ltb-false _ _ b.0, ltb-false _ _ d.0)

pub setup_sound : (R n S : ℕ) (running kept : List ℕ) → setup_refusal R n S running kept ≡ 0 → unsound (setup R n S running kept) ≡ 0
unfolding setup fresh_state thread_at
setup_sound R n S running kept h =
    let a = setup_of R n S running kept h in
    let p = a.1 in
    let q = a.2 in
    rw (eq-eqb (setup_refusal R n S running kept) 0 h)
    (of_sound (fresh_state R n S running kept)
    (record {
      control = record { ring = record { range = a.0; events = omega arith; head = omega arith }; threads = λ i l. inl (get_or-all 8 i idle) };
      long_running = rw (past_fresh R n running).long p;
      long_kept = rw (past_fresh R n kept).long q;
      running = fresh_sound R n running p;
      kept = fresh_sound R n kept q;
    }))
