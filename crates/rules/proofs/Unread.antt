-- Recovery works from kept's cells, copies and closed alone: kept's Tail number isn't read.
use Prim.Native.Nat.{ℕ, zero, suc, ◌-◌, ◌≤◌, ◌<◌}
use mathlib.Core.Path.{◌≡◌, refl}
use mathlib.Core.List.{List}
use native.Mathlib.Omega.{arith}
use Rattle.rules.specs.Upto.{max_to}
use Rattle.rules.specs.Memory.{cell_at, copy_at, closed_at, set_tail}
use Rattle.rules.specs.Cut.{pass_mark, queued, tail_to, head_to, tail_of, head_of, count_of, finds, entry_if, entries_at, queue_of}
use Rattle.rules.proofs.Memory.{cell_tail, copy_tail, closed_tail}
use Rattle.rules.proofs.Joined.{count_same, join_same}

max_same : (f g : ℕ → ℕ) (k : ℕ) → ((j : ℕ) → j < k → f j ≡ g j) → max_to f k ≡ max_to g k
max_same f g zero h = refl
max_same f g (suc k) h = rw (h k (omega arith), max_same f g k (λ j l. h j (omega arith)))

-- two images with the same cells and copies
module _ (R n : ℕ) (m r : List ℕ) (cells : (j : ℕ) → j < R → cell_at R r j ≡ cell_at R m j) (copies : (t : ℕ) → t < n → copy_at R r t ≡ copy_at R m t) where
  pub mark_same : pass_mark R n r ≡ pass_mark R n m
  unfolding pass_mark
  mark_same = rw (max_same (λ j. (cell_at R r j).mark) (λ j. (cell_at R m j).mark) R (λ j l. rw (cells j l)), max_same (copy_at R r) (copy_at R m) n copies)

  tail_to_lem : (mark k : ℕ) → k ≤ R → tail_to R mark r k ≡ tail_to R mark m k
  tail_to_lem mark zero l = refl
  tail_to_lem mark (suc k) l = rw (cells k (omega arith), tail_to_lem mark k (omega arith))

  head_to_lem : (mark t k : ℕ) → k ≤ R → head_to R mark t r k ≡ head_to R mark t m k
  head_to_lem mark t zero l = refl
  head_to_lem mark t (suc k) l = rw (cells k (omega arith), head_to_lem mark t k (omega arith))

  pub finds_same : closed_at R n r ≡ closed_at R n m → finds R n r ≡ finds R n m
  unfolding finds head_of tail_of count_of
  finds_same e =
      let mark = pass_mark R n m in
      let a = tail_to_lem mark R (omega arith) in
      let b = head_to_lem mark (tail_to R mark m R) R (omega arith) in
      let d = count_same (λ j. queued mark (cell_at R r j)) (λ j. queued mark (cell_at R m j)) R (λ j l. rw (cells j l)) in
      rw (mark_same, a, b, d, e)

  pub queue_same : queue_of R n r ≡ queue_of R n m
  unfolding queue_of tail_of entries_at entry_if
  queue_same =
      let mark = pass_mark R n m in
      rw (mark_same, tail_to_lem mark R (omega arith))
      (join_same (entries_at R mark r) (entries_at R mark m) mark (tail_to R mark m R - mark) (λ x a b. join_same (entry_if R mark r x) (entry_if R mark m x) 0 R (λ j c d. rw (cells j (omega arith)))))

-- kept's Tail number isn't read
module _ (R n : ℕ) (m : List ℕ) (v : ℕ) where
  pub finds_without_tail : finds R n (set_tail R n m v) ≡ finds R n m
  finds_without_tail = finds_same R n m (set_tail R n m v) (λ j l. cell_tail R m j l n v) (λ t l. copy_tail R n m t v l) (closed_tail R n m v)

  pub queue_without_tail : queue_of R n (set_tail R n m v) ≡ queue_of R n m
  queue_without_tail = queue_same R n m (set_tail R n m v) (λ j l. cell_tail R m j l n v) (λ t l. copy_tail R n m t v l)
