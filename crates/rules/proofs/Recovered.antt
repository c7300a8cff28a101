-- What a recovered image shows, and the bounds of what recovery reads.
use Prim.Native.Nat.{ℕ, zero, suc, ◌+◌, ◌*◌, ◌≤◌, ◌<◌}
use mathlib.Core.Path.{◌≡◌, refl, ◌∙◌}
use mathlib.Core.Logic.{◌≢◌}
use mathlib.Core.Bool.{true, false, ◌&&◌, and-false, not}
use mathlib.Core.List.{List}
use native.Mathlib.Omega.{arith}
use native.Mathlib.Decide.{ℕ_discrete}
use lib.Dec.{ltb}
use lib.ListN.{length, get_or}
use borrow.Author.Tests.{leb-true, ltb-true, eqb-false, le-leb, lt-leb, eq-eqb, ne_eqb, not-true}
use lib.Seq.{get_or-set_other}
use Rattle.rules.specs.declared.Cell.{Cell}
use Rattle.rules.specs.Upto.{max_to}
use Rattle.rules.specs.Memory.{cell_at, copy_at, closed_at, set_tail, tail_at, size, cells_to, copies_to}
use Rattle.rules.specs.Table.{blank}
use Rattle.rules.specs.Cut.{pass_mark, queued, tail_to, head_to, tail_of, head_of, mended, recovered}
use Rattle.rules.specs.Facts.{SoundCell, SoundImage}
use Rattle.rules.proofs.Tests.{cond_cases, both}
use Rattle.rules.proofs.Memory.{length-set_tail, length-cells_to, length-copies_to, cell_tail, cells_at, copies_cell, copy_tail, copies_at, tail_same, number_cells, number_copies}

-- the largest of several numbers
pub max-over : (f : ℕ → ℕ) (k j : ℕ) → j < k → f j ≤ max_to f k
max-over f zero j h = absurd (omega arith)
max-over f (suc k) j h = elim (ℕ_discrete j k) [ yes e ↦ rw e (omega arith) | no d ↦ omega (arith, max-over f k j (omega arith)) ]

pub max_under : (f : ℕ → ℕ) (k b : ℕ) → ((j : ℕ) → j < k → f j ≤ b) → max_to f k ≤ b
max_under f zero b h = omega arith
max_under f (suc k) b h = omega (arith, h k (omega arith), max_under f k b (λ j l. h j (omega arith)))

pub max_equal : (f : ℕ → ℕ) (k v : ℕ) → 0 < k → ((j : ℕ) → j < k → f j ≡ v) → max_to f k ≡ v
max_equal f k v p h = omega (arith, max_under f k v (λ j l. omega (arith, h j l)), max-over f k 0 p, h 0 p)

-- a queued cell is occupied, with index ≥ pass mark
pub queued_is : (mark : ℕ) (c : Cell) → queued mark c ≡ true → (c.item ≢ 0) × (mark ≤ c.index)
unfolding queued
queued_is mark c h = let b = both _ _ h in (eqb-false _ _ (not-true _ b.0), leb-true _ _ b.1)

pub is_queued : (mark : ℕ) (c : Cell) → c.item ≢ 0 → mark ≤ c.index → queued mark c ≡ true
unfolding queued
is_queued mark c z l = simp (ne_eqb _ _ z, le-leb _ _ l)

pub blank_unqueued : (mark : ℕ) (c : Cell) → c.item ≡ 0 → queued mark c ≡ false
unfolding queued
blank_unqueued mark c z = simp (eq-eqb _ _ z)

pub below_unqueued : (mark : ℕ) (c : Cell) → c.index < mark → queued mark c ≡ false
unfolding queued
below_unqueued mark c l = rw (lt-leb _ _ l) (and-false (not (blank c)))

-- Tail and Head lie around the queued indexes
module _ (R mark : ℕ) (m : List ℕ) where
  pub tail_from : (k : ℕ) → mark ≤ tail_to R mark m k
  tail_from zero = omega arith
  tail_from (suc k) = cond_cases (λ v. mark ≤ v) (queued mark (cell_at R m k)) (λ q. omega (arith, tail_from k)) (λ q. tail_from k)

  pub tail_over : (k j : ℕ) → j < k → queued mark (cell_at R m j) ≡ true → (cell_at R m j).index < tail_to R mark m k
  tail_over zero j h q = absurd (omega arith)
  tail_over (suc k) j h q = elim (ℕ_discrete j k) [
    | yes e ↦ rw e (rw (rw e at q) (omega arith))
    | no d ↦ let l = tail_over k j (omega arith) q in cond_cases (λ v. (cell_at R m j).index < v) (queued mark (cell_at R m k)) (λ p. omega arith) (λ p. l)
  ]

  pub tail_under : (b : ℕ) → mark ≤ b → ((j : ℕ) → j < R → queued mark (cell_at R m j) ≡ true → (cell_at R m j).index < b) → (k : ℕ) → k ≤ R → tail_to R mark m k ≤ b
  tail_under b l h zero r = l
  tail_under b l h (suc k) r =
      let u = tail_under b l h k (omega arith) in
      cond_cases (λ v. v ≤ b) (queued mark (cell_at R m k)) (λ q. omega (arith, h k (omega arith) q)) (λ q. u)

  pub head_under : (tail k : ℕ) → head_to R mark tail m k ≤ tail
  head_under tail zero = omega arith
  head_under tail (suc k) = cond_cases (λ v. v ≤ tail) (queued mark (cell_at R m k)) (λ q. omega (arith, head_under tail k)) (λ q. head_under tail k)

  pub head_low : (tail k j : ℕ) → j < k → queued mark (cell_at R m j) ≡ true → head_to R mark tail m k ≤ (cell_at R m j).index
  head_low tail zero j h q = absurd (omega arith)
  head_low tail (suc k) j h q = elim (ℕ_discrete j k) [
    | yes e ↦ rw e (rw (rw e at q) (omega arith))
    | no d ↦ let l = head_low tail k j (omega arith) q in cond_cases (λ v. v ≤ (cell_at R m j).index) (queued mark (cell_at R m k)) (λ p. omega arith) (λ p. l)
  ]

  pub head_from : (tail k : ℕ) → mark ≤ tail → mark ≤ head_to R mark tail m k
  head_from tail zero l = l
  head_from tail (suc k) l =
      let u = head_from tail k l in
      cond_cases (λ v. mark ≤ v) (queued mark (cell_at R m k)) (λ q. omega (arith, (queued_is mark (cell_at R m k) q).1)) (λ q. u)

  pub mark_to_head : mark ≤ head_of R mark m
  unfolding head_of tail_of
  mark_to_head = head_from (tail_of R mark m) R (tail_from R)

  pub head_to_tail : head_of R mark m ≤ tail_of R mark m
  unfolding head_of
  head_to_tail = head_under (tail_of R mark m) R

-- of a sound image
module _ (R n e : ℕ) (m : List ℕ) (s : SoundImage R n e m) where
  pub mark_bound : pass_mark R n m ≤ e
  unfolding pass_mark
  mark_bound = omega (arith, max_under (λ j. (cell_at R m j).mark) R e (λ j l. (s.cells j l).mark), max_under (copy_at R m) n e s.copies)

  pub tail_bound : tail_of R (pass_mark R n m) m ≤ e
  unfolding tail_of
  tail_bound =
      tail_under R (pass_mark R n m) m e mark_bound
      (λ j l q. (s.cells j l).occupied (queued_is (pass_mark R n m) (cell_at R m j) q).0) R (omega arith)

  pub head_bound : head_of R (pass_mark R n m) m ≤ e
  head_bound = omega (arith, tail_bound, head_to_tail R (pass_mark R n m) m)

-- the views of the recovered image
module _ (R n : ℕ) (m : List ℕ) (long : size R n ≤ length m) where
  pub length_recovered : length (recovered R n m) ≡ length m
  unfolding recovered
  length_recovered = simp (length-set_tail, length-copies_to, length-cells_to)

  pub cell_recovered : (j : ℕ) → j < R → cell_at R (recovered R n m) j ≡ mended R (pass_mark R n m) (head_of R (pass_mark R n m) m) (cell_at R m j)
  unfolding recovered
  cell_recovered j h =
      let f : ℕ → Cell → Cell = λ j. mended R (pass_mark R n m) (head_of R (pass_mark R n m) m) in
      cell_tail R (copies_to R (head_of R (pass_mark R n m) m) (cells_to R f m R) n) j h n _
      ∙ (copies_cell R (head_of R (pass_mark R n m) m) (cells_to R f m R) n j h ∙ cells_at R f m R j (omega arith) h)

  pub copy_recovered : (t : ℕ) → t < n → copy_at R (recovered R n m) t ≡ head_of R (pass_mark R n m) m
  unfolding recovered
  copy_recovered t h =
      let f : ℕ → Cell → Cell = λ j. mended R (pass_mark R n m) (head_of R (pass_mark R n m) m) in
      let l = length-cells_to R f m R in
      copy_tail R n (copies_to R (head_of R (pass_mark R n m) m) (cells_to R f m R) n) t _ h
      ∙ copies_at R (head_of R (pass_mark R n m) m) (cells_to R f m R) n t (omega arith) h

  pub closed_recovered : closed_at R n (recovered R n m) ≡ closed_at R n m
  unfolding recovered closed_at set_tail
  closed_recovered =
      let f : ℕ → Cell → Cell = λ j. mended R (pass_mark R n m) (head_of R (pass_mark R n m) m) in
      get_or-set_other (copies_to R (head_of R (pass_mark R n m) m) (cells_to R f m R) n) (4 * R + n + 1) (4 * R + n) _ 0 (omega arith)
      ∙ (number_copies R (head_of R (pass_mark R n m) m) (cells_to R f m R) n (4 * R + n) (omega arith) ∙ number_cells R f m R (4 * R + n) (omega arith) (omega arith))

  pub tail_recovered : tail_at R n (recovered R n m) ≡ tail_of R (pass_mark R n m) m
  unfolding recovered
  tail_recovered =
      let f : ℕ → Cell → Cell = λ j. mended R (pass_mark R n m) (head_of R (pass_mark R n m) m) in
      let l1 = length-cells_to R f m R in
      let l2 = length-copies_to R (head_of R (pass_mark R n m) m) (cells_to R f m R) n in
      tail_same R n (copies_to R (head_of R (pass_mark R n m) m) (cells_to R f m R) n) _ (omega arith)

  -- a number past the image is as it was
  pub number_recovered : (i : ℕ) → size R n ≤ i → get_or (recovered R n m) i 0 ≡ get_or m i 0
  unfolding recovered set_tail
  number_recovered i h =
      let f : ℕ → Cell → Cell = λ j. mended R (pass_mark R n m) (head_of R (pass_mark R n m) m) in
      get_or-set_other (copies_to R (head_of R (pass_mark R n m) m) (cells_to R f m R) n) (4 * R + n + 1) i _ 0 (omega arith)
      ∙ (number_copies R (head_of R (pass_mark R n m) m) (cells_to R f m R) n i (omega arith) ∙ number_cells R f m R i (omega arith) (omega arith))

  -- of a sound image it is sound
  pub sound_recovered : (e : ℕ) → SoundImage R n e m → SoundImage R n e (recovered R n m)
  unfolding mended
  sound_recovered e s = record {
    cells = λ j l. rw (cell_recovered j l) (mends (cell_at R m j) (s.cells j l));
    copies = λ t l. rw (copy_recovered t l) (head_bound R n e m s);
    closed = rw closed_recovered s.closed;
    tail = rw tail_recovered (tail_bound R n e m s);
  }
    where
      mends : (c : Cell) → SoundCell R e c → SoundCell R e (mended R (pass_mark R n m) (head_of R (pass_mark R n m) m) c)
      mends c k =
          let hb = head_bound R n e m s in
          let mb = mark_bound R n e m s in
          cond_cases (SoundCell R e) (not (blank c) && ltb c.index (pass_mark R n m))
          (λ p. let l : c.index < pass_mark R n m = ltb-true c.index (pass_mark R n m) (both (not (blank c)) (ltb c.index (pass_mark R n m)) p).1 in record { safe = omega arith; mark = hb; blank = omega arith; occupied = λ z. absurd (z refl) })
          (λ p. record { safe = omega arith; mark = hb; blank = k.blank; occupied = k.occupied })
