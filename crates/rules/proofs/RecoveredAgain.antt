-- Recovering a recovered image gives the same queue, Head, Tail, closed and image; its pass mark is Head.
use Prim.Native.Nat.{ℕ, zero, suc, ◌+◌, ◌-◌, ◌≤◌, ◌<◌, max, min}
use mathlib.Core.Path.{◌≡◌, refl, sym, ◌∙◌}
use mathlib.Core.Logic.{◌≢◌}
use mathlib.Core.Bool.{Bool, true, false, cond, ◌&&◌}
use mathlib.Core.List.{List, [], ◌∷◌}
use native.Mathlib.Omega.{arith}
use native.Mathlib.Decide.{ℕ_discrete, dec_lt}
use lib.Dec.{eqb}
use lib.ListN.{length}
use lib.Seq.{set-get_or}
use borrow.Author.Tests.{eqb-true, le-ltb, lt-ltb, eq-eqb, ne_eqb}
use Rattle.rules.specs.declared.Cell.{Cell}
use Rattle.rules.specs.Record.{cell}
use Rattle.rules.specs.Memory.{cell_at, set_cell, copy_at, set_copy, closed_at, tail_at, set_tail, size, cells_to, copies_to}
use Rattle.rules.specs.Answers.{found}
use Rattle.rules.specs.Cut.{pass_mark, queued, tail_to, head_to, tail_of, head_of, count_of, finds, entry, entry_if, entries_at, queue_of, mended, recovered}
use Rattle.rules.specs.Refusals.{kept_refusal}
use Rattle.rules.specs.Listing.{host_kept}
use Rattle.rules.proofs.Recovered.{max_under, max_equal, queued_is, is_queued, blank_unqueued, below_unqueued, head_low, mark_to_head, head_to_tail, length_recovered, cell_recovered, copy_recovered, closed_recovered, tail_recovered, sound_recovered}
use Rattle.rules.proofs.Joined.{count_same, join_same, join_none, join_split}
use Rattle.rules.proofs.Kept.{kept_of, of_kept}

-- a cell is occupied below the pass mark, or blank, or queued
module _ (R mark head : ℕ) (c : Cell) where
  three : (P : Type 0) → (c.item ≢ 0 → c.index < mark → P) → (c.item ≡ 0 → P) → (c.item ≢ 0 → mark ≤ c.index → P) → P
  three P below bare filled = elim (ℕ_discrete c.item 0) [ yes z ↦ bare z | no z ↦ elim (dec_lt c.index mark) [ yes l ↦ below z l | no l ↦ filled z (omega arith) ] ]

  pub mended_below : c.item ≢ 0 → c.index < mark → mended R mark head c ≡ cell 1 (c.index + R) 0 head
  unfolding mended
  mended_below z l = simp (ne_eqb _ _ z, lt-ltb _ _ l)

  pub mended_blank : c.item ≡ 0 → mended R mark head c ≡ cell 1 c.index c.item head
  unfolding mended
  mended_blank z = simp (eq-eqb _ _ z)

  pub mended_queued : c.item ≢ 0 → mark ≤ c.index → mended R mark head c ≡ cell 1 c.index c.item head
  unfolding mended
  mended_queued z l = simp (ne_eqb _ _ z, le-ltb _ _ l)

  pub mended_mark : (mended R mark head c).mark ≡ head
  mended_mark = three ((mended R mark head c).mark ≡ head) (λ z l. rw (mended_below z l)) (λ z. rw (mended_blank z)) (λ z l. rw (mended_queued z l))

  -- what is queued stays so, under its number
  module _ (low : queued mark c ≡ true → head ≤ c.index) where
    pub queued_again : queued head (mended R mark head c) ≡ queued mark c
    queued_again = three (queued head (mended R mark head c) ≡ queued mark c)
        (λ z l. rw (mended_below z l, below_unqueued mark c l) (blank_unqueued head _ refl))
        (λ z. rw (mended_blank z, blank_unqueued mark c z) (blank_unqueued head _ z))
        (λ z l. let q = is_queued mark c z l in rw (mended_queued z l, q) (is_queued head _ z (low q)))

    pub index_again : queued mark c ≡ true → mended R mark head c ≡ cell 1 c.index c.item head
    index_again q = let p = queued_is mark c q in mended_queued p.0 p.1

module _ (R mark head : ℕ) (c : Cell) (low : queued mark c ≡ true → head ≤ c.index) where
  pub mended_again : mended R head head (mended R mark head c) ≡ mended R mark head c
  mended_again = three R mark head c (mended R head head (mended R mark head c) ≡ mended R mark head c)
      (λ z l. rw (mended_below R mark head c z l) (mended_blank R head head _ refl))
      (λ z. rw (mended_blank R mark head c z) (mended_blank R head head _ z))
      (λ z l. rw (mended_queued R mark head c z l) (mended_queued R head head _ z (low (is_queued mark c z l))))

-- stores of what stands there
same_cell : (R : ℕ) (m : List ℕ) (j : ℕ) → set_cell R m j (cell_at R m j) ≡ m
unfolding set_cell cell_at
same_cell R m j = simp set-get_or

same_copy : (R : ℕ) (m : List ℕ) (t : ℕ) → set_copy R m t (copy_at R m t) ≡ m
unfolding set_copy copy_at
same_copy R m t = set-get_or m _ 0

same_tail : (R n : ℕ) (m : List ℕ) → set_tail R n m (tail_at R n m) ≡ m
unfolding set_tail tail_at
same_tail R n m = set-get_or m _ 0

same_cells : (R : ℕ) (f : ℕ → Cell → Cell) (m : List ℕ) (k : ℕ) → ((j : ℕ) → j < k → f j (cell_at R m j) ≡ cell_at R m j) → cells_to R f m k ≡ m
same_cells R f m zero h = refl
same_cells R f m (suc k) h = rw (same_cells R f m k (λ j l. h j (omega arith)), h k (omega arith)) (same_cell R m k)

same_copies : (R v : ℕ) (m : List ℕ) (k : ℕ) → ((t : ℕ) → t < k → copy_at R m t ≡ v) → copies_to R v m k ≡ m
same_copies R v m zero h = refl
same_copies R v m (suc k) h = rw (same_copies R v m k (λ t l. h t (omega arith)), ← h k (omega arith)) (same_copy R m k)

-- an image that recovery leaves as it is
settled : (R n h : ℕ) (m : List ℕ) → pass_mark R n m ≡ h → head_of R h m ≡ h → tail_at R n m ≡ tail_of R h m → ((j : ℕ) → j < R → mended R h h (cell_at R m j) ≡ cell_at R m j)
    → ((t : ℕ) → t < n → copy_at R m t ≡ h) → recovered R n m ≡ m
unfolding recovered
settled R n h m p q t f c = rw (p, q, same_cells R (λ j. mended R h h) m R f, same_copies R h m n c, ← t) (same_tail R n m)

-- the recovered image
module _ (R n : ℕ) (m : List ℕ) where
  abbrev mark : ℕ
  mark = pass_mark R n m

  abbrev head : ℕ
  head = head_of R mark m

  abbrev tail : ℕ
  tail = tail_of R mark m

  low : (j : ℕ) → j < R → queued mark (cell_at R m j) ≡ true → head ≤ (cell_at R m j).index
  unfolding head_of
  low j l q = head_low R mark m tail R j l q

  module _ (long : size R n ≤ length m) where
    -- the same cells are queued, under the same numbers
    same_queued : (j : ℕ) → j < R → queued head (cell_at R (recovered R n m) j) ≡ queued mark (cell_at R m j)
    same_queued j l = rw (cell_recovered R n m long j l) (queued_again R mark head (cell_at R m j) (low j l))

    same_entry : (j : ℕ) → j < R → queued mark (cell_at R m j) ≡ true → cell_at R (recovered R n m) j ≡ cell 1 (cell_at R m j).index (cell_at R m j).item head
    same_entry j l q = rw (cell_recovered R n m long j l) (index_again R mark head (cell_at R m j) (low j l) q)

    -- its pass mark is Head
    pub mark_again : 1 ≤ R → pass_mark R n (recovered R n m) ≡ head
    unfolding pass_mark
    mark_again some =
        let a = max_equal (λ j. (cell_at R (recovered R n m) j).mark) R head some (λ j l. rw (cell_recovered R n m long j l) (mended_mark R mark head (cell_at R m j))) in
        let b = max_under (copy_at R (recovered R n m)) n head (λ t l. omega (arith, copy_recovered R n m long t l)) in
        omega arith

    tail_to_lem : (k : ℕ) → k ≤ R → tail_to R head (recovered R n m) k ≡ max head (tail_to R mark m k)
    tail_to_lem zero l = omega (arith, mark_to_head R mark m)
    tail_to_lem (suc k) l = rw (same_queued k (omega arith)) (by (tail_to_lem k (omega arith)) (queued mark (cell_at R m k)) refl)
      where
        by : tail_to R head (recovered R n m) k ≡ max head (tail_to R mark m k) → (b : Bool) → queued mark (cell_at R m k) ≡ b
            → cond b (max (tail_to R head (recovered R n m) k) ((cell_at R (recovered R n m) k).index + 1)) (tail_to R head (recovered R n m) k)
            ≡ max head (cond b (max (tail_to R mark m k) ((cell_at R m k).index + 1)) (tail_to R mark m k))
        by e true q = rw (same_entry k (omega arith) q) (omega arith)
        by e false q = e

    pub tail_again : tail_of R head (recovered R n m) ≡ tail
    unfolding tail_of
    tail_again = omega (arith, tail_to_lem R (omega arith), head_to_tail R mark m)

    head_to_lem : (t k : ℕ) → k ≤ R → head_to R head t (recovered R n m) k ≡ head_to R mark t m k
    head_to_lem t zero l = refl
    head_to_lem t (suc k) l = rw (same_queued k (omega arith), head_to_lem t k (omega arith)) (by (queued mark (cell_at R m k)) refl)
      where
        by : (b : Bool) → queued mark (cell_at R m k) ≡ b
            → cond b (min (head_to R mark t m k) (cell_at R (recovered R n m) k).index) (head_to R mark t m k)
            ≡ cond b (min (head_to R mark t m k) (cell_at R m k).index) (head_to R mark t m k)
        by true q = rw (same_entry k (omega arith) q)
        by false q = refl

    pub head_again : head_of R head (recovered R n m) ≡ head
    unfolding head_of
    head_again = rw tail_again (head_to_lem tail R (omega arith))

    pub count_again : count_of R head (recovered R n m) ≡ count_of R mark m
    unfolding count_of
    count_again = count_same _ _ R same_queued

    -- what a cut of it finds
    pub finds_again : 1 ≤ R → finds R n (recovered R n m) ≡ found head head tail (closed_at R n m) (count_of R mark m)
    unfolding finds
    finds_again some = rw (mark_again some, head_again, tail_again, count_again, closed_recovered R n m long)

    -- its queue
    entry_again : (x j : ℕ) → j < R → entry_if R head (recovered R n m) x j ≡ entry_if R mark m x j
    unfolding entry_if
    entry_again x j l = rw (same_queued j l) (by (queued mark (cell_at R m j)) refl)
      where
        by : (b : Bool) → queued mark (cell_at R m j) ≡ b
            → cond (b && eqb (cell_at R (recovered R n m) j).index x) (entry x (cell_at R (recovered R n m) j).item ∷ []) []
            ≡ cond (b && eqb (cell_at R m j).index x) (entry x (cell_at R m j).item ∷ []) []
        by true q = rw (same_entry j l q)
        by false q = refl

    entries_again : (x : ℕ) → entries_at R head (recovered R n m) x ≡ entries_at R mark m x
    unfolding entries_at
    entries_again x = join_same _ _ 0 R (λ j a b. entry_again x j (omega arith))

    none_below : (x : ℕ) → x < head → entries_at R mark m x ≡ []
    unfolding entries_at entry_if
    none_below x l = join_none _ 0 R (λ j a b. by j (omega arith) (queued mark (cell_at R m j)) refl)
      where
        by : (j : ℕ) → j < R → (b : Bool) → queued mark (cell_at R m j) ≡ b → cond (b && eqb (cell_at R m j).index x) (entry x (cell_at R m j).item ∷ []) [] ≡ []
        by j h true q = rw (ne_eqb (cell_at R m j).index x (omega (arith, low j h q)))
        by j h false q = refl

    pub queue_again : 1 ≤ R → queue_of R n (recovered R n m) ≡ queue_of R n m
    unfolding queue_of
    queue_again some =
        let d : tail - mark ≡ (head - mark) + (tail - head) = omega (arith, mark_to_head R mark m, head_to_tail R mark m) in
        let e : mark + (head - mark) ≡ head = omega (arith, mark_to_head R mark m) in
        rw (mark_again some, tail_again, d, join_split (entries_at R mark m) mark (head - mark) (tail - head), e)
        (rw (join_none (entries_at R mark m) mark (head - mark) (λ x a b. none_below x (omega (arith, mark_to_head R mark m))))
        (join_same _ _ head (tail - head) (λ x a b. entries_again x)))

    -- the image itself
    pub recovered_again : 1 ≤ R → recovered R n (recovered R n m) ≡ recovered R n m
    recovered_again some =
        settled R n head (recovered R n m) (mark_again some) head_again (tail_recovered R n m long ∙ sym tail_again)
        (λ j l. rw (cell_recovered R n m long j l) (mended_again R mark head (cell_at R m j) (low j l))) (copy_recovered R n m long)

-- a kept image that is accepted: recovered it is accepted too, and recovering it again changes nothing
pub kept_again : (R n S e : ℕ) (m : List ℕ) → kept_refusal R n S e m ≡ 0 → kept_refusal R n S e (recovered R n m) ≡ 0
kept_again R n S e m h =
    let k = kept_of R n S e m h in
    of_kept R n S e (recovered R n m)
    (record { range = k.range; events = k.events; long = rw (length_recovered R n m k.long) k.long; image = sound_recovered R n m k.long e k.image })

pub host_again : (R n S e : ℕ) (m : List ℕ) → host_kept R n S e (host_kept R n S e m) ≡ host_kept R n S e m
unfolding host_kept
host_again R n S e m = by (eqb (kept_refusal R n S e m) 0) refl
  where
    by : (b : Bool) → eqb (kept_refusal R n S e m) 0 ≡ b
        → cond (eqb (kept_refusal R n S e (cond b (recovered R n m) m)) 0) (recovered R n (cond b (recovered R n m) m)) (cond b (recovered R n m) m) ≡ cond b (recovered R n m) m
    by true q =
        let h = eqb-true _ _ q in
        let k = kept_of R n S e m h in
        rw (eq-eqb _ _ (kept_again R n S e m h)) (recovered_again R n m k.long k.range.some_cells)
    by false q = rw q
