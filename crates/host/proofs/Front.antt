-- Host recovery reads and writes the numbers in front only: 266 of them are as good as all.
use Prim.Native.Nat.{ℕ, zero, suc, ◌+◌, ◌*◌, ◌/◌, ◌≤◌, ◌<◌, min}
use mathlib.Core.Path.{◌≡◌, refl, ap, sym, ◌∙◌}
use mathlib.Core.Bool.{Bool, true, false, ◌&&◌, not}
use mathlib.Core.List.{List}
use native.Mathlib.Omega.{arith}
use native.Mathlib.Decide.{dec_lt}
use borrow.Author.Tests.{lt-ltb, le-ltb, eq-eqb, ne_eqb, not-false}
use lib.Dec.{leb}
use lib.ListN.{length, take, length-take}
use lib.Seq.{get_or-take, take-set-lt, take_all, length-take-le}
use Rattle.rules.specs.declared.Cell.{Cell}
use Rattle.rules.specs.declared.Found.{Found}
use Rattle.rules.specs.declared.Refusal.{Refusal}
use Rattle.rules.specs.Refusal.{number_of}
use Rattle.rules.specs.Numbers.{in_range, run_limit}
use Rattle.rules.specs.Upto.{all_to}
use Rattle.rules.specs.Memory.{cell_at, set_cell, copy_at, set_copy, closed_at, set_tail, tail_at, size, cells_to, copies_to}
use Rattle.rules.specs.Cut.{finds, mended, recovered}
use Rattle.rules.specs.Sound.{sound_cell, sound_image}
use Rattle.rules.specs.Refusals.{refuse, short, kept_refusal}
use Rattle.rules.specs.Listing.{host_kept}
use Rattle.rules.proofs.Tests.{both}
use Rattle.rules.proofs.Sound.{range_of}
use Rattle.rules.proofs.Kept.{SoundKept, kept_of}
use Rattle.rules.proofs.Unread.{finds_same}
use Rattle.ring.proofs.Entries.{numbered}
use Rattle.host.specs.Bytes.{numbers_to, numbers_of, bytes_to, host_refusal, host_bytes}
use Rattle.host.proofs.Laws.{length-numbers, take-numbers, bytes_take, refusal_of}

all_same : (f g : ℕ → Bool) (k : ℕ) → ((j : ℕ) → j < k → f j ≡ g j) → all_to f k ≡ all_to g k
all_same f g zero h = refl
all_same f g (suc k) h = rw (h k (omega arith), all_same f g k (λ j l. h j (omega arith)))

-- both are too short, or neither is
short_front : (R n : ℕ) (m : List ℕ) → size R n ≤ 266 → short R n (take 266 m) ≡ short R n m
short_front R n m h = elim (dec_lt (length m) (size R n)) [
  | yes l ↦ lt-ltb (length (take 266 m)) (size R n) (omega (arith, length-take 266 m)) ∙ sym (lt-ltb (length m) (size R n) l)
  | no g ↦ le-ltb (length (take 266 m)) (size R n) (omega (arith, length-take 266 m)) ∙ sym (le-ltb (length m) (size R n) (omega arith))
]

-- an image and its first k numbers, where k is not too few
module _ (R n k : ℕ) (m : List ℕ) (enough : size R n ≤ k) where
  cell_front : (j : ℕ) → j < R → cell_at R (take k m) j ≡ cell_at R m j
  unfolding cell_at
  cell_front j l =
      let e0 = get_or-take k m (4 * j) 0 (omega arith) in
      let e1 = get_or-take k m (4 * j + 1) 0 (omega arith) in
      let e2 = get_or-take k m (4 * j + 2) 0 (omega arith) in
      let e3 = get_or-take k m (4 * j + 3) 0 (omega arith) in
      rw (e0, e1, e2, e3)

  copy_front : (t : ℕ) → t < n → copy_at R (take k m) t ≡ copy_at R m t
  unfolding copy_at
  copy_front t l = get_or-take k m (4 * R + t) 0 (omega arith)

  closed_front : closed_at R n (take k m) ≡ closed_at R n m
  unfolding closed_at
  closed_front = get_or-take k m (4 * R + n) 0 (omega arith)

  tail_front : tail_at R n (take k m) ≡ tail_at R n m
  unfolding tail_at
  tail_front = get_or-take k m (4 * R + n + 1) 0 (omega arith)

  pub sound_front : (e : ℕ) → sound_image R n e (take k m) ≡ sound_image R n e m
  unfolding sound_image
  sound_front e =
      let a = all_same (λ j. sound_cell R e (cell_at R (take k m) j)) (λ j. sound_cell R e (cell_at R m j)) R (λ j l. rw (cell_front j l)) in
      let b = all_same (λ t. leb (copy_at R (take k m) t) e) (λ t. leb (copy_at R m t) e) n (λ t l. rw (copy_front t l)) in
      rw (a, b, closed_front, tail_front)

  found_front : finds R n (take k m) ≡ finds R n m
  found_front = finds_same R n m (take k m) cell_front copy_front closed_front

  -- stores among the first k numbers
  set_cell_front : (x : List ℕ) (j : ℕ) (c : Cell) → j < R → take k (set_cell R x j c) ≡ set_cell R (take k x) j c
  unfolding set_cell
  set_cell_front x j c l =
      let a0 : 4 * j < k = omega arith in
      let a1 : 4 * j + 1 < k = omega arith in
      let a2 : 4 * j + 2 < k = omega arith in
      let a3 : 4 * j + 3 < k = omega arith in
      simp take-set-lt

  cells_front : (f : ℕ → Cell → Cell) (j : ℕ) → j ≤ R → cells_to R f (take k m) j ≡ take k (cells_to R f m j)
  cells_front f zero l = refl
  cells_front f (suc j) l =
      rw (cells_front f j (omega arith), cell_front j (omega arith)) (sym (set_cell_front (cells_to R f m j) j (f j (cell_at R m j)) (omega arith)))

  copies_front : (v : ℕ) (x : List ℕ) (t : ℕ) → t ≤ n → copies_to R v (take k x) t ≡ take k (copies_to R v x t)
  unfolding set_copy
  copies_front v x zero l = refl
  copies_front v x (suc t) l = rw (copies_front v x t (omega arith)) (sym (take-set-lt k (copies_to R v x t) (4 * R + t) v (omega arith)))

  -- recovery by what was found
  abbrev by : Found → List ℕ → List ℕ
  by f x = set_tail R n (copies_to R f.head (cells_to R (λ j. mended R f.mark f.head) x R) n) f.tail

  by_front : (f : Found) → by f (take k m) ≡ take k (by f m)
  unfolding set_tail
  by_front f =
      let c = cells_to R (λ j. mended R f.mark f.head) m R in
      rw (cells_front (λ j. mended R f.mark f.head) R (omega arith), copies_front f.head c n (omega arith))
      (sym (take-set-lt k (copies_to R f.head c n) (4 * R + n + 1) f.tail (omega arith)))

  pub recovered_front : recovered R n (take k m) ≡ take k (recovered R n m)
  unfolding recovered finds
  recovered_front = ap (λ (f : Found). by f (take k m)) found_front ∙ by_front (finds R n m)

-- the refusal is the same for the first 266 numbers, or for all if there are fewer
pub refusal_front : (R n S e : ℕ) (m : List ℕ) → kept_refusal R n S e (take 266 m) ≡ kept_refusal R n S e m
unfolding kept_refusal
refusal_front R n S e m = tested (not (in_range R n S && leb e run_limit)) refl
  where
    tested : (b : Bool) → not (in_range R n S && leb e run_limit) ≡ b
        → refuse b 8 (refuse (short R n (take 266 m)) 10 (refuse (not (sound_image R n e (take 266 m))) 12 0)) ≡ refuse b 8 (refuse (short R n m) 10 (refuse (not (sound_image R n e m)) 12 0))
    tested true q = refl
    tested false q =
        let r = range_of R n S (both _ _ (not-false _ q)).0 in
        let s = sound_front R n 266 m (omega arith) e in
        rw (s, short_front R n m (omega arith))

-- what an image is that was not refused
pub kept_by : (R n S e : ℕ) (m : List ℕ) → 0 ≡ kept_refusal R n S e m → SoundKept R n S e m
kept_by R n S e m k = kept_of R n S e m (sym k)

-- so its sizes are small, and it is as long as they say
pub sizes : (R n S e : ℕ) (m : List ℕ) → 0 ≡ kept_refusal R n S e m → (R ≤ 64) × (n ≤ 8) × (size R n ≤ length m)
sizes R n S e m k = let h = kept_by R n S e m k in (h.range.most_cells, h.range.most_threads, h.long)

-- of m, the numbers in front of the bytes b: as many as there are, and 266 at most
module _ (R n S e : ℕ) (b m : List ℕ) (k : ℕ) (read : m ≡ numbers_to b k) (count : k ≡ min (length b / 4) 266) where
  front : m ≡ take 266 (numbers_of b)
  unfolding numbers_of
  front = elim (dec_lt 266 (length b / 4)) [
    | yes l ↦ let z : k ≡ 266 = omega arith in read ∙ ap (numbers_to b) z ∙ sym (take-numbers b 266 (length b / 4) (omega arith))
    | no g ↦
        let z : k ≡ length b / 4 = omega arith in
        read ∙ ap (numbers_to b) z ∙ sym (take_all 266 (numbers_to b (length b / 4)) (omega (arith, length-numbers b (length b / 4))))
  ]

  refusal_by : kept_refusal R n S e m ≡ host_refusal R n S e b
  refusal_by = ap (kept_refusal R n S e) front ∙ (refusal_front R n S e (numbers_of b) ∙ sym (refusal_of R n S e b))

  -- a refusal of those numbers is the refusal of the bytes
  pub refused_by : (r : Refusal) → number_of r ≡ kept_refusal R n S e m → (number_of r ≡ host_refusal R n S e b) × (b ≡ host_bytes R n S e b)
  unfolding host_bytes
  refused_by r k = (k ∙ refusal_by, rw (ne_eqb _ _ (λ (q : host_refusal R n S e b ≡ 0). numbered r (k ∙ refusal_by ∙ q))))

  -- where they are recovered to w, and as many of w as an image has are put in front of the bytes, the bytes are recovered
  pub recovered_by : (w x : List ℕ) → 0 ≡ kept_refusal R n S e m → w ≡ host_kept R n S e m → x ≡ bytes_to (take (size R n) w) b (length (take (size R n) w))
      → size R n ≤ length w → (0 ≡ host_refusal R n S e b) × (x ≡ host_bytes R n S e b)
  unfolding host_kept host_bytes
  recovered_by w x k h y long =
      let q = sym k in
      let c = (kept_of R n S e m q).range.most_cells in
      let t = (kept_of R n S e m q).range.most_threads in
      let fits : size R n ≤ 266 = omega arith in (
        sym q ∙ refusal_by,
        rw (y, length-take-le (size R n) w long, bytes_take w b (size R n) (size R n) (omega arith), h, eq-eqb _ _ q, eq-eqb _ _ (sym refusal_by ∙ q), front, recovered_front R n 266 (numbers_of b) fits)
            (bytes_take (recovered R n (numbers_of b)) b 266 (size R n) fits),
      )
