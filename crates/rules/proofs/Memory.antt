-- Laws of memory: what each view of an image reads after each store.
use Prim.Native.Nat.{ℕ, zero, suc, ◌+◌, ◌*◌, ◌≤◌, ◌<◌}
use mathlib.Core.Path.{◌≡◌, refl, ◌∙◌}
use mathlib.Core.Logic.{◌≢◌}
use mathlib.Core.List.{List}
use native.Mathlib.Omega.{arith}
use native.Mathlib.Decide.{ℕ_discrete}
use lib.ListN.{length, get_or, set, length-set}
use lib.Seq.{get_or-set_other, get_or-set_same}
use Rattle.rules.specs.declared.Cell.{Cell}
use Rattle.rules.specs.Memory.{cell_at, set_cell, copy_at, set_copy, closed_at, set_closed, tail_at, set_tail, size, cells_to, copies_to, over_to}

-- lengths stay
pub length-set_cell : (R : ℕ) (m : List ℕ) (j : ℕ) (c : Cell) → length (set_cell R m j c) ≡ length m
unfolding set_cell
length-set_cell R m j c = simp length-set

pub length-set_copy : (R : ℕ) (m : List ℕ) (t v : ℕ) → length (set_copy R m t v) ≡ length m
unfolding set_copy
length-set_copy R m t v = length-set m _ _

pub length-set_closed : (R n : ℕ) (m : List ℕ) (v : ℕ) → length (set_closed R n m v) ≡ length m
unfolding set_closed
length-set_closed R n m v = length-set m _ _

pub length-set_tail : (R n : ℕ) (m : List ℕ) (v : ℕ) → length (set_tail R n m v) ≡ length m
unfolding set_tail
length-set_tail R n m v = length-set m _ _

pub length-cells_to : (R : ℕ) (f : ℕ → Cell → Cell) (m : List ℕ) (k : ℕ) → length (cells_to R f m k) ≡ length m
length-cells_to R f m zero = refl
length-cells_to R f m (suc k) = length-set_cell R (cells_to R f m k) k _ ∙ length-cells_to R f m k

pub length-copies_to : (R v : ℕ) (m : List ℕ) (k : ℕ) → length (copies_to R v m k) ≡ length m
length-copies_to R v m zero = refl
length-copies_to R v m (suc k) = length-set_copy R (copies_to R v m k) k v ∙ length-copies_to R v m k

pub length-over_to : (m r : List ℕ) (k : ℕ) → length (over_to m r k) ≡ length r
length-over_to m r zero = refl
length-over_to m r (suc k) = length-set (over_to m r k) k _ ∙ length-over_to m r k

-- a number that is none of a cell's four
apart : (R : ℕ) (m : List ℕ) (j : ℕ) (c : Cell) (k : ℕ) → k ≢ 4 * j → k ≢ 4 * j + 1 → k ≢ 4 * j + 2 → k ≢ 4 * j + 3
    → get_or (set_cell R m j c) k 0 ≡ get_or m k 0
unfolding set_cell
apart R m j c k a0 a1 a2 a3 = simp get_or-set_other

-- a number past the cells
pub number-cell : (R : ℕ) (m : List ℕ) (j : ℕ) (c : Cell) (k : ℕ) → j < R → 4 * R ≤ k → get_or (set_cell R m j c) k 0 ≡ get_or m k 0
number-cell R m j c k h l = apart R m j c k (omega arith) (omega arith) (omega arith) (omega arith)

-- a cell after a store
pub cell_same : (R : ℕ) (m : List ℕ) (j : ℕ) (c : Cell) → 4 * j + 4 ≤ length m → cell_at R (set_cell R m j c) j ≡ c
unfolding cell_at set_cell
cell_same R m j c h =
    let m1 = set m (4 * j) c.safe in
    let m2 = set m1 (4 * j + 1) c.index in
    let m3 = set m2 (4 * j + 2) c.item in
    let l1 : length m1 ≡ length m = length-set m _ _ in
    let l2 : length m2 ≡ length m1 = length-set m1 _ _ in
    let l3 : length m3 ≡ length m2 = length-set m2 _ _ in
    let e0 = get_or-set_same m (4 * j) c.safe 0 (omega arith) in
    let e1 = get_or-set_same m1 (4 * j + 1) c.index 0 (omega arith) in
    let e2 = get_or-set_same m2 (4 * j + 2) c.item 0 (omega arith) in
    let e3 = get_or-set_same m3 (4 * j + 3) c.mark 0 (omega arith) in
    let a1 : 4 * j ≢ 4 * j + 1 = omega arith in
    let a2 : 4 * j ≢ 4 * j + 2 = omega arith in
    let a3 : 4 * j ≢ 4 * j + 3 = omega arith in
    let b2 : 4 * j + 1 ≢ 4 * j + 2 = omega arith in
    let b3 : 4 * j + 1 ≢ 4 * j + 3 = omega arith in
    let d3 : 4 * j + 2 ≢ 4 * j + 3 = omega arith in
    simp (get_or-set_other, e0, e1, e2, e3)

pub cell_other : (R : ℕ) (m : List ℕ) (i j : ℕ) (c : Cell) → i ≢ j → cell_at R (set_cell R m j c) i ≡ cell_at R m i
unfolding cell_at
cell_other R m i j c n =
    let e0 = apart R m j c (4 * i) (omega arith) (omega arith) (omega arith) (omega arith) in
    let e1 = apart R m j c (4 * i + 1) (omega arith) (omega arith) (omega arith) (omega arith) in
    let e2 = apart R m j c (4 * i + 2) (omega arith) (omega arith) (omega arith) (omega arith) in
    let e3 = apart R m j c (4 * i + 3) (omega arith) (omega arith) (omega arith) (omega arith) in
    simp (e0, e1, e2, e3)

-- a cell is as it was after a store past the cells
beyond : (R : ℕ) (m : List ℕ) (j k v : ℕ) → j < R → 4 * R ≤ k → cell_at R (set m k v) j ≡ cell_at R m j
unfolding cell_at
beyond R m j k v h l =
    let a0 : 4 * j ≢ k = omega arith in
    let a1 : 4 * j + 1 ≢ k = omega arith in
    let a2 : 4 * j + 2 ≢ k = omega arith in
    let a3 : 4 * j + 3 ≢ k = omega arith in
    simp get_or-set_other

module _ (R : ℕ) (m : List ℕ) (j : ℕ) (h : j < R) where
  pub cell_copy : (t v : ℕ) → cell_at R (set_copy R m t v) j ≡ cell_at R m j
  unfolding set_copy
  cell_copy t v = beyond R m j (4 * R + t) v h (omega arith)

  pub cell_closed : (n v : ℕ) → cell_at R (set_closed R n m v) j ≡ cell_at R m j
  unfolding set_closed
  cell_closed n v = beyond R m j (4 * R + n) v h (omega arith)

  pub cell_tail : (n v : ℕ) → cell_at R (set_tail R n m v) j ≡ cell_at R m j
  unfolding set_tail
  cell_tail n v = beyond R m j (4 * R + n + 1) v h (omega arith)

  -- copies, closed and Tail after a store of a cell
  pub copy_cell : (c : Cell) (t : ℕ) → copy_at R (set_cell R m j c) t ≡ copy_at R m t
  unfolding copy_at
  copy_cell c t = number-cell R m j c (4 * R + t) h (omega arith)

  pub closed_cell : (c : Cell) (n : ℕ) → closed_at R n (set_cell R m j c) ≡ closed_at R n m
  unfolding closed_at
  closed_cell c n = number-cell R m j c (4 * R + n) h (omega arith)

  pub tail_cell : (c : Cell) (n : ℕ) → tail_at R n (set_cell R m j c) ≡ tail_at R n m
  unfolding tail_at
  tail_cell c n = number-cell R m j c (4 * R + n + 1) h (omega arith)

-- copies
pub copy_same : (R : ℕ) (m : List ℕ) (t v : ℕ) → 4 * R + t < length m → copy_at R (set_copy R m t v) t ≡ v
unfolding copy_at set_copy
copy_same R m t v h = get_or-set_same m (4 * R + t) v 0 h

pub copy_other : (R : ℕ) (m : List ℕ) (i t v : ℕ) → i ≢ t → copy_at R (set_copy R m t v) i ≡ copy_at R m i
unfolding copy_at set_copy
copy_other R m i t v d = get_or-set_other m (4 * R + t) (4 * R + i) v 0 (omega arith)

pub copy_closed : (R n : ℕ) (m : List ℕ) (t v : ℕ) → t < n → copy_at R (set_closed R n m v) t ≡ copy_at R m t
unfolding copy_at set_closed
copy_closed R n m t v h = get_or-set_other m (4 * R + n) (4 * R + t) v 0 (omega arith)

pub copy_tail : (R n : ℕ) (m : List ℕ) (t v : ℕ) → t < n → copy_at R (set_tail R n m v) t ≡ copy_at R m t
unfolding copy_at set_tail
copy_tail R n m t v h = get_or-set_other m (4 * R + n + 1) (4 * R + t) v 0 (omega arith)

-- closed
pub closed_same : (R n : ℕ) (m : List ℕ) (v : ℕ) → 4 * R + n < length m → closed_at R n (set_closed R n m v) ≡ v
unfolding closed_at set_closed
closed_same R n m v h = get_or-set_same m (4 * R + n) v 0 h

pub closed_copy : (R n : ℕ) (m : List ℕ) (t v : ℕ) → t < n → closed_at R n (set_copy R m t v) ≡ closed_at R n m
unfolding closed_at set_copy
closed_copy R n m t v h = get_or-set_other m (4 * R + t) (4 * R + n) v 0 (omega arith)

pub closed_tail : (R n : ℕ) (m : List ℕ) (v : ℕ) → closed_at R n (set_tail R n m v) ≡ closed_at R n m
unfolding closed_at set_tail
closed_tail R n m v = get_or-set_other m (4 * R + n + 1) (4 * R + n) v 0 (omega arith)

-- Tail
pub tail_same : (R n : ℕ) (m : List ℕ) (v : ℕ) → 4 * R + n + 1 < length m → tail_at R n (set_tail R n m v) ≡ v
unfolding tail_at set_tail
tail_same R n m v h = get_or-set_same m (4 * R + n + 1) v 0 h

pub tail_copy : (R n : ℕ) (m : List ℕ) (t v : ℕ) → t < n → tail_at R n (set_copy R m t v) ≡ tail_at R n m
unfolding tail_at set_copy
tail_copy R n m t v h = get_or-set_other m (4 * R + t) (4 * R + n + 1) v 0 (omega arith)

pub tail_closed : (R n : ℕ) (m : List ℕ) (v : ℕ) → tail_at R n (set_closed R n m v) ≡ tail_at R n m
unfolding tail_at set_closed
tail_closed R n m v = get_or-set_other m (4 * R + n) (4 * R + n + 1) v 0 (omega arith)

-- all cells made anew
module _ (R : ℕ) (f : ℕ → Cell → Cell) (m : List ℕ) where
  pub cells_past : (k j : ℕ) → k ≤ j → cell_at R (cells_to R f m k) j ≡ cell_at R m j
  cells_past zero j h = refl
  cells_past (suc k) j h = cell_other R (cells_to R f m k) j k _ (omega arith) ∙ cells_past k j (omega arith)

  pub cells_at : (k j : ℕ) → 4 * k ≤ length m → j < k → cell_at R (cells_to R f m k) j ≡ f j (cell_at R m j)
  cells_at zero j l h = absurd (omega arith)
  cells_at (suc k) j l h =
      let q = length-cells_to R f m k in
      elim (ℕ_discrete j k) [
        | yes e ↦ rw e (cell_same R (cells_to R f m k) k (f k (cell_at R m k)) (omega arith))
        | no d ↦ cell_other R (cells_to R f m k) j k (f k (cell_at R m k)) d ∙ cells_at k j (omega arith) (omega arith)
      ]

  pub number_cells : (k i : ℕ) → k ≤ R → 4 * R ≤ i → get_or (cells_to R f m k) i 0 ≡ get_or m i 0
  number_cells zero i h l = refl
  number_cells (suc k) i h l = number-cell R (cells_to R f m k) k _ i (omega arith) l ∙ number_cells k i (omega arith) l

-- all copies set
module _ (R v : ℕ) (m : List ℕ) where
  pub copies_cell : (k j : ℕ) → j < R → cell_at R (copies_to R v m k) j ≡ cell_at R m j
  copies_cell zero j h = refl
  copies_cell (suc k) j h = cell_copy R (copies_to R v m k) j h k v ∙ copies_cell k j h

  pub copies_at : (k t : ℕ) → 4 * R + k ≤ length m → t < k → copy_at R (copies_to R v m k) t ≡ v
  copies_at zero t l h = absurd (omega arith)
  copies_at (suc k) t l h =
      let q = length-copies_to R v m k in
      elim (ℕ_discrete t k) [
        | yes e ↦ rw e (copy_same R (copies_to R v m k) k v (omega arith))
        | no d ↦ copy_other R (copies_to R v m k) t k v d ∙ copies_at k t (omega arith) (omega arith)
      ]

  pub number_copies : (k i : ℕ) → 4 * R + k ≤ i → get_or (copies_to R v m k) i 0 ≡ get_or m i 0
  unfolding set_copy
  number_copies zero i l = refl
  number_copies (suc k) i l = get_or-set_other (copies_to R v m k) (4 * R + k) i v 0 (omega arith) ∙ number_copies k i (omega arith)

-- an image laid over another
pub over-past : (m r : List ℕ) (k i : ℕ) → k ≤ i → get_or (over_to m r k) i 0 ≡ get_or r i 0
over-past m r zero i h = refl
over-past m r (suc k) i h = get_or-set_other (over_to m r k) k i _ 0 (omega arith) ∙ over-past m r k i (omega arith)

pub over_at : (m r : List ℕ) (k i : ℕ) → k ≤ length r → i < k → get_or (over_to m r k) i 0 ≡ get_or m i 0
over_at m r zero i l h = absurd (omega arith)
over_at m r (suc k) i l h =
    let q = length-over_to m r k in
    elim (ℕ_discrete i k) [
      | yes e ↦ rw e (get_or-set_same (over_to m r k) k (get_or m k 0) 0 (omega arith))
      | no d ↦ get_or-set_other (over_to m r k) k i _ 0 d ∙ over_at m r k i (omega arith) (omega arith)
    ]

-- two images that agree in their first numbers show the same
module _ (R n : ℕ) (m r : List ℕ) (e : (i : ℕ) → i < size R n → get_or r i 0 ≡ get_or m i 0) where
  pub agree_cell : (j : ℕ) → j < R → cell_at R r j ≡ cell_at R m j
  unfolding cell_at
  agree_cell j h =
      let e0 = e (4 * j) (omega arith) in
      let e1 = e (4 * j + 1) (omega arith) in
      let e2 = e (4 * j + 2) (omega arith) in
      let e3 = e (4 * j + 3) (omega arith) in
      simp (e0, e1, e2, e3)

  pub agree_copy : (t : ℕ) → t < n → copy_at R r t ≡ copy_at R m t
  unfolding copy_at
  agree_copy t h = e (4 * R + t) (omega arith)

  pub agree_closed : closed_at R n r ≡ closed_at R n m
  unfolding closed_at
  agree_closed = e (4 * R + n) (omega arith)

  pub agree_tail : tail_at R n r ≡ tail_at R n m
  unfolding tail_at
  agree_tail = e (4 * R + n + 1) (omega arith)
