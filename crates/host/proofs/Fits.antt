-- Every number of a recovered image fits into 32 bits.
use Prim.Native.Nat.{ℕ, zero, suc, ◌+◌, ◌*◌, ◌≤◌, ◌<◌}
use mathlib.Core.Bool.{◌&&◌, not}
use mathlib.Core.List.{List}
use native.Mathlib.Omega.{arith}
use native.Mathlib.Decide.{dec_lt}
use lib.Dec.{lit<, ltb}
use lib.ListN.{get_or, set, get_or-eq_default}
use Rattle.rules.specs.declared.Cell.{Cell}
use Rattle.rules.specs.Numbers.{max_cells, run_limit}
use Rattle.rules.specs.Memory.{cell_at, set_cell, set_copy, set_tail, cells_to, copies_to}
use Rattle.rules.specs.Table.{blank}
use Rattle.rules.specs.Cut.{pass_mark, tail_of, head_of, mended, recovered}
use Rattle.rules.proofs.Tests.{cond_cases, set_cases}
use Rattle.rules.proofs.Recovered.{head_bound, tail_bound}
use Rattle.rules.proofs.Kept.{SoundKept}
use Rattle.host.specs.Bytes.{number_at, numbers_to}
use Rattle.host.proofs.Laws.{length-numbers, number_of}

-- every number of the list fits into 32 bits, every byte into 8
abbrev pub Numbers : List ℕ → Type 0
Numbers m = (i : ℕ) → get_or m i 0 < 4294967296

abbrev pub Bytes : List ℕ → Type 0
Bytes b = (i : ℕ) → get_or b i 0 < 256

pub numbers_fit : (b : List ℕ) (k : ℕ) → Bytes b → Numbers (numbers_to b k)
unfolding number_at
numbers_fit b k u i = elim (dec_lt i k) [
  | yes l ↦ rw (number_of b k i l) (omega (arith, u (4 * i), u (4 * i + 1), u (4 * i + 2), u (4 * i + 3)))
  | no g ↦ rw (get_or-eq_default (numbers_to b k) 0 {n = i} (omega (arith, length-numbers b k))) (lit< tt)
]

-- stores keep it so
set-fits : (m : List ℕ) (j x : ℕ) → Numbers m → x < 4294967296 → Numbers (set m j x)
set-fits m j x u l i = set_cases (λ v. v < 4294967296) m i j x 0 (λ e. l) (λ d. u i) (u i)

pub record Fits (c : Cell) : Type 0 where
  pub safe : c.safe < 4294967296
  pub index : c.index < 4294967296
  pub item : c.item < 4294967296
  pub mark : c.mark < 4294967296

cells_fit : (R : ℕ) (f : ℕ → Cell → Cell) (m : List ℕ) (k : ℕ) → Numbers m → ((j : ℕ) → j < k → Fits (f j (cell_at R m j))) → Numbers (cells_to R f m k)
unfolding set_cell
cells_fit R f m zero u h = u
cells_fit R f m (suc k) u h =
    let d = f k (cell_at R m k) in
    let c = h k (omega arith) in
    let m0 = cells_to R f m k in
    let m1 = set m0 (4 * k) d.safe in
    let m2 = set m1 (4 * k + 1) d.index in
    let m3 = set m2 (4 * k + 2) d.item in
    let u0 = cells_fit R f m k u (λ j l. h j (omega arith)) in
    set-fits m3 (4 * k + 3) d.mark
    (set-fits m2 (4 * k + 2) d.item (set-fits m1 (4 * k + 1) d.index (set-fits m0 (4 * k) d.safe u0 c.safe) c.index) c.item) c.mark

copies_fit : (R v : ℕ) (m : List ℕ) (k : ℕ) → Numbers m → v < 4294967296 → Numbers (copies_to R v m k)
unfolding set_copy
copies_fit R v m zero u l = u
copies_fit R v m (suc k) u l = set-fits (copies_to R v m k) (4 * R + k) v (copies_fit R v m k u l) l

-- a mended cell, and so every number of a recovered image
mended-fits : (R mark head e : ℕ) (c : Cell) → Fits c → R ≤ max_cells → e ≤ run_limit → c.index < e + R → head ≤ e → Fits (mended R mark head c)
unfolding mended
mended-fits R mark head e c f r l h k =
    cond_cases Fits (not (blank c) && ltb c.index mark)
    (λ q. record { safe = lit< tt; index = omega arith; item = lit< tt; mark = omega arith })
    (λ q. record { safe = lit< tt; index = f.index; item = f.item; mark = omega arith })

cell-fits : (R : ℕ) (m : List ℕ) (j : ℕ) → Numbers m → Fits (cell_at R m j)
unfolding cell_at
cell-fits R m j u = record { safe = u (4 * j); index = u (4 * j + 1); item = u (4 * j + 2); mark = u (4 * j + 3) }

pub recovered-fits : (R n S e : ℕ) (m : List ℕ) → Numbers m → SoundKept R n S e m → Numbers (recovered R n m)
unfolding recovered set_tail
recovered-fits R n S e m u s =
    let mark = pass_mark R n m in
    let head = head_of R mark m in
    let hb = head_bound R n e m s.image in
    let tb = tail_bound R n e m s.image in
    let eb = s.events in
    let c : (j : ℕ) → j < R → Fits (mended R mark head (cell_at R m j)) = λ j l. mended-fits R mark head e (cell_at R m j) (cell-fits R m j u) s.range.most_cells eb (s.image.cells j l).blank hb in
    let m1 = cells_to R (λ j. mended R mark head) m R in
    let m2 = copies_to R head m1 n in
    set-fits m2 (4 * R + n + 1) (tail_of R mark m) (copies_fit R head m1 n (cells_fit R (λ j. mended R mark head) m R u c) (omega arith)) (omega arith)
