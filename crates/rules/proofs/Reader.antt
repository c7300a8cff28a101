-- The cell reader hands back the four numbers of one cell of the chosen image, or a part of length 0.
use Prim.Native.Nat.{ℕ, suc, ◌+◌, ◌*◌, ◌≤◌, ◌<◌}
use mathlib.Core.Path.{◌≡◌, refl}
use mathlib.Core.List.{List, [], ◌∷◌, ◌++◌, map}
use mathlib.Core.Bool.{Bool, true, false}
use native.Mathlib.Omega.{arith}
use lib.Dec.{leb, ltb}
use lib.ListN.{length, replicate}
use lib.Seq.{drop-cons}
use borrow.Author.Tests.{leb-true, ltb-true}
use Rattle.rules.specs.declared.Cell.{Cell}
use Rattle.rules.specs.Numbers.{max_cells}
use Rattle.rules.specs.Memory.{cell_at, cell_numbers}
use Rattle.rules.specs.Reader.{chosen, readable, cell_part}
use Rattle.rules.proofs.Tests.{both}

-- safe, index, item, mark
abbrev pub in_order : Cell → List ℕ
in_order c = c.safe ∷ c.index ∷ c.item ∷ c.mark ∷ []

cell-numbers : (R : ℕ) (m : List ℕ) (j : ℕ) → 4 * j + 4 ≤ length m → cell_numbers R m j ≡ in_order (cell_at R m j)
unfolding cell_numbers cell_at
cell-numbers R m j h =
    let k = 4 * j in
    let p1 : 4 * j + 1 ≡ suc k = omega arith in
    let p2 : 4 * j + 2 ≡ suc (suc k) = omega arith in
    let p3 : 4 * j + 3 ≡ suc (suc (suc k)) = omega arith in
    let e0 = drop-cons m k 0 (omega arith) in
    let e1 = drop-cons m (suc k) 0 (omega arith) in
    let e2 = drop-cons m (suc (suc k)) 0 (omega arith) in
    let e3 = drop-cons m (suc (suc (suc k))) 0 (omega arith) in
    rw (p1, p2, p3, e0, e1, e2, e3)

-- a readable cell lies within the image
pub part_fits : (R j : ℕ) (m : List ℕ) → readable R j m ≡ true → 4 * j + 4 ≤ length m
unfolding readable
part_fits R j m h =
    let a = (both (leb 1 R) _ h).1 in
    let b = (both (leb R max_cells) _ a).1 in
    let d = both (ltb j R) (leb (4 * R) (length m)) b in
    let l = ltb-true j R d.0 in
    let f = leb-true (4 * R) (length m) d.1 in
    room l f
  where
    room : {k : ℕ} → j < R → 4 * R ≤ k → 4 * j + 4 ≤ k
    room l f = omega arith

module _ (isKept : Bool) (R j : ℕ) (running kept : List ℕ) where
  pub part_is_cell : readable R j (chosen isKept running kept) ≡ true → cell_part isKept R j running kept ≡ in_order (cell_at R (chosen isKept running kept) j)
  unfolding cell_part
  part_is_cell h = let m = chosen isKept running kept in rw h (cell-numbers R m j (part_fits R j m h))

  pub part_refused : readable R j (chosen isKept running kept) ≡ false → cell_part isKept R j running kept ≡ []
  unfolding cell_part
  part_refused h = rw h

-- refused exactly for R out of range, cell ≥ R, or chosen image under 4R numbers
pub readable_edges :
    map (λ (R : ℕ). readable R 0 (replicate 260 0)) (0 ∷ 1 ∷ 64 ∷ 65 ∷ []) ++ map (λ (j : ℕ). readable 2 j (replicate 8 0)) (1 ∷ 2 ∷ [])
    ++ map (λ (k : ℕ). readable 2 0 (replicate k 0)) (7 ∷ 8 ∷ [])
    ≡ false ∷ true ∷ true ∷ false ∷ true ∷ false ∷ false ∷ true ∷ []
unfolding readable
readable_edges = refl

-- told which: kept or running
pub chosen_edges : cell_part true 1 0 (1 ∷ 2 ∷ 3 ∷ 4 ∷ []) (5 ∷ 6 ∷ 7 ∷ 8 ∷ []) ++ cell_part false 1 0 (1 ∷ 2 ∷ 3 ∷ 4 ∷ []) (5 ∷ 6 ∷ 7 ∷ 8 ∷ [])
    ≡ 5 ∷ 6 ∷ 7 ∷ 8 ∷ 1 ∷ 2 ∷ 3 ∷ 4 ∷ []
unfolding cell_part readable cell_numbers
chosen_edges = refl
