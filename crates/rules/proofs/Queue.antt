-- The queue is the occupied cells with index ≥ pass mark, each once, by rising index, equal indexes by cell. The listing is its items, in its order.
use Prim.Native.Nat.{ℕ, zero, suc, ◌+◌, ◌-◌, ◌≤◌, ◌<◌}
use mathlib.Core.Path.{◌≡◌, refl, sym, ap, ◌∙◌}
use mathlib.Core.Logic.{◌≢◌, ◌⊎◌, inl, inr}
use mathlib.Core.Bool.{Bool, true, false, cond, ◌&&◌}
use mathlib.Core.List.Memᴰ
use mathlib.Core.List.{List, [], ◌∷◌, ◌++◌, map, append-nil, Memᴰ}
use native.Mathlib.Omega.{arith}
use native.Mathlib.Decide.{ℕ_discrete}
use lib.Dec.{eqb}
use lib.ListN.{length, length-append, length-map}
use borrow.Author.Tests.{eqb-true, eq-eqb, ne_eqb}
use Rattle.rules.specs.Upto.{count_to, join_from}
use Rattle.rules.specs.Memory.{cell_at}
use Rattle.rules.specs.Cut.{pass_mark, queued, head_to, tail_of, head_of, count_of, finds, Entry, entry, entry_if, entries_at, queue_of}
use Rattle.rules.specs.Listing.{items}
use Rattle.rules.proofs.Tests.{cond_cases, both}
use Rattle.rules.proofs.Recovered.{queued_is, is_queued, tail_over, tail_under, head_low, mark_to_head, head_to_tail}
use Rattle.rules.proofs.Joined.{count_most, join_same, join_none, join_split, join_from_lem, in_join, map-join}
use Rattle.rules.proofs.Rising.{Rising, none, next, rising_one, rising_join, rising_last, rising_map}

-- the entry of cell j, and when cell a comes before cell b
abbrev pub entry_of : ℕ → List ℕ → ℕ → Entry
entry_of R m j = entry (cell_at R m j).index (cell_at R m j).item

abbrev pub Before : ℕ → List ℕ → ℕ → ℕ → Type 0
Before R m a b = ((cell_at R m a).index < (cell_at R m b).index) ⊎ (((cell_at R m a).index ≡ (cell_at R m b).index) × (a < b))

-- the queue's cells, in its order
unfoldable pub cell_if : ℕ → ℕ → List ℕ → ℕ → ℕ → List ℕ
cell_if R mark m x j = cond (queued mark (cell_at R m j) && eqb (cell_at R m j).index x) (j ∷ []) []

unfoldable pub cells_at : ℕ → ℕ → List ℕ → ℕ → List ℕ
cells_at R mark m x = join_from (cell_if R mark m x) 0 R

unfoldable pub queue_cells : ℕ → ℕ → List ℕ → List ℕ
queue_cells R n m = let mark = pass_mark R n m in join_from (cells_at R mark m) mark (tail_of R mark m - mark)

module _ (R mark : ℕ) (m : List ℕ) where
  entry_is : (x j : ℕ) → entry_if R mark m x j ≡ map (entry_of R m) (cell_if R mark m x j)
  unfolding entry_if cell_if
  entry_is x j = by (queued mark (cell_at R m j)) (eqb (cell_at R m j).index x) refl
    where
      by : (a b : Bool) → eqb (cell_at R m j).index x ≡ b → cond (a && b) (entry x (cell_at R m j).item ∷ []) [] ≡ map (entry_of R m) (cond (a && b) (j ∷ []) [])
      by false b e = refl
      by true false e = refl
      by true true e = ap (λ v. entry v (cell_at R m j).item ∷ []) (sym (eqb-true _ _ e))

  entries_are : (x : ℕ) → entries_at R mark m x ≡ map (entry_of R m) (cells_at R mark m x)
  unfolding entries_at cells_at
  entries_are x = join_same _ _ 0 R (λ j a b. entry_is x j) ∙ sym (map-join (entry_of R m) (cell_if R mark m x) 0 R)

  -- a cell among those under x
  if_cell : (x j i : ℕ) → Memᴰ i (cell_if R mark m x j) → (i ≡ j) × (queued mark (cell_at R m j) ≡ true) × ((cell_at R m j).index ≡ x)
  unfolding cell_if
  if_cell x j i h = by (queued mark (cell_at R m j) && eqb (cell_at R m j).index x) refl h
    where
      by : (b : Bool) → (queued mark (cell_at R m j) && eqb (cell_at R m j).index x) ≡ b → Memᴰ i (cond b (j ∷ []) []) → (i ≡ j) × (queued mark (cell_at R m j) ≡ true) × ((cell_at R m j).index ≡ x)
      by true e p = let q = both _ _ e in (Memᴰ.eq_of_singleton p, q.0, eqb-true _ _ q.1)
      by false e p = absurd (Memᴰ.not-nil p)

  at_cell : (x i : ℕ) → Memᴰ i (cells_at R mark m x) → (i < R) × (queued mark (cell_at R m i) ≡ true) × ((cell_at R m i).index ≡ x)
  unfolding cells_at
  at_cell x i h =
      let z = join_from_lem (cell_if R mark m x) 0 R h in
      let y = if_cell x z.0 i z.3 in
      rw y.0 (omega arith, y.1, y.2)

  cell_at_lem : (j : ℕ) → j < R → queued mark (cell_at R m j) ≡ true → Memᴰ j (cells_at R mark m (cell_at R m j).index)
  unfolding cells_at cell_if
  cell_at_lem j l q = in_join (cell_if R mark m (cell_at R m j).index) 0 R j (omega arith) (omega arith) (rw (q, eq-eqb (cell_at R m j).index (cell_at R m j).index refl) (Memᴰ.head refl))

  if_rises : (x j : ℕ) → Rising (Before R m) (cell_if R mark m x j)
  unfolding cell_if
  if_rises x j = cond_cases (Rising (Before R m)) (queued mark (cell_at R m j) && eqb (cell_at R m j).index x) (λ e. rising_one (Before R m) j) (λ e. none)

  at_rises : (x : ℕ) → Rising (Before R m) (cells_at R mark m x)
  unfolding cells_at
  at_rises x = rising_join (Before R m) (cell_if R mark m x) 0 R (if_rises x)
      (λ i j l a b p q. let y = if_cell x i a p in let z = if_cell x j b q in rw (y.0, z.0) (inr (y.2 ∙ sym z.2, l)))

-- one list of one member among empty ones
abbrev hot : ℕ → ℕ → ℕ → List ℕ
hot j v x = cond (eqb v x) (j ∷ []) []

one_hot : (j v lo k : ℕ) → lo ≤ v → v < lo + k → length (join_from (hot j v) lo k) ≡ 1
one_hot j v lo zero a b = absurd (omega arith)
one_hot j v lo (suc k) a b = elim (ℕ_discrete v lo) [
  | yes e ↦ rw (eq-eqb v lo e, join_none (hot j v) (suc lo) k (λ x p q. rw (ne_eqb v x (omega arith))))
  | no d ↦ rw (ne_eqb v lo d) (one_hot j v (suc lo) k (omega arith) (omega arith))
]

length-join : (f g : ℕ → List ℕ) (lo k : ℕ) → length (join_from (λ x. f x ++ g x) lo k) ≡ length (join_from f lo k) + length (join_from g lo k)
length-join f g lo zero = refl
length-join f g lo (suc k) = simp (length-append, length-join f g (suc lo) k) (omega arith)

join_more : (f : ℕ → List ℕ) (k : ℕ) → join_from f 0 (suc k) ≡ join_from f 0 k ++ f k
join_more f k =
    let e : suc k ≡ k + 1 = omega arith in
    let z : 0 + k ≡ k = omega arith in
    ap (join_from f 0) e ∙ (join_split f 0 k 1 ∙ rw (z, append-nil (f k)))

module _ (R n : ℕ) (m : List ℕ) where
  abbrev mark : ℕ
  mark = pass_mark R n m

  abbrev tail : ℕ
  tail = tail_of R mark m

  -- the queue is the entries of its cells
  pub queue_is : queue_of R n m ≡ map (entry_of R m) (queue_cells R n m)
  unfolding queue_of queue_cells
  queue_is = join_same _ _ mark (tail - mark) (λ x a b. entries_are R mark m x) ∙ sym (map-join (entry_of R m) (cells_at R mark m) mark (tail - mark))

  -- they are the cells that are occupied with index ≥ pass mark, and all of these
  pub cells_only : (j : ℕ) → Memᴰ j (queue_cells R n m) → (j < R) × (queued mark (cell_at R m j) ≡ true)
  unfolding queue_cells
  cells_only j h =
      let z = join_from_lem (cells_at R mark m) mark (tail - mark) h in
      let y = at_cell R mark m z.0 j z.3 in
      (y.0, y.1)

  in_tail : (j : ℕ) → j < R → queued mark (cell_at R m j) ≡ true → (mark ≤ (cell_at R m j).index) × ((cell_at R m j).index < mark + (tail - mark))
  unfolding tail_of
  in_tail j l q =
      let a = (queued_is mark (cell_at R m j) q).1 in
      let b = tail_over R mark m R j l q in
      (a, omega arith)

  pub cells_all : (j : ℕ) → j < R → queued mark (cell_at R m j) ≡ true → Memᴰ j (queue_cells R n m)
  unfolding queue_cells
  cells_all j l q = let a = in_tail j l q in in_join (cells_at R mark m) mark (tail - mark) (cell_at R m j).index a.0 a.1 (cell_at_lem R mark m j l q)

  -- by rising index, equal indexes by cell
  pub cells_rise : Rising (Before R m) (queue_cells R n m)
  unfolding queue_cells
  cells_rise =
      rising_join (Before R m) (cells_at R mark m) mark (tail - mark) (at_rises R mark m)
      (λ x y l a b p q. let u = (at_cell R mark m x a p).2 in let v = (at_cell R mark m y b q).2 in inl (omega arith))

  -- how many of the first k cells are in the queue
  column : (j : ℕ) → j < R → length (join_from (λ x. cell_if R mark m x j) mark (tail - mark)) ≡ cond (queued mark (cell_at R m j)) 1 0
  unfolding cell_if
  column j l = by (queued mark (cell_at R m j)) refl
    where
      by : (b : Bool) → queued mark (cell_at R m j) ≡ b → length (join_from (λ x. cond (b && eqb (cell_at R m j).index x) (j ∷ []) []) mark (tail - mark)) ≡ cond b 1 0
      by true q = let a = in_tail j l q in one_hot j (cell_at R m j).index mark (tail - mark) a.0 a.1
      by false q = ap length (join_none (λ x. []) mark (tail - mark) (λ x a b. refl))

  columns : (k : ℕ) → k ≤ R → length (join_from (λ x. join_from (cell_if R mark m x) 0 k) mark (tail - mark)) ≡ count_to (λ j. queued mark (cell_at R m j)) k
  columns zero l = ap length (join_none (λ x. []) mark (tail - mark) (λ x a b. refl))
  columns (suc k) l =
      ap length (join_same _ _ mark (tail - mark) (λ x a b. join_more (cell_if R mark m x) k))
      ∙ (length-join (λ x. join_from (cell_if R mark m x) 0 k) (λ x. cell_if R mark m x k) mark (tail - mark)
      ∙ rw (columns k (omega arith), column k (omega arith)) (by (queued mark (cell_at R m k)) (count_to (λ j. queued mark (cell_at R m j)) k)))
    where
      by : (b : Bool) (c : ℕ) → c + cond b 1 0 ≡ cond b (suc c) c
      by true c = omega arith
      by false c = omega arith

  -- the queue's length is the cut's count, at most R
  pub queue_length : length (queue_of R n m) ≡ (finds R n m).count
  unfolding queue_cells cells_at count_of finds
  queue_length = ap length queue_is ∙ (length-map (queue_cells R n m) (entry_of R m) ∙ columns R (omega arith))

  pub count_bound : (finds R n m).count ≤ R
  unfolding finds count_of
  count_bound = count_most (λ j. queued mark (cell_at R m j)) R

  -- the listing's length too
  pub items_length : length (items R n m) ≡ (finds R n m).count
  unfolding items
  items_length = length-map (queue_of R n m) (λ (e : Entry). e.item) ∙ queue_length

  -- every occupied cell with index ≥ pass mark is queued under its index
  pub queue_all : (j : ℕ) → j < R → (cell_at R m j).item ≢ 0 → mark ≤ (cell_at R m j).index → Memᴰ (entry_of R m j) (queue_of R n m)
  queue_all j l z h = rw queue_is (Memᴰ.map (entry_of R m) (cells_all j l (is_queued mark (cell_at R m j) z h)))

  -- and nothing else is
  pub queue_only : (e : Entry) → Memᴰ e (queue_of R n m) → (j : ℕ) × (j < R) × ((cell_at R m j).item ≢ 0) × (mark ≤ (cell_at R m j).index) × (entry_of R m j ≡ e)
  queue_only e h =
      let z = Memᴰ.of_map (entry_of R m) (queue_cells R n m) (rw queue_is at h) in
      let c = cells_only z.0 z.1 in
      let q = queued_is mark (cell_at R m z.0) c.1 in
      (z.0, c.0, q.0, q.1, z.2)

  -- numbers rise, strictly where no two queued cells have one index
  pub numbers_rise : Rising (λ (a b : Entry). a.number ≤ b.number) (queue_of R n m)
  numbers_rise = rw queue_is (rising_map (Before R m) (λ (a b : Entry). a.number ≤ b.number) (entry_of R m) (queue_cells R n m) (λ a b p q. weaken a b) cells_rise)
    where
      weaken : (a b : ℕ) → Before R m a b → (cell_at R m a).index ≤ (cell_at R m b).index
      weaken a b (inl l) = omega arith
      weaken a b (inr p) = omega (arith, p.0)

  pub numbers_rise_strictly : ((i j : ℕ) → i < R → j < R → queued mark (cell_at R m i) ≡ true → queued mark (cell_at R m j) ≡ true → (cell_at R m i).index ≡ (cell_at R m j).index → i ≡ j)
      → Rising (λ (a b : Entry). a.number < b.number) (queue_of R n m)
  numbers_rise_strictly apart =
      rw queue_is (rising_map (Before R m) (λ (a b : Entry). a.number < b.number) (entry_of R m) (queue_cells R n m)
      (λ a b p q. let u = cells_only a p in let v = cells_only b q in strict a b (apart a b u.0 v.0 u.1 v.1)) cells_rise)
    where
      strict : (a b : ℕ) → ((cell_at R m a).index ≡ (cell_at R m b).index → a ≡ b) → Before R m a b → (cell_at R m a).index < (cell_at R m b).index
      strict a b f (inl l) = l
      strict a b f (inr p) = absurd (omega arith)

  -- Head is the first number, Tail the last + 1, both the pass mark if nothing is queued
  head_high : (b t k : ℕ) → b ≤ t → ((j : ℕ) → j < k → queued mark (cell_at R m j) ≡ true → b ≤ (cell_at R m j).index) → b ≤ head_to R mark t m k
  head_high b t zero l h = l
  head_high b t (suc k) l h =
      let u = head_high b t k l (λ j r q. h j (omega arith) q) in
      cond_cases (λ v. b ≤ v) (queued mark (cell_at R m k)) (λ q. omega (arith, h k (omega arith) q)) (λ q. u)

  pub head_first : (e : Entry) (rest : List Entry) → queue_of R n m ≡ e ∷ rest → (finds R n m).head ≡ e.number
  unfolding finds head_of tail_of
  head_first e rest q =
      let z = queue_only e (rw q (Memᴰ.head refl)) in
      let i = cell_at R m z.0 in
      let n : i.index ≡ e.number = ap (λ (e : Entry). e.number) z.4 in
      let w = is_queued mark i z.2 z.3 in
      let a = head_low R mark m tail R z.0 z.1 w in
      let b = tail_over R mark m R z.0 z.1 w in
      let d = head_high e.number tail R (omega arith) (λ j l p. let y = queued_is mark (cell_at R m j) p in first q (queue_all j l y.0 y.1)) in
      omega arith
    where
      least : {l : List Entry} → Rising (λ (a b : Entry). a.number ≤ b.number) (e ∷ l) → (d : Entry) → Memᴰ d (e ∷ l) → e.number ≤ d.number
      least {l} (next f r) d p = by (Memᴰ.cases_cons p)
        where
          by : (d ≡ e) ⊎ Memᴰ d l → e.number ≤ d.number
          by (inl q) = omega (arith, ap (λ (e : Entry). e.number) q)
          by (inr p) = f d p

      first : queue_of R n m ≡ e ∷ rest → {d : Entry} → Memᴰ d (queue_of R n m) → e.number ≤ d.number
      first q {d} p = least (rw q at numbers_rise) d (rw q at p)

  pub tail_last : (e : Entry) (front : List Entry) → queue_of R n m ≡ front ++ (e ∷ []) → (finds R n m).tail ≡ e.number + 1
  unfolding finds tail_of
  tail_last e front q =
      let z = queue_only e (rw q (Memᴰ.append_right front (Memᴰ.head refl))) in
      let i = cell_at R m z.0 in
      let n : i.index ≡ e.number = ap (λ (e : Entry). e.number) z.4 in
      let w = is_queued mark i z.2 z.3 in
      let b = tail_over R mark m R z.0 z.1 w in
      let d = tail_under R mark m (e.number + 1) (omega (arith, z.3)) (λ j l p. let y = queued_is mark (cell_at R m j) p in let u = last q (queue_all j l y.0 y.1) in omega arith) R (omega arith) in
      omega arith
    where
      last : queue_of R n m ≡ front ++ (e ∷ []) → {d : Entry} → Memᴰ d (queue_of R n m) → d.number ≤ e.number
      last q {d} p = by (Memᴰ.append_cases front (rw q at p))
        where
          by : Memᴰ d front ⊎ Memᴰ d (e ∷ []) → d.number ≤ e.number
          by (inl p) = rising_last (λ (a b : Entry). a.number ≤ b.number) front e d (rw q at numbers_rise) p
          by (inr p) = omega (arith, ap (λ (e : Entry). e.number) (Memᴰ.eq_of_singleton p))

  pub none_queued : queue_of R n m ≡ [] → ((finds R n m).head ≡ mark) × ((finds R n m).tail ≡ mark)
  unfolding finds head_of tail_of
  none_queued q =
      let d = tail_under R mark m mark (omega arith) (λ j l p. let y = queued_is mark (cell_at R m j) p in absurd (Memᴰ.not-nil (rw q at (queue_all j l y.0 y.1)))) R (omega arith) in
      let b = head_to_tail R mark m in
      let c = mark_to_head R mark m in
      (omega arith, omega arith)
