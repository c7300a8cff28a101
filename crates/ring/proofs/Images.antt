-- Laws of an image's numbers, and of its cells as a list.
use Rattle.std.proofs.Common.{◌≡◌, ◌∙◌, refl, ap, sym, ℕ, zero, suc, ◌+◌, ◌*◌, ◌<◌, ◌≤◌, max, min, Bool, true, false, cond, if◌then◌else◌, Some, None, IsTrue, ◌↔◌, List, [], ◌∷◌, ◌++◌, length, get_or, take, drop, set, map, count_by, append_assoc, arith, length-drop, length-take, length-append, add-one, add-zero, zero-add}
use Rattle.std.specs.List.{fold, range_with_len, filter, filter_map, cons_option, All}
use Rattle.std.proofs.Math.ListN.{replicate, take-append-drop}
use Rattle.std.proofs.Math.Seq.{take-suc, drop-cons}
use Rattle.std.proofs.lemmas.List.{set_at, length-take-le, get_or-take, get_or-drop, length-replicate, replicate-append-replicate}
use Rattle.std.proofs.lemmas.List.FromFn.{fill_by_all, length-map-range_with_len, get_or-map-range_with_len}
use Rattle.rules.specs.declared.Cell.{Cell}
use Rattle.rules.specs.Upto.{all_to, max_to, count_to}
use Rattle.rules.specs.Memory.{over_to, cell_at, cells_in, copy_at, set_copy, copies_to}
use Rattle.rules.specs.Cut.{queued, tail_to, head_to, tail_of, count_of}
use Rattle.rules.proofs.Tests.{all_at, at_all}

-- numbers copied over the front
pub over_front : (m r : List ℕ) (k : ℕ) → k ≤ length m → k ≤ length r → take k m ++ drop k r ≡ over_to m r k
over_front m r zero a b = refl
over_front m r (suc k) a b =
    let h = over_front m r k (omega arith) (omega arith) in
    let l : length (take k m) ≡ k = length-take-le k m (omega arith) in
    let s : set (over_to m r k) k (get_or m k 0) ≡ take k m ++ (get_or m k 0 ∷ drop (suc k) r) =
    rw (← h, drop-cons r k 0 (omega arith)) (set_at (take k m) (get_or r k 0) (drop (suc k) r) (get_or m k 0) k l) in
    rw (take-suc m k 0 (omega arith), append_assoc) (sym s)

-- how many cells stand there
pub length_cells : (m : List ℕ) → 4 * length (cells_in m) ≤ length m
unfolding cells_in
length_cells (a ∷ b ∷ c ∷ d ∷ m) = omega (arith, length_cells m)
length_cells [] = omega arith
length_cells (a ∷ []) = omega arith
length_cells (a ∷ b ∷ []) = omega arith
length_cells (a ∷ b ∷ c ∷ []) = omega arith

-- four numbers in front
four : (m : List ℕ) (p : ℕ) → p + 4 ≤ length m → drop p m ≡ get_or m p 0 ∷ get_or m (p + 1) 0 ∷ get_or m (p + 2) 0 ∷ get_or m (p + 3) 0 ∷ drop (p + 4) m
four m p h =
    let e2 : suc (p + 1) ≡ p + 2 = omega arith in
    let e3 : suc (p + 2) ≡ p + 3 = omega arith in
    let e4 : suc (p + 3) ≡ p + 4 = omega arith in
    rw (drop-cons m p 0 (omega arith), ← add-one p, drop-cons m (p + 1) 0 (omega arith), e2, drop-cons m (p + 2) 0 (omega arith), e3, drop-cons m (p + 3) 0 (omega arith), e4)

-- the cells from place j on, k of them
cells_from : (R : ℕ) (m : List ℕ) (j k : ℕ) → 4 * j + 4 * k ≤ length m → cells_in (take (4 * k) (drop (4 * j) m)) ≡ map (cell_at R m) (range_with_len j k)
unfolding cell_at cells_in
cells_from R m j zero h = refl
cells_from R m j (suc k) h =
    let e : 4 * j + 4 ≡ 4 * (j + 1) = omega arith in
    let n : 4 * suc k ≡ suc (suc (suc (suc (4 * k)))) = omega arith in
    let l : 4 * (j + 1) + 4 * k ≤ length m = omega arith in
    rw (n, four m (4 * j) (omega arith), e) (ap (λ (l : List Cell). cell_at R m j ∷ l) (cells_from R m (j + 1) k l))

-- all cells of an image, and all copies
pub cells_are : (R : ℕ) (m : List ℕ) → 4 * R ≤ length m → cells_in (take (4 * R) m) ≡ map (cell_at R m) (range_with_len 0 R)
cells_are R m h = cells_from R m 0 R (omega arith)

pub copies_are : (R n : ℕ) (m : List ℕ) → 4 * R + n ≤ length m → take n (drop (4 * R) m) ≡ map (copy_at R m) (range_with_len 0 n)
unfolding copy_at
copies_are R n m h =
    fill_by_all (copy_at R m) (take n (drop (4 * R) m)) n 0 (simp (length-take, length-drop) (omega arith))
    (λ k l. get_or-take n (drop (4 * R) m) k 0 l ∙ get_or-drop (4 * R) m k 0)

-- a fold over what a function gives at j .. j + k - 1, against a definition by steps
fold_from : {A B : Type 0} (f : B → A → B) (g : ℕ → A) (to : ℕ → B) (j k : ℕ) → ((i : ℕ) → to (suc i) ≡ f (to i) (g i)) → fold f (to j) (map g (range_with_len j k)) ≡ to (j + k)
fold_from f g to j zero h = ap to (sym (add-zero j))
fold_from f g to j (suc k) h =
    let e : (j + 1) + k ≡ j + suc k = omega arith in
    ap (λ b. fold f b (map g (range_with_len (j + 1) k))) (sym (h j) ∙ ap to (sym (add-one j))) ∙ (fold_from f g to (j + 1) k h ∙ ap to e)

pub fold_to : {A B : Type 0} (f : B → A → B) (g : ℕ → A) (to : ℕ → B) (k : ℕ) → ((i : ℕ) → to (suc i) ≡ f (to i) (g i)) → fold f (to 0) (map g (range_with_len 0 k)) ≡ to k
fold_to f g to k h = fold_from f g to 0 k h ∙ ap to (zero-add k)

-- a fold over what passes a test
fold_filter : {A B : Type 0} (f : B → A → B) (p : A → Bool) (b : B) (xs : List A) → fold f b (filter p xs) ≡ fold (λ c x. cond (p x) (f c x) c) b xs
fold_filter f p b [] = refl
fold_filter {A} {B} f p b (x ∷ xs) = by (p x) (λ c. fold_filter f p c xs)
  where
    by : (t : Bool) → ((c : B) → fold f c (filter p xs) ≡ fold (λ c x. cond (p x) (f c x) c) c xs)
        → fold f b (cond t (x ∷ filter p xs) (filter p xs)) ≡ fold (λ c x. cond (p x) (f c x) c) (cond t (f b x) b) xs
    by true h = h (f b x)
    by false h = h b

-- a fold over what a partial function gives
fold_some : {A B C : Type 0} (f : B → C → B) (p : A → Bool) (g : A → C) (b : B) (xs : List A)
    → fold f b (filter_map (λ x. (if p x then Some (g x) else None)) xs) ≡ fold (λ c x. cond (p x) (f c (g x)) c) b xs
fold_some f p g b [] = refl
fold_some {A} {B} {C} f p g b (x ∷ xs) = by (p x) (λ c. fold_some f p g c xs)
  where
    rest : List C
    rest = filter_map (λ x. (if p x then Some (g x) else None)) xs

    by : (t : Bool) → ((c : B) → fold f c rest ≡ fold (λ c x. cond (p x) (f c (g x)) c) c xs)
        → fold f b (cons_option (if t then Some (g x) else None) rest) ≡ fold (λ c x. cond (p x) (f c (g x)) c) (cond t (f b (g x)) b) xs
    by true h = h (f b (g x))
    by false h = h b

-- a test of all, against `all_to`
all_up : {A : Type 0} (p : A → Bool) (g : ℕ → A) (k : ℕ) (b : Bool) → (IsTrue b ↔ All (λ x. p x ≡ true) (map g (range_with_len 0 k))) → b ≡ all_to (λ j. p (g j)) k
all_up p g k true h = sym (at_all (λ j. p (g j)) k (λ j l. rw (get_or-map-range_with_len g 0 k j j (g j) l (zero-add j)) at (h.0 refl j (g j) (rw (length-map-range_with_len g 0 k) l))))
all_up p g k false h = by (all_to (λ j. p (g j)) k) refl
  where
    by : (t : Bool) → all_to (λ j. p (g j)) k ≡ t → false ≡ t
    by false e = refl
    by true e =
        h.1 (λ j d l. let l2 : j < k = rw (length-map-range_with_len g 0 k) at l in
        rw (get_or-map-range_with_len g 0 k j j d l2 (zero-add j)) (all_at (λ j. p (g j)) k j e l2))

-- what recovery reads and what is tested of an image, by the lists of cells and copies
pub top_mark_is : (R : ℕ) (m : List ℕ) → 4 * R ≤ length m → max_to (λ j. (cell_at R m j).mark) R ≡ fold (λ (a : ℕ) (c : Cell). max a c.mark) 0 (cells_in (take (4 * R) m))
top_mark_is R m h = rw (cells_are R m h) (sym (fold_to (λ (a : ℕ) (c : Cell). max a c.mark) (cell_at R m) (max_to (λ j. (cell_at R m j).mark)) R (λ i. refl)))

pub top_copy_is : (R n : ℕ) (m : List ℕ) → 4 * R + n ≤ length m → max_to (copy_at R m) n ≡ fold (λ (a v : ℕ). max a v) 0 (take n (drop (4 * R) m))
top_copy_is R n m h = rw (copies_are R n m h) (sym (fold_to (λ (a v : ℕ). max a v) (copy_at R m) (max_to (copy_at R m)) n (λ i. refl)))

pub tail_is : (R mark : ℕ) (m : List ℕ) → 4 * R ≤ length m
    → tail_of R mark m ≡ fold max mark (filter_map (λ (c : Cell). (if queued mark c then Some (c.index + 1) else None)) (cells_in (take (4 * R) m)))
unfolding tail_of
tail_is R mark m h =
    rw (cells_are R m h, fold_some max (queued mark) (λ (c : Cell). c.index + 1) mark (map (cell_at R m) (range_with_len 0 R)))
    (sym (fold_to (λ (a : ℕ) (c : Cell). cond (queued mark c) (max a (c.index + 1)) a) (cell_at R m) (tail_to R mark m) R (λ i. refl)))

pub head_is : (R mark tail : ℕ) (m : List ℕ) → 4 * R ≤ length m → head_to R mark tail m R ≡ fold (λ (a : ℕ) (c : Cell). min a c.index) tail (filter (queued mark) (cells_in (take (4 * R) m)))
head_is R mark tail m h =
    rw (cells_are R m h, fold_filter (λ (a : ℕ) (c : Cell). min a c.index) (queued mark) tail (map (cell_at R m) (range_with_len 0 R)))
    (sym (fold_to (λ (a : ℕ) (c : Cell). cond (queued mark c) (min a c.index) a) (cell_at R m) (head_to R mark tail m) R (λ i. refl)))

pub count_is : (R mark : ℕ) (m : List ℕ) → 4 * R ≤ length m → count_of R mark m ≡ count_by (queued mark) (cells_in (take (4 * R) m))
unfolding count_of
count_is R mark m h =
    rw (cells_are R m h) (sym (fold_to (λ (a : ℕ) (c : Cell). a + cond (queued mark c) 1 0) (cell_at R m) (count_to (λ j. queued mark (cell_at R m j))) R
    (λ i. one (queued mark (cell_at R m i)) (count_to (λ j. queued mark (cell_at R m j)) i))))
  where
    one : (b : Bool) (n : ℕ) → cond b (suc n) n ≡ n + cond b 1 0
    one true n = sym (add-one n)
    one false n = sym (add-zero n)

pub few_cells : (R : ℕ) (m : List ℕ) → length (cells_in (take (4 * R) m)) ≤ R
few_cells R m = omega (arith, length_cells (take (4 * R) m), length-take (4 * R) m)

pub all_cells_are : (R : ℕ) (m : List ℕ) (p : Cell → Bool) (b : Bool) → 4 * R ≤ length m → (IsTrue b ↔ All (λ (c : Cell). p c ≡ true) (cells_in (take (4 * R) m))) → b ≡ all_to (λ j. p (cell_at R m j)) R
all_cells_are R m p b h e = all_up p (cell_at R m) R b (rw (cells_are R m h) at e)

pub all_copies_are : (R n : ℕ) (m : List ℕ) (p : ℕ → Bool) (b : Bool) → 4 * R + n ≤ length m → (IsTrue b ↔ All (λ (v : ℕ). p v ≡ true) (take n (drop (4 * R) m))) → b ≡ all_to (λ t. p (copy_at R m t)) n
all_copies_are R n m p b h e = all_up p (copy_at R m) n b (rw (copies_are R n m h) at e)

-- a bound on each index
pub low_cells : (R e : ℕ) (m : List ℕ) → 4 * R ≤ length m → ((j : ℕ) → j < R → (cell_at R m j).index < e) → All (λ (c : Cell). c.index < e) (cells_in (take (4 * R) m))
low_cells R e m h low = rw (cells_are R m h) (λ j d l. let l2 : j < R = rw (length-map-range_with_len (cell_at R m) 0 R) at l in rw (get_or-map-range_with_len (cell_at R m) 0 R j j d l2 (zero-add j)) (low j l2))

-- every copy written at once
pub copies_filled : (R v : ℕ) (m : List ℕ) (n : ℕ) → 4 * R + n ≤ length m → copies_to R v m n ≡ take (4 * R) m ++ (replicate n v ++ drop n (drop (4 * R) m))
unfolding set_copy
copies_filled R v m zero h = sym (take-append-drop (4 * R) m)
copies_filled R v m (suc n) h =
    let l : n < length (drop (4 * R) m) = omega (arith, length-drop (4 * R) m) in
    let p : length (take (4 * R) m ++ replicate n v) ≡ 4 * R + n = omega (arith, length-append (take (4 * R) m) (replicate n v), length-take-le (4 * R) m (omega arith), length-replicate n v) in
    let rest = drop (suc n) (drop (4 * R) m) in
    let r : replicate n v ++ (v ∷ []) ≡ v ∷ replicate n v = replicate-append-replicate n 1 v ∙ ap (λ (k : ℕ). replicate k v) (add-one n) in
    ap (λ (l : List ℕ). set l (4 * R + n) v)
    (copies_filled R v m n (omega arith) ∙ (ap (λ (l : List ℕ). take (4 * R) m ++ (replicate n v ++ l)) (drop-cons (drop (4 * R) m) n 0 l)
    ∙ sym (append_assoc (take (4 * R) m) (replicate n v) (get_or (drop (4 * R) m) n 0 ∷ rest))))
    ∙ (set_at (take (4 * R) m ++ replicate n v) (get_or (drop (4 * R) m) n 0) rest v (4 * R + n) p
    ∙ (append_assoc (take (4 * R) m) (replicate n v) (v ∷ rest)
    ∙ ap (λ (l : List ℕ). take (4 * R) m ++ l) (sym (append_assoc (replicate n v) (v ∷ []) rest) ∙ ap (λ (l : List ℕ). l ++ rest) r)))
