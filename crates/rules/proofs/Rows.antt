-- Each row keeps the ring's numbers, its thread and the running image sound.
use Prim.Native.Nat.{ℕ, ◌+◌, ◌-◌, ◌≤◌, ◌<◌}
use mathlib.Core.Path.{◌≡◌, refl}
use mathlib.Core.Logic.{◌≢◌, inl, inr}
use mathlib.Core.Bool.{true, cond, ◌&&◌, ◌||◌}
use mathlib.Core.List.{List}
use native.Mathlib.Omega.{arith}
use native.Mathlib.Nat.{mod-lt}
use native.Mathlib.Decide.{ℕ_discrete}
use lib.Dec.{eqb, leb, ltb}
use lib.ListN.{length}
use borrow.Author.Tests.{eqb-true, eqb-false, lt-ltb}
use Rattle.std.proofs.lemmas.Bool.{or_parts}
use Rattle.rules.specs.declared.Line.{Line}
use Rattle.rules.specs.declared.Line.TheVariants.{Copy, Tail, Cell as CellLine}
use Rattle.rules.specs.declared.Cell.{Cell}
use Rattle.rules.specs.declared.Thread.{Thread}
use Rattle.rules.specs.declared.Ring.{Ring}
use Rattle.rules.specs.declared.Answer.{Answer}
use Rattle.rules.specs.Record.{idle}
use Rattle.rules.specs.Memory.{set_cell, set_copy, closed_at, set_closed, tail_at, set_tail, size}
use Rattle.rules.specs.Line.{is_none, line_exists}
use Rattle.rules.specs.Places.{P1, P2, P3, P4, P5, P6, P7, P8, P9, P10, T1, T2, T3, T4, T5, T6, T7, T8, T9, T10}
use Rattle.rules.specs.Table.{Step, step, to, drawing, looking, spot, cell_of, matches, blank, gives_up, passed_cell, row_wait, row_p1, row_p2, row_p3, row_p4, row_p5, row_p6, row_p7, row_p8, row_p9, row_p10, row_t1, row_t2, row_t3, row_t4, row_t5, row_t6, row_t7, row_t8, row_t9, row_t10, put_row, take_row, row}
use Rattle.rules.specs.Facts.{SoundRing, Busy, SoundThread, SoundCell, SoundImage}
use Rattle.rules.proofs.Tests.{cond_cases}
use Rattle.rules.proofs.Memory.{length-set_cell, length-set_copy, length-set_closed, length-set_tail, cell_same, cell_other, cell_copy, cell_closed, cell_tail, copy_same, copy_other, copy_cell, copy_closed, copy_tail, closed_same, closed_cell, closed_copy, closed_tail, tail_same, tail_cell, tail_copy, tail_closed}

-- what is sound at an event count is sound at the next
pub busy-more : {R n S e i : ℕ} {t : Thread} → Busy R n S e i t → Busy R n S (e + 1) i t
busy-more b = record {
  here = b.here;
  first = b.first;
  last = b.last;
  tries = b.tries;
  awaited = b.awaited;
  item = b.item;
  most = omega (arith, b.most);
  number = λ p q. omega (arith, b.number p q);
  begun = λ z. omega (arith, b.begun z);
}

pub thread-more : {R n S e i : ℕ} {t : Thread} → SoundThread R n S e i t → SoundThread R n S (e + 1) i t
thread-more (inl q) = inl q
thread-more (inr b) = inr (busy-more b)

pub image_later : {R n e f : ℕ} {m : List ℕ} → e ≤ f → SoundImage R n e m → SoundImage R n f m
image_later h s = record {
  cells = λ j l. let c = s.cells j l in record { safe = c.safe; mark = omega (arith, c.mark); blank = omega (arith, c.blank); occupied = λ z. omega (arith, c.occupied z) };
  copies = λ t l. omega (arith, s.copies t l);
  closed = s.closed;
  tail = omega (arith, s.tail);
}

pub image-more : {R n e : ℕ} {m : List ℕ} → SoundImage R n e m → SoundImage R n (e + 1) m
image-more = image_later (omega arith)

-- a sound image after each store
module _ (R n e : ℕ) (m : List ℕ) (s : SoundImage R n e m) (long : size R n ≤ length m) where
  pub store_cell : (j : ℕ) (c : Cell) → j < R → SoundCell R e c → SoundImage R n e (set_cell R m j c)
  store_cell j c h k = record {
    cells = λ i l. elim (ℕ_discrete i j) [ yes q ↦ rw (q, cell_same R m j c (omega arith)) k | no d ↦ rw (cell_other R m i j c d) (s.cells i l) ];
    copies = λ t l. rw (copy_cell R m j h c t) (s.copies t l);
    closed = rw (closed_cell R m j h c n) s.closed;
    tail = rw (tail_cell R m j h c n) s.tail;
  }

  pub store_copy : (t v : ℕ) → t < n → v ≤ e → SoundImage R n e (set_copy R m t v)
  store_copy t v h k = record {
    cells = λ i l. rw (cell_copy R m i l t v) (s.cells i l);
    copies = λ i l. elim (ℕ_discrete i t) [ yes q ↦ rw (q, copy_same R m t v (omega arith)) k | no d ↦ rw (copy_other R m i t v d) (s.copies i l) ];
    closed = rw (closed_copy R n m t v h) s.closed;
    tail = rw (tail_copy R n m t v h) s.tail;
  }

  pub store_closed : (v : ℕ) → v ≤ 1 → SoundImage R n e (set_closed R n m v)
  store_closed v k = record {
    cells = λ i l. rw (cell_closed R m i l n v) (s.cells i l);
    copies = λ i l. rw (copy_closed R n m i v l) (s.copies i l);
    closed = rw (closed_same R n m v (omega arith)) k;
    tail = rw (tail_closed R n m v) s.tail;
  }

  pub store_tail : (v : ℕ) → v ≤ e → SoundImage R n e (set_tail R n m v)
  store_tail v k = record {
    cells = λ i l. rw (cell_tail R m i l n v) (s.cells i l);
    copies = λ i l. rw (copy_tail R n m i v l) (s.copies i l);
    closed = rw (closed_tail R n m v) s.closed;
    tail = rw (tail_same R n m v (omega arith)) k;
  }

-- a busy thread from its parts
pub busy : {R n S e i : ℕ} (p x v : ℕ) (c : Cell) (k : ℕ) (l : Line) → i < n → P1 ≤ p → p ≤ T10 → k < S → (is_none l || line_exists R n l) ≡ true
    → (p ≤ P10 → x ≢ 0) → v < e → Busy R n S e i (record { place = p; item = x; number = v; looked = c; tries = k; awaited = l })
busy p x v c k l h a b d w f g = record { here = h; first = a; last = b; tries = d; awaited = w; item = f; most = omega arith; number = λ q r. g; begun = λ q. g }

-- what a row leaves is sound at the next event count
pub record Keeps (g : Ring) (i : ℕ) (m : List ℕ) (s : Step) : Type 0 where
  pub cells : s.moved.ring.cells ≡ g.cells
  pub threads : s.moved.ring.threads ≡ g.threads
  pub tries : s.moved.ring.tries ≡ g.tries
  pub events : s.moved.ring.events ≡ g.events
  pub head : s.moved.ring.head ≤ g.events + 1
  pub thread : SoundThread g.cells g.threads g.tries (g.events + 1) i s.moved.thread
  pub long : length s.running ≡ length m
  pub image : SoundImage g.cells g.threads (g.events + 1) s.running

module _ (g : Ring) (i : ℕ) (t : Thread) (m : List ℕ) (r : SoundRing g) (b : Busy g.cells g.threads g.tries g.events i t)
    (s : SoundImage g.cells g.threads g.events m) (fits : size g.cells g.threads ≤ length m) where
  -- the row's thread and image; its ring is as it was
  left : (t' : Thread) (a : Answer) (m' : List ℕ) → SoundThread g.cells g.threads g.tries (g.events + 1) i t' → length m' ≡ length m
      → SoundImage g.cells g.threads (g.events + 1) m' → Keeps g i m (step g t' a m')
  left t' a m' k l q = record { cells = refl; threads = refl; tries = refl; events = refl; head = omega (arith, r.head); thread = k; long = l; image = q }

  -- a row that leaves the image as it is
  still : (t' : Thread) (a : Answer) → SoundThread g.cells g.threads g.tries (g.events + 1) i t' → Keeps g i m (step g t' a m)
  still t' a k = left t' a m k refl (image-more s)

  -- a put's thread, a take's thread, at a new place
  puts : (p v : ℕ) (c : Cell) (k : ℕ) (l : Line) → t.place ≤ P10 → P1 ≤ p → p ≤ P10 → v < g.events + 1 → k < g.tries → (is_none l || line_exists g.cells g.threads l) ≡ true
      → SoundThread g.cells g.threads g.tries (g.events + 1) i (record { place = p; item = t.item; number = v; looked = c; tries = k; awaited = l })
  puts p v c k l q a z f w x = inr (busy p t.item v c k l b.here a (omega arith) w x (λ y. b.item q) f)

  takes : (p x v : ℕ) (c : Cell) (l : Line) → T1 ≤ p → p ≤ T10 → v < g.events + 1 → (is_none l || line_exists g.cells g.threads l) ≡ true
      → SoundThread g.cells g.threads g.tries (g.events + 1) i (record { place = p; item = x; number = v; looked = c; tries = t.tries; awaited = l })
  takes p x v c l a z f w = inr (busy p x v c t.tries l b.here (omega arith) z b.tries w (λ y. absurd (omega arith)) f)

  keep_wait : (a : Answer) → Keeps g i m (row_wait g i t m a)
  unfolding row_wait
  keep_wait a = cond_cases (Keeps g i m) (is_none t.awaited) (λ q. still idle a (inl refl)) (λ q. still t _ (inr (busy-more b)))

  there : spot g t < g.cells
  there = mod-lt t.number r.range.some_cells

  number : t.place ≢ P1 → t.place ≢ T1 → t.number < g.events + 1
  number p q = omega (arith, b.number p q)

  keep_p1 : t.place ≡ P1 → Keeps g i m (row_p1 g i t m)
  unfolding row_p1
  keep_p1 e =
      let v = tail_at g.cells g.threads m in
      let l : v < g.events + 1 = omega (arith, s.tail) in
      left _ _ _
      (cond_cases (λ p. SoundThread g.cells g.threads g.tries (g.events + 1) i (drawing t v p)) (eqb (closed_at g.cells g.threads m) 1)
      (λ q. puts P7 v _ t.tries t.awaited (omega arith) (omega arith) (omega arith) l b.tries b.awaited)
      (λ q. puts P2 v _ t.tries t.awaited (omega arith) (omega arith) (omega arith) l b.tries b.awaited))
      (length-set_tail g.cells g.threads m _) (store_tail _ _ _ m (image-more s) fits (v + 1) (omega arith))

  -- a put that only goes to another place
  goes : (p : ℕ) → t.place ≤ P10 → t.place ≢ P1 → P1 ≤ p → p ≤ P10 → SoundThread g.cells g.threads g.tries (g.events + 1) i (to t p)
  goes p q z a c = puts p t.number t.looked t.tries t.awaited q a c (number z (omega arith)) b.tries b.awaited

  keep_p2 : t.place ≡ P2 → Keeps g i m (row_p2 g i t m)
  unfolding row_p2
  keep_p2 e =
      let c = cell_of g t m in
      let n = number (omega arith) (omega arith) in
      let go : (p : ℕ) → P1 ≤ p → p ≤ P10 → SoundThread g.cells g.threads g.tries (g.events + 1) i (looking t c p) =
      λ p x y. puts p t.number c t.tries t.awaited (omega arith) x y n b.tries b.awaited in
      still _ _
      (cond_cases (λ p. SoundThread g.cells g.threads g.tries (g.events + 1) i (looking t c p)) (blank c && leb c.index t.number)
      (λ q. cond_cases (λ p. SoundThread g.cells g.threads g.tries (g.events + 1) i (looking t c p)) (eqb c.safe 1)
      (λ q. go P4 (omega arith) (omega arith)) (λ q. go P3 (omega arith) (omega arith)))
      (λ q. go P8 (omega arith) (omega arith)))

  keep_p3 : t.place ≡ P3 → Keeps g i m (row_p3 g i t m)
  unfolding row_p3
  keep_p3 e =
      still _ _
      (cond_cases (λ p. SoundThread g.cells g.threads g.tries (g.events + 1) i (to t p)) (leb g.head t.number)
      (λ q. goes P4 (omega arith) (omega arith) (omega arith) (omega arith)) (λ q. goes P8 (omega arith) (omega arith) (omega arith) (omega arith)))

  -- a stored cell of the row
  stores : (t' : Thread) (a : Answer) (c : Cell) → SoundThread g.cells g.threads g.tries (g.events + 1) i t' → SoundCell g.cells (g.events + 1) c
      → Keeps g i m (step g t' a (set_cell g.cells m (spot g t) c))
  stores t' a c k q = left t' a _ k (length-set_cell g.cells m (spot g t) c) (store_cell _ _ _ m (image-more s) fits (spot g t) c there q)

  keep_p4 : t.place ≡ P4 → Keeps g i m (row_p4 g i t m)
  unfolding row_p4
  keep_p4 e =
      let n = number (omega arith) (omega arith) in
      cond_cases (Keeps g i m) (matches g t m)
      (λ q. stores _ _ _ (goes P5 (omega arith) (omega arith) (omega arith) (omega arith))
      (record { safe = omega arith; mark = omega (arith, (s.cells (spot g t) there).mark); blank = omega arith; occupied = λ z. n }))
      (λ q. still _ _ (goes P8 (omega arith) (omega arith) (omega arith) (omega arith)))

  keep_p5 : t.place ≡ P5 → Keeps g i m (row_p5 g i t m)
  unfolding row_p5 line_exists
  keep_p5 e =
      still _ _ (puts P6 t.number t.looked t.tries (CellLine (spot g t)) (omega arith) (omega arith) (omega arith) (number (omega arith) (omega arith)) b.tries (lt-ltb _ _ there))

  keep_p7 : t.place ≡ P7 → Keeps g i m (row_p7 g i t m)
  unfolding row_p7 line_exists
  keep_p7 e =
      still _ _ (puts P10 t.number t.looked t.tries Tail (omega arith) (omega arith) (omega arith) (number (omega arith) (omega arith)) b.tries refl)

  keep_p8 : t.place ≡ P8 → Keeps g i m (row_p8 g i t m)
  unfolding row_p8
  keep_p8 e =
      let n = number (omega arith) (omega arith) in
      still _ _
      (cond_cases (SoundThread g.cells g.threads g.tries (g.events + 1) i) (gives_up g t)
      (λ q. puts P9 t.number t.looked (g.tries - 1) t.awaited (omega arith) (omega arith) (omega arith) n (omega (arith, r.range.some_tries)) b.awaited)
      (λ q. puts P1 t.number t.looked (t.tries + 1) t.awaited (omega arith) (omega arith) (omega arith) n
      (let d = eqb-false (t.tries + 1) g.tries (or_parts (leb (g.head + g.cells) t.number) _ q).1 in omega (arith, b.tries)) b.awaited))

  keep_p9 : t.place ≡ P9 → Keeps g i m (row_p9 g i t m)
  unfolding row_p9
  keep_p9 e = left _ _ _ (goes P7 (omega arith) (omega arith) (omega arith) (omega arith)) (length-set_closed _ _ m 1) (store_closed _ _ _ m (image-more s) fits 1 (omega arith))

  keep_t1 : t.place ≡ T1 → Keeps g i m (row_t1 g i t m)
  unfolding row_t1
  keep_t1 e = record {
    cells = refl;
    threads = refl;
    tries = refl;
    events = refl;
    head = omega (arith, r.head);
    thread = takes T2 t.item g.head _ t.awaited (omega arith) (omega arith) (omega (arith, r.head)) b.awaited;
    long = refl;
    image = image-more s;
  }

  keep_t2 : t.place ≡ T2 → Keeps g i m (row_t2 g i t m)
  unfolding row_t2
  keep_t2 e =
      let c = cell_of g t m in
      let n = number (omega arith) (omega arith) in
      let go : (p : ℕ) → T1 ≤ p → p ≤ T10 → SoundThread g.cells g.threads g.tries (g.events + 1) i (looking t c p) =
      λ p x y. takes p t.item t.number c t.awaited x y n b.awaited in
      still _ _
      (cond_cases (λ p. SoundThread g.cells g.threads g.tries (g.events + 1) i (looking t c p)) (ltb t.number c.index) (λ q. go T6 (omega arith) (omega arith))
      (λ q. cond_cases (λ p. SoundThread g.cells g.threads g.tries (g.events + 1) i (looking t c p)) (blank c) (λ q. go T5 (omega arith) (omega arith))
      (λ q. cond_cases (λ p. SoundThread g.cells g.threads g.tries (g.events + 1) i (looking t c p)) (eqb c.index t.number) (λ q. go T3 (omega arith) (omega arith))
      (λ q. go T4 (omega arith) (omega arith)))))

  -- a take that only goes to another place
  moves : (p : ℕ) → T2 ≤ t.place → T1 ≤ p → p ≤ T10 → SoundThread g.cells g.threads g.tries (g.events + 1) i (to t p)
  moves p z a c = takes p t.item t.number t.looked t.awaited a c (number (omega arith) (omega arith)) b.awaited

  passes : T2 ≤ t.place → SoundCell g.cells (g.events + 1) (passed_cell g t m)
  passes z =
      record { safe = (s.cells (spot g t) there).safe; mark = omega arith; blank = omega arith; occupied = λ q. absurd (q refl) }

  keep_t3 : t.place ≡ T3 → Keeps g i m (row_t3 g i t m)
  unfolding row_t3
  keep_t3 e =
      cond_cases (Keeps g i m) (matches g t m)
      (λ q. stores _ _ _ (takes T8 (cell_of g t m).item t.number t.looked t.awaited (omega arith) (omega arith) (number (omega arith) (omega arith)) b.awaited) (passes (omega arith)))
      (λ q. still _ _ (moves T2 (omega arith) (omega arith) (omega arith)))

  keep_t4 : t.place ≡ T4 → Keeps g i m (row_t4 g i t m)
  unfolding row_t4
  keep_t4 e =
      let c = (image-more s).cells (spot g t) there in
      cond_cases (Keeps g i m) (matches g t m)
      (λ q. stores _ _ _ (moves T6 (omega arith) (omega arith) (omega arith)) (record { safe = omega arith; mark = c.mark; blank = c.blank; occupied = c.occupied }))
      (λ q. still _ _ (moves T2 (omega arith) (omega arith) (omega arith)))

  keep_t5 : t.place ≡ T5 → Keeps g i m (row_t5 g i t m)
  unfolding row_t5
  keep_t5 e =
      cond_cases (Keeps g i m) (matches g t m)
      (λ q. stores _ _ _ (moves T6 (omega arith) (omega arith) (omega arith)) (passes (omega arith)))
      (λ q. still _ _ (moves T2 (omega arith) (omega arith) (omega arith)))

  keep_t6 : t.place ≡ T6 → Keeps g i m (row_t6 g i t m)
  unfolding row_t6
  keep_t6 e =
      still _ _
      (cond_cases (λ p. SoundThread g.cells g.threads g.tries (g.events + 1) i (to t p)) (leb (tail_at g.cells g.threads m) (t.number + 1))
      (λ q. moves T7 (omega arith) (omega arith) (omega arith)) (λ q. moves T1 (omega arith) (omega arith) (omega arith)))

  keep_t7 : t.place ≡ T7 → Keeps g i m (row_t7 g i t m)
  unfolding row_t7
  keep_t7 e =
      left _ _ _ (moves T8 (omega arith) (omega arith) (omega arith)) (length-set_tail _ _ m _)
      (store_tail _ _ _ m (image-more s) fits _ (omega (arith, s.tail, r.head)))

  keep_t8 : t.place ≡ T8 → Keeps g i m (row_t8 g i t m)
  unfolding row_t8
  keep_t8 e =
      left _ _ _ (moves T9 (omega arith) (omega arith) (omega arith)) (length-set_copy _ m i _)
      (store_copy _ _ _ m (image-more s) fits i _ b.here (omega (arith, b.number (omega arith) (omega arith))))

  keep_t9 : t.place ≡ T9 → Keeps g i m (row_t9 g i t m)
  unfolding row_t9 line_exists
  keep_t9 e =
      still _ _ (takes T10 t.item t.number t.looked (Copy i) (omega arith) (omega arith) (number (omega arith) (omega arith)) (lt-ltb _ _ b.here))

  -- one of the places
  at : (p : ℕ) (x y : Step) → (t.place ≡ p → Keeps g i m x) → (t.place ≢ p → Keeps g i m y) → Keeps g i m (cond (eqb t.place p) x y)
  at p x y f h = cond_cases (Keeps g i m) (eqb t.place p) (λ e. f (eqb-true _ _ e)) (λ e. h (eqb-false _ _ e))

  pub keep_row : Keeps g i m (row g i t m)
  unfolding row put_row take_row row_p6 row_p10 row_t10
  keep_row =
      cond_cases (Keeps g i m) (ltb t.place T1)
      (λ e. at P1 _ _ keep_p1 (λ n. at P2 _ _ keep_p2 (λ n. at P3 _ _ keep_p3 (λ n. at P4 _ _ keep_p4 (λ n. at P5 _ _ keep_p5 (λ n. at P6 _ _ (λ e. keep_wait _)
      (λ n. at P7 _ _ keep_p7 (λ n. at P8 _ _ keep_p8 (λ n. at P9 _ _ keep_p9 (λ n. keep_wait _))))))))))
      (λ e. at T1 _ _ keep_t1 (λ n. at T2 _ _ keep_t2 (λ n. at T3 _ _ keep_t3 (λ n. at T4 _ _ keep_t4 (λ n. at T5 _ _ keep_t5 (λ n. at T6 _ _ keep_t6
      (λ n. at T7 _ _ keep_t7 (λ n. at T8 _ _ keep_t8 (λ n. at T9 _ _ keep_t9 (λ n. keep_wait _))))))))))
