-- The tests of soundness hold exactly where its facts do.
use Prim.Native.Nat.{ℕ, ◌+◌, ◌≤◌, ◌<◌}
use mathlib.Core.Path.{◌≡◌, refl}
use mathlib.Core.Logic.{◌≢◌, inl, inr}
use mathlib.Core.Bool.{Bool, true, false, cond, ◌&&◌, ◌||◌, and-false, not}
use mathlib.Core.List.{List}
use native.Mathlib.Omega.{arith}
use native.Mathlib.Decide.{ℕ_discrete}
use lib.Dec.{lit<, eqb, leb, ltb}
use Rattle.std.proofs.lemmas.Bool.{or_parts, or_left, or_right}
use borrow.Author.Tests.{leb-true, leb-false, ltb-true, ltb-false, eqb-true, eqb-false, le-leb, lt-ltb, le-ltb, lt-leb, eq-eqb, ne_eqb, not-false}
use Rattle.rules.specs.declared.Line.{Line}
use Rattle.rules.specs.declared.Line.TheVariants.{None, Copy, Tail, Cell as CellLine}
use Rattle.rules.specs.declared.Cell.{Cell}
use Rattle.rules.specs.declared.Thread.{Thread}
use Rattle.rules.specs.declared.Ring.{Ring}
use Rattle.rules.specs.declared.Control.{Control}
use Rattle.rules.specs.Numbers.{in_range}
use Rattle.rules.specs.Upto.{all_to}
use Rattle.rules.specs.Record.{idle, zero_cell, thread_at}
use Rattle.rules.specs.Memory.{cell_at, copy_at}
use Rattle.rules.specs.Line.{is_none}
use Rattle.rules.specs.Places.{P1, P10, T1, T10, putting}
use Rattle.rules.specs.Table.{same, blank}
use Rattle.rules.specs.Sound.{sound_ring, all_zero, sound_number, sound_busy, sound_thread, sound_record, sound_cell, sound_image}
use Rattle.rules.specs.State.{State}
use Rattle.rules.specs.Refusals.{unsound}
use Rattle.rules.specs.Facts.{InRange, SoundRing, Busy, SoundThread, SoundCell, SoundImage, SoundRecord, Sound}
use Rattle.rules.proofs.Tests.{cond_cases, both, and_both, unrefused, all_at, at_all}

-- the ring's numbers
pub range_of : (R n S : ℕ) → in_range R n S ≡ true → InRange R n S
unfolding in_range
range_of R n S h =
    let h1 = both _ _ h in
    let h2 = both _ _ h1.1 in
    let h3 = both _ _ h2.1 in
    let h4 = both _ _ h3.1 in
    let h5 = both _ _ h4.1 in
    record {
      some_cells = leb-true _ _ h1.0;
      most_cells = leb-true _ _ h2.0;
      some_threads = leb-true _ _ h3.0;
      most_threads = leb-true _ _ h4.0;
      some_tries = leb-true _ _ h5.0;
      most_tries = leb-true _ _ h5.1;
    }

pub of_range : (R n S : ℕ) → InRange R n S → in_range R n S ≡ true
unfolding in_range
of_range R n S r =
    simp (le-leb _ _ r.some_cells, le-leb _ _ r.most_cells, le-leb _ _ r.some_threads, le-leb _ _ r.most_threads, le-leb _ _ r.some_tries, le-leb _ _ r.most_tries)

pub ring_of : (g : Ring) → sound_ring g ≡ true → SoundRing g
unfolding sound_ring
ring_of g h =
    let h1 = both _ _ h in
    let h2 = both _ _ h1.1 in
    record { range = range_of _ _ _ h1.0; events = leb-true _ _ h2.0; head = leb-true _ _ h2.1 }

pub of_ring : (g : Ring) → SoundRing g → sound_ring g ≡ true
unfolding sound_ring
of_ring g r = simp (of_range _ _ _ r.range, le-leb _ _ r.events, le-leb _ _ r.head)

-- cells that match
pub same_eq : (c d : Cell) → same c d ≡ true → c ≡ d
unfolding same
same_eq c d h =
    let h1 = both _ _ h in
    let h2 = both _ _ h1.1 in
    let h3 = both _ _ h2.1 in
    let a = eqb-true c.safe d.safe h1.0 in
    let b = eqb-true c.index d.index h2.0 in
    let e = eqb-true c.item d.item h3.0 in
    let f = eqb-true c.mark d.mark h3.1 in
    λ k. record { safe = a k; index = b k; item = e k; mark = f k }

-- threads
none_of : (l : Line) → is_none l ≡ true → l ≡ None
none_of None h = refl
none_of (CellLine j) h = cc
none_of (Copy t) h = cc
none_of Tail h = cc

pub idle_of : (t : Thread) → all_zero t ≡ true → t ≡ idle
unfolding all_zero
idle_of t h =
    let h1 = both _ _ h in
    let h2 = both _ _ h1.1 in
    let h3 = both _ _ h2.1 in
    let h4 = both _ _ h3.1 in
    let h5 = both _ _ h4.1 in
    let a = eqb-true t.place 0 h1.0 in
    let b = eqb-true t.item 0 h2.0 in
    let d = eqb-true t.number 0 h3.0 in
    let e = same_eq t.looked zero_cell h4.0 in
    let f = eqb-true t.tries 0 h5.0 in
    let g = none_of t.awaited h5.1 in
    λ k. record { place = a k; item = b k; number = d k; looked = e k; tries = f k; awaited = g k }

-- of two tests one holds
pub one_of : (p q : Bool) → (p || q) ≡ true → p ≡ false → q ≡ true
one_of true q h e = cc
one_of false q h e = h

-- a number that isn't below the event count is zero, at P1 or T1
zero_of : (g : Ring) (t : Thread) → sound_number g t ≡ true → ltb t.number g.events ≡ false → (t.number ≡ 0) × ((eqb t.place P1 || eqb t.place T1) ≡ true)
unfolding sound_number
zero_of g t h n = let b = both _ _ (one_of _ _ h n) in (eqb-true _ _ b.1, b.0)

module _ (g : Ring) (i : ℕ) (t : Thread) where
  busy_of : i < g.threads → sound_busy g t ≡ true → Busy g.cells g.threads g.tries g.events i t
  unfolding sound_busy
  busy_of l h =
      let h1 = both _ _ h in
      let h2 = both _ _ h1.1 in
      let h3 = both _ _ h2.1 in
      let h4 = both _ _ h3.1 in
      let p = both _ _ h1.0 in
      let first = leb-true P1 t.place p.0 in
      record {
        here = l;
        first = first;
        last = leb-true _ _ p.1;
        tries = ltb-true _ _ h2.0;
        awaited = h3.0;
        item = λ q z. absurd (filled h4.0 (and_both _ _ (and_both _ _ p.0 (le-leb _ _ q)) (eq-eqb _ _ z)));
        most = below (λ n. n ≤ g.events) h4.1 (λ n. omega arith) (λ e a. omega arith);
        number = λ a b. below (λ n. n < g.events) h4.1 (λ n. n) (λ e q. absurd (either a b q));
        begun = λ z. below (λ n. n < g.events) h4.1 (λ n. n) (λ e q. absurd (z e));
      }
    where
      filled : not (putting t.place && eqb t.item 0) ≡ true → (putting t.place && eqb t.item 0) ≡ true → ⊥
      filled a b = cc

      below : (P : ℕ → Type 0) → sound_number g t ≡ true → (t.number < g.events → P t.number)
          → (t.number ≡ 0 → (eqb t.place P1 || eqb t.place T1) ≡ true → P t.number) → P t.number
      below P s yes-below at_start = by (ltb t.number g.events) refl
        where
          by : (b : Bool) → ltb t.number g.events ≡ b → P t.number
          by true e = yes-below (ltb-true _ _ e)
          by false e = let z = zero_of g t s e in at_start z.0 z.1

      either : t.place ≢ P1 → t.place ≢ T1 → (eqb t.place P1 || eqb t.place T1) ≡ true → ⊥
      either a b q = b (eqb-true _ _ (one_of _ _ q (ne_eqb _ _ a)))

  thread_of : sound_thread g i t ≡ true → SoundThread g.cells g.threads g.tries g.events i t
  unfolding sound_thread
  thread_of h = by (eqb t.place 0 || leb g.threads i) refl h
    where
      by : (b : Bool) → (eqb t.place 0 || leb g.threads i) ≡ b → cond b (all_zero t) (sound_busy g t) ≡ true → SoundThread g.cells g.threads g.tries g.events i t
      by true e a = inl (idle_of t a)
      by false e a = inr (busy_of (leb-false _ _ (or_parts (eqb t.place 0) _ e).1) a)

  of_busy : Busy g.cells g.threads g.tries g.events i t → sound_thread g i t ≡ true
  unfolding sound_thread sound_busy sound_number
  of_busy b =
      let p : t.place ≢ 0 = omega (arith, b.first) in
      rw (ne_eqb t.place 0 p, lt-leb g.threads i b.here, le-leb P1 t.place b.first, le-leb t.place T10 b.last, lt-ltb _ _ b.tries, b.awaited, filled (eqb t.item 0) refl)
      number
    where
      filled : (z : Bool) → eqb t.item 0 ≡ z → not (leb t.place P10 && z) ≡ true
      filled false e = rw (and-false (leb t.place P10))
      filled true e = by (leb t.place P10) refl
        where
          by : (x : Bool) → leb t.place P10 ≡ x → not (x && true) ≡ true
          by true q = absurd (b.item (leb-true _ _ q) (eqb-true _ _ e))
          by false q = refl

      at_start : (eqb t.place P1 || eqb t.place T1) ≡ true → t.number ≡ 0 → (ltb t.number g.events || ((eqb t.place P1 || eqb t.place T1) && eqb t.number 0)) ≡ true
      at_start p z =
          or_right (ltb t.number g.events) ((eqb t.place P1 || eqb t.place T1) && eqb t.number 0)
          (and_both (eqb t.place P1 || eqb t.place T1) (eqb t.number 0) p (eq-eqb _ _ z))

      below : t.number < g.events → (ltb t.number g.events || ((eqb t.place P1 || eqb t.place T1) && eqb t.number 0)) ≡ true
      below l = or_left (ltb t.number g.events) ((eqb t.place P1 || eqb t.place T1) && eqb t.number 0) (lt-ltb _ _ l)

      number : (ltb t.number g.events || ((eqb t.place P1 || eqb t.place T1) && eqb t.number 0)) ≡ true
      number = elim (ℕ_discrete t.number 0) [
        | no z ↦ below (b.begun z)
        | yes z ↦ elim (ℕ_discrete t.place P1) [
          | yes q ↦ at_start (or_left (eqb t.place P1) (eqb t.place T1) (eq-eqb _ _ q)) z
          | no q ↦ elim (ℕ_discrete t.place T1) [
            | yes r ↦ at_start (or_right (eqb t.place P1) (eqb t.place T1) (eq-eqb _ _ r)) z
            | no r ↦ below (b.number q r)
          ]
        ]
      ]

of_idle : (g : Ring) (i : ℕ) → sound_thread g i idle ≡ true
unfolding sound_thread all_zero same
of_idle g i = refl

of_thread : (g : Ring) (i : ℕ) (t : Thread) → SoundThread g.cells g.threads g.tries g.events i t → sound_thread g i t ≡ true
of_thread g i t (inl e) = rw e (of_idle g i)
of_thread g i t (inr b) = of_busy g i t b

pub record_of : (c : Control) → sound_record c ≡ true → SoundRecord c
unfolding sound_record
record_of c h =
    let b = both (sound_ring c.ring) _ h in
    record { ring = ring_of c.ring b.0; threads = λ i l. thread_of c.ring i (thread_at c i) (all_at (λ i. sound_thread c.ring i (thread_at c i)) 8 i b.1 l) }

pub of_record : (c : Control) → SoundRecord c → sound_record c ≡ true
unfolding sound_record
of_record c r = and_both _ _ (of_ring c.ring r.ring) (at_all (λ i. sound_thread c.ring i (thread_at c i)) 8 (λ i l. of_thread c.ring i (thread_at c i) (r.threads i l)))

-- images
pub cell_of : (R e : ℕ) (c : Cell) → sound_cell R e c ≡ true → SoundCell R e c
unfolding sound_cell
cell_of R e c h =
    let h1 = both _ _ h in
    let h2 = both _ _ h1.1 in
    let l = ltb-true c.index _ h2.1 in
    record {
      safe = leb-true _ _ h1.0;
      mark = leb-true _ _ h2.0;
      blank = by (blank c) l;
      occupied = λ z. rw (ne_eqb c.item 0 z) at l;
    }
  where
    by : (b : Bool) → c.index < cond b (e + R) e → c.index < e + R
    by true l = l
    by false l = omega arith

pub of_cell : (R e : ℕ) (c : Cell) → SoundCell R e c → sound_cell R e c ≡ true
unfolding sound_cell
of_cell R e c s =
    let l : c.index < cond (blank c) (e + R) e = cond_cases (λ n. c.index < n) (blank c) (λ z. s.blank) (λ z. s.occupied (eqb-false _ _ z)) in
    simp (le-leb _ _ s.safe, le-leb _ _ s.mark, lt-ltb _ _ l)

pub image_of : (R n e : ℕ) (m : List ℕ) → sound_image R n e m ≡ true → SoundImage R n e m
unfolding sound_image
image_of R n e m h =
    let h1 = both (all_to (λ j. sound_cell R e (cell_at R m j)) R) _ h in
    let h2 = both (all_to (λ t. leb (copy_at R m t) e) n) _ h1.1 in
    let h3 = both _ _ h2.1 in
    record {
      cells = λ j l. cell_of R e (cell_at R m j) (all_at (λ j. sound_cell R e (cell_at R m j)) R j h1.0 l);
      copies = λ t l. leb-true _ _ (all_at (λ t. leb (copy_at R m t) e) n t h2.0 l);
      closed = leb-true _ _ h3.0;
      tail = leb-true _ _ h3.1;
    }

pub of_image : (R n e : ℕ) (m : List ℕ) → SoundImage R n e m → sound_image R n e m ≡ true
unfolding sound_image
of_image R n e m s =
    and_both _ _ (at_all (λ j. sound_cell R e (cell_at R m j)) R (λ j l. of_cell R e (cell_at R m j) (s.cells j l)))
    (and_both _ _ (at_all (λ t. leb (copy_at R m t) e) n (λ t l. le-leb _ _ (s.copies t l))) (and_both _ _ (le-leb _ _ s.closed) (le-leb _ _ s.tail)))

-- a state that no event refuses as unsound
pub sound_of : (s : State) → unsound s ≡ 0 → Sound s
unfolding unsound
sound_of s h =
    let h1 = unrefused _ 8 _ (lit< tt) h in
    let h2 = unrefused _ 10 _ (lit< tt) h1.1 in
    let h3 = unrefused _ 10 _ (lit< tt) h2.1 in
    let h4 = unrefused _ 12 _ (lit< tt) h3.1 in
    let h5 = unrefused _ 12 _ (lit< tt) h4.1 in
    record {
      control = record_of _ (not-false _ h1.0);
      long_running = ltb-false _ _ h2.0;
      long_kept = ltb-false _ _ h3.0;
      running = image_of _ _ _ _ (not-false _ h4.0);
      kept = image_of _ _ _ _ (not-false _ h5.0);
    }

pub of_sound : (s : State) → Sound s → unsound s ≡ 0
unfolding unsound
of_sound s h =
    simp (of_record _ h.control, le-ltb _ _ h.long_running, le-ltb _ _ h.long_kept, of_image _ _ _ _ h.running, of_image _ _ _ _ h.kept)
