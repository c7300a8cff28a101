-- Begins and write-backs keep the invariant of the tale.
use Prim.Native.Nat.{ℕ, ◌%◌, ◌<◌, ◌≤◌}
use mathlib.Core.Path.{◌≡◌, refl, sym, ◌∙◌, subst, fun_ext}
use mathlib.Core.Logic.{◌≢◌, ◌⊎◌, inl, inr}
use mathlib.Core.Bool.{true, false, cond}
use mathlib.Core.List.{List, map}
use native.Mathlib.Omega.{arith}
use lib.ListN.{get_or}
use Rattle.rules.specs.declared.Line.{Line}
use Rattle.rules.specs.declared.Cell.{Cell}
use Rattle.rules.specs.declared.Thread.{Thread}
use Rattle.rules.specs.declared.Event.TheVariants.{Put, Take, Back}
use Rattle.rules.specs.Record.{idle, thread_at}
use Rattle.rules.specs.Memory.{tail_at}
use Rattle.rules.specs.Line.{line_exists, carries_cell, carries_copy, carries_tail, released}
use Rattle.rules.specs.Upto.{max_to}
use Rattle.rules.specs.State.{State}
use Rattle.rules.specs.Events.{begin_put, begin_take, write_back}
use Rattle.rules.specs.Account.{Account, at, enters, mark_of, writes}
use Rattle.rules.specs.Tale.{Tale, tells}
use Rattle.rules.proofs.Tests.{cond_cases}
use Rattle.rules.proofs.Recovered.{max-over, max_under}
use Rattle.rules.proofs.D3Cells.{at_here, at_else}
use Rattle.rules.proofs.D3Inv.{Inv, cells_of, threads_of, top_of, run_cell}
use Rattle.rules.proofs.Keep.{released_in}
use Rattle.rules.proofs.D3Back.{written_closed}
use Rattle.rules.proofs.D3Drawn.{Taken, InCell, OutOf, Drawn}
use Rattle.rules.proofs.D3Told.{Within, Says, HandsAt, ConfsAt, Told}
use Rattle.rules.proofs.D3Steps.{plain}

module _ (s : State) (a : Account) (v : Inv s a) (τ : Tale) (w : Told s a τ) where
  -- a thread begins at P1 or T1
  pub tell_put : (i x : ℕ) → i < threads_of s → (thread_at s.control i).place ≡ 0 → x ≢ 0
      → Told (begin_put s i x).state (enters (cells_of s) (threads_of s) a (begin_put s i x).answer) (tells τ (Put i x) (begin_put s i x).answer)
  unfolding begin_put enters tells
  tell_put i x l e z = plain s a v τ w i l s.running _ a.copied (at τ.taking i false) τ.holds (λ j b. refl) (omega arith) (λ p q. absurd (omega arith)) (λ y k. absurd (omega arith))
      (λ y b p. absurd (omega arith)) (λ y o q k. absurd (omega arith))
      (record { puts = λ p q. at_here τ.taking i false; takes = λ p. absurd (omega arith); none_held = λ p. (w.says i).none_held (omega arith); held = λ p. absurd (omega arith) })
      (λ j d. (at_else τ.taking i false j d, refl)) (λ y k. absurd (omega arith)) (λ y k. absurd (omega arith))

  pub tell_take : (i : ℕ) → i < threads_of s → (thread_at s.control i).place ≡ 0
      → Told (begin_take s i).state (enters (cells_of s) (threads_of s) a (begin_take s i).answer) (tells τ (Take i) (begin_take s i).answer)
  unfolding begin_take enters tells
  tell_take i l e = plain s a v τ w i l s.running _ a.copied (at τ.taking i true) τ.holds (λ j b. refl) (omega arith) (λ p q. absurd (omega arith)) (λ y k. absurd (omega arith))
      (λ y b p. absurd (omega arith)) (λ y o q k. absurd (omega arith))
      (record { puts = λ p q. absurd (omega arith); takes = λ p. at_here τ.taking i true; none_held = λ p. (w.says i).none_held (omega arith); held = λ p. absurd (omega arith) })
      (λ j d. (at_else τ.taking i true j d, refl)) (λ y k. absurd (omega arith)) (λ y k. absurd (omega arith))

-- a release leaves place, number, item and look
within-free : (l : Line) {lo hi : ℕ} {h : Thread} {x : ℕ} → Within lo hi (released l h) x → Within lo hi h x
unfolding released
within-free l k = record { from = k.from; upto = k.upto; is = k.is }

drawn-free : (l : Line) {R base top : ℕ} {c : ℕ → Cell} {th : ℕ → Thread} {landed : ℕ → ℕ} {handed : ℕ → List ℕ} → Drawn R base top c th landed handed
    → Drawn R base top c (λ i. released l (th i)) landed handed
unfolding released
drawn-free l {R} {base} {top} {c} {th} {landed} {handed} k = record { seen = k.seen; here = λ x z. stays x (k.here x z); drawn = λ x lo hi. go x (k.drawn x lo hi) }
  where
    stays : (x : ℕ) → InCell (c (x % R)) x (landed x) ⊎ OutOf th handed x (landed x) → InCell (c (x % R)) x (landed x) ⊎ OutOf (λ i. released l (th i)) handed x (landed x)
    stays x (inl y) = inl y
    stays x (inr (inl (t, y))) = inr (inl (t, record { from = y.from; is = y.is; item = y.item }))
    stays x (inr (inr y)) = inr (inr y)

    go : (x : ℕ) → Taken R c th x → Taken R c (λ i. released l (th i)) x
    go x (inl (t, y)) = inl (t, record { from = y.from; upto = y.upto; is = y.is })
    go x (inr (inl y)) = inr (inl y)
    go x (inr (inr y)) = inr (inr (record { safe = y.safe; blank = y.blank; late = y.late }))

-- the pass mark rises
mark_rises : (s : State) (a : Account) → Inv s a → (l : Line) → mark_of (cells_of s) (threads_of s) a ≤ mark_of (cells_of s) (threads_of s) (writes a l)
unfolding mark_of
mark_rises s a v l =
    omega (
      arith,
      max_under a.passed_written (cells_of s) (max_to pw (cells_of s)) (λ j b. omega (arith, max-over pw (cells_of s) j b, pw_rises j b)),
      max_under a.copied_written (threads_of s) (max_to cw (threads_of s)) (λ t b. omega (arith, max-over cw (threads_of s) t b, cw_rises t)),
    )
  where
    pw : ℕ → ℕ
    pw = λ j. cond (carries_cell l j) (a.passed j) (a.passed_written j)

    cw : ℕ → ℕ
    cw = λ t. cond (carries_copy l t) (a.copied t) (a.copied_written t)

    pw_rises : (j : ℕ) → j < cells_of s → a.passed_written j ≤ pw j
    pw_rises j b = cond_cases (λ y. a.passed_written j ≤ y) (carries_cell l j) (λ e. v.cells.rises j b) (λ e. omega arith)

    cw_rises : (t : ℕ) → a.copied_written t ≤ cw t
    cw_rises t = cond_cases (λ y. a.copied_written t ≤ y) (carries_copy l t) (λ e. v.copies.rises t) (λ e. omega arith)

pub tell_back : (s : State) (a : Account) → Inv s a → (τ : Tale) → Told s a τ → (l : Line) → line_exists (cells_of s) (threads_of s) l ≡ true
    → Told (write_back s l).state (enters (cells_of s) (threads_of s) a (write_back s l).answer) (tells τ (Back l) (write_back s l).answer)
unfolding write_back enters tells thread_at
tell_back s a v τ w l x =
    record {
      drawn = subst (λ th. Drawn (cells_of s) a.head (top_of s) (run_cell s) th a.landed τ.handed) (fun_ext (λ i. sym (same i))) (drawn-free l w.drawn);
      says = λ i. rw (same i) (free_says i (w.says i));
      takes = λ i j y p q. w.takes i j y (within-free l (rw (same i) at p)) (within-free l (rw (same j) at q));
      puts = λ i j y p q. w.puts i j y (within-free l (rw (same i) at p)) (within-free l (rw (same j) at q));
      hands = λ y. hand y (w.hands y);
      confs = λ y. conf y (w.confs y);
      gones = w.gones;
      lands = w.lands;
      closed = λ q. let k = w.closed q in written_closed s v.kept_len l x
          ∙ cond_cases (λ y. y ≡ 1) (carries_tail l) (λ e. v.shut k) (λ e. k);
    }
  where
    th' : ℕ → Thread
    th' = λ i. get_or (map (released l) s.control.thread) i idle

    same : (i : ℕ) → th' i ≡ released l (thread_at s.control i)
    same i = released_in l s.control.thread i

    free_says : (i : ℕ) → Says τ i (thread_at s.control i) → Says τ i (released l (thread_at s.control i))
    free_says i k = unfold released in record { puts = k.puts; takes = k.takes; none_held = k.none_held; held = k.held }

    grows : (y : ℕ) → a.durable y ≢ 0 → (writes a l).durable y ≡ a.durable y
    grows y z = cond_cases (λ q. q ≡ a.durable y) (carries_cell l (a.spot y)) (λ e. v.cells.sub y z) (λ e. refl)

    hand : (y : ℕ) → HandsAt (mark_of (cells_of s) (threads_of s) a) a.head (thread_at s.control) a.landed τ.landings τ.handed y
        → HandsAt (mark_of (cells_of s) (threads_of s) (writes a l)) a.head th' a.landed τ.landings τ.handed y
    hand y (inl q) = inl q
    hand y (inr (i, q, f)) = inr (i, q, record { item = f.item; under = omega (arith, f.under, mark_rises s a v l); free = λ t k. f.free t (within-free l (rw (same t) at k)); from = f.from; is = f.is })

    conf : (y : ℕ) → ConfsAt (threads_of s) a.head (tail_at (cells_of s) (threads_of s) s.running) (thread_at s.control) a.durable τ.landings τ.handed τ.cuts τ.confirmed y
        → ConfsAt (threads_of s) a.head (tail_at (cells_of s) (threads_of s) s.running) th' (writes a l).durable τ.landings τ.handed τ.cuts τ.confirmed y
    conf y (inl q) = inl q
    conf y (inr (i, q, f)) = inr (
      i,
      q,
      record {
        item = f.item;
        under = f.under;
        free = λ t k. f.free t (within-free l (rw (same t) at k));
        from = f.from;
        kept = λ b. let g = f.kept b in grows y (λ z. f.item (sym g ∙ z)) ∙ g;
        past = f.past;
      },
    )
