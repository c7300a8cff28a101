-- Each row of the step table keeps the invariant of the tale: the rows that change a cell, and the end of a take.
use Prim.Native.Nat.{ℕ, ◌+◌, ◌%◌, ◌<◌, ◌≤◌}
use mathlib.Core.Path.{◌≡◌, refl, sym, ap, ◌∙◌}
use mathlib.Core.Logic.{◌≢◌, ◌⊎◌, inl, inr}
use mathlib.Core.Bool.{true}
use mathlib.Core.Option.{none, some}
use mathlib.Core.List.Memᴰ
use mathlib.Core.List.{List, [], ◌∷◌, ◌++◌}
use native.Mathlib.Omega.{arith}
use native.Mathlib.Decide.{ℕ_discrete}
use native.Mathlib.Nat.{mod-lt}
use lib.Dec.{eqb}
use borrow.Author.Tests.{eqb-true, eqb-false}
use Rattle.rules.specs.declared.Line.TheVariants.{Copy}
use Rattle.rules.specs.declared.Cell.{Cell}
use Rattle.rules.specs.declared.Thread.{Thread}
use Rattle.rules.specs.declared.Ring.{Ring}
use Rattle.rules.specs.declared.Event.TheVariants.{Go}
use Rattle.rules.specs.Record.{cell, idle, thread_at}
use Rattle.rules.specs.Memory.{cell_at, set_cell, tail_at}
use Rattle.rules.specs.Line.{is_none}
use Rattle.rules.specs.Table.{same, to, row_wait, row_p4, row_t3, row_t4, row_t5, row_t10, row}
use Rattle.rules.specs.State.{State}
use Rattle.rules.specs.Account.{Account, at, enters, mark_of, lands, passes}
use Rattle.rules.specs.Tale.{In, Tale, tells, adds}
use Rattle.rules.proofs.Tests.{cond_cases}
use Rattle.rules.proofs.Memory.{tail_cell}
use Rattle.rules.proofs.Sound.{same_eq}
use Rattle.rules.proofs.Recovered.{max-over}
use Rattle.rules.proofs.D3Cells.{Upd, upd_cases, at_here, at_else, at_cases, unlanded}
use Rattle.rules.proofs.D3Threads.{Nums}
use Rattle.rules.proofs.D3Inv.{Inv, cells_of, threads_of, top_of, run_cell, frame, TUpd, thr_cases, next, stored}
use Rattle.rules.proofs.D3Dispatch.{row_cases}
use Rattle.rules.proofs.D3Drawn.{Carries, InCell, OutOf, out_on, cell_drawn, risen}
use Rattle.rules.proofs.D3Told.{Within, HandFacts, Told, told_step}
use Rattle.rules.proofs.D3Steps.{talking, upd, plain, put_dull, take_step}
use Rattle.rules.proofs.D3Fates.{Onward, no_longer, others, resting, again, to_p1, to_p2, to_p3, to_p5, to_p6, to_p7, to_p8, to_p9, to_p10, to_t1, to_t2, to_t6, to_t7, to_t8, to_t9}

module _ (s : State) (a : Account) (v : Inv s a) (τ : Tale) (w : Told s a τ) (t : ℕ) (tn : t < threads_of s) where
  abbrev h : Thread
  h = thread_at s.control t

  abbrev g : Ring
  g = s.control.ring

  abbrev m : List ℕ
  m = s.running

  abbrev j : ℕ
  j = (thread_at s.control t).number % cells_of s

  abbrev changed : Cell → List ℕ
  changed y = set_cell (cells_of s) m j y

  mine : Nums (frame s a) t h
  mine = (v.thrs t).nums

  there : (y : Cell) → Upd (run_cell s) (cell_at (cells_of s) (changed y)) (cells_of s) j y
  there y = stored s a v t tn h.number y

  tail_same : (y : Cell) → tail_at (cells_of s) (threads_of s) m ≤ tail_at (cells_of s) (threads_of s) (changed y)
  tail_same y = omega (arith, tail_cell (cells_of s) m j (mod-lt h.number v.pos) y (threads_of s))

  -- what stood in a cell still does, if the changed cell says so
  stands : (y : Cell) (x i : ℕ) → InCell (run_cell s (x % cells_of s)) x i → (x % cells_of s ≡ j → InCell (run_cell s j) x i → InCell y x i)
      → InCell (cell_at (cells_of s) (changed y) (x % cells_of s)) x i
  stands y x i k f = upd_cases (λ c. InCell c x i) (there y) (x % cells_of s) (mod-lt x v.pos) (λ e. f e (rw e at k)) (λ d. k)

  -- what was out stays out, where this thread carried nothing
  out : (y : Cell) (z : Thread) → h.place ≤ 15 → (x i : ℕ) → i ≢ 0 → OutOf (thread_at s.control) τ.handed x i → OutOf (thread_at (next s g (changed y) t z).control) τ.handed x i
  out y z p = out_on _ _ _ _ _ _ _ w.drawn v.pos _ t z (upd s a v τ w t tn g (changed y) z) τ.handed (λ x i q. q) (λ x i o k. absurd (omega arith))

  -- P4: the put lands
  landing : (mk : ℕ) → h.place ≡ 4 → run_cell s j ≡ h.looked
      → Told (next s g (changed (cell 1 h.number h.item mk)) t (to h 5)) (lands a h.number j h.item)
      (record { confirmed = τ.confirmed; handed = τ.handed; landings = adds τ.landings h.number h.item; taking = τ.taking; holds = τ.holds; cuts = τ.cuts; closed = τ.closed })
  landing mk e q =
      let b = mine.put (omega arith) (omega arith) in
      let k = mine.p4 (omega arith) (omega arith) in
      let before : (run_cell s j).index ≤ h.number = rw q k.1 in
      let was : (run_cell s j).item ≡ 0 = rw q k.0 in
      let un = unlanded _ _ _ _ _ v.cells v.pos h.number b.0 before was in
      told_step s a v τ w t tn (lands a h.number j h.item) (top_of s) (changed y) (to h 5) _
      (cell_drawn _ _ _ _ _ _ _ w.drawn v.pos _ t (to h 5) (upd s a v τ w t tn g (changed y) (to h 5)) τ.handed (λ x i o. o) (λ x i o k. absurd (omega arith))
      (cell_at (cells_of s) (changed y)) j y (there y) before (at a.landed h.number h.item) (omega arith)
      (λ x l k. absurd (omega arith))
      (λ x l n f. inl (f.late t e (sym n) (sym q)))
      (λ z. at_cases (λ i. i ≢ 0 → InCell (cell_at (cells_of s) (changed y) (z % cells_of s)) z i ⊎ OutOf (thread_at (next s g (changed y) t (to h 5)).control) τ.handed z i) a.landed h.number h.item z
      (λ r o. inl (rw (r, (there y).same) (refl, refl)))
      (λ d o. still z o (w.drawn.here z o) was)))
      (record { puts = λ p q. (w.says t).puts (omega arith) (omega arith); takes = λ p. absurd (omega arith); none_held = λ p. (w.says t).none_held (omega arith); held = λ p. absurd (omega arith) })
      (λ i d. (refl, refl)) (λ z k. absurd (omega arith)) (λ z k. inl (record { from = omega arith; upto = omega arith; is = k.is })) (tail_same y) refl same_mark
      (λ z o. at_else a.landed h.number h.item z (λ d. o (ap a.landed d ∙ un)))
      (λ z o. at_else a.durable h.number 0 z (λ d. o (sym (v.cells.sub z o) ∙ ap a.landed d ∙ un)))
      (λ z i o. at_cases (In i) τ.landings h.number _ z (λ d. Memᴰ.append_left (h.item ∷ []) (rw d at o)) (λ d. o))
      (λ z. elim (ℕ_discrete z h.number) [
        | yes d ↦ rw (d, at_here a.landed h.number h.item, at_here τ.landings h.number (τ.landings h.number ++ h.item ∷ [])) (λ o. Memᴰ.append_right (τ.landings h.number) (Memᴰ.head refl))
        | no d ↦ rw (at_else a.landed h.number h.item z d, at_else τ.landings h.number (τ.landings h.number ++ h.item ∷ []) z d) (w.lands z)
      ])
      (λ z. inl refl) (λ z. inl refl) refl w.closed
    where
      y : Cell
      y = cell 1 h.number h.item mk

      same_mark : mark_of (cells_of s) (threads_of s) (lands a h.number j h.item) ≡ mark_of (cells_of s) (threads_of s) a
      same_mark = unfold mark_of in refl

      still : (z : ℕ) → a.landed z ≢ 0 → InCell (run_cell s (z % cells_of s)) z (a.landed z) ⊎ OutOf (thread_at s.control) τ.handed z (a.landed z) → (run_cell s j).item ≡ 0
          → InCell (cell_at (cells_of s) (changed y) (z % cells_of s)) z (a.landed z) ⊎ OutOf (thread_at (next s g (changed y) t (to h 5)).control) τ.handed z (a.landed z)
      still z o (inl k) was = inl (stands y z (a.landed z) k (λ r n. absurd (o (sym n.1 ∙ was))))
      still z o (inr k) was = inr (out y (to h 5) (omega arith) z (a.landed z) o k)

  to_p4 : h.place ≡ 4 → Onward s a τ t (row_p4 g t h s.running)
  unfolding row_p4 enters tells
  to_p4 e = cond_cases (Onward s a τ t) (same (run_cell s j) h.looked) (λ p. landing _ e (same_eq (run_cell s j) h.looked p))
      (λ p. put_dull s a v τ w t tn m _ (λ i l. refl) (omega arith) (omega arith) (omega arith) (omega arith) (inl refl) (omega arith))

  -- T3 and T5: the cell is passed
  passing : (z : Thread) (mk : ℕ) → 13 ≤ h.place → h.place ≤ 15 → 16 ≤ z.place → z.number ≡ h.number → (run_cell s j).index ≤ h.number
      → ((x : ℕ) → a.landed x ≢ 0 → InCell (run_cell s j) x (a.landed x) → Carries z x (a.landed x))
      → Told (next s g (changed (cell (run_cell s j).safe (h.number + cells_of s) 0 mk)) t z) (passes a h.number j) τ
  unfolding mark_of
  passing z mk lo hi pl num before takes =
      told_step s a v τ w t tn (passes a h.number j) (top_of s) (changed y) z τ
      (cell_drawn _ _ _ _ _ _ _ w.drawn v.pos _ t z u τ.handed (λ x i o. o) (λ x i o k. absurd (omega arith))
      (cell_at (cells_of s) (changed y)) j y (there y) (omega arith) a.landed (omega arith)
      (λ x l k. inr (inl (rw (← k.is, (there y).same) (omega (arith, v.pos)))))
      (λ x l n f. inr (risen _ _ _ _ _ _ _ w.drawn v.pos _ t z u τ.handed (λ x i o. o) (λ x i o k. absurd (omega arith)) (omega arith) j y (omega (arith, v.pos)) refl refl x n f))
      (λ x o. elim (w.drawn.here x o) [ inl k ↦ went x o k | inr k ↦ inr (out y z hi x (a.landed x) o k) ]))
      (record { puts = λ p q. absurd (omega arith); takes = λ p. (w.says t).takes (omega arith); none_held = λ p. absurd (omega arith); held = λ p. (w.says t).held (omega arith) ∙ ap some (sym num) })
      (λ i d. (refl, refl)) (λ x k. inl (record { from = omega arith; upto = omega arith; is = sym num ∙ k.is })) (λ x k. absurd (omega arith)) (tail_same y) refl refl
      (λ x o. refl) (λ x o. refl) (λ x i o. o) w.lands (λ x. inl refl) (λ x. inl refl) refl w.closed
    where
      y : Cell
      y = cell (run_cell s j).safe (h.number + cells_of s) 0 mk

      u : TUpd (thread_at s.control) (thread_at (next s g (changed y) t z).control) t z
      u = upd s a v τ w t tn g (changed y) z

      went : (x : ℕ) → a.landed x ≢ 0 → InCell (run_cell s (x % cells_of s)) x (a.landed x)
          → InCell (cell_at (cells_of s) (changed y) (x % cells_of s)) x (a.landed x) ⊎ OutOf (thread_at (next s g (changed y) t z).control) τ.handed x (a.landed x)
      went x o k = elim (ℕ_discrete (x % cells_of s) j)
          [ yes e ↦ inr (inl (t, rw u.same (takes x o (rw e at k)))) | no d ↦ inl (rw ((there y).other (x % cells_of s) (mod-lt x v.pos) d) k) ]

  to_t3 : h.place ≡ 13 → Onward s a τ t (row_t3 g t h s.running)
  unfolding row_t3 enters tells
  to_t3 e =
      let k = mine.t3 e in
      cond_cases (Onward s a τ t) (same (run_cell s j) h.looked)
      (λ p. let q = same_eq (run_cell s j) h.looked p in
      let ix : (run_cell s j).index ≡ h.number = rw q k.1 in
      passing _ _ (omega arith) (omega arith) (omega arith) refl (omega arith) (λ x o n. record { from = omega arith; is = sym ix ∙ n.0; item = n.1 }))
      (λ p. again s a v τ w t tn (omega arith) (omega arith))

  to_t5 : h.place ≡ 15 → Onward s a τ t (row_t5 g t h s.running)
  unfolding row_t5 enters tells
  to_t5 e =
      let k = mine.t5 e in
      cond_cases (Onward s a τ t) (same (run_cell s j) h.looked)
      (λ p. let q = same_eq (run_cell s j) h.looked p in
      let was : (run_cell s j).item ≡ 0 = rw q k.0 in
      passing _ _ (omega arith) (omega arith) (omega arith) refl (rw q k.1) (λ x o n. absurd (o (sym n.1 ∙ was))))
      (λ p. again s a v τ w t tn (omega arith) (omega arith))

  -- T4: the cell is flagged
  flagging : (sf : ℕ) → sf ≡ 0 → h.place ≡ 14 → run_cell s j ≡ h.looked
      → Told (next s g (changed (cell sf (run_cell s j).index (run_cell s j).item (run_cell s j).mark)) t (to h 16)) a τ
  flagging sf flag e q =
      let k = mine.t4 e in
      let ix : (run_cell s j).index < h.number = rw q k.1 in
      let it : (run_cell s j).item ≢ 0 = rw q k.0 in
      told_step s a v τ w t tn a (top_of s) (changed y) z τ
      (cell_drawn _ _ _ _ _ _ _ w.drawn v.pos _ t z u τ.handed (λ x i o. o) (λ x i o k. absurd (omega arith))
      (cell_at (cells_of s) (changed y)) j y (there y) (omega arith) a.landed (omega arith)
      (λ x l b. inr (inr (rw (← b.is, (there y).same) (record {
        safe = flag;
        blank = λ n. absurd (omega arith);
        late = thr_cases (λ i o. o.place ≡ 4 → o.number % cells_of s ≡ h.number % cells_of s → o.looked ≡ y → h.number < o.number) u
            (λ pl. absurd (omega arith))
            (λ i d pl r f. absurd (it (sym (ap (λ c. c.item) f) ∙ ((v.thrs i).nums.p4 (omega arith) (omega arith)).0)));
      }))))
      (λ x l n f. inr (record {
        safe = flag;
        blank = f.blank;
        late = thr_cases (λ i o. o.place ≡ 4 → o.number % cells_of s ≡ x % cells_of s → o.looked ≡ y → x < o.number) u (λ pl. absurd (omega arith))
            (λ i d pl r o. f.late i pl r (o ∙ as_was f.safe));
      }))
      (λ x o. elim (w.drawn.here x o) [ inl c ↦ inl (stands y x (a.landed x) c (λ r n. n)) | inr c ↦ inr (out y z (omega arith) x (a.landed x) o c) ]))
      (record { puts = λ p q. absurd (omega arith); takes = λ p. (w.says t).takes (omega arith); none_held = λ p. absurd (omega arith); held = λ p. (w.says t).held (omega arith) })
      (λ i d. (refl, refl)) (λ x k. inl (record { from = omega arith; upto = omega arith; is = k.is })) (λ x k. absurd (omega arith)) (tail_same y) refl refl
      (λ x o. refl) (λ x o. refl) (λ x i o. o) w.lands (λ x. inl refl) (λ x. inl refl) refl w.closed
    where
      y : Cell
      y = cell sf (run_cell s j).index (run_cell s j).item (run_cell s j).mark

      z : Thread
      z = to h 16

      u : TUpd (thread_at s.control) (thread_at (next s g (changed y) t z).control) t z
      u = upd s a v τ w t tn g (changed y) z

      as_was : (run_cell s j).safe ≡ 0 → y ≡ run_cell s j
      as_was q = λ i. record { safe = (flag ∙ sym q) i; index = (run_cell s j).index; item = (run_cell s j).item; mark = (run_cell s j).mark }

  to_t4 : h.place ≡ 14 → Onward s a τ t (row_t4 g t h s.running)
  unfolding row_t4 enters tells
  to_t4 e = cond_cases (Onward s a τ t) (same (run_cell s j) h.looked) (λ p. flagging _ refl e (same_eq (run_cell s j) h.looked p)) (λ p. again s a v τ w t tn (omega arith) (omega arith))

  -- ITEM: the thread's copy is written, so the number is past the pass mark; no other take has it
  handing : h.place ≡ 20 → is_none h.awaited ≡ true → h.item ≢ 0
      → Told (next s g m t idle) a
      (record { confirmed = τ.confirmed; handed = adds τ.handed h.number h.item; landings = τ.landings; taking = τ.taking; holds = at τ.holds t none; cuts = τ.cuts; closed = τ.closed })
  handing e p z = told_step s a v τ w t tn a (top_of s) m idle _
      (resting s a v τ w t tn (adds τ.handed x h.item) more (λ y k. omega arith) (λ y i o k. rw (sym k.is, sym k.item) now))
      (record { puts = λ q r. absurd (omega arith); takes = λ q. absurd (omega arith); none_held = λ q. at_here τ.holds t none; held = λ q. absurd (omega arith) })
      (others s a v τ w t tn none) (λ y k. absurd (omega arith)) (λ y k. absurd (omega arith)) (omega arith) refl refl (λ y o. refl) (λ y o. refl) (λ y i o. o) w.lands
      (λ y. elim (ℕ_discrete y x) [ yes q ↦ rw q (inr ((mine.take (omega arith)).0, none_yet, (h.item, now, facts))) | no d ↦ inl (at_else τ.handed x _ y d) ])
      (λ y. inl refl) refl w.closed
    where
      x : ℕ
      x = h.number

      mem : Within 12 20 h x
      mem = record { from = omega arith; upto = omega arith; is = refl }

      none_yet : τ.handed x ≡ []
      none_yet = elim (w.hands x) [ inl q ↦ q | inr q ↦ absurd (q.2.free t mem) ]

      now : adds τ.handed x h.item x ≡ h.item ∷ []
      now = at_here τ.handed x _ ∙ ap (λ l. l ++ h.item ∷ []) none_yet

      more : (y i : ℕ) → τ.handed y ≡ i ∷ [] → adds τ.handed x h.item y ≡ i ∷ []
      more y i q = at_else τ.handed x _ y (λ d. let r : τ.handed y ≡ [] = ap τ.handed d ∙ none_yet in cc) ∙ q

      new : ℕ → Thread
      new = thread_at (next s g m t idle).control

      carried : a.landed x ≡ h.item
      carried = mine.carry (omega arith) z

      written : x < a.copied_written t
      written = no_longer h.awaited (Copy t) p refl ((v.thrs t).waits.t10 e)

      facts : HandFacts (mark_of (cells_of s) (threads_of s) a) a.head new a.landed τ.landings x h.item
      facts = record {
        item = z;
        under = passed;
        free = thr_cases (λ i y. Within 12 20 y x → ⊥) (upd s a v τ w t tn g m idle) (λ k. omega arith) (λ i d k. d (w.takes i t x k mem));
        from = rw carried at (w.lands x (λ q. z (sym carried ∙ q)));
        is = λ _. carried;
      }
        where
          passed : x < mark_of (cells_of s) (threads_of s) a
          passed = unfold mark_of in omega (arith, written, max-over a.copied_written (threads_of s) t tn)

  -- EMPTY
  ending : h.place ≡ 20 → h.item ≡ 0 → Told (next s g m t idle) a (talking τ τ.taking (at τ.holds t none))
  ending e z = plain s a v τ w t tn m idle a.copied τ.taking _ (λ i l. refl) (omega arith) (λ p q. absurd (omega arith)) (λ x k. absurd (omega arith)) (λ x l p. absurd (omega arith))
      (λ x i o k. absurd (o (sym k.item ∙ z)))
      (record { puts = λ q r. absurd (omega arith); takes = λ q. absurd (omega arith); none_held = λ q. at_here τ.holds t none; held = λ q. absurd (omega arith) })
      (others s a v τ w t tn none) (λ y k. absurd (omega arith)) (λ y k. absurd (omega arith))

  to_t10 : h.place ≡ 20 → Onward s a τ t (row_t10 g t h s.running)
  unfolding row_t10 row_wait enters tells
  to_t10 e = cond_cases (Onward s a τ t) (is_none h.awaited)
      (λ p. cond_cases (λ x. Told (next s g m t idle) (enters (cells_of s) (threads_of s) a x) (tells τ (Go t) x)) (eqb h.item 0)
      (λ q. ending e (eqb-true h.item 0 q)) (λ q. handing e p (eqb-false h.item 0 q)))
      (λ p. take_step s a v τ w t tn m h a.copied (λ i l. refl) (omega arith) (omega arith) (omega arith) refl (λ x k. absurd (omega arith)) (λ x i o k. inl k))

  pub tell_row : 1 ≤ h.place → Onward s a τ t (row g t h s.running)
  tell_row lo = row_cases (Onward s a τ t) g t h s.running
      (record {
        p1 = to_p1 s a v τ w t tn;
        p2 = to_p2 s a v τ w t tn;
        p3 = to_p3 s a v τ w t tn;
        p4 = to_p4;
        p5 = to_p5 s a v τ w t tn;
        p6 = to_p6 s a v τ w t tn;
        p7 = to_p7 s a v τ w t tn;
        p8 = to_p8 s a v τ w t tn;
        p9 = to_p9 s a v τ w t tn;
        p10 = to_p10 s a v τ w t tn;
        t1 = to_t1 s a v τ w t tn;
        t2 = to_t2 s a v τ w t tn;
        t3 = to_t3;
        t4 = to_t4;
        t5 = to_t5;
        t6 = to_t6 s a v τ w t tn;
        t7 = to_t7 s a v τ w t tn;
        t8 = to_t8 s a v τ w t tn;
        t9 = to_t9 s a v τ w t tn;
        t10 = to_t10;
      })
      lo mine.place
