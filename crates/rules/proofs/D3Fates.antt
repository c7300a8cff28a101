-- Each row of the step table keeps the invariant of the tale: the rows that leave the cells.
use Prim.Native.Nat.{ℕ, ◌+◌, ◌%◌, ◌<◌, ◌≤◌, max}
use mathlib.Core.Path.{◌≡◌, refl, sym, ap, ◌∙◌}
use mathlib.Core.Logic.{◌≢◌, ◌⊎◌, inl, inr}
use mathlib.Core.Bool.{Bool, true, false, cond, ◌&&◌}
use mathlib.Core.Option.{Option, none, some}
use mathlib.Core.List.{List, [], ◌∷◌, ◌++◌}
use native.Mathlib.Omega.{arith}
use native.Mathlib.Decide.{ℕ_discrete}
use lib.Dec.{eqb, ltb, leb}
use borrow.Author.Tests.{ltb-true, leb-true, eqb-true}
use Rattle.rules.specs.declared.Line.{Line}
use Rattle.rules.specs.declared.Line.TheVariants.{Tail, Cell as CellLine}
use Rattle.rules.specs.declared.Thread.{Thread}
use Rattle.rules.specs.declared.Ring.{Ring}
use Rattle.rules.specs.declared.Event.TheVariants.{Go}
use Rattle.rules.specs.Record.{idle, thread_at, headed}
use Rattle.rules.specs.Memory.{closed_at, tail_at, set_tail}
use Rattle.rules.specs.Line.{is_none}
use Rattle.rules.specs.Table.{Step, to, drawing, looking, gives_up, row_wait, row_p1, row_p2, row_p3, row_p5, row_p6, row_p7, row_p8, row_p9, row_p10, row_t1, row_t2, row_t6, row_t7, row_t8, row_t9}
use Rattle.rules.specs.State.{State}
use Rattle.rules.specs.Account.{Account, at, enters}
use Rattle.rules.specs.Tale.{Tale, tells, adds}
use Rattle.rules.proofs.Tests.{cond_cases}
use Rattle.rules.proofs.Memory.{cell_closed, cell_tail, cell_copy, tail_same, tail_closed, tail_copy}
use Rattle.rules.proofs.D3Cells.{at_here, at_else}
use Rattle.rules.proofs.D3Threads.{Nums}
use Rattle.rules.proofs.D3Inv.{Inv, cells_of, threads_of, top_of, run_cell, frame, TUpd, thr_cases, next}
use Rattle.rules.proofs.D3Drawn.{Busy, Carries, Drawn, still_drawn, drawn_raise}
use Rattle.rules.proofs.D3Told.{Within, ConfFacts, Told, told_step}
use Rattle.rules.proofs.D3Steps.{talking, upd, plain, put_step, put_dull, take_step}

abbrev pub Onward : State → Account → Tale → ℕ → Step → Type 0
Onward s a τ t r =
    Told (next s r.moved.ring r.running t r.moved.thread) (enters (cells_of s) (threads_of s) a r.moved.answer) (tells τ (Go t) r.moved.answer)

-- a thread that awaits nothing no longer awaits this
pub no_longer : {A : Type 0} (w v : Line) → is_none w ≡ true → is_none v ≡ false → (w ≡ v) ⊎ A → A
no_longer w v p q (inr x) = x
no_longer w v p q (inl e) = cc

module _ (s : State) (a : Account) (v : Inv s a) (τ : Tale) (w : Told s a τ) (t : ℕ) (tn : t < threads_of s) where
  abbrev h : Thread
  h = thread_at s.control t

  abbrev g : Ring
  g = s.control.ring

  abbrev m : List ℕ
  m = s.running

  abbrev tl : ℕ
  tl = tail_at (cells_of s) (threads_of s) s.running

  mine : Nums (frame s a) t h
  mine = (v.thrs t).nums

  -- the number held after drew
  drew : (b : Bool) (x : ℕ) → τ.taking t ≡ b → at τ.holds t (cond (τ.taking t) (some x) none) t ≡ cond b (some x) none
  drew b x e = at_here τ.holds t _ ∙ ap (λ c. cond c (some x) none) e

  pub others : (o : Option ℕ) (i : ℕ) → i ≢ t → (τ.taking i ≡ τ.taking i) × (at τ.holds t o i ≡ τ.holds i)
  others o i d = (refl, at_else τ.holds t o i d)

  pub to_p1 : h.place ≡ 1 → Onward s a τ t (row_p1 g t h s.running)
  unfolding row_p1 enters tells
  to_p1 e = cond_cases (λ p. Told (next s g (set_tail (cells_of s) (threads_of s) m (tl + 1)) t (drawing h tl p)) a (talking τ τ.taking (at τ.holds t (cond (τ.taking t) (some tl) none))))
      (eqb (closed_at (cells_of s) (threads_of s) m) 1) (λ q. draws 7 (omega arith) (omega arith) (omega arith)) (λ q. draws 2 (omega arith) (omega arith) (omega arith))
    where
      draws : (p : ℕ) → 1 ≤ p → p ≤ 10 → (3 ≤ p → p ≤ 4 → ⊥)
          → Told (next s g (set_tail (cells_of s) (threads_of s) m (tl + 1)) t (drawing h tl p)) a (talking τ τ.taking (at τ.holds t (cond (τ.taking t) (some tl) none)))
      draws p lo hi off = plain s a v τ w t tn _ _ a.copied τ.taking _ (λ j l. cell_tail (cells_of s) m j l (threads_of s) (tl + 1))
          (omega (arith, tail_same (cells_of s) (threads_of s) m (tl + 1) (omega (arith, v.run_len))))
          (λ x y. absurd (off x y)) (λ x b. absurd (omega arith)) (λ x l z. absurd (off (omega arith) (omega arith))) (λ x i z b. absurd (omega arith))
          (record {
            puts = λ x y. (w.says t).puts (omega arith) (omega arith);
            takes = λ x. absurd (omega arith);
            none_held = λ x. drew false tl ((w.says t).puts (omega arith) (omega arith));
            held = λ x. absurd (omega arith);
          })
          (others _) (λ x k. absurd (omega arith)) (λ x k. inr (sym k.is))

  pub to_p2 : h.place ≡ 2 → Onward s a τ t (row_p2 g t h s.running)
  unfolding row_p2 enters tells
  to_p2 e =
      let c = run_cell s (h.number % cells_of s) in
      cond_cases (λ p. Told (next s g m t (looking h c p)) a τ) (eqb c.item 0 && leb c.index h.number)
      (λ p. cond_cases (λ p. Told (next s g m t (looking h c p)) a τ) (eqb c.safe 1)
      (λ q. put_step s a v τ w t tn m _ (λ j l. refl) (omega arith) (omega arith) (omega arith) (omega arith) (inl refl) (λ x y. omega arith)
      (λ x l y z f. absurd (omega (arith, eqb-true c.safe 1 q, ap (λ u. u.safe) z))))
      (λ q. put_step s a v τ w t tn m _ (λ j l. refl) (omega arith) (omega arith) (omega arith) (omega arith) (inl refl) (λ x y. omega arith) (λ x l y. absurd (omega arith))))
      (λ p. put_dull s a v τ w t tn m _ (λ j l. refl) (omega arith) (omega arith) (omega arith) (omega arith) (inl refl) (omega arith))

  pub to_p3 : h.place ≡ 3 → Onward s a τ t (row_p3 g t h s.running)
  unfolding row_p3 enters tells
  to_p3 e = cond_cases (λ p. Told (next s g m t (to h p)) a τ) (leb (top_of s) h.number)
      (λ p. put_step s a v τ w t tn m _ (λ j l. refl) (omega arith) (omega arith) (omega arith) (omega arith) (inl refl) (λ x y. w.drawn.seen t (omega arith) (omega arith))
      (λ x l y z f. omega (arith, leb-true (top_of s) h.number p)))
      (λ p. put_dull s a v τ w t tn m _ (λ j l. refl) (omega arith) (omega arith) (omega arith) (omega arith) (inl refl) (omega arith))

  pub to_p5 : h.place ≡ 5 → Onward s a τ t (row_p5 g t h s.running)
  unfolding row_p5 enters tells
  to_p5 e = put_dull s a v τ w t tn m _ (λ j l. refl) (omega arith) (omega arith) (omega arith) (omega arith) (inl refl) (omega arith)

  pub to_p7 : h.place ≡ 7 → Onward s a τ t (row_p7 g t h s.running)
  unfolding row_p7 enters tells
  to_p7 e = put_dull s a v τ w t tn m _ (λ j l. refl) (omega arith) (omega arith) (omega arith) (omega arith) (inl refl) (omega arith)

  pub to_p8 : h.place ≡ 8 → Onward s a τ t (row_p8 g t h s.running)
  unfolding row_p8 enters tells
  to_p8 e = cond_cases (λ y. Told (next s g m t y) a τ) (gives_up g h)
      (λ p. put_dull s a v τ w t tn m _ (λ j l. refl) (omega arith) (omega arith) (omega arith) (omega arith) (inl refl) (omega arith))
      (λ p. put_dull s a v τ w t tn m _ (λ j l. refl) (omega arith) (omega arith) (omega arith) (omega arith) (inl refl) (omega arith))

  pub to_p9 : h.place ≡ 9 → Onward s a τ t (row_p9 g t h s.running)
  unfolding row_p9 enters tells
  to_p9 e = put_dull s a v τ w t tn _ _ (λ j l. cell_closed (cells_of s) m j l (threads_of s) 1) (omega (arith, tail_closed (cells_of s) (threads_of s) m 1))
      (omega arith) (omega arith) (omega arith) (inl refl) (omega arith)

  -- a thread goes to rest
  pub resting : (handed : ℕ → List ℕ) → ((x i : ℕ) → τ.handed x ≡ i ∷ [] → handed x ≡ i ∷ []) → ((x : ℕ) → Busy h x → ⊥) → ((x i : ℕ) → i ≢ 0 → Carries h x i → handed x ≡ i ∷ [])
      → Drawn (cells_of s) a.head (top_of s) (run_cell s) (thread_at (next s g m t idle).control) a.landed handed
  resting handed more b c = still_drawn _ _ _ _ _ _ _ w.drawn v.pos _ t idle (upd s a v τ w t tn g m idle) handed more (λ x i z k. inr (c x i z k))
      (λ p q. absurd (omega arith)) (λ x k. absurd (b x k)) (λ x l p. absurd (omega arith))

  pub to_p6 : h.place ≡ 6 → Onward s a τ t (row_p6 g t h s.running)
  unfolding row_p6 row_wait enters tells
  to_p6 e = cond_cases (Onward s a τ t) (is_none h.awaited) confirms
      (λ p. put_dull s a v τ w t tn m h (λ j l. refl) (omega arith) (omega arith) (omega arith) (omega arith) (inl refl) (omega arith))
    where
      x : ℕ
      x = h.number

      mem : Within 2 10 h x
      mem = record { from = omega arith; upto = omega arith; is = refl }

      none_yet : τ.confirmed x ≡ []
      none_yet = elim (w.confs x) [ inl q ↦ q | inr q ↦ absurd (q.2.free t mem) ]

      now : adds τ.confirmed x h.item x ≡ h.item ∷ []
      now = at_here τ.confirmed x _ ∙ ap (λ l. l ++ h.item ∷ []) none_yet

      new : ℕ → Thread
      new = thread_at (next s g m t idle).control

      facts : is_none h.awaited ≡ true → ConfFacts (threads_of s) a.head tl new a.durable τ.landings τ.handed τ.cuts x h.item
      facts p =
          let b = mine.put (omega arith) (omega arith) in
          let z = mine.item (omega arith) (omega arith) in
          let l = mine.p5 (omega arith) (omega arith) in
          record {
            item = z;
            under = b.1;
            free = thr_cases (λ i y. Within 2 10 y x → ⊥) (upd s a v τ w t tn g m idle) (λ k. omega arith) (λ i d k. d (w.puts i t x k mem));
            from = rw l at (w.lands x (λ q. z (sym l ∙ q)));
            kept = λ _. no_longer h.awaited (CellLine (h.number % cells_of s)) p refl ((v.thrs t).waits.p6 e);
            past = λ q. absurd (omega arith);
          }

      confirms : is_none h.awaited ≡ true → Told (next s g m t idle) a
          (record { confirmed = adds τ.confirmed x h.item; handed = τ.handed; landings = τ.landings; taking = τ.taking; holds = τ.holds; cuts = τ.cuts; closed = τ.closed })
      confirms p = told_step s a v τ w t tn a (top_of s) m idle _
          (resting τ.handed (λ x i q. q) (λ x k. omega arith) (λ x i z k. absurd (omega arith)))
          (record { puts = λ q r. absurd (omega arith); takes = λ q. absurd (omega arith); none_held = λ q. (w.says t).none_held (omega arith); held = λ q. absurd (omega arith) })
          (λ i d. (refl, refl)) (λ y k. absurd (omega arith)) (λ y k. absurd (omega arith)) (omega arith) refl refl (λ y z. refl) (λ y z. refl) (λ y i z. z) w.lands (λ y. inl refl)
          (λ y. elim (ℕ_discrete y x) [ yes q ↦ rw q (inr (h.item, now, facts p)) | no d ↦ inl (at_else τ.confirmed x _ y d) ]) refl w.closed

  pub to_p10 : h.place ≡ 10 → Onward s a τ t (row_p10 g t h s.running)
  unfolding row_p10 row_wait enters tells
  to_p10 e = cond_cases (Onward s a τ t) (is_none h.awaited)
      (λ p. told_step s a v τ w t tn a (top_of s) m idle _
      (resting τ.handed (λ x i q. q) (λ x k. omega arith) (λ x i z k. absurd (omega arith)))
      (record { puts = λ q r. absurd (omega arith); takes = λ q. absurd (omega arith); none_held = λ q. (w.says t).none_held (omega arith); held = λ q. absurd (omega arith) })
      (λ i d. (refl, refl)) (λ y k. absurd (omega arith)) (λ y k. absurd (omega arith)) (omega arith) refl refl (λ y z. refl) (λ y z. refl) (λ y i z. z) w.lands (λ y. inl refl)
      (λ y. inl refl) refl (λ _. no_longer h.awaited Tail p refl ((v.thrs t).waits.p10 e)))
      (λ p. put_dull s a v τ w t tn m h (λ j l. refl) (omega arith) (omega arith) (omega arith) (omega arith) (inl refl) (omega arith))

  pub to_t1 : h.place ≡ 11 → Onward s a τ t (row_t1 g t h s.running)
  unfolding row_t1 enters tells
  to_t1 e = told_step s a v τ w t tn a (top_of s + 1) m y _ raised
      (record { puts = λ q r. absurd (omega arith); takes = λ q. (w.says t).takes (omega arith); none_held = λ q. absurd (omega arith); held = λ q. drew true (top_of s) ((w.says t).takes (omega arith)) })
      (others _) (λ x k. inr (sym k.is)) (λ x k. absurd (omega arith)) (omega arith) refl refl (λ x z. refl) (λ x z. refl) (λ x i z. z) w.lands (λ x. inl refl) (λ x. inl refl) refl w.closed
    where
      y : Thread
      y = drawing h (top_of s) 12

      u : TUpd (thread_at s.control) (thread_at (next s (headed g (top_of s + 1)) m t y).control) t y
      u = upd s a v τ w t tn (headed g (top_of s + 1)) m y

      raised : Drawn (cells_of s) a.head (top_of s + 1) (run_cell s) (thread_at (next s (headed g (top_of s + 1)) m t y).control) a.landed τ.handed
      raised = drawn_raise _ _ _ _ _ _ _ (still_drawn _ _ _ _ _ _ _ w.drawn v.pos _ t y u τ.handed (λ x i q. q) (λ x i z k. absurd (omega arith))
          (λ p q. absurd (omega arith)) (λ x k. absurd (omega arith)) (λ x l p. absurd (omega arith)))
          (inl (t, rw u.same (record { from = omega arith; upto = omega arith; is = refl })))

  pub to_t2 : h.place ≡ 12 → Onward s a τ t (row_t2 g t h s.running)
  unfolding row_t2 enters tells
  to_t2 e =
      let c = run_cell s (h.number % cells_of s) in
      cond_cases (λ p. Told (next s g m t (looking h c p)) a τ) (ltb h.number c.index)
      (λ p. looks 16 (omega arith) (λ x b. inr (rw b.is at (ltb-true h.number c.index p))))
      (λ p. cond_cases (λ p. Told (next s g m t (looking h c p)) a τ) (eqb c.item 0) (λ q. looks 15 (omega arith) (λ x b. inl (record { from = omega arith; upto = omega arith; is = b.is })))
      (λ q. cond_cases (λ p. Told (next s g m t (looking h c p)) a τ) (eqb c.index h.number) (λ r. looks 13 (omega arith) (λ x b. inl (record { from = omega arith; upto = omega arith; is = b.is })))
      (λ r. looks 14 (omega arith) (λ x b. inl (record { from = omega arith; upto = omega arith; is = b.is })))))
    where
      looks : (p : ℕ) → 12 ≤ p → ((x : ℕ) → Busy h x → Busy (looking h (run_cell s (h.number % cells_of s)) p) x ⊎ (x < (run_cell s (x % cells_of s)).index))
          → Told (next s g m t (looking h (run_cell s (h.number % cells_of s)) p)) a τ
      looks p lo b = take_step s a v τ w t tn m _ a.copied (λ j l. refl) (omega arith) (omega arith) lo refl b (λ x i z k. absurd (omega arith))

  -- a take that missed looks again
  pub again : 13 ≤ h.place → h.place ≤ 15 → Told (next s g m t (to h 12)) a τ
  again p q = take_step s a v τ w t tn m _ a.copied (λ j l. refl) (omega arith) (omega arith) (omega arith) refl
      (λ x b. inl (record { from = omega arith; upto = omega arith; is = b.is })) (λ x i z k. absurd (omega arith))

  pub to_t6 : h.place ≡ 16 → Onward s a τ t (row_t6 g t h s.running)
  unfolding row_t6 enters tells
  to_t6 e = sees (leb tl (h.number + 1))
    where
      sees : (b : Bool) → Told (next s g m t (to h (cond b 17 11))) a (talking τ τ.taking (at τ.holds t (cond b (τ.holds t) none)))
      sees true = plain s a v τ w t tn m _ a.copied τ.taking _ (λ j l. refl) (omega arith) (λ p q. absurd (omega arith)) (λ x k. absurd (omega arith)) (λ x l p. absurd (omega arith))
          (λ x i z k. absurd (omega arith))
          (record {
            puts = λ p q. absurd (omega arith);
            takes = λ p. (w.says t).takes (omega arith);
            none_held = λ p. absurd (omega arith);
            held = λ p. at_here τ.holds t _ ∙ (w.says t).held (omega arith);
          })
          (others _) (λ x k. inl (record { from = omega arith; upto = omega arith; is = k.is })) (λ x k. absurd (omega arith))
      sees false = plain s a v τ w t tn m _ a.copied τ.taking _ (λ j l. refl) (omega arith) (λ p q. absurd (omega arith)) (λ x k. absurd (omega arith)) (λ x l p. absurd (omega arith))
          (λ x i z k. absurd (omega arith))
          (record { puts = λ p q. absurd (omega arith); takes = λ p. (w.says t).takes (omega arith); none_held = λ p. at_here τ.holds t none; held = λ p. absurd (omega arith) })
          (others none) (λ x k. absurd (omega arith)) (λ x k. absurd (omega arith))

  pub to_t7 : h.place ≡ 17 → Onward s a τ t (row_t7 g t h s.running)
  unfolding row_t7 enters tells
  to_t7 e = take_step s a v τ w t tn _ _ a.copied (λ j l. cell_tail (cells_of s) m j l (threads_of s) (max tl (top_of s)))
      (omega (arith, tail_same (cells_of s) (threads_of s) m (max tl (top_of s)) (omega (arith, v.run_len)))) (omega arith) (omega arith) refl (λ x k. absurd (omega arith)) (λ x i z k. absurd (omega arith))

  pub to_t8 : h.place ≡ 18 → Onward s a τ t (row_t8 g t h s.running)
  unfolding row_t8 enters tells
  to_t8 e = take_step s a v τ w t tn _ _ _ (λ j l. cell_copy (cells_of s) m j l t (h.number + 1)) (omega (arith, tail_copy (cells_of s) (threads_of s) m t (h.number + 1) tn))
      (omega arith) (omega arith) refl (λ x k. absurd (omega arith)) (λ x i z k. inl (record { from = omega arith; is = k.is; item = k.item }))

  pub to_t9 : h.place ≡ 19 → Onward s a τ t (row_t9 g t h s.running)
  unfolding row_t9 enters tells
  to_t9 e = take_step s a v τ w t tn m _ a.copied (λ j l. refl) (omega arith) (omega arith) (omega arith) refl (λ x k. absurd (omega arith))
      (λ x i z k. inl (record { from = omega arith; is = k.is; item = k.item }))
