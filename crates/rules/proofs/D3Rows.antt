-- Each row of a take keeps the invariant, so each row does.
use Prim.Native.Nat.{ℕ, ◌+◌, ◌%◌, ◌<◌, ◌≤◌, max}
use mathlib.Core.Path.{◌≡◌, refl, sym, ap, ◌∙◌}
use mathlib.Core.Logic.{◌≢◌, inl}
use native.Mathlib.Omega.{arith}
use native.Mathlib.Nat.{mod-lt}
use lib.Dec.{eqb, ltb, leb}
use borrow.Author.Tests.{ltb-false, eqb-true, eqb-false}
use Rattle.rules.specs.declared.Thread.{Thread}
use Rattle.rules.specs.declared.Ring.{Ring}
use Rattle.rules.specs.Record.{cell, thread_at}
use Rattle.rules.specs.Memory.{set_cell, tail_at}
use Rattle.rules.specs.Table.{same, to, looking, row_p6, row_p10, row_t1, row_t2, row_t3, row_t4, row_t5, row_t6, row_t7, row_t8, row_t9, row_t10, row}
use Rattle.rules.specs.State.{State}
use Rattle.rules.specs.Account.{Account, at, enters, passes}
use Rattle.rules.proofs.Tests.{cond_cases}
use Rattle.rules.proofs.Sound.{same_eq}
use Rattle.rules.proofs.D3Cells.{at_here, pass_keeps, flag_keeps}
use Rattle.rules.proofs.D3Threads.{Nums, ThrOk, away_ok}
use Rattle.rules.proofs.D3Inv.{Inv, cells_of, threads_of, top_of, run_cell, frame, next, still, drawing_head, tailed, stored, celled, copying}
use Rattle.rules.proofs.D3Dispatch.{row_cases}
use Rattle.rules.proofs.D3Puts.{After, keep_wait, keep_p1, keep_p2, keep_p3, keep_p4, keep_p5, keep_p7, keep_p8, keep_p9}

module _ (s : State) (a : Account) (v : Inv s a) (t : ℕ) (tn : t < threads_of s) where
  abbrev h : Thread
  h = thread_at s.control t

  abbrev g : Ring
  g = s.control.ring

  mine : Nums (frame s a) t h
  mine = (v.thrs t).nums

  keep_t1 : h.place ≡ 11 → After s a t (row_t1 g t h s.running)
  unfolding row_t1 enters
  keep_t1 e =
      let k = mine.bare (omega arith) (omega arith) in
      drawing_head s a v t tn _ (away_ok tn (omega arith) (omega arith) (omega arith) (omega arith))

  keep_t2 : h.place ≡ 12 → After s a t (row_t2 g t h s.running)
  unfolding row_t2 enters
  keep_t2 e =
      let c = run_cell s (h.number % cells_of s) in
      let x = h.number in
      let k = mine.bare (omega arith) (omega arith) in
      let b = mine.take (omega arith) in
      let o = mine.own (omega arith) (omega arith) in
      still s a v t tn _ (cond_cases (λ p. ThrOk (cells_of s) (threads_of s) (frame s a) t (looking h c p)) (ltb x c.index)
      (λ p. away_ok tn (omega arith) (omega arith) (omega arith) (omega arith))
      (λ p. let z = ltb-false x c.index p in
      cond_cases (λ p. ThrOk (cells_of s) (threads_of s) (frame s a) t (looking h c p)) (eqb c.item 0)
      (λ q. let y = eqb-true c.item 0 q in away_ok tn (omega arith) (omega arith) (omega arith) (omega arith))
      (λ q. let y : c.item ≢ 0 = eqb-false c.item 0 q in
      cond_cases (λ p. ThrOk (cells_of s) (threads_of s) (frame s a) t (looking h c p)) (eqb c.index x)
      (λ r. let w = eqb-true c.index x r in away_ok tn (omega arith) (omega arith) (omega arith) (omega arith))
      (λ r. let w : c.index ≢ x = eqb-false c.index x r in away_ok tn (omega arith) (omega arith) (omega arith) (omega arith)))))

  -- a take that missed looks again
  again : 13 ≤ h.place → h.place ≤ 15 → Inv (next s g s.running t (to h 12)) a
  again p q =
      let k = mine.bare (omega arith) (omega arith) in
      let b = mine.take (omega arith) in
      let o = mine.own (omega arith) (omega arith) in
      still s a v t tn _ (away_ok tn (omega arith) (omega arith) (omega arith) (omega arith))

  -- T3 and T5: the cell is passed
  passing : (y : Thread) (mk : ℕ) → mk ≡ h.number + 1 → (run_cell s (h.number % cells_of s)).index ≤ h.number → a.head ≤ h.number → h.number < top_of s
      → ThrOk (cells_of s) (threads_of s) (frame s (passes a h.number (h.number % cells_of s))) t y
      → Inv (next s g (set_cell (cells_of s) s.running (h.number % cells_of s) (cell (run_cell s (h.number % cells_of s)).safe (h.number + cells_of s) 0 mk)) t y)
      (passes a h.number (h.number % cells_of s))
  passing y mk raised before from drawn k = celled s a v t tn h.number _ _ _
      (pass_keeps _ _ _ _ _ v.cells v.pos h.number from before _ _ mk (stored s a v t tn h.number _) raised drawn)
      refl (λ o. refl) (λ o. refl) (λ o w. refl) (λ o w. refl) k

  keep_t3 : h.place ≡ 13 → After s a t (row_t3 g t h s.running)
  unfolding row_t3 enters
  keep_t3 e =
      let x = h.number in
      let b = mine.take (omega arith) in
      let o = mine.own (omega arith) (omega arith) in
      let k = mine.t3 e in
      cond_cases (After s a t) (same (run_cell s (x % cells_of s)) h.looked)
      (λ p. let q = same_eq (run_cell s (x % cells_of s)) h.looked p in
      let ix : (run_cell s (x % cells_of s)).index ≡ x = rw q k.1 in
      let it : (run_cell s (x % cells_of s)).item ≢ 0 = rw q k.0 in
      let was : a.landed x ≡ (run_cell s (x % cells_of s)).item = ap a.landed (sym ix) ∙ v.cells.run_in (x % cells_of s) (mod-lt x v.pos) it in
      passing _ _ refl (omega arith) b.0 b.1 (away_ok tn (omega arith) (omega arith) (omega arith) (omega arith)))
      (λ p. again (omega arith) (omega arith))

  keep_t4 : h.place ≡ 14 → After s a t (row_t4 g t h s.running)
  unfolding row_t4 enters
  keep_t4 e =
      let x = h.number in
      let b = mine.take (omega arith) in
      let k = mine.bare (omega arith) (omega arith) in
      let o = mine.own (omega arith) (omega arith) in
      cond_cases (After s a t) (same (run_cell s (x % cells_of s)) h.looked)
      (λ p. celled s a v t tn x _ _ _ (flag_keeps _ _ _ _ _ v.cells v.pos _ (x % cells_of s) _ (mod-lt x v.pos) (stored s a v t tn x _))
      refl (λ o. refl) (λ o. refl) (λ o w. refl) (λ o w. refl) (away_ok tn (omega arith) (omega arith) (omega arith) (omega arith)))
      (λ p. again (omega arith) (omega arith))

  keep_t5 : h.place ≡ 15 → After s a t (row_t5 g t h s.running)
  unfolding row_t5 enters
  keep_t5 e =
      let x = h.number in
      let b = mine.take (omega arith) in
      let n = mine.bare (omega arith) (omega arith) in
      let o = mine.own (omega arith) (omega arith) in
      let k = mine.t5 e in
      cond_cases (After s a t) (same (run_cell s (x % cells_of s)) h.looked)
      (λ p. let q = same_eq (run_cell s (x % cells_of s)) h.looked p in
      passing _ _ refl (rw q k.1) b.0 b.1 (away_ok tn (omega arith) (omega arith) (omega arith) (omega arith)))
      (λ p. again (omega arith) (omega arith))

  keep_t6 : h.place ≡ 16 → After s a t (row_t6 g t h s.running)
  unfolding row_t6 enters
  keep_t6 e =
      let b = mine.take (omega arith) in
      let k = mine.bare (omega arith) (omega arith) in
      let o = mine.own (omega arith) (omega arith) in
      still s a v t tn _ (cond_cases (λ p. ThrOk (cells_of s) (threads_of s) (frame s a) t (to h p)) (leb (tail_at (cells_of s) (threads_of s) s.running) (h.number + 1))
      (λ p. away_ok tn (omega arith) (omega arith) (omega arith) (omega arith)) (λ p. away_ok tn (omega arith) (omega arith) (omega arith) (omega arith)))

  keep_t7 : h.place ≡ 17 → After s a t (row_t7 g t h s.running)
  unfolding row_t7 enters
  keep_t7 e =
      let b = mine.take (omega arith) in
      let k = mine.bare (omega arith) (omega arith) in
      let o = mine.own (omega arith) (omega arith) in
      tailed s a v t tn _ _ (omega arith) (away_ok tn (omega arith) (omega arith) (omega arith) (omega arith))

  keep_t8 : h.place ≡ 18 → After s a t (row_t8 g t h s.running)
  unfolding row_t8 enters
  keep_t8 e =
      let b = mine.take (omega arith) in
      let o = mine.own (omega arith) (omega arith) in
      let k = mine.carry (omega arith) in
      let z : at a.copied t (max (a.copied t) (h.number + 1)) t ≡ h.number + 1 = at_here a.copied t _ ∙ omega arith in
      copying s a v t tn h.number _ b.0 b.1 o (away_ok tn (omega arith) (omega arith) (omega arith)
      (record {
        place = omega arith;
        put = omega arith;
        take = omega arith;
        item = omega arith;
        idles = omega arith;
        bare = omega arith;
        p4 = omega arith;
        p5 = omega arith;
        p7 = omega arith;
        p10 = omega arith;
        t3 = omega arith;
        t4 = omega arith;
        t5 = omega arith;
        own = omega arith;
        copy = λ _. z;
        carry = λ _. k;
      }))

  keep_t9 : h.place ≡ 19 → After s a t (row_t9 g t h s.running)
  unfolding row_t9 enters
  keep_t9 e =
      let b = mine.take (omega arith) in
      let o = mine.copy (omega arith) in
      let k = mine.carry (omega arith) in
      still s a v t tn _ (record {
        known = λ z. tn;
        nums = record {
          place = omega arith;
          put = omega arith;
          take = omega arith;
          item = omega arith;
          idles = omega arith;
          bare = omega arith;
          p4 = omega arith;
          p5 = omega arith;
          p7 = omega arith;
          p10 = omega arith;
          t3 = omega arith;
          t4 = omega arith;
          t5 = omega arith;
          own = omega arith;
          copy = omega arith;
          carry = λ _. k;
        };
        waits = record { p6 = λ q. absurd (omega arith); p10 = λ q. absurd (omega arith); t10 = λ q. inl refl };
      })

  pub keep_row : 1 ≤ h.place → After s a t (row g t h s.running)
  unfolding row_p6 row_p10 row_t10 enters
  keep_row lo = row_cases (After s a t) g t h s.running
      (record {
        p1 = keep_p1 s a v t tn;
        p2 = keep_p2 s a v t tn;
        p3 = keep_p3 s a v t tn;
        p4 = keep_p4 s a v t tn;
        p5 = keep_p5 s a v t tn;
        p6 = λ e. keep_wait s a v t tn _ refl;
        p7 = keep_p7 s a v t tn;
        p8 = keep_p8 s a v t tn;
        p9 = keep_p9 s a v t tn;
        p10 = λ e. keep_wait s a v t tn _ refl;
        t1 = keep_t1;
        t2 = keep_t2;
        t3 = keep_t3;
        t4 = keep_t4;
        t5 = keep_t5;
        t6 = keep_t6;
        t7 = keep_t7;
        t8 = keep_t8;
        t9 = keep_t9;
        t10 = λ e. keep_wait s a v t tn _ (cond_cases (λ x. enters (cells_of s) (threads_of s) a x ≡ a) (eqb h.item 0) (λ _. refl) (λ _. refl));
      })
      lo mine.place
