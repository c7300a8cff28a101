-- Each row of a put keeps the invariant.
use Prim.Native.Nat.{ℕ, ◌+◌, ◌%◌, ◌<◌, ◌≤◌}
use mathlib.Core.Path.{◌≡◌, refl, sym, ap, ◌∙◌}
use mathlib.Core.Logic.{inl}
use mathlib.Core.Bool.{◌&&◌}
use native.Mathlib.Omega.{arith}
use lib.Dec.{eqb, leb}
use borrow.Author.Tests.{leb-true, eqb-true}
use Rattle.rules.specs.declared.Thread.{Thread}
use Rattle.rules.specs.declared.Ring.{Ring}
use Rattle.rules.specs.declared.Answer.{Answer}
use Rattle.rules.specs.Record.{idle, thread_at}
use Rattle.rules.specs.Memory.{closed_at, tail_at}
use Rattle.rules.specs.Line.{is_none}
use Rattle.rules.specs.Table.{Step, same, to, drawing, looking, gives_up, row_wait, row_p1, row_p2, row_p3, row_p4, row_p5, row_p7, row_p8, row_p9}
use Rattle.rules.specs.State.{State}
use Rattle.rules.specs.Account.{Account, enters}
use Rattle.rules.proofs.Tests.{cond_cases, both}
use Rattle.rules.proofs.Sound.{same_eq}
use Rattle.rules.proofs.D3Cells.{at_here, at_else, unlanded, land_keeps}
use Rattle.rules.proofs.D3Threads.{Nums, ThrOk, away_ok, idle_ok}
use Rattle.rules.proofs.D3Inv.{Inv, cells_of, threads_of, top_of, run_cell, frame, tail_frame, next, still, tailed, shutting, stored, celled}

abbrev pub After : State → Account → ℕ → Step → Type 0
After s a t r = Inv (next s r.moved.ring r.running t r.moved.thread) (enters (cells_of s) (threads_of s) a r.moved.answer)

module _ (s : State) (a : Account) (v : Inv s a) (t : ℕ) (tn : t < threads_of s) where
  abbrev h : Thread
  h = thread_at s.control t

  abbrev g : Ring
  g = s.control.ring

  mine : Nums (frame s a) t h
  mine = (v.thrs t).nums

  pub keep_p1 : h.place ≡ 1 → After s a t (row_p1 g t h s.running)
  unfolding row_p1 enters
  keep_p1 e =
      let i = mine.item (omega arith) (omega arith) in
      tailed s a v t tn _ _ (omega arith)
      (cond_cases (λ p. ThrOk (cells_of s) (threads_of s) (tail_frame s a (tail_at (cells_of s) (threads_of s) s.running + 1)) t (drawing h (tail_at (cells_of s) (threads_of s) s.running) p)) (eqb (closed_at (cells_of s) (threads_of s) s.running) 1)
      (λ q. let z = eqb-true (closed_at (cells_of s) (threads_of s) s.running) 1 q in away_ok tn (omega arith) (omega arith) (omega arith) (omega arith))
      (λ q. away_ok tn (omega arith) (omega arith) (omega arith) (omega arith)))

  pub keep_p2 : h.place ≡ 2 → After s a t (row_p2 g t h s.running)
  unfolding row_p2 enters
  keep_p2 e =
      let c = run_cell s (h.number % cells_of s) in
      let i = mine.item (omega arith) (omega arith) in
      let b = mine.put (omega arith) (omega arith) in
      still s a v t tn _ (cond_cases (λ p. ThrOk (cells_of s) (threads_of s) (frame s a) t (looking h c p)) (eqb c.item 0 && leb c.index h.number)
      (λ p. let q = both (eqb c.item 0) _ p in
      let y = eqb-true c.item 0 q.0 in
      let z = leb-true c.index h.number q.1 in
      cond_cases (λ p. ThrOk (cells_of s) (threads_of s) (frame s a) t (looking h c p)) (eqb c.safe 1)
      (λ r. away_ok tn (omega arith) (omega arith) (omega arith) (omega arith)) (λ r. away_ok tn (omega arith) (omega arith) (omega arith) (omega arith)))
      (λ p. away_ok tn (omega arith) (omega arith) (omega arith) (omega arith)))

  pub keep_p3 : h.place ≡ 3 → After s a t (row_p3 g t h s.running)
  unfolding row_p3 enters
  keep_p3 e =
      let i = mine.item (omega arith) (omega arith) in
      let b = mine.put (omega arith) (omega arith) in
      let k = mine.p4 (omega arith) (omega arith) in
      still s a v t tn _ (cond_cases (λ p. ThrOk (cells_of s) (threads_of s) (frame s a) t (to h p)) (leb (top_of s) h.number)
      (λ p. away_ok tn (omega arith) (omega arith) (omega arith) (omega arith)) (λ p. away_ok tn (omega arith) (omega arith) (omega arith) (omega arith)))

  pub keep_p4 : h.place ≡ 4 → After s a t (row_p4 g t h s.running)
  unfolding row_p4 enters
  keep_p4 e =
      let x = h.number in
      let i = mine.item (omega arith) (omega arith) in
      let b = mine.put (omega arith) (omega arith) in
      let k = mine.p4 (omega arith) (omega arith) in
      cond_cases (After s a t) (same (run_cell s (x % cells_of s)) h.looked)
      (λ p. let q = same_eq (run_cell s (x % cells_of s)) h.looked p in
      let before : (run_cell s (x % cells_of s)).index ≤ x = rw q k.1 in
      let was : (run_cell s (x % cells_of s)).item ≡ 0 = rw q k.0 in
      let un = unlanded _ _ _ _ _ v.cells v.pos x b.0 before was in
      let z = at_here a.landed x h.item in
      celled s a v t tn x _ _ _ (land_keeps _ _ _ _ _ v.cells v.pos x b.0 before _ h.item _ (stored s a v t tn x _) refl was)
      refl (λ o. refl) (λ o. refl)
      (λ y w. at_else a.landed x h.item y (λ d. w (ap a.landed d ∙ un)))
      (λ y w. at_else a.durable x 0 y (λ d. w (sym (v.cells.sub y w) ∙ ap a.landed d ∙ un)))
      (away_ok tn (omega arith) (omega arith) (omega arith) (omega arith)))
      (λ p. still s a v t tn _ (away_ok tn (omega arith) (omega arith) (omega arith) (omega arith)))

  pub keep_p5 : h.place ≡ 5 → After s a t (row_p5 g t h s.running)
  unfolding row_p5 enters
  keep_p5 e =
      let i = mine.item (omega arith) (omega arith) in
      let b = mine.put (omega arith) (omega arith) in
      let k = mine.p5 (omega arith) (omega arith) in
      still s a v t tn _ (record { known = λ z. tn; nums = omega arith; waits = record { p6 = λ q. inl refl; p10 = λ q. absurd (omega arith); t10 = λ q. absurd (omega arith) } })

  -- P6, P10, T10: an answer that the account passes over
  pub keep_wait : (x : Answer) → enters (cells_of s) (threads_of s) a x ≡ a → After s a t (row_wait g t h s.running x)
  unfolding row_wait enters
  keep_wait x e = cond_cases (After s a t) (is_none h.awaited)
      (λ p. rw e (still s a v t tn idle (idle_ok _ _ _ t))) (λ p. still s a v t tn h (v.thrs t))

  pub keep_p7 : h.place ≡ 7 → After s a t (row_p7 g t h s.running)
  unfolding row_p7 enters
  keep_p7 e =
      let i = mine.item (omega arith) (omega arith) in
      let b = mine.put (omega arith) (omega arith) in
      let k = mine.p7 e in
      still s a v t tn _ (record { known = λ z. tn; nums = omega arith; waits = record { p6 = λ q. absurd (omega arith); p10 = λ q. inl refl; t10 = λ q. absurd (omega arith) } })

  pub keep_p8 : h.place ≡ 8 → After s a t (row_p8 g t h s.running)
  unfolding row_p8 enters
  keep_p8 e =
      let i = mine.item (omega arith) (omega arith) in
      let b = mine.put (omega arith) (omega arith) in
      still s a v t tn _ (cond_cases (ThrOk (cells_of s) (threads_of s) (frame s a) t) (gives_up g h)
      (λ p. away_ok tn (omega arith) (omega arith) (omega arith) (omega arith)) (λ p. away_ok tn (omega arith) (omega arith) (omega arith) (omega arith)))

  pub keep_p9 : h.place ≡ 9 → After s a t (row_p9 g t h s.running)
  unfolding row_p9 enters
  keep_p9 e =
      let i = mine.item (omega arith) (omega arith) in
      let b = mine.put (omega arith) (omega arith) in
      shutting s a v t tn _ (away_ok tn (omega arith) (omega arith) (omega arith) (omega arith))
