-- Steps that leave the cells, and what they keep of the tale.
use Prim.Native.Nat.{ℕ, ◌%◌, ◌<◌, ◌≤◌}
use mathlib.Core.Path.{◌≡◌, refl, sym, ap, ◌∙◌}
use mathlib.Core.Logic.{◌≢◌, ◌⊎◌, inl, inr}
use mathlib.Core.Bool.{Bool}
use mathlib.Core.Option.{Option, some}
use mathlib.Core.List.{List, [], ◌∷◌}
use native.Mathlib.Omega.{arith}
use Rattle.rules.specs.declared.Thread.{Thread}
use Rattle.rules.specs.declared.Ring.{Ring}
use Rattle.rules.specs.Record.{thread_at}
use Rattle.rules.specs.Memory.{cell_at, tail_at}
use Rattle.rules.specs.State.{State}
use Rattle.rules.specs.Account.{Account, mark_of}
use Rattle.rules.specs.Tale.{Tale}
use Rattle.rules.proofs.D3Inv.{Inv, cells_of, threads_of, top_of, run_cell, TUpd, next, next_thr}
use Rattle.rules.proofs.D3Drawn.{Busy, Carries, still_drawn, drawn_ext}
use Rattle.rules.proofs.D3Told.{Steps, Says, Told, told_step}

-- an account with other copied values, and a tale with other holders
abbrev pub copying : Account → (ℕ → ℕ) → Account
copying a cp =
    record { head = a.head; landed = a.landed; spot = a.spot; durable = a.durable; passed = a.passed; passed_written = a.passed_written; copied = cp; copied_written = a.copied_written; bound = a.bound }

abbrev pub talking : Tale → (ℕ → Bool) → (ℕ → Option ℕ) → Tale
talking τ tk ho = record { confirmed = τ.confirmed; handed = τ.handed; landings = τ.landings; taking = tk; holds = ho; cuts = τ.cuts; closed = τ.closed }

module _ (s : State) (a : Account) (v : Inv s a) (τ : Tale) (w : Told s a τ) (t : ℕ) (tn : t < threads_of s) where
  abbrev h : Thread
  h = thread_at s.control t

  abbrev g : Ring
  g = s.control.ring

  pub upd : (r : Ring) (m : List ℕ) (y : Thread) → TUpd (thread_at s.control) (thread_at (next s r m t y).control) t y
  upd r m y = next_thr s r m t y (omega (arith, v.wide, v.few))

  -- any such step
  pub plain : (m : List ℕ) (y : Thread) (cp : ℕ → ℕ) (tk : ℕ → Bool) (ho : ℕ → Option ℕ)
      → ((j : ℕ) → j < cells_of s → cell_at (cells_of s) m j ≡ run_cell s j)
      → tail_at (cells_of s) (threads_of s) s.running ≤ tail_at (cells_of s) (threads_of s) m
      → (3 ≤ y.place → y.place ≤ 4 → y.looked.index ≤ (run_cell s (y.number % cells_of s)).index)
      → ((x : ℕ) → Busy (thread_at s.control t) x → Busy y x ⊎ (x < (run_cell s (x % cells_of s)).index))
      → ((x : ℕ) → x < top_of s → y.place ≡ 4 → y.looked ≡ run_cell s (x % cells_of s) → (run_cell s (x % cells_of s)).safe ≡ 0 → x < y.number)
      → ((x i : ℕ) → i ≢ 0 → Carries (thread_at s.control t) x i → Carries y x i ⊎ (τ.handed x ≡ i ∷ []))
      → Says (talking τ tk ho) t y → ((i : ℕ) → i ≢ t → (tk i ≡ τ.taking i) × (ho i ≡ τ.holds i))
      → Steps 12 20 (top_of s) (thread_at s.control t) y → Steps 2 10 (tail_at (cells_of s) (threads_of s) s.running) (thread_at s.control t) y
      → Told (next s s.control.ring m t y) (copying a cp) (talking τ tk ho)
  unfolding mark_of
  plain m y cp tk ho cells tl seen busy late carry sy so st sp =
      told_step s a v τ w t tn (copying a cp) (top_of s) m y (talking τ tk ho)
      (drawn_ext _ _ _ _ _ _ _ (still_drawn _ _ _ _ _ _ _ w.drawn v.pos _ t y (upd g m y) τ.handed (λ x i e. e) carry seen busy late) v.pos _ cells)
      sy so st sp tl refl refl (λ x z. refl) (λ x z. refl) (λ x i z. z) w.lands (λ x. inl refl) (λ x. inl refl) refl w.closed

  -- a step from a put's place to a put's place, or to rest, with the number as it was
  pub put_step : (m : List ℕ) (y : Thread)
      → ((j : ℕ) → j < cells_of s → cell_at (cells_of s) m j ≡ run_cell s j)
      → tail_at (cells_of s) (threads_of s) s.running ≤ tail_at (cells_of s) (threads_of s) m
      → 2 ≤ h.place → h.place ≤ 10 → y.place ≤ 10 → y.number ≡ h.number ⊎ (y.place ≤ 1)
      → (3 ≤ y.place → y.place ≤ 4 → y.looked.index ≤ (run_cell s (y.number % cells_of s)).index)
      → ((x : ℕ) → x < top_of s → y.place ≡ 4 → y.looked ≡ run_cell s (x % cells_of s) → (run_cell s (x % cells_of s)).safe ≡ 0 → x < y.number)
      → Told (next s s.control.ring m t y) a τ
  put_step m y cells tl lo hi top num seen late = plain m y a.copied τ.taking τ.holds cells tl seen (λ x b. absurd (omega arith)) late (λ x i z c. absurd (omega arith))
      (record { puts = λ p q. (w.says t).puts (omega arith) hi; takes = λ p. absurd (omega arith); none_held = λ p. (w.says t).none_held (omega arith); held = λ p. absurd (omega arith) })
      (λ i d. (refl, refl)) (λ x k. absurd (omega arith)) (λ x k. inl (record { from = lo; upto = hi; is = same num k.from ∙ k.is }))
    where
      same : y.number ≡ h.number ⊎ (y.place ≤ 1) → 2 ≤ y.place → h.number ≡ y.number
      same (inl e) f = sym e
      same (inr l) f = absurd (omega arith)

  -- .. away from P3 and P4
  pub put_dull : (m : List ℕ) (y : Thread)
      → ((j : ℕ) → j < cells_of s → cell_at (cells_of s) m j ≡ run_cell s j)
      → tail_at (cells_of s) (threads_of s) s.running ≤ tail_at (cells_of s) (threads_of s) m
      → 2 ≤ h.place → h.place ≤ 10 → y.place ≤ 10 → y.number ≡ h.number ⊎ (y.place ≤ 1) → (3 ≤ y.place → y.place ≤ 4 → ⊥)
      → Told (next s s.control.ring m t y) a τ
  put_dull m y cells tl lo hi top num off = put_step m y cells tl lo hi top num (λ p q. absurd (off p q)) (λ x l e. absurd (off (omega arith) (omega arith)))

  -- a step from a take's place to a take's place with the number as it was
  pub take_step : (m : List ℕ) (y : Thread) (cp : ℕ → ℕ)
      → ((j : ℕ) → j < cells_of s → cell_at (cells_of s) m j ≡ run_cell s j)
      → tail_at (cells_of s) (threads_of s) s.running ≤ tail_at (cells_of s) (threads_of s) m
      → 12 ≤ h.place → 12 ≤ y.place → y.number ≡ h.number
      → ((x : ℕ) → Busy (thread_at s.control t) x → Busy y x ⊎ (x < (run_cell s (x % cells_of s)).index))
      → ((x i : ℕ) → i ≢ 0 → Carries (thread_at s.control t) x i → Carries y x i ⊎ (τ.handed x ≡ i ∷ []))
      → Told (next s s.control.ring m t y) (copying a cp) τ
  take_step m y cp cells tl lo ly num busy carry = plain m y cp τ.taking τ.holds cells tl (λ p q. absurd (omega arith)) busy (λ x l e. absurd (omega arith)) carry
      (record { puts = λ p q. absurd (omega arith); takes = λ p. (w.says t).takes (omega arith); none_held = λ p. absurd (omega arith); held = λ p. (w.says t).held lo ∙ ap some (sym num) })
      (λ i d. (refl, refl)) (λ x k. inl (record { from = lo; upto = (v.thrs t).nums.place; is = sym num ∙ k.is })) (λ x k. absurd (omega arith))
