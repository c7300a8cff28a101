-- Every event keeps the invariant.
use Prim.Native.Nat.{ℕ, ◌<◌, ◌≤◌}
use mathlib.Core.Path.{◌≡◌}
use mathlib.Core.Logic.{◌≢◌}
use native.Mathlib.Omega.{arith}
use Rattle.rules.specs.declared.Event.{Event}
use Rattle.rules.specs.Record.{thread_at}
use Rattle.rules.specs.State.{State}
use Rattle.rules.specs.Events.{begin_put, begin_take, step_thread, event}
use Rattle.rules.specs.Account.{Account, enters}
use Rattle.rules.proofs.D3Dispatch.{event_cases}
use Rattle.rules.proofs.D3Threads.{away}
use Rattle.rules.proofs.D3Inv.{Inv, Good, threads_of, still}
use Rattle.rules.proofs.D3Rows.{keep_row}
use Rattle.rules.proofs.D3Back.{keep_back}
use Rattle.rules.proofs.D3Cut.{keep_cut}

module _ (s : State) (a : Account) (v : Inv s a) where
  keep_put : (i x : ℕ) → i < threads_of s → (thread_at s.control i).place ≡ 0 → x ≢ 0 → Good s a (begin_put s i x)
  unfolding begin_put enters
  keep_put i x l e z = still s a v i l _ (record { known = λ _. l; nums = omega arith; waits = away (omega arith) (omega arith) (omega arith) })

  keep_take : (i : ℕ) → i < threads_of s → (thread_at s.control i).place ≡ 0 → Good s a (begin_take s i)
  unfolding begin_take enters
  keep_take i l e = let z = (v.thrs i).nums.idles e in still s a v i l _ (record { known = λ _. l; nums = omega arith; waits = away (omega arith) (omega arith) (omega arith) })

  keep_go : (i : ℕ) → i < threads_of s → 1 ≤ (thread_at s.control i).place → Good s a (step_thread s i)
  unfolding step_thread
  keep_go i l b = keep_row s a v i l b

  pub keeps : (e : Event) → Good s a (event s e)
  unfolding enters
  keeps = event_cases (λ e. Good s a) s
      (record { refuses = λ e k. v; put = keep_put; take = keep_take; go = keep_go; back = keep_back s a v; cuts = keep_cut s a v })
