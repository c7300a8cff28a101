-- Lists over a range of numbers of which only some parts are there.
use Prim.Native.Nat.{ℕ, zero, suc, ◌+◌, ◌<◌, ◌≤◌}
use mathlib.Core.Path.{◌≡◌, sym, ap}
use mathlib.Core.Logic.{◌≢◌}
use mathlib.Core.List.{List, [], ◌++◌, append-nil}
use native.Mathlib.Omega.{arith}
use native.Mathlib.Decide.{ℕ_discrete, dec_le}
use Rattle.rules.specs.Upto.{join_from}
use Rattle.rules.proofs.Joined.{join_none}

module _ {A : Type 0} (f : ℕ → List A) where
  -- one part only
  pub join_only : (lo k j : ℕ) → lo ≤ j → j < lo + k → ((x : ℕ) → lo ≤ x → x < lo + k → x ≢ j → f x ≡ []) → join_from f lo k ≡ f j
  join_only lo zero j a b h = absurd (omega arith)
  join_only lo (suc k) j a b h = elim (ℕ_discrete lo j) [
    | yes e ↦ rw (join_none f (suc lo) k (λ x c d. h x (omega arith) (omega arith) (omega arith)), e) (append-nil (f j))
    | no n ↦ rw (h lo (omega arith) (omega arith) n) (join_only (suc lo) k j (omega arith) (omega arith) (λ x c d. h x (omega arith) (omega arith)))
  ]

  -- nothing after k
  join_stop : (lo k l : ℕ) → k ≤ l → ((x : ℕ) → lo + k ≤ x → f x ≡ []) → join_from f lo l ≡ join_from f lo k
  join_stop lo zero l a h = join_none f lo l (λ x c d. h x (omega arith))
  join_stop lo (suc k) zero a h = absurd (omega arith)
  join_stop lo (suc k) (suc l) a h = ap (λ q. f lo ++ q) (join_stop (suc lo) k l (omega arith) (λ x c. h x (omega arith)))

  -- two bounds past which there is nothing
  pub join_two : (lo k l : ℕ) → ((x : ℕ) → lo + k ≤ x → f x ≡ []) → ((x : ℕ) → lo + l ≤ x → f x ≡ []) → join_from f lo l ≡ join_from f lo k
  join_two lo k l g h = elim (dec_le k l) [ yes p ↦ join_stop lo k l p g | no p ↦ sym (join_stop lo l k (omega arith) h) ]
