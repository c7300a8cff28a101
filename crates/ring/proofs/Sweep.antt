-- A list whose first k elements have been replaced by f of them: what a loop that replaces each element has made so far.
use Prim.Native.Nat.{ℕ, zero, suc, ◌<◌}
use mathlib.Core.Path.{◌≡◌, refl, ap}
use mathlib.Core.List.{List, [], ◌∷◌, ◌++◌, map}
use native.Mathlib.Omega.{arith}
use lib.ListN.{length, take, drop, get_or, set}

module _ {A : Type 0} (f : A → A) where
  abbrev pub sweep_to : List A → ℕ → List A
  sweep_to l k = map f (take k l) ++ drop k l

  pub sweep_next : (l : List A) (k : ℕ) (d : A) → k < length l → set (sweep_to l k) k (f (get_or (sweep_to l k) k d)) ≡ sweep_to l (suc k)
  sweep_next [] k d h = absurd (omega arith)
  sweep_next (x ∷ l) zero d h = refl
  sweep_next (x ∷ l) (suc k) d h = ap (λ (r : List A). f x ∷ r) (sweep_next l k d (omega arith))

  pub sweep_all : (l : List A) → sweep_to l (length l) ≡ map f l
  sweep_all [] = refl
  sweep_all (x ∷ l) = ap (λ (r : List A). f x ∷ r) (sweep_all l)
