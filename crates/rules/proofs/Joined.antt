-- Lists joined one after the other, and counts: two are equal point by point, split, and hold what their parts hold.
use Prim.Native.Nat.{ℕ, zero, suc, ◌+◌, ◌≤◌, ◌<◌}
use mathlib.Core.Path.{◌≡◌, refl, sym}
use mathlib.Core.Logic.{◌⊎◌, inl, inr}
use mathlib.Core.Bool.{Bool}
use mathlib.Core.List.Memᴰ
use mathlib.Core.List.{List, [], ◌∷◌, ◌++◌, map, append_assoc, Memᴰ}
use native.Mathlib.Omega.{arith}
use native.Mathlib.Decide.{ℕ_discrete}
use Rattle.rules.specs.Upto.{count_to, join_from}
use Rattle.rules.proofs.Tests.{cond_cases}

-- counts of tests that agree
pub count_same : (f g : ℕ → Bool) (k : ℕ) → ((j : ℕ) → j < k → f j ≡ g j) → count_to f k ≡ count_to g k
count_same f g zero h = refl
count_same f g (suc k) h = rw (h k (omega arith), count_same f g k (λ j l. h j (omega arith)))

pub count_most : (f : ℕ → Bool) (k : ℕ) → count_to f k ≤ k
count_most f zero = omega arith
count_most f (suc k) = let h = count_most f k in cond_cases (λ c. c ≤ suc k) (f k) (λ e. omega arith) (λ e. omega arith)

module _ {A : Type 0} (f : ℕ → List A) where
  pub join_same : (g : ℕ → List A) (lo k : ℕ) → ((i : ℕ) → lo ≤ i → i < lo + k → f i ≡ g i) → join_from f lo k ≡ join_from g lo k
  join_same g lo zero h = refl
  join_same g lo (suc k) h = rw (h lo (omega arith) (omega arith), join_same g (suc lo) k (λ i a b. h i (omega arith) (omega arith)))

  pub join_none : (lo k : ℕ) → ((i : ℕ) → lo ≤ i → i < lo + k → f i ≡ []) → join_from f lo k ≡ []
  join_none lo zero h = refl
  join_none lo (suc k) h = rw (h lo (omega arith) (omega arith), join_none (suc lo) k (λ i a b. h i (omega arith) (omega arith)))

  pub join_split : (lo a b : ℕ) → join_from f lo (a + b) ≡ join_from f lo a ++ join_from f (lo + a) b
  join_split lo zero b = rw (plus_zero lo, none b)
    where
      plus_zero : (x : ℕ) → x + 0 ≡ x
      plus_zero x = omega arith

      none : (b : ℕ) → 0 + b ≡ b
      none b = omega arith
  join_split lo (suc a) b =
      let e : suc a + b ≡ suc (a + b) = omega arith in
      let d : lo + suc a ≡ suc lo + a = omega arith in
      rw (e, d, join_split (suc lo) a b) (sym (append_assoc (f lo) (join_from f (suc lo) a) (join_from f (suc lo + a) b)))

  -- a member is a member of one of the lists, and the other way
  pub join_from_lem : {x : A} (lo k : ℕ) → Memᴰ x (join_from f lo k) → (i : ℕ) × (lo ≤ i) × (i < lo + k) × Memᴰ x (f i)
  join_from_lem lo zero h = absurd (Memᴰ.not-nil h)
  join_from_lem {x} lo (suc k) h = by (λ m. join_from_lem (suc lo) k m) (Memᴰ.append_cases (f lo) h)
    where
      later : (i : ℕ) × (suc lo ≤ i) × (i < suc lo + k) × Memᴰ x (f i) → (i : ℕ) × (lo ≤ i) × (i < lo + suc k) × Memᴰ x (f i)
      later p = (p.0, omega arith, omega arith, p.3)

      by : (Memᴰ x (join_from f (suc lo) k) → (i : ℕ) × (suc lo ≤ i) × (i < suc lo + k) × Memᴰ x (f i))
          → Memᴰ x (f lo) ⊎ Memᴰ x (join_from f (suc lo) k) → (i : ℕ) × (lo ≤ i) × (i < lo + suc k) × Memᴰ x (f i)
      by rest (inl m) = (lo, omega arith, omega arith, m)
      by rest (inr m) = later (rest m)

  pub in_join : {x : A} (lo k i : ℕ) → lo ≤ i → i < lo + k → Memᴰ x (f i) → Memᴰ x (join_from f lo k)
  in_join lo zero i a b m = absurd (omega arith)
  in_join lo (suc k) i a b m = elim (ℕ_discrete i lo) [
    | yes e ↦ Memᴰ.append_left (join_from f (suc lo) k) (rw e at m)
    | no d ↦ Memᴰ.append_right (f lo) (in_join (suc lo) k i (omega arith) (omega arith) m)
  ]

pub map-append : {A B : Type 0} (h : A → B) (s t : List A) → map h (s ++ t) ≡ map h s ++ map h t
map-append h [] t = refl
map-append h (x ∷ s) t = rw (map-append h s t)

pub map-join : {A B : Type 0} (h : A → B) (f : ℕ → List A) (lo k : ℕ) → map h (join_from f lo k) ≡ join_from (λ i. map h (f i)) lo k
map-join h f lo zero = refl
map-join h f lo (suc k) = rw (map-append h (f lo) (join_from f (suc lo) k), map-join h f (suc lo) k)
