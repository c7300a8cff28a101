-- Lists in which each member comes before all later ones.
use Prim.Native.Nat.{ℕ, zero, suc, ◌<◌}
use mathlib.Core.Path.{◌≡◌, refl}
use mathlib.Core.Logic.{◌⊎◌, inl, inr}
use mathlib.Core.List.Memᴰ
use mathlib.Core.List.{List, [], ◌∷◌, ◌++◌, map, Memᴰ}
use native.Mathlib.Omega.{arith}
use Rattle.rules.specs.Upto.{join_from}
use Rattle.rules.proofs.Joined.{join_from_lem}

pub data Rising {A : Type 0} (Before : A → A → Type 0) : List A → Type 0 where
  none : Rising Before []
  next : {a : A} {l : List A} → ((b : A) → Memᴰ b l → Before a b) → Rising Before l → Rising Before (a ∷ l)

module _ {A : Type 0} (Before : A → A → Type 0) where
  pub rising_one : (a : A) → Rising Before (a ∷ [])
  rising_one a = next (λ b m. absurd (Memᴰ.not-nil m)) none

  pub rising_append : (s t : List A) → Rising Before s → Rising Before t → ((a b : A) → Memᴰ a s → Memᴰ b t → Before a b) → Rising Before (s ++ t)
  rising_append [] t p q h = q
  rising_append (x ∷ s) t (next f p) q h =
      next (λ b m. by b (Memᴰ.append_cases s m)) (rising_append s t p q (λ a b i j. h a b (Memᴰ.tail i) j))
    where
      by : (b : A) → Memᴰ b s ⊎ Memᴰ b t → Before x b
      by b (inl m) = f b m
      by b (inr m) = h x b (Memᴰ.head refl) m

  -- lists joined one after the other rise if each does and each comes before the later ones
  pub rising_join : (f : ℕ → List A) (lo k : ℕ) → ((i : ℕ) → Rising Before (f i)) → ((i j : ℕ) → i < j → (a b : A) → Memᴰ a (f i) → Memᴰ b (f j) → Before a b)
      → Rising Before (join_from f lo k)
  rising_join f lo zero r h = none
  rising_join f lo (suc k) r h =
      rising_append (f lo) (join_from f (suc lo) k) (r lo) (rising_join f (suc lo) k r h)
      (λ a b p q. let z = join_from_lem f (suc lo) k q in h lo z.0 (omega arith) a b p z.3)

  -- the last comes after all before it
  pub rising_last : (s : List A) (e a : A) → Rising Before (s ++ (e ∷ [])) → Memᴰ a s → Before a e
  rising_last [] e a r m = absurd (Memᴰ.not-nil m)
  rising_last (x ∷ s) e a (next f r) m = by (λ d. rising_last s e a r d) (Memᴰ.cases_cons m)
    where
      by : (Memᴰ a s → Before a e) → (a ≡ x) ⊎ Memᴰ a s → Before a e
      by later (inl q) = rw q (f e (Memᴰ.append_right s (Memᴰ.head refl)))
      by later (inr d) = later d

pub rising_map : {A B : Type 0} (P : A → A → Type 0) (Q : B → B → Type 0) (f : A → B) (l : List A)
    → ((a b : A) → Memᴰ a l → Memᴰ b l → P a b → Q (f a) (f b)) → Rising P l → Rising Q (map f l)
rising_map P Q f [] h r = none
rising_map P Q f (x ∷ l) h (next g r) =
    next {a = f x} (λ b m. let z = Memᴰ.of_map f l m in rw (← z.2) (h x z.0 (Memᴰ.head refl) (Memᴰ.tail z.1) (g z.0 z.1)))
    (rising_map P Q f l (λ a b p q. h a b (Memᴰ.tail p) (Memᴰ.tail q)) r)
