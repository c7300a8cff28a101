-- Tests that hold or fail, branches, and lists that are stored to.
use Prim.Native.Nat.{ℕ, zero, suc, ◌<◌}
use mathlib.Core.Path.{◌≡◌, refl}
use mathlib.Core.Logic.{◌≢◌}
use mathlib.Core.Bool.{Bool, true, false, cond, ◌&&◌}
use mathlib.Core.List.{List}
use native.Mathlib.Omega.{arith}
use native.Mathlib.Decide.{ℕ_discrete, dec_lt}
use lib.ListN.{length, get_or, set, replicate}
use lib.Seq.{get_or-set_same, get_or-set_other, set_out}
pub use Rattle.std.proofs.lemmas.Bool.{and_parts as both, and_from as and_both}
use Rattle.rules.specs.Upto.{all_to}

-- a fact of a branch
pub cond_cases {ℓ κ} : {A : Type ℓ} (P : A → Type κ) (b : Bool) {x y : A} → (b ≡ true → P x) → (b ≡ false → P y) → P (cond b x y)
cond_cases P true f g = f refl
cond_cases P false f g = g refl

-- not both tests hold, and the first does
pub not_both : (a b : Bool) → (a && b) ≡ false → a ≡ true → b ≡ false
not_both true b e p = e
not_both false b e p = cc

-- no refusal k
pub unrefused : (b : Bool) (k x : ℕ) → 0 < k → cond b k x ≡ 0 → (b ≡ false) × (x ≡ 0)
unrefused true k x p h = absurd (omega arith)
unrefused false k x p h = (refl, h)

-- all below k pass the test
pub all_at : (f : ℕ → Bool) (k j : ℕ) → all_to f k ≡ true → j < k → f j ≡ true
all_at f zero j h l = absurd (omega arith)
all_at f (suc k) j h l =
    elim (ℕ_discrete j k) [ yes e ↦ rw e (both (all_to f k) (f k) h).1 | no d ↦ all_at f k j (both (all_to f k) (f k) h).0 (omega arith) ]

pub at_all : (f : ℕ → Bool) (k : ℕ) → ((j : ℕ) → j < k → f j ≡ true) → all_to f k ≡ true
at_all f zero h = refl
at_all f (suc k) h = and_both (all_to f k) (f k) (at_all f k (λ j l. h j (omega arith))) (h k (omega arith))

-- a list after a store
pub set_cases {ℓ} : {A : Type ℓ} (P : A → Type 0) (l : List A) (i j : ℕ) (x d : A) → (i ≡ j → P x) → (i ≢ j → P (get_or l i d)) → P (get_or l i d) → P (get_or (set l j x) i d)
set_cases P l i j x d p q r = elim (ℕ_discrete i j) [ no n ↦ rw (get_or-set_other l j i x d n) (q n) | yes e ↦ at e ]
  where
    at : i ≡ j → P (get_or (set l j x) i d)
    at e = elim (dec_lt j (length l)) [ yes h ↦ rw (e, get_or-set_same l j x d h) (p e) | no n ↦ rw (set_out l j x (omega arith)) r ]

pub get_or-all {ℓ} : {A : Type ℓ} (n t : ℕ) (x : A) → get_or (replicate n x) t x ≡ x
get_or-all zero t x = refl
get_or-all (suc n) zero x = refl
get_or-all (suc n) (suc t) x = get_or-all n t x
