-- Laws of decimal text: how many digits it has, one digit more, and its value.
use Prim.Native.Nat.{ℕ, zero, suc, ◌+◌, ◌*◌, ◌-◌, ◌/◌, ◌%◌, ◌^◌, ◌<◌, ◌≤◌}
use mathlib.Core.Path.{◌≡◌, refl, ap, ◌∙◌}
use mathlib.Core.List.{List, [], ◌∷◌, ◌++◌}
use mathlib.Core.Bool.{Bool, true, false, cond}
use native.Mathlib.Nat.{pow-suc, pow-zero, div-lt_iff_lt-mul}
use native.Mathlib.Omega.{arith}
use lib.ListN.{length, length-append}
use lib.Dec.{ltb, lit<}
use borrow.Author.Tests.{lt-ltb, le-ltb, ltb-false}
use Rattle.std.proofs.lemmas.Fmt.{decimal_by_steps}
use Rattle.std.specs.Fmt.{decimal as std_decimal}
use Rattle.bench.specs.Decimal.{decimal_in, decimal, value, HasItsValue}

-- the last digit, and the number without it
pub tenth : (f n : ℕ) → n < 10 ^ suc f → n / 10 < 10 ^ f
tenth f n h = (div-lt_iff_lt-mul (lit< tt)).1 (rw pow-suc at h)

pub tenth_of : (v d : ℕ) → d ≤ 9 → (v * 10 + d) / 10 ≡ v
tenth_of v d h = omega arith

pub last_of : (v d : ℕ) → d ≤ 9 → (v * 10 + d) % 10 ≡ d
last_of v d h = omega arith

-- more room changes nothing
fuel_by : (t : Bool) (f n : ℕ) → ltb n 10 ≡ t → (10 ≤ n → decimal_in f (n / 10) ≡ decimal_in (suc f) (n / 10))
    → cond t ((48 + n) ∷ []) (decimal_in f (n / 10) ++ ((48 + n % 10) ∷ [])) ≡ decimal_in (suc (suc f)) n
fuel_by true f n e a = rw e
fuel_by false f n e a = rw e (ap (λ (x : List ℕ). x ++ ((48 + n % 10) ∷ [])) (a (ltb-false n 10 e)))

pub fuel : (f n : ℕ) → n < 10 ^ suc f → decimal_in (suc f) n ≡ decimal_in (suc (suc f)) n
fuel zero n h = let k : n < 10 = omega (arith, pow-suc 10 0, pow-zero 10) in rw (lt-ltb n 10 k)
fuel (suc f) n h = fuel_by (ltb n 10) (suc f) n refl (λ k. fuel f (n / 10) (tenth (suc f) n h))

-- one digit more
pub decimal-more : (v d : ℕ) → 1 ≤ v → d ≤ 9 → v * 10 + d ≤ 4294967295 → decimal (v * 10 + d) ≡ decimal v ++ ((48 + d) ∷ [])
unfolding decimal
decimal-more v d h k m =
    let p : v < 10000000000000000000 = omega arith in
    rw (le-ltb (v * 10 + d) 10 (omega arith), tenth_of v d k, last_of v d k, fuel 18 v p)

pub decimal_one : (d : ℕ) → d ≤ 9 → decimal d ≡ (48 + d) ∷ []
unfolding decimal
decimal_one d h = rw (lt-ltb d 10 (omega arith))

-- how long it is
length_by : (t : Bool) (f n k : ℕ) → ltb n 10 ≡ t → (10 ≤ n → length (decimal_in f (n / 10)) ≤ k)
    → length (cond t ((48 + n) ∷ []) (decimal_in f (n / 10) ++ ((48 + n % 10) ∷ []))) ≤ suc k
length_by true f n k e a = omega arith
length_by false f n k e a =
    let h = a (ltb-false n 10 e) in omega (arith, length-append (decimal_in f (n / 10)) ((48 + n % 10) ∷ []))

pub length_in : (k f n : ℕ) → n < 10 ^ suc k → length (decimal_in f n) ≤ suc k
length_in k zero n h = omega arith
length_in zero (suc f) n h = let q : n < 10 = omega (arith, pow-suc 10 0, pow-zero 10) in rw (lt-ltb n 10 q) (omega arith)
length_in (suc k) (suc f) n h = length_by (ltb n 10) f n (suc k) refl (λ l. length_in k f (n / 10) (tenth (suc k) n h))

pub length_small : (n : ℕ) → n ≤ 4294967295 → length (decimal n) ≤ 10
unfolding decimal
length_small n h = length_in 9 20 n (let p : n < 10000000000 = omega arith in p)

-- its value
value-append : (v : ℕ) (a b : List ℕ) → value v (a ++ b) ≡ value (value v a) b
value-append v [] b = refl
value-append v (d ∷ a) b = value-append (v * 10 + (d - 48)) a b

value_by : (t : Bool) (f n : ℕ) → ltb n 10 ≡ t → (10 ≤ n → value 0 (decimal_in f (n / 10)) ≡ n / 10)
    → value 0 (cond t ((48 + n) ∷ []) (decimal_in f (n / 10) ++ ((48 + n % 10) ∷ []))) ≡ n
value_by true f n e a = omega arith
value_by false f n e a =
    value-append 0 (decimal_in f (n / 10)) ((48 + n % 10) ∷ [])
    ∙ rw (a (ltb-false n 10 e)) (omega arith)

value_in : (f n : ℕ) → n < 10 ^ f → value 0 (decimal_in f n) ≡ n
value_in zero n h = omega arith
value_in (suc f) n h = value_by (ltb n 10) f n refl (λ k. value_in f (n / 10) (tenth f n h))

pub has_its_value : HasItsValue
unfolding decimal
has_its_value n h = value_in 20 n (let p : n < 100000000000000000000 = omega arith in p)

-- it is what std prints of a number
InAnyRoom : ℕ → List ℕ → Type 0
InAnyRoom n ds = (f : ℕ) → n < 10 ^ suc f → decimal_in (suc f) n ≡ ds

one_digit : (n : ℕ) → n < 10 → InAnyRoom n ((48 + n) ∷ [])
unfolding InAnyRoom
one_digit n h f q = rw (lt-ltb n 10 h)

more_digits : (n : ℕ) (ds : List ℕ) → 10 ≤ n → InAnyRoom (n / 10) ds → InAnyRoom n (ds ++ ((48 + n % 10) ∷ []))
unfolding InAnyRoom
more_digits n ds h a zero q = absurd (omega (arith, pow-suc 10 0, pow-zero 10))
more_digits n ds h a (suc f) q = rw (le-ltb n 10 h, a f (tenth (suc f) n q))

pub as_std : (n : ℕ) → n < 2 ^ 64 → decimal n ≡ std_decimal n
unfolding decimal InAnyRoom
as_std n h = decimal_by_steps InAnyRoom one_digit more_digits n h 19 (omega arith)
