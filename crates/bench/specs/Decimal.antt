-- Numbers as bytes: decimal without leading zeros.
use Rattle.std.specs.Prelude.{ℕ, zero, suc, ◌+◌, ◌*◌, ◌-◌, ◌/◌, ◌%◌, ◌^◌, ◌<◌, ◌≡◌, List, [], ◌∷◌, ◌++◌, cond, ltb}

-- n in decimal, in at most f digits
abbrev pub decimal_in : ℕ → ℕ → List ℕ
decimal_in zero n = []
decimal_in (suc f) n = cond (ltb n 10) ((48 + n) ∷ []) (decimal_in f (n / 10) ++ ((48 + n % 10) ∷ []))

-- 20 digits are enough for any number of 64 bits
unfoldable pub decimal : ℕ → List ℕ
decimal n = decimal_in 20 n

-- each number after one space
abbrev pub spaced : List ℕ → List ℕ
spaced [] = []
spaced (n ∷ ns) = 32 ∷ (decimal n ++ spaced ns)

-- the value of digits, after digits that made v
abbrev pub value : ℕ → List ℕ → ℕ
value v [] = v
value v (d ∷ ds) = value (v * 10 + (d - 48)) ds

-- decimal text has the number's value
abbrev pub HasItsValue : Type 0
HasItsValue = (n : ℕ) → n < 2 ^ 64 → value 0 (decimal n) ≡ n
