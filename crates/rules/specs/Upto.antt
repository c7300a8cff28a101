-- Tests, largest numbers and counts over the numbers 0 .. k - 1, and lists over k numbers from one on, as loops go through them.
use Rattle.std.specs.Prelude.{ℕ, zero, suc, max, List, [], ◌++◌, Bool, true, cond, ◌&&◌}

-- all pass the test
abbrev pub all_to : (ℕ → Bool) → ℕ → Bool
all_to f zero = true
all_to f (suc k) = all_to f k && f k

-- the largest, 0 if there are none
abbrev pub max_to : (ℕ → ℕ) → ℕ → ℕ
max_to f zero = 0
max_to f (suc k) = max (max_to f k) (f k)

-- how many pass the test
abbrev pub count_to : (ℕ → Bool) → ℕ → ℕ
count_to f zero = 0
count_to f (suc k) = cond (f k) (suc (count_to f k)) (count_to f k)

-- the k lists f lo, f (lo + 1), .. one after the other
abbrev pub join_from : {A : Type 0} → (ℕ → List A) → ℕ → ℕ → List A
join_from f lo zero = []
join_from f lo (suc k) = f lo ++ join_from f (suc lo) k
