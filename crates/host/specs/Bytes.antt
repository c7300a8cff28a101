-- Document 01, "Listing, reading, host": the kept image as four bytes a number, low byte first, and what host recovery makes of it.
use Rattle.std.specs.Prelude.{ℕ, zero, suc, ◌+◌, ◌*◌, ◌/◌, ◌%◌, List, [], ◌∷◌, ◌++◌, cond, eqb, length, get_or, set}
use Rattle.rules.specs.Memory.{size}
use Rattle.rules.specs.Cut.{recovered}
use Rattle.rules.specs.Refusals.{kept_refusal}

-- number j stands in the four bytes from 4j on, low byte first
unfoldable pub number_at : List ℕ → ℕ → ℕ
number_at b j = get_or b (4 * j) 0 + 256 * get_or b (4 * j + 1) 0 + 65536 * get_or b (4 * j + 2) 0 + 16777216 * get_or b (4 * j + 3) 0

unfoldable pub set_number : List ℕ → ℕ → ℕ → List ℕ
set_number b j x = set (set (set (set b (4 * j) (x % 256)) (4 * j + 1) (x / 256 % 256)) (4 * j + 2) (x / 65536 % 256)) (4 * j + 3) (x / 16777216 % 256)

-- the first k numbers
abbrev pub numbers_to : List ℕ → ℕ → List ℕ
numbers_to b zero = []
numbers_to b (suc k) = numbers_to b k ++ (number_at b k ∷ [])

-- bytes hold a fourth of their count in numbers, rounded down
unfoldable pub numbers_of : List ℕ → List ℕ
numbers_of b = numbers_to b (length b / 4)

-- the bytes with the first k numbers of m in front
abbrev pub bytes_to : List ℕ → List ℕ → ℕ → List ℕ
bytes_to m b zero = b
bytes_to m b (suc k) = set_number (bytes_to m b k) k (get_or m k 0)

-- the number that host recovery gives: 0, or the refusal
unfoldable pub host_refusal : ℕ → ℕ → ℕ → ℕ → List ℕ → ℕ
host_refusal R n S e b = kept_refusal R n S e (numbers_of b)

-- what it leaves of the bytes: the 4R + n + 2 numbers of the recovered image in front, or after a refusal all as it was
unfoldable pub host_bytes : ℕ → ℕ → ℕ → ℕ → List ℕ → List ℕ
host_bytes R n S e b = cond (eqb (host_refusal R n S e b) 0) (bytes_to (recovered R n (numbers_of b)) b (size R n)) b
