-- Numbers in bytes: how many there are, which stand where, and what stores leave.
use Prim.Native.Nat.{ℕ, zero, suc, ◌+◌, ◌*◌, ◌/◌, ◌%◌, ◌≤◌, ◌<◌}
use mathlib.Core.Path.{◌≡◌, refl, ◌∙◌}
use mathlib.Core.Logic.{◌≢◌}
use mathlib.Core.List.{List, [], ◌∷◌}
use native.Mathlib.Omega.{arith}
use native.Mathlib.Decide.{ℕ_discrete}
use lib.ListN.{length, take, set, get_or, length-append, length-set, get_or-append}
use lib.Seq.{take-append-le, take_all, get_or_at, get_or-set_other, get_or-set_same, get_or-take}
use Rattle.rules.specs.Refusals.{kept_refusal}
use Rattle.host.specs.Bytes.{number_at, set_number, numbers_to, numbers_of, bytes_to, host_refusal}

pub length-numbers : (b : List ℕ) (k : ℕ) → length (numbers_to b k) ≡ k
length-numbers b zero = refl
length-numbers b (suc k) = simp (length-append, length-numbers b k) (omega arith)

-- the first k of more numbers
pub take-numbers : (b : List ℕ) (k l : ℕ) → k ≤ l → take k (numbers_to b l) ≡ numbers_to b k
take-numbers b k zero h = let e : k ≡ 0 = omega arith in rw e
take-numbers b k (suc l) h = elim (ℕ_discrete k (suc l)) [
  | yes e ↦ rw e (take_all (suc l) (numbers_to b (suc l)) (omega (arith, length-numbers b (suc l))))
  | no d ↦ take-append-le k (numbers_to b l) (number_at b l ∷ []) (omega (arith, length-numbers b l)) ∙ take-numbers b k l (omega arith)
]

-- number j of them
pub number_of : (b : List ℕ) (k j : ℕ) → j < k → get_or (numbers_to b k) j 0 ≡ number_at b j
number_of b zero j h = absurd (omega arith)
number_of b (suc k) j h = elim (ℕ_discrete j k) [
  | yes e ↦ rw e (get_or_at (numbers_to b k) (number_at b k) [] 0 k (length-numbers b k))
  | no d ↦ get_or-append (numbers_to b k) (number_at b k ∷ []) 0 j (omega (arith, length-numbers b k)) ∙ number_of b k j (omega arith)
]

-- only the first k numbers are put in front
pub bytes_take : (m b : List ℕ) (l k : ℕ) → k ≤ l → bytes_to (take l m) b k ≡ bytes_to m b k
bytes_take m b l zero h = refl
bytes_take m b l (suc k) h = rw (get_or-take l m k 0 (omega arith), bytes_take m b l k (omega arith))

-- lengths stay
pub length-set_number : (b : List ℕ) (j x : ℕ) → length (set_number b j x) ≡ length b
unfolding set_number
length-set_number b j x = simp length-set

pub length-bytes : (m b : List ℕ) (k : ℕ) → length (bytes_to m b k) ≡ length b
length-bytes m b zero = refl
length-bytes m b (suc k) = length-set_number (bytes_to m b k) k _ ∙ length-bytes m b k

-- a byte that is none of a number's four
pub byte_other : (b : List ℕ) (j x i : ℕ) → i ≢ 4 * j → i ≢ 4 * j + 1 → i ≢ 4 * j + 2 → i ≢ 4 * j + 3 → get_or (set_number b j x) i 0 ≡ get_or b i 0
unfolding set_number
byte_other b j x i a0 a1 a2 a3 = simp get_or-set_other

pub byte_past : (m b : List ℕ) (k i : ℕ) → 4 * k ≤ i → get_or (bytes_to m b k) i 0 ≡ get_or b i 0
byte_past m b zero i h = refl
byte_past m b (suc k) i h =
    byte_other (bytes_to m b k) k (get_or m k 0) i (omega arith) (omega arith) (omega arith) (omega arith) ∙ byte_past m b k i (omega arith)

-- a number is its four bytes
four_bytes : (x : ℕ) → x < 4294967296 → x % 256 + 256 * (x / 256 % 256) + 65536 * (x / 65536 % 256) + 16777216 * (x / 16777216 % 256) ≡ x
four_bytes x l =
    omega arith

-- a number after a store
pub number_same : (b : List ℕ) (j x : ℕ) → 4 * j + 4 ≤ length b → x < 4294967296 → number_at (set_number b j x) j ≡ x
unfolding number_at set_number
number_same b j x h l =
    let b1 = set b (4 * j) (x % 256) in
    let b2 = set b1 (4 * j + 1) (x / 256 % 256) in
    let b3 = set b2 (4 * j + 2) (x / 65536 % 256) in
    let l1 : length b1 ≡ length b = length-set b _ _ in
    let l2 : length b2 ≡ length b1 = length-set b1 _ _ in
    let l3 : length b3 ≡ length b2 = length-set b2 _ _ in
    let e0 = get_or-set_same b (4 * j) (x % 256) 0 (omega arith) in
    let e1 = get_or-set_same b1 (4 * j + 1) (x / 256 % 256) 0 (omega arith) in
    let e2 = get_or-set_same b2 (4 * j + 2) (x / 65536 % 256) 0 (omega arith) in
    let e3 = get_or-set_same b3 (4 * j + 3) (x / 16777216 % 256) 0 (omega arith) in
    let a1 : 4 * j ≢ 4 * j + 1 = omega arith in
    let a2 : 4 * j ≢ 4 * j + 2 = omega arith in
    let a3 : 4 * j ≢ 4 * j + 3 = omega arith in
    let c2 : 4 * j + 1 ≢ 4 * j + 2 = omega arith in
    let c3 : 4 * j + 1 ≢ 4 * j + 3 = omega arith in
    let d3 : 4 * j + 2 ≢ 4 * j + 3 = omega arith in
    simp (get_or-set_other, e0, e1, e2, e3) (four_bytes x l)

pub number_other : (b : List ℕ) (i j x : ℕ) → i ≢ j → number_at (set_number b j x) i ≡ number_at b i
unfolding number_at
number_other b i j x n =
    let e0 = byte_other b j x (4 * i) (omega arith) (omega arith) (omega arith) (omega arith) in
    let e1 = byte_other b j x (4 * i + 1) (omega arith) (omega arith) (omega arith) (omega arith) in
    let e2 = byte_other b j x (4 * i + 2) (omega arith) (omega arith) (omega arith) (omega arith) in
    let e3 = byte_other b j x (4 * i + 3) (omega arith) (omega arith) (omega arith) (omega arith) in
    rw (e0, e1, e2, e3)

-- the numbers in front, and those past them
pub number_front : (m b : List ℕ) (k j : ℕ) → 4 * k ≤ length b → ((i : ℕ) → get_or m i 0 < 4294967296) → j < k → number_at (bytes_to m b k) j ≡ get_or m j 0
number_front m b zero j h u l = absurd (omega arith)
number_front m b (suc k) j h u l = elim (ℕ_discrete j k) [
  | yes e ↦ rw e (number_same (bytes_to m b k) k (get_or m k 0) (omega (arith, length-bytes m b k)) (u k))
  | no d ↦ number_other (bytes_to m b k) j k (get_or m k 0) d ∙ number_front m b k j (omega arith) u (omega arith)
]

pub number_past : (m b : List ℕ) (k j : ℕ) → k ≤ j → number_at (bytes_to m b k) j ≡ number_at b j
number_past m b zero j l = refl
number_past m b (suc k) j l = number_other (bytes_to m b k) j k (get_or m k 0) (omega arith) ∙ number_past m b k j (omega arith)

-- the refusal of bytes is that of their numbers
pub refusal_of : (R n S e : ℕ) (b : List ℕ) → host_refusal R n S e b ≡ kept_refusal R n S e (numbers_of b)
unfolding host_refusal
refusal_of R n S e b = refl
