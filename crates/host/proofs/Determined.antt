-- Numbers determine their bytes, so what host recovery leaves is the one run of bytes that holds the recovered numbers, and a second recovery changes nothing.
use Prim.Native.Nat.{ℕ, zero, suc, ◌+◌, ◌*◌, ◌/◌, ◌%◌, ◌≤◌, ◌<◌}
use mathlib.Core.Path.{◌≡◌, refl, sym, ap, ◌∙◌}
use mathlib.Core.List.{List}
use native.Mathlib.Omega.{arith}
use native.Mathlib.Decide.{ℕ_discrete, dec_lt}
use lib.Dec.{eqb}
use lib.ListN.{length, get_or, set}
use lib.Seq.{ext_get_or}
use borrow.Author.Tests.{eqb-true}
use Rattle.rules.specs.Memory.{size}
use Rattle.rules.specs.Cut.{recovered}
use Rattle.rules.specs.Listing.{host_kept}
use Rattle.rules.proofs.Tests.{cond_cases, set_cases}
use Rattle.rules.proofs.Kept.{kept_of}
use Rattle.rules.proofs.RecoveredAgain.{host_again}
use Rattle.host.specs.Bytes.{number_at, set_number, numbers_of, bytes_to, host_refusal, host_bytes}
use Rattle.host.proofs.Laws.{length-numbers, number_of, byte_past, refusal_of}
use Rattle.host.proofs.Fits.{Bytes}
use Rattle.host.proofs.Left.{length_left, numbers_left}

-- what is put in front of bytes is bytes
set_byte : (b : List ℕ) (j x : ℕ) → Bytes b → x < 256 → Bytes (set b j x)
set_byte b j x u l i = set_cases (λ v. v < 256) b i j x 0 (λ e. l) (λ d. u i) (u i)

set-bytes : (b : List ℕ) (j x : ℕ) → Bytes b → Bytes (set_number b j x)
unfolding set_number
set-bytes b j x u =
    let b1 = set b (4 * j) (x % 256) in
    let b2 = set b1 (4 * j + 1) (x / 256 % 256) in
    let b3 = set b2 (4 * j + 2) (x / 65536 % 256) in
    set_byte b3 (4 * j + 3) (x / 16777216 % 256)
    (set_byte b2 (4 * j + 2) (x / 65536 % 256)
    (set_byte b1 (4 * j + 1) (x / 256 % 256) (set_byte b (4 * j) (x % 256) u (omega arith)) (omega arith)) (omega arith)) (omega arith)

front_bytes : (m b : List ℕ) (k : ℕ) → Bytes b → Bytes (bytes_to m b k)
front_bytes m b zero u = u
front_bytes m b (suc k) u = set-bytes (bytes_to m b k) k (get_or m k 0) (front_bytes m b k u)

pub bytes_left : (R n S e : ℕ) (b : List ℕ) → Bytes b → Bytes (host_bytes R n S e b)
unfolding host_bytes
bytes_left R n S e b u = cond_cases Bytes (eqb (host_refusal R n S e b) 0) (λ q. front_bytes (recovered R n (numbers_of b)) b (size R n) u) (λ q. u)

-- a low byte and the rest
one_byte : (a x d y : ℕ) → a < 256 → d < 256 → a + 256 * x ≡ d + 256 * y → (a ≡ d) × (x ≡ y)
one_byte a x d y h l e = (omega arith, omega arith)

-- equal numbers have equal bytes
same_byte : (b c : List ℕ) (j i : ℕ) → Bytes b → Bytes c → number_at b j ≡ number_at c j → 4 * j ≤ i → i < 4 * j + 4 → get_or b i 0 ≡ get_or c i 0
unfolding number_at
same_byte b c j i u v e h l =
    let b0 = get_or b (4 * j) 0 in
    let b1 = get_or b (4 * j + 1) 0 in
    let b2 = get_or b (4 * j + 2) 0 in
    let b3 = get_or b (4 * j + 3) 0 in
    let c0 = get_or c (4 * j) 0 in
    let c1 = get_or c (4 * j + 1) 0 in
    let c2 = get_or c (4 * j + 2) 0 in
    let c3 = get_or c (4 * j + 3) 0 in
    let first = one_byte b0 (b1 + 256 * (b2 + 256 * b3)) c0 (c1 + 256 * (c2 + 256 * c3)) (u (4 * j)) (v (4 * j)) (omega arith) in
    let second = one_byte b1 (b2 + 256 * b3) c1 (c2 + 256 * c3) (u (4 * j + 1)) (v (4 * j + 1)) first.1 in
    let third = one_byte b2 b3 c2 c3 (u (4 * j + 2)) (v (4 * j + 2)) second.1 in
    elim (ℕ_discrete i (4 * j)) [
      | yes p ↦ rw p first.0
      | no p ↦ elim (ℕ_discrete i (4 * j + 1)) [
        | yes q ↦ rw q second.0
        | no q ↦ elim (ℕ_discrete i (4 * j + 2)) [
          | yes r ↦ rw r third.0
          | no r ↦ let z : i ≡ 4 * j + 3 = omega arith in rw z third.1
        ]
      ]
    ]

-- bytes with the same numbers, and the same where they are left over, are the same
pub same_bytes : (b c : List ℕ) → Bytes b → Bytes c → length b ≡ length c → numbers_of b ≡ numbers_of c → ((i : ℕ) → 4 * (length b / 4) ≤ i → get_or b i 0 ≡ get_or c i 0) → b ≡ c
unfolding numbers_of
same_bytes b c u v l e rest =
    ext_get_or 0 b c l
    (λ i h. elim (dec_lt i (4 * (length b / 4))) [
      | no g ↦ rest i (omega arith)
      | yes g ↦
          let j = i / 4 in
          let k : j < length b / 4 = omega arith in
          let p = number_of b (length b / 4) j k in
          let q = number_of c (length c / 4) j (omega arith) in
          same_byte b c j i u v (sym p ∙ (ap (λ (m : List ℕ). get_or m j 0) e ∙ q)) (omega arith) (omega arith)
    ])

module _ (R n S e : ℕ) (b : List ℕ) (u : Bytes b) where
  -- bytes left over are as they were
  over_left : (i : ℕ) → 4 * (length b / 4) ≤ i → get_or (host_bytes R n S e b) i 0 ≡ get_or b i 0
  unfolding host_bytes numbers_of
  over_left i h =
      cond_cases (λ (x : List ℕ). get_or x i 0 ≡ get_or b i 0) (eqb (host_refusal R n S e b) 0)
      (λ q. byte_past (recovered R n (numbers_of b)) b (size R n) i (omega (arith, (kept_of R n S e (numbers_of b) (sym (refusal_of R n S e b) ∙ eqb-true _ _ q)).long, length-numbers b (length b / 4))))
      (λ q. refl)

  -- no other bytes, as many, hold the numbers that host recovery leaves and agree where they are left over
  pub left_only : (c : List ℕ) → Bytes c → length c ≡ length b → numbers_of c ≡ host_kept R n S e (numbers_of b) → ((i : ℕ) → 4 * (length b / 4) ≤ i → get_or c i 0 ≡ get_or b i 0)
      → c ≡ host_bytes R n S e b
  left_only c v l m rest =
      let z = length_left R n S e b in
      same_bytes c (host_bytes R n S e b) v (bytes_left R n S e b u) (l ∙ sym z) (m ∙ sym (numbers_left R n S e b u))
      (λ i h. rest i (omega arith) ∙ sym (over_left i (omega arith)))

-- a second recovery changes nothing
pub again : (R n S e : ℕ) (b : List ℕ) → Bytes b → host_bytes R n S e (host_bytes R n S e b) ≡ host_bytes R n S e b
again R n S e b u =
    let d = host_bytes R n S e b in
    let v = bytes_left R n S e b u in
    let m = numbers_left R n S e b u in
    sym (left_only R n S e d v d v refl (m ∙ sym (ap (host_kept R n S e) m ∙ host_again R n S e (numbers_of b))) (λ i h. refl))
