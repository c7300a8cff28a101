-- Bytes and numbers: the numbers that the bytes left hold are those that host recovery leaves of the numbers lent, and every byte past them is as it was.
use Prim.Native.Nat.{ℕ, ◌*◌, ◌/◌, ◌≤◌}
use mathlib.Core.Path.{◌≡◌, refl, sym, ◌∙◌}
use mathlib.Core.Logic.{◌≢◌}
use mathlib.Core.Bool.{Bool, true, false, cond}
use mathlib.Core.List.{List}
use native.Mathlib.Omega.{arith}
use native.Mathlib.Decide.{dec_lt}
use lib.Dec.{eqb}
use lib.ListN.{length, get_or}
use lib.Seq.{ext_get_or}
use borrow.Author.Tests.{eqb-true, ne_eqb}
use Rattle.rules.specs.Memory.{size}
use Rattle.rules.specs.Cut.{recovered}
use Rattle.rules.specs.Refusals.{kept_refusal}
use Rattle.rules.specs.Listing.{host_kept}
use Rattle.rules.proofs.Tests.{cond_cases}
use Rattle.rules.proofs.Recovered.{length_recovered, number_recovered}
use Rattle.rules.proofs.Kept.{SoundKept, kept_of}
use Rattle.host.specs.Bytes.{numbers_to, numbers_of, bytes_to, host_refusal, host_bytes}
use Rattle.host.proofs.Laws.{length-numbers, number_of, length-bytes, byte_past, number_front, number_past, refusal_of}
use Rattle.host.proofs.Fits.{Bytes, numbers_fit, recovered-fits}

-- the bytes of an accepted call
accepted_left : (R n S e : ℕ) (b : List ℕ) → Bytes b → SoundKept R n S e (numbers_to b (length b / 4))
    → numbers_to (bytes_to (recovered R n (numbers_to b (length b / 4))) b (size R n)) (length b / 4) ≡ recovered R n (numbers_to b (length b / 4))
accepted_left R n S e b u s =
    let k = length b / 4 in
    let m = numbers_to b k in
    let w = recovered R n m in
    let x = bytes_to w b (size R n) in
    let lm = length-numbers b k in
    let lw : length w ≡ length m = length_recovered R n m s.long in
    let lx = length-numbers x k in
    ext_get_or 0 (numbers_to x k) w (omega arith)
    (λ i l. number_of x k i (omega arith) ∙ elim (dec_lt i (size R n)) [
      | yes h ↦ number_front w b (size R n) i (omega (arith, s.long)) (recovered-fits R n S e m (numbers_fit b k u) s) h
      | no g ↦ number_past w b (size R n) i (omega arith) ∙ sym (number_of b k i (omega arith)) ∙ sym (number_recovered R n m s.long i (omega arith))
    ])

module _ (R n S e : ℕ) (b : List ℕ) where
  -- what is left is as long as what was lent
  pub length_left : length (host_bytes R n S e b) ≡ length b
  unfolding host_bytes
  length_left = cond_cases (λ (x : List ℕ). length x ≡ length b) (eqb (host_refusal R n S e b) 0) (λ q. length-bytes (recovered R n (numbers_of b)) b (size R n)) (λ q. refl)

  -- every byte past the last number used is as it was
  pub bytes_past : (i : ℕ) → 4 * size R n ≤ i → get_or (host_bytes R n S e b) i 0 ≡ get_or b i 0
  unfolding host_bytes
  bytes_past i h = cond_cases (λ (x : List ℕ). get_or x i 0 ≡ get_or b i 0) (eqb (host_refusal R n S e b) 0) (λ q. byte_past (recovered R n (numbers_of b)) b (size R n) i h) (λ q. refl)

  -- a refusal touches nothing
  pub refused_stays : host_refusal R n S e b ≢ 0 → host_bytes R n S e b ≡ b
  unfolding host_bytes
  refused_stays h = rw (ne_eqb _ _ h)

  -- the numbers of the bytes left are what host recovery leaves of the numbers of the bytes lent
  pub numbers_left : Bytes b → numbers_of (host_bytes R n S e b) ≡ host_kept R n S e (numbers_of b)
  unfolding host_bytes host_kept numbers_of
  numbers_left u = rw (refusal_of R n S e b) (by (eqb (kept_refusal R n S e (numbers_of b)) 0) refl)
    where
      by : (t : Bool) → eqb (kept_refusal R n S e (numbers_of b)) 0 ≡ t
          → numbers_of (cond t (bytes_to (recovered R n (numbers_of b)) b (size R n)) b) ≡ cond t (recovered R n (numbers_of b)) (numbers_of b)
      by false q = refl
      by true q =
          rw (length-bytes (recovered R n (numbers_of b)) b (size R n)) (accepted_left R n S e b u (kept_of R n S e (numbers_of b) (eqb-true _ _ q)))
