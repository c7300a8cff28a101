-- The event count serves only to test the image: where one is accepted, a larger one gives the same.
use Prim.Native.Nat.{ℕ, ◌≤◌}
use mathlib.Core.Path.{◌≡◌, sym, ◌∙◌}
use mathlib.Core.List.{List}
use borrow.Author.Tests.{eq-eqb}
use Rattle.rules.specs.Numbers.{run_limit}
use Rattle.rules.proofs.Rows.{image_later}
use Rattle.rules.proofs.Kept.{SoundKept, kept_of, of_kept}
use Rattle.host.specs.Bytes.{numbers_of, host_refusal, host_bytes}
use Rattle.host.proofs.Laws.{refusal_of}

module _ (R n S e f : ℕ) (more : e ≤ f) (most : f ≤ run_limit) where
  still_sound : (m : List ℕ) → SoundKept R n S e m → SoundKept R n S f m
  still_sound m s = record { range = s.range; events = most; long = s.long; image = image_later more s.image }

  pub later : (b : List ℕ) → host_refusal R n S e b ≡ 0 → (host_refusal R n S f b ≡ 0) × (host_bytes R n S f b ≡ host_bytes R n S e b)
  unfolding host_bytes
  later b z =
      let s = kept_of R n S e (numbers_of b) (sym (refusal_of R n S e b) ∙ z) in
      let y = refusal_of R n S f b ∙ of_kept R n S f (numbers_of b) (still_sound (numbers_of b) s) in
      (y, rw (eq-eqb _ _ y, eq-eqb _ _ z))
