-- Laws that belong to no one function.
use Prim.Native.Nat.{ℕ}
use mathlib.Core.Path.{◌≡◌, refl}
use mathlib.Core.List.{List}
use mathlib.Core.Bool.{Bool, true, false, cond, ◌&&◌, not}
use lib.Dec.{leb, ltb, eqb}
use lib.ListN.{length}
use Rattle.rules.specs.Numbers.{in_range, run_limit}
use Rattle.rules.specs.Sound.{sound_image}
use Rattle.rules.specs.Refusals.{refuse, short, kept_refusal, listing_refusal}
pub use Rattle.rules.proofs.Reader.{part_fits}

-- the listing's tests are host recovery's, and then the room's
pub listing_by : (R n S e : ℕ) (kept room : List ℕ)
    → listing_refusal R n S e kept room ≡ cond (eqb (kept_refusal R n S e kept) 0) (refuse (ltb (length room) R) 11 0) (kept_refusal R n S e kept)
unfolding listing_refusal kept_refusal
listing_by R n S e kept room = chain (not (in_range R n S && leb e run_limit)) (short R n kept) (not (sound_image R n e kept)) (refuse (ltb (length room) R) 11 0)
  where
    chain : (a b d : Bool) (x : ℕ) → refuse a 8 (refuse b 10 (refuse d 12 x)) ≡ cond (eqb (refuse a 8 (refuse b 10 (refuse d 12 0))) 0) x (refuse a 8 (refuse b 10 (refuse d 12 0)))
    chain true b d x = refl
    chain false true d x = refl
    chain false false true x = refl
    chain false false false x = refl
