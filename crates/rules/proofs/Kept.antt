-- What a kept image that host recovery accepts was not refused for, and the other way.
use Prim.Native.Nat.{ℕ, ◌≤◌}
use mathlib.Core.Path.{◌≡◌}
use mathlib.Core.List.{List}
use mathlib.Core.Bool.{◌&&◌, not}
use lib.Dec.{lit<, leb, ltb}
use lib.ListN.{length}
use borrow.Author.Tests.{leb-true, le-leb, ltb-false, le-ltb, not-false}
use Rattle.rules.specs.Numbers.{in_range, run_limit}
use Rattle.rules.specs.Memory.{size}
use Rattle.rules.specs.Sound.{sound_image}
use Rattle.rules.specs.Refusals.{short, kept_refusal, listing_refusal}
use Rattle.rules.specs.Facts.{InRange, SoundImage}
use Rattle.rules.proofs.Tests.{both, unrefused}
use Rattle.rules.proofs.Sound.{range_of, of_range, image_of, of_image}

pub record SoundKept (R n S e : ℕ) (m : List ℕ) : Type 0 where
  pub range : InRange R n S
  pub events : e ≤ run_limit
  pub long : size R n ≤ length m
  pub image : SoundImage R n e m

pub kept_of : (R n S e : ℕ) (m : List ℕ) → kept_refusal R n S e m ≡ 0 → SoundKept R n S e m
unfolding kept_refusal
kept_of R n S e m h =
    let a = unrefused (not (in_range R n S && leb e run_limit)) 8 _ (lit< tt) h in
    let b = unrefused (short R n m) 10 _ (lit< tt) a.1 in
    let d = unrefused (not (sound_image R n e m)) 12 0 (lit< tt) b.1 in
    let r = both _ _ (not-false _ a.0) in
    record { range = range_of R n S r.0; events = leb-true _ _ r.1; long = ltb-false _ _ b.0; image = image_of R n e m (not-false _ d.0) }

pub of_kept : (R n S e : ℕ) (m : List ℕ) → SoundKept R n S e m → kept_refusal R n S e m ≡ 0
unfolding kept_refusal
of_kept R n S e m k = simp (of_range R n S k.range, le-leb _ _ k.events, le-ltb _ _ k.long, of_image R n e m k.image)

-- the listing: the same, and room for R numbers
pub listing_of : (R n S e : ℕ) (m room : List ℕ) → listing_refusal R n S e m room ≡ 0 → SoundKept R n S e m × (R ≤ length room)
unfolding listing_refusal
listing_of R n S e m room h =
    let a = unrefused (not (in_range R n S && leb e run_limit)) 8 _ (lit< tt) h in
    let b = unrefused (short R n m) 10 _ (lit< tt) a.1 in
    let d = unrefused (not (sound_image R n e m)) 12 _ (lit< tt) b.1 in
    let f = unrefused (ltb (length room) R) 11 0 (lit< tt) d.1 in
    let r = both _ _ (not-false _ a.0) in
    (record { range = range_of R n S r.0; events = leb-true _ _ r.1; long = ltb-false _ _ b.0; image = image_of R n e m (not-false _ d.0) }, ltb-false _ _ f.0)

pub of_listing : (R n S e : ℕ) (m room : List ℕ) → SoundKept R n S e m → R ≤ length room → listing_refusal R n S e m room ≡ 0
unfolding listing_refusal
of_listing R n S e m room k l =
    simp (of_range R n S k.range, le-leb _ _ k.events, le-ltb _ _ k.long, of_image R n e m k.image, le-ltb _ _ l)
