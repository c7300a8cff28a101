-- What the listing gives and leaves: the count, the items in front, nothing past them touched.
use Prim.Native.Nat.{ℕ, ◌+◌, ◌-◌, ◌≤◌}
use mathlib.Core.Path.{◌≡◌, refl, sym, ap, ◌∙◌}
use mathlib.Core.Logic.{◌≢◌}
use mathlib.Core.List.{List, ◌++◌, map}
use mathlib.Core.Bool.{Bool, true, false, cond}
use native.Mathlib.Omega.{arith}
use lib.Dec.{eqb}
use lib.ListN.{length, take, drop, get_or, length-append, length-drop}
use lib.Seq.{take-append_seam, get_or-append-add, get_or-drop}
use borrow.Author.Tests.{eqb-true, eq-eqb, ne_eqb}
use Rattle.rules.specs.Memory.{size}
use Rattle.rules.specs.Cut.{Entry, finds, queue_of, recovered}
use Rattle.rules.specs.Listing.{items, in_front, listed_count, listed_room}
use Rattle.rules.specs.Refusals.{listing_refusal}
use Rattle.rules.proofs.Tests.{cond_cases}
use Rattle.rules.proofs.Kept.{listing_of}
use Rattle.rules.proofs.RecoveredAgain.{queue_again}
use Rattle.rules.proofs.Queue.{count_bound, items_length}

-- a list laid in front of a room that holds it
module _ (xs room : List ℕ) (fits : length xs ≤ length room) where
  length_front : length (in_front xs room) ≡ length room
  unfolding in_front
  length_front = simp (length-append, length-drop) (omega arith)

  front_items : take (length xs) (in_front xs room) ≡ xs
  unfolding in_front
  front_items = take-append_seam xs (drop (length xs) room)

  front_past : (i : ℕ) → length xs ≤ i → get_or (in_front xs room) i 0 ≡ get_or room i 0
  unfolding in_front
  front_past i h =
      let e : i ≡ length xs + (i - length xs) = omega arith in
      ap (λ k. get_or (xs ++ drop (length xs) room) k 0) e
      ∙ (get_or-append-add xs (drop (length xs) room) (i - length xs) 0 ∙ (get_or-drop (length xs) room (i - length xs) 0 ∙ ap (λ k. get_or room k 0) (sym e)))

module _ (R n S e : ℕ) (kept room : List ℕ) where
  -- a refused listing gives 0 and leaves the room
  pub listing_refused : listing_refusal R n S e kept room ≢ 0 → (listed_count R n S e kept room ≡ 0) × (listed_room R n S e kept room ≡ room)
  unfolding listed_count listed_room
  listing_refused h = let q = ne_eqb (listing_refusal R n S e kept room) 0 h in (rw q, rw q)

  has_room : listing_refusal R n S e kept room ≡ 0 → length (items R n kept) ≤ length room
  has_room h = let r = (listing_of R n S e kept room h).1 in omega (arith, items_length R n kept, count_bound R n kept)

  -- an accepted one gives the cut's count, and in front the items that a cut now would queue
  pub listing_counts : listing_refusal R n S e kept room ≡ 0 → listed_count R n S e kept room ≡ (finds R n kept).count
  unfolding listed_count
  listing_counts h = rw (eq-eqb (listing_refusal R n S e kept room) 0 h) (items_length R n kept)

  pub listing_items : listing_refusal R n S e kept room ≡ 0 → take (listed_count R n S e kept room) (listed_room R n S e kept room) ≡ map (λ (e : Entry). e.item) (queue_of R n kept)
  unfolding listed_count listed_room items
  listing_items h = rw (eq-eqb (listing_refusal R n S e kept room) 0 h) (front_items (items R n kept) room (has_room h))

  -- the room is as long as it was, and nothing past the count is touched
  pub listing_long : length (listed_room R n S e kept room) ≡ length room
  unfolding listed_room
  listing_long = cond_cases (λ (l : List ℕ). length l ≡ length room) (eqb (listing_refusal R n S e kept room) 0)
      (λ q. length_front (items R n kept) room (has_room (eqb-true _ _ q))) (λ q. refl)

  pub listing_past : (i : ℕ) → listed_count R n S e kept room ≤ i → get_or (listed_room R n S e kept room) i 0 ≡ get_or room i 0
  unfolding listed_count listed_room
  listing_past i = by (eqb (listing_refusal R n S e kept room) 0) refl
    where
      by : (b : Bool) → eqb (listing_refusal R n S e kept room) 0 ≡ b → cond b (length (items R n kept)) 0 ≤ i → get_or (cond b (in_front (items R n kept) room) room) i 0 ≡ get_or room i 0
      by true q h = front_past (items R n kept) room (has_room (eqb-true _ _ q)) i h
      by false q h = refl

-- after the cut the listing is the same
pub items-again : (R n : ℕ) (m : List ℕ) → 1 ≤ R → size R n ≤ length m → items R n (recovered R n m) ≡ items R n m
unfolding items
items-again R n m some long = ap (map (λ (e : Entry). e.item)) (queue_again R n m long some)
