-- Document 01, "Listing, reading, host": the listing of the kept queue, and host recovery.
use Rattle.std.specs.Prelude.{ℕ, List, ◌++◌, map, cond, eqb, length, drop}
use Rattle.rules.specs.Cut.{Entry, queue_of, recovered}
use Rattle.rules.specs.Refusals.{kept_refusal, listing_refusal}

-- the items that a cut now would queue
unfoldable pub items : ℕ → ℕ → List ℕ → List ℕ
items R n kept = map (λ (e : Entry). e.item) (queue_of R n kept)

-- a lent room with the items in front; nothing past them is touched
unfoldable pub in_front : List ℕ → List ℕ → List ℕ
in_front xs room = xs ++ drop (length xs) room

-- the count that the listing gives, and the room that it leaves
unfoldable pub listed_count : ℕ → ℕ → ℕ → ℕ → List ℕ → List ℕ → ℕ
listed_count R n S e kept room = cond (eqb (listing_refusal R n S e kept room) 0) (length (items R n kept)) 0

unfoldable pub listed_room : ℕ → ℕ → ℕ → ℕ → List ℕ → List ℕ → List ℕ
listed_room R n S e kept room = cond (eqb (listing_refusal R n S e kept room) 0) (in_front (items R n kept) room) room

-- what host recovery leaves of the kept image
unfoldable pub host_kept : ℕ → ℕ → ℕ → ℕ → List ℕ → List ℕ
host_kept R n S e kept = cond (eqb (kept_refusal R n S e kept) 0) (recovered R n kept) kept
