-- Host recovery of 30 bytes, worked: one cell with index 256 and item 16909060, one copy, closed, Tail, and two bytes over.
use Prim.Native.Nat.{ℕ}
use mathlib.Core.Path.{◌≡◌, refl}
use mathlib.Core.List.{List, [], ◌∷◌}
use lib.ListN.{take}
use Rattle.rules.specs.Numbers.{in_range}
use Rattle.rules.specs.Memory.{cell_at, set_cell, copy_at, set_copy, closed_at, tail_at, set_tail}
use Rattle.rules.specs.Cut.{pass_mark, queued, tail_of, head_of, mended, recovered}
use Rattle.rules.specs.Sound.{sound_cell, sound_image}
use Rattle.rules.specs.Refusals.{kept_refusal}
use Rattle.host.specs.Bytes.{number_at, set_number, numbers_of, host_refusal, host_bytes}

abbrev lent : List ℕ
lent =
    0 ∷ 0 ∷ 0 ∷ 0
    ∷ 0 ∷ 1 ∷ 0 ∷ 0
    ∷ 4 ∷ 3 ∷ 2 ∷ 1
    ∷ 0 ∷ 0 ∷ 0 ∷ 0
    ∷ 0 ∷ 0 ∷ 0 ∷ 0
    ∷ 0 ∷ 0 ∷ 0 ∷ 0
    ∷ 0 ∷ 0 ∷ 0 ∷ 0
    ∷ 8 ∷ 9 ∷ []

-- 257 events, one fewer, a byte too few, and no cells besides
pub refusals : host_refusal 1 1 1 257 lent ∷ host_refusal 1 1 1 256 lent ∷ host_refusal 1 1 1 257 (take 27 lent) ∷ host_refusal 0 1 1 257 (take 27 lent) ∷ []
    ≡ 0 ∷ 12 ∷ 10 ∷ 8 ∷ []
unfolding host_refusal numbers_of number_at kept_refusal in_range sound_image sound_cell cell_at copy_at closed_at tail_at
refusals = refl

-- safe is 1; mark and copy are Head, 256; Tail is 257
pub left : host_bytes 1 1 1 257 lent
    ≡ 1 ∷ 0 ∷ 0 ∷ 0
    ∷ 0 ∷ 1 ∷ 0 ∷ 0
    ∷ 4 ∷ 3 ∷ 2 ∷ 1
    ∷ 0 ∷ 1 ∷ 0 ∷ 0
    ∷ 0 ∷ 1 ∷ 0 ∷ 0
    ∷ 0 ∷ 0 ∷ 0 ∷ 0
    ∷ 1 ∷ 1 ∷ 0 ∷ 0
    ∷ 8 ∷ 9 ∷ []
unfolding host_bytes host_refusal numbers_of number_at set_number kept_refusal in_range sound_image sound_cell cell_at set_cell copy_at set_copy closed_at tail_at set_tail pass_mark queued tail_of head_of mended recovered
left = refl
