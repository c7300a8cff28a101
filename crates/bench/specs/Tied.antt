-- The code's blocks and the definition that reads a byte at a time: what is fed and printed is the same.
use Rattle.std.specs.Prelude.{ℕ, ◌+◌, ◌≤◌, ◌≡◌, List, length, take}
use Rattle.std.proofs.lemmas.List.Edits.{sets}
use Rattle.bench.specs.Bench.{Run}
use Rattle.bench.specs.Print.{Wrote}
use Rattle.bench.specs.Stream.{Fed, fed_to, fed, says, finish}
use Rattle.bench.specs.Block.{Poured, pour, finished}

-- a carry with n bytes holds the line so far
pub record Held (c : List ℕ) (n : ℕ) (line : List ℕ) : Type 0 where
  pub size : length c ≡ 41
  pub count : n ≡ length line
  pub bytes : take n c ≡ line

-- a block's run used k bytes of l, and left and printed what those leave and print
unfoldable pub Tied : Fed → ℕ → List ℕ → List ℕ → ℕ → Poured → Type 0
Tied s i l out at r =
    (k : ℕ) × ((r.next ≡ i + k) × ((r.run ≡ (fed s (take k l)).run) × (Held r.carry r.len (fed s (take k l)).line
    × ((r.out ≡ sets out at (says s (take k l))) × (r.at ≡ at + length (says s (take k l)))))))

abbrev pub PoursFed : Type 0
PoursFed = (m : ℕ) (r : Run) (c line : List ℕ) (n i : ℕ) (l out : List ℕ) (at : ℕ) → Held c n line → Tied (fed_to r line) i l out at (pour m r c n i l out at)

-- the end prints what is left to print
abbrev pub FinishesFed : Type 0
FinishesFed = (r : Run) (c line : List ℕ) (n : ℕ) (out : List ℕ) (at : ℕ) → Held c n line → at + 4096 ≤ length out
    → Wrote out at (finish (fed_to r line)) (finished r c n out at).out (finished r c n out at).at
