-- Numbers stored in a row: what stands where they were stored, and before.
use Prim.Native.Nat.{ℕ, zero, suc, ◌+◌, ◌<◌, ◌≤◌}
use mathlib.Core.Path.{◌≡◌, refl, ap, sym, ◌∙◌}
use mathlib.Core.List.{List, [], ◌∷◌}
use native.Mathlib.Nat.{add-zero}
use native.Mathlib.Omega.{arith}
use Rattle.std.proofs.Common.{append_assoc}
use lib.ListN.{length, get_or, set, take, drop, length-set}
use lib.Seq.{sets, sets-eq, get_or-set_same, get_or-set_other}
use borrow.Rule.Slice.PartMut.{put_mid}
use Rattle.std.proofs.lemmas.Slice.{put_mid-paste}
use Rattle.std.proofs.lemmas.List.Edits.{paste_all}

pub before : (l : List ℕ) (i : ℕ) (vs : List ℕ) (j : ℕ) → j < i → get_or (sets l i vs) j 0 ≡ get_or l j 0
before l i [] j h = refl
before l i (v ∷ vs) j h = before (set l i v) (suc i) vs j (omega arith) ∙ get_or-set_other l i j v 0 (λ e. omega arith)

pub within : (l : List ℕ) (i : ℕ) (vs : List ℕ) (j : ℕ) → i + length vs ≤ length l → j < length vs → get_or (sets l i vs) (i + j) 0 ≡ get_or vs j 0
within l i [] j h k = absurd (omega arith)
within l i (v ∷ vs) zero h k =
    ap (λ (p : ℕ). get_or (sets (set l i v) (suc i) vs) p 0) (add-zero i) ∙ before (set l i v) (suc i) vs i (omega arith) ∙ get_or-set_same l i v 0 (omega arith)
within l i (v ∷ vs) (suc j) h k =
    let e : i + suc j ≡ suc i + j = omega arith in
    let w : suc i + length vs ≤ length (set l i v) = simp length-set (omega arith) in
    ap (λ (p : ℕ). get_or (sets (set l i v) (suc i) vs) p 0) e ∙ within (set l i v) (suc i) vs j w (omega arith)

-- two lists that are the same below a place
abbrev pub Same : ℕ → List ℕ → List ℕ → Type 0
Same k a b = (j : ℕ) → j < k → get_or a j 0 ≡ get_or b j 0

-- a part of a list that was copied over by as many numbers
pub copied : (l : List ℕ) (i k : ℕ) (part vs : List ℕ) → part ≡ vs → k ≡ length vs → i + k ≤ length l → put_mid i k l part ≡ sets l i vs
copied l i k part vs e n h =
    let h' : i + length vs ≤ length l = omega arith in
    put_mid-paste i k l part vs k e refl n ∙ paste_all l i vs k n ∙ rw n (sym (append_assoc (take i l) vs (drop (i + length vs) l)) ∙ sym (sets-eq vs l i h'))
