-- Turns of the loops over a block.
use Prim.Native.Nat.{ℕ, suc, ◌+◌, ◌*◌, ◌-◌, ◌<◌, ◌≤◌}
use mathlib.Core.Path.{◌≡◌, refl, ◌∙◌}
use mathlib.Core.List.{List, [], ◌∷◌}
use mathlib.Core.Logic.{◌⊎◌, inl, inr}
use native.Mathlib.Numerals.{add-one}
use native.Mathlib.Omega.{arith}
use lib.ListN.{length, drop, get_or, take, drop_of_length-le}
use lib.Seq.{sets, drop-cons}
use mathlib.Core.Bool.{Bool, true, false, cond}
use lib.Dec.{eqb}
use borrow.Author.Tests.{eq-eqb, ne_eqb}
use Rattle.bench.specs.Bench.{Run, ran_line, line_says, end_says}
use Rattle.bench.specs.Block.{keep_carry, keep_len, scan_of, has_room, line_room, Poured, poured, pour, finished}
use Rattle.bench.specs.Print.{Wrote}
use Rattle.bench.specs.Stream.{last_ran, last_says, finish_says}
use Rattle.bench.proofs.Printing.{then}

-- inside a run, a scan goes ahead
ahead : ℕ → Run → List ℕ → ℕ → ℕ → List ℕ → List ℕ → ℕ → Type 0
ahead m g c n i l out at =
    pour m g c n i l out at ≡ pour m g (scan_of c n i l).carry (scan_of c n i l).len (scan_of c n i l).next (scan_of c n i l).rest out at

ahead_by : (t : Bool) (m : ℕ) (g : Run) (c : List ℕ) (n i b : ℕ) (bs out : List ℕ) (at : ℕ) → eqb b 10 ≡ t
    → ahead m g (keep_carry c n b) (keep_len n) (i + 1) bs out at → ahead m g c n i (b ∷ bs) out at
unfolding ahead
ahead_by true m g c n i b bs out at e h = simp e
ahead_by false m g c n i b bs out at e h = simp e h

run-ahead : (m : ℕ) (g : Run) (c : List ℕ) (n i : ℕ) (l out : List ℕ) (at : ℕ) → ahead m g c n i l out at
unfolding ahead
run-ahead m g c n i [] out at = refl
run-ahead m g c n i (b ∷ bs) out at =
    ahead_by (eqb b 10) m g c n i b bs out at refl (run-ahead m g (keep_carry c n b) (keep_len n) (i + 1) bs out at)

-- the same with what the code's scan answers
pub run_scan : (m : ℕ) (g : Run) (c after : List ℕ) (n i len next : ℕ) (s out : List ℕ) (at : ℕ)
    → record { carry = after; len = len; next = next; rest = drop next s } ≡ scan_of c n i (drop i s)
    → pour m g c n i (drop i s) out at ≡ pour m g after len next (drop next s) out at
unfolding ahead
run_scan m g c after n i len next s out at e = run-ahead m g c n i (drop i s) out at ∙ rw (← e)

-- at the block's end, and at a newline where no line may be run any more
pub run_stop : (m : ℕ) (g : Run) (c : List ℕ) (n i : ℕ) (s out : List ℕ) (at : ℕ) → (i < length s → get_or s i 0 ≡ 10)
    → length s ≤ i ⊎ (i < length s × m ≡ 0) → pour m g c n i (drop i s) out at ≡ poured g c n i out at
run_stop m g c n i s out at x (inl h) = rw (drop_of_length-le s h)
run_stop m g c n i s out at x (inr (h, z)) = rw (drop-cons s i 0, eq-eqb _ _ (x h), eq-eqb m 0 z)

pub run_line : (m : ℕ) (g h : Run) (c line : List ℕ) (n i : ℕ) (s out after : List ℕ) (at next : ℕ) → i < length s → get_or s i 0 ≡ 10 → (m ≡ 0 → ⊥)
    → line ≡ take n c → h ≡ ran_line g line → next ≡ at + length (line_says g line) → after ≡ sets out at (line_says g line)
    → pour m g c n i (drop i s) out at ≡ pour (m - 1) h c 0 (i + 1) (drop (i + 1) s) after next
run_line m g h c line n i s out after at next l x z q e p w =
    rw (add-one i, drop-cons s i 0, eq-eqb _ _ x, ne_eqb m 0 z, ← q, ← e, ← p, ← w, add-one i)

-- a run goes on, and with room for a line by a byte at least
far_pick : (t u : Bool) (i : ℕ) (x y z : Poured) → i ≤ x.next → i ≤ y.next → i ≤ z.next → i ≤ (cond t (cond u x y) z).next
far_pick true true i x y z p q r = p
far_pick true false i x y z p q r = q
far_pick false u i x y z p q r = r

back_one : (i k : ℕ) → i + 1 ≤ k → i ≤ k
back_one i k h = omega arith

pub run_far : (l : List ℕ) (m : ℕ) (g : Run) (c : List ℕ) (n i : ℕ) (out : List ℕ) (at : ℕ) → i ≤ (pour m g c n i l out at).next
run_far [] m g c n i out at = omega arith
run_far (b ∷ bs) m g c n i out at =
    far_pick (eqb b 10) (eqb m 0) i (poured g c n i out at) _ _
    (omega arith)
    (back_one i _ (run_far bs (m - 1) (ran_line g (take n c)) c 0 (i + 1) (sets out at (line_says g (take n c))) (at + length (line_says g (take n c)))))
    (back_one i _ (run_far bs m g (keep_carry c n b) (keep_len n) (i + 1) out at))

pub run-progress : (s : List ℕ) (m : ℕ) (g : Run) (c : List ℕ) (n i : ℕ) (out : List ℕ) (at : ℕ) → i < length s → (m ≡ 0 → ⊥)
    → i + 1 ≤ (pour m g c n i (drop i s) out at).next
run-progress s m g c n i out at h z =
    rw (drop-cons s i 0, ne_eqb m 0 z)
    (far_pick (eqb (get_or s i 0) 10) false (i + 1) (poured g c n (i + 1) out at) _ _
    (omega arith)
    (run_far (drop (suc i) s) (m - 1) (ran_line g (take n c)) c 0 (i + 1) (sets out at (line_says g (take n c))) (at + length (line_says g (take n c))))
    (run_far (drop (suc i) s) m g (keep_carry c n (get_or s i 0)) (keep_len n) (i + 1) out at))

some_room : (out : List ℕ) (at : ℕ) → at + 2048 ≤ length out → line_room out at ≡ 0 → ⊥
unfolding line_room
some_room out at h z = omega arith

pub progress : (r : Poured) (s : List ℕ) (g : Run) (c : List ℕ) (n i : ℕ) (out : List ℕ) (at : ℕ)
    → r ≡ pour (line_room out at) g c n i (drop i s) out at → i < length s → at + 2048 ≤ length out → i < r.next
progress r s g c n i out at e h k = let p = run-progress s (line_room out at) g c n i out at h (some_room out at k) in rw e (omega arith)

pub stopped : (a : Run) (c : List ℕ) (n i : ℕ) (out o : List ℕ) (at : ℕ) (p : Poured) → p ≡ poured a c n i out at → o ≡ out → poured a c n i o at ≡ p
stopped a c n i out o at p e f = rw (e, f)

-- the room for the lines that are left, before and after a line
pub room-start : (out : List ℕ) (at : ℕ) → at + 2048 * line_room out at ≤ length out + (at - length out)
unfolding line_room
room-start out at = omega arith

module _ (at p m n q k o : ℕ) (from : at ≤ p) (room : p + 2048 * m ≤ n + (at - n)) (far : p ≤ q) (left : q + 2048 * k ≤ p + 2048 * m) (size : o ≡ n) where
  pub room_within : at ≤ n → q ≤ o
  room_within h = omega arith

  pub room_next : (r : ℕ) → (k ≡ 0 → ⊥) → r ≤ q + 2048 → r + 2048 * (k - 1) ≤ n + (at - n)
  room_next r z h = omega arith

-- the end of the input
pub end_full : (r : Run) (c : List ℕ) (n : ℕ) (out : List ℕ) (at : ℕ) → has_room 4096 out at ≡ false
    → record { run = r; out = out; at = at } ≡ finished r c n out at
unfolding finished
end_full r c n out at h = rw h

pub end_said : (r a : Run) (c : List ℕ) (n at p q : ℕ) (out m o left : List ℕ) → has_room 4096 out at ≡ true → a ≡ last_ran r (take n c) n
    → Wrote out at (last_says r (take n c) n) m p → Wrote m p (end_says a) o q → left ≡ o → record { run = a; out = left; at = q } ≡ finished r c n out at
unfolding finished finish_says
end_said r a c n at p q out m o left h e f g z = let w = then f g in rw (h, ← e, ← w.bytes, ← w.place, z)
