-- What the code does to a block is what a byte at a time does to the bytes that it has used.
use Prim.Native.Nat.{ℕ, suc, ◌+◌, ◌-◌, ◌<◌}
use mathlib.Core.Path.{◌≡◌, refl, ap, sym, ◌∙◌}
use mathlib.Core.List.{List, [], ◌∷◌, ◌++◌}
use mathlib.Core.Bool.{Bool, true, false}
use native.Mathlib.Nat.{add-zero}
use native.Mathlib.Numerals.{add-one}
use native.Mathlib.Omega.{arith}
use lib.ListN.{length, take, length-set, length-append}
use lib.Seq.{sets, take-suc-set}
use lib.Dec.{eqb, ltb}
use borrow.Author.Tests.{ltb-true, le-leb}
use Rattle.bench.specs.Bench.{Run, ran_line, line_says}
use Rattle.bench.specs.Block.{keep_carry, keep_len, Poured, poured, pour, finished}
use Rattle.bench.specs.Stream.{Fed, fed_to, keep_byte, feed_byte, says_byte, says, finish}
use Rattle.bench.specs.Tied.{Held, Tied, PoursFed, FinishesFed}
use Rattle.bench.proofs.Printing.{sets-append}

held_by : (t : Bool) (c l : List ℕ) (n b : ℕ) → ltb n 41 ≡ t → Held c n l → Held (keep_carry c n b) (keep_len n) (keep_byte l b)
unfolding keep_carry keep_len keep_byte
held_by true c l n b e h =
    let w = ltb-true n 41 e in
    let i : n < length c = omega arith in
    simp (← h.count, e)
    (record {
      size = length-set c n b ∙ h.size;
      count = let q = length-append l (b ∷ []) in omega arith;
      bytes = rw (add-one n) (take-suc-set c n b i ∙ ap (λ (x : List ℕ). x ++ (b ∷ [])) h.bytes);
    })
held_by false c l n b e h = simp (← h.count, e) h

held : (c l : List ℕ) (n b : ℕ) → Held c n l → Held (keep_carry c n b) (keep_len n) (keep_byte l b)
held c l n b h = held_by (ltb n 41) c l n b refl h

held_none : (c l : List ℕ) (n : ℕ) → Held c n l → Held c 0 []
held_none c l n h = record { size = h.size; count = refl; bytes = refl }

stay : (g : Run) (c line : List ℕ) (n i : ℕ) (l out : List ℕ) (at : ℕ) → Held c n line
    → Tied (fed_to g line) i l out at (poured g c n i out at)
unfolding Tied
stay g c line n i l out at h = (0, (omega arith, (refl, (h, (refl, omega arith)))))

-- one byte more in front
module _ (s : Fed) (i b : ℕ) (bs out : List ℕ) (at : ℕ) (r : Poured) where
  more : Tied (feed_byte s b) (i + 1) bs (sets out at (says_byte s b)) (at + length (says_byte s b)) r → Tied s i (b ∷ bs) out at r
  unfolding Tied
  more t =
      let k = t.0 in
      let x = says (feed_byte s b) (take k bs) in (
        suc k,
        (
          omega arith,
          (
            t.1.1.0,
            (
              t.1.1.1.0,
              (
                t.1.1.1.1.0 ∙ sym (sets-append out at (says_byte s b) x),
                omega (arith, length-append (says_byte s b) x),
              ),
            ),
          ),
        ),
      )

-- a newline, and any other byte
at_line : (g : Run) (line : List ℕ) (i b : ℕ) (bs out : List ℕ) (at : ℕ) (r : Poured) → eqb b 10 ≡ true
    → Tied (fed_to (ran_line g line) []) (i + 1) bs (sets out at (line_says g line)) (at + length (line_says g line)) r
    → (let s : Fed = fed_to g line in Tied (feed_byte s b) (i + 1) bs (sets out at (says_byte s b)) (at + length (says_byte s b)) r)
unfolding feed_byte says_byte
at_line g line i b bs out at r e t = simp e t

at_byte : (g : Run) (line : List ℕ) (i b : ℕ) (bs out : List ℕ) (at : ℕ) (r : Poured) → eqb b 10 ≡ false
    → Tied (fed_to g (keep_byte line b)) (i + 1) bs out at r
    → (let s : Fed = fed_to g line in Tied (feed_byte s b) (i + 1) bs (sets out at (says_byte s b)) (at + length (says_byte s b)) r)
unfolding feed_byte says_byte
at_byte g line i b bs out at r e t = simp (e, add-zero) t

TiedAll : List ℕ → Type 0
TiedAll l = (m : ℕ) (g : Run) (c line : List ℕ) (n i : ℕ) (out : List ℕ) (at : ℕ) → Held c n line
    → Tied (fed_to g line) i l out at (pour m g c n i l out at)

room_by : (u : Bool) (m : ℕ) (g : Run) (c line : List ℕ) (n i b : ℕ) (bs out : List ℕ) (at : ℕ) → Held c n line → eqb b 10 ≡ true → eqb m 0 ≡ u
    → TiedAll bs → Tied (fed_to g line) i (b ∷ bs) out at (pour m g c n i (b ∷ bs) out at)
unfolding TiedAll
room_by true m g c line n i b bs out at h e f a = simp (e, f) (stay g c line n i (b ∷ bs) out at h)
room_by false m g c line n i b bs out at h e f a =
    simp (e, f, h.bytes) (more (fed_to g line) i b bs out at _ (at_line g line i b bs out at _ e
    (a (m - 1) (ran_line g line) c [] 0 (i + 1) (sets out at (line_says g line)) (at + length (line_says g line)) (held_none c line n h))))

byte_by : (t : Bool) (m : ℕ) (g : Run) (c line : List ℕ) (n i b : ℕ) (bs out : List ℕ) (at : ℕ) → Held c n line → eqb b 10 ≡ t
    → TiedAll bs → Tied (fed_to g line) i (b ∷ bs) out at (pour m g c n i (b ∷ bs) out at)
unfolding TiedAll
byte_by true m g c line n i b bs out at h e a = room_by (eqb m 0) m g c line n i b bs out at h e refl a
byte_by false m g c line n i b bs out at h e a =
    simp e (more (fed_to g line) i b bs out at _ (at_byte g line i b bs out at _ e
    (a m g (keep_carry c n b) (keep_byte line b) (keep_len n) (i + 1) out at (held c line n b h))))

tied : (l : List ℕ) → TiedAll l
unfolding TiedAll
tied [] m g c line n i out at h = stay g c line n i [] out at h
tied (b ∷ bs) m g c line n i out at h = byte_by (eqb b 10) m g c line n i b bs out at h refl (tied bs)

pub pours_fed : PoursFed
unfolding TiedAll
pours_fed m r c line n i l out at h = tied l m r c line n i out at h

pub finishes_fed : FinishesFed
unfolding finished finish
finishes_fed r c line n out at h k =
    rw (le-leb (at + 4096) (length out) k, h.bytes, h.count)
    (record { bytes = refl; place = refl })
