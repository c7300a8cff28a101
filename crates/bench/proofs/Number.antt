-- A number in a line is its decimal text.
use Prim.Native.Nat.{ℕ, zero, suc, ◌+◌, ◌*◌, ◌-◌, ◌/◌, ◌%◌, ◌^◌, ◌<◌, ◌≤◌}
use mathlib.Core.Path.{◌≡◌, refl, ap, sym, ◌∙◌}
use mathlib.Core.List.{List, [], ◌∷◌, ◌++◌}
use mathlib.Core.Bool.{Bool, true, false, cond, ◌&&◌}
use native.Mathlib.Nat.{div-add-mod'}
use native.Mathlib.Omega.{arith}
use lib.ListN.{get_or}
use lib.Seq.{append_snoc}
use lib.Dec.{eqb, leb, ltb}
use borrow.Author.Tests.{le-leb, ne_eqb, leb-true, eqb-true, eqb-false, ltb-true, ltb-false}
use Rattle.std.specs.Prelude.{Option, Some, None}
use Rattle.std.proofs.lemmas.Option.{none-some, some_pair_parts}
use Rattle.bench.specs.Read.{is_digit, largest, number_from, number, after_space}
use Rattle.bench.specs.Decimal.{decimal_in, decimal, spaced}
use Rattle.bench.proofs.Decimal.{tenth, decimal-more, decimal_one}

-- ---- a digit is its byte less 48
range_by : (t u : Bool) (b : ℕ) → leb 48 b ≡ t → leb b 57 ≡ u → (t && u) ≡ true → (48 ≤ b) × (b ≤ 57)
range_by true true b e f h = (leb-true 48 b e, leb-true b 57 f)
range_by true false b e f h = cc
range_by false u b e f h = cc

digit_range : (b : ℕ) → is_digit b ≡ true → (48 ≤ b) × (b ≤ 57)
digit_range b h = range_by (leb 48 b) (leb b 57) b refl refl h

digit_byte : (b : ℕ) → is_digit b ≡ true → b ≡ 48 + (b - 48)
digit_byte b h = let r = digit_range b h in omega arith

byte_digit : (d : ℕ) → d ≤ 9 → is_digit (48 + d) ≡ true
byte_digit d h = rw (le-leb 48 (48 + d) (omega arith), le-leb (48 + d) 57 (omega arith))

byte_less : (d : ℕ) → 48 + d - 48 ≡ d
byte_less d = omega arith

-- ---- what is read as a number is its decimal text
abbrev Is : List ℕ → ℕ → List ℕ → Type 0
Is t w r = (t ≡ decimal w ++ r) × (w ≤ largest)

from_end : (l r : List ℕ) (v w : ℕ) → v ≤ largest → ◌≡◌ {A = Option (ℕ × List ℕ)} (Some (v, l)) (Some (w, r)) → Is (decimal v ++ l) w r
from_end l r v w h q = let p = some_pair_parts v w l r q in (rw (p.0, p.1), rw (p.0) at h)

from_by : (t u : Bool) (b : ℕ) (l r : List ℕ) (v w : ℕ) → is_digit b ≡ t → leb (v * 10 + (b - 48)) largest ≡ u → 1 ≤ v → v ≤ largest
    → ((x : ℕ) → 1 ≤ x → x ≤ largest → number_from x l ≡ Some (w, r) → Is (decimal x ++ l) w r)
    → cond t (cond u (number_from (v * 10 + (b - 48)) l) None) (Some (v, b ∷ l)) ≡ Some (w, r) → Is (decimal v ++ b ∷ l) w r
from_by true true b l r v w e f o h step q =
    let d = b - 48 in
    let g = digit_range b e in
    let m = leb-true (v * 10 + (b - 48)) largest f in
    let a = step (v * 10 + (b - 48)) (omega arith) m q in
    let z : decimal v ++ b ∷ l ≡ decimal (v * 10 + (b - 48)) ++ l =
    ap (λ (x : ℕ). decimal v ++ x ∷ l) (digit_byte b e) ∙ sym (append_snoc (decimal v) (48 + d) l)
    ∙ ap (λ (x : List ℕ). x ++ l) (sym (decimal-more v (b - 48) o (omega arith) m)) in
    (z ∙ a.0, a.1)
from_by true false b l r v w e f o h step q = absurd (none-some _ q)
from_by false u b l r v w e f o h step q = from_end (b ∷ l) r v w h q

from_sound : (l r : List ℕ) (v w : ℕ) → 1 ≤ v → v ≤ largest → number_from v l ≡ Some (w, r) → Is (decimal v ++ l) w r
from_sound [] r v w o h q = from_end [] r v w h q
from_sound (b ∷ l) r v w o h q =
    from_by (is_digit b) (leb (v * 10 + (b - 48)) largest) b l r v w refl refl o h (λ x k m z. from_sound l r x w k m z) q

number_by : (t u x : Bool) (b : ℕ) (l r : List ℕ) (w : ℕ) → is_digit b ≡ t → eqb b 48 ≡ u
    → cond t (cond u (cond x None (Some (0, l))) (number_from (b - 48) l)) None ≡ Some (w, r) → Is (b ∷ l) w r
unfolding decimal
number_by false u x b l r w e f q = absurd (none-some _ q)
number_by true true true b l r w e f q = absurd (none-some _ q)
number_by true true false b l r w e f q =
    let p = some_pair_parts 0 w l r q in
    (rw (eqb-true b 48 f, ← p.0, p.1), rw (p.0) at (let z : 0 ≤ largest = omega arith in z))
number_by true false x b l r w e f q =
    let g = digit_range b e in
    let n = eqb-false b 48 f in
    let k : b - 48 ≤ 9 = omega arith in
    let a = from_sound l r (b - 48) w (omega arith) (omega arith) q in
    let z : b ∷ l ≡ decimal (b - 48) ++ l =
    ap (λ (y : ℕ). y ∷ l) (digit_byte b e) ∙ ap (λ (y : List ℕ). y ++ l) (sym (decimal_one (b - 48) k)) in
    (z ∙ a.0, a.1)

number_sound : (l r : List ℕ) (w : ℕ) → number l ≡ Some (w, r) → Is l w r
unfolding number
number_sound [] r w q = absurd (none-some _ q)
number_sound (b ∷ l) r w q = number_by (is_digit b) (eqb b 48) (is_digit (get_or l 0 0)) b l r w refl refl q

space_by : (t : Bool) (b : ℕ) (l r : List ℕ) (w : ℕ) → eqb b 32 ≡ t → cond t (number l) None ≡ Some (w, r)
    → (b ∷ l ≡ 32 ∷ (decimal w ++ r)) × (w ≤ largest)
space_by false b l r w e q = absurd (none-some _ q)
space_by true b l r w e q =
    let a = number_sound l r w q in
    (rw (eqb-true b 32 e) (ap (λ (y : List ℕ). 32 ∷ y) a.0), a.1)

pub space_sound : (l r : List ℕ) (w : ℕ) → after_space l ≡ Some (w, r) → (l ≡ 32 ∷ (decimal w ++ r)) × (w ≤ largest)
unfolding after_space
space_sound [] r w q = absurd (none-some _ q)
space_sound (b ∷ l) r w q = space_by (eqb b 32) b l r w refl q

-- ---- the decimal text of a number is read as that number, if no digit follows
abbrev NoDigit : List ℕ → Type 0
NoDigit l = is_digit (get_or l 0 0) ≡ false

from_next : (v d : ℕ) (l : List ℕ) → d ≤ 9 → v * 10 + d ≤ largest → number_from v ((48 + d) ∷ l) ≡ number_from (v * 10 + d) l
from_next v d l h m = rw (byte_digit d h, byte_less d, le-leb (v * 10 + d) largest m)

digits_by : (t : Bool) (f n : ℕ) (l : List ℕ) → ltb n 10 ≡ t → 1 ≤ n → n ≤ largest
    → (10 ≤ n → (x : List ℕ) → number (decimal_in f (n / 10) ++ x) ≡ number_from (n / 10) x)
    → number (cond t ((48 + n) ∷ []) (decimal_in f (n / 10) ++ ((48 + n % 10) ∷ [])) ++ l) ≡ number_from n l
unfolding number
digits_by true f n l e o m step =
    let h = ltb-true n 10 e in
    rw (byte_digit n (omega arith), ne_eqb (48 + n) 48 (λ z. omega arith), byte_less n)
digits_by false f n l e o m step =
    let h = ltb-false n 10 e in
    let d = n % 10 in
    let q : n / 10 * 10 + n % 10 ≡ n = div-add-mod' n 10 in
    ap (λ (x : List ℕ). number x) (append_snoc (decimal_in f (n / 10)) (48 + d) l)
    ∙ step h ((48 + d) ∷ l)
    ∙ from_next (n / 10) d l (omega arith) (omega arith)
    ∙ rw q

digits_read : (f n : ℕ) (l : List ℕ) → 1 ≤ n → n ≤ largest → n < 10 ^ f → number (decimal_in f n ++ l) ≡ number_from n l
digits_read zero n l o m h = absurd (omega arith)
digits_read (suc f) n l o m h =
    digits_by (ltb n 10) f n l refl o m
    (λ k x. digits_read f (n / 10) x (omega arith) (omega arith) (tenth f n h))

from_stops : (l : List ℕ) (v : ℕ) → NoDigit l → number_from v l ≡ Some (v, l)
from_stops [] v h = refl
from_stops (b ∷ l) v h = rw h

number_read : (n : ℕ) (l : List ℕ) → n ≤ largest → NoDigit l → number (decimal n ++ l) ≡ Some (n, l)
unfolding decimal number
number_read zero l m h = rw h
number_read (suc n) l m h =
    digits_read 20 (suc n) l (omega arith) m (let p : suc n < 100000000000000000000 = omega arith in p)
    ∙ from_stops l (suc n) h

spaced_stops : (ns : List ℕ) → NoDigit (spaced ns)
spaced_stops [] = refl
spaced_stops (n ∷ ns) = refl

pub space_read : (n : ℕ) (ns : List ℕ) → n ≤ largest → after_space (spaced (n ∷ ns)) ≡ Some (n, spaced ns)
unfolding after_space
space_read n ns h = number_read n (spaced ns) h (spaced_stops ns)
