-- A text in parts, and by its lines.
use Prim.Native.Nat.{ℕ, ◌<◌, ◌≤◌}
use mathlib.Core.Path.{◌≡◌, refl, ap, sym, ◌∙◌}
use mathlib.Core.List.{List, [], ◌∷◌, ◌++◌, append_assoc, append-nil}
use mathlib.Core.Bool.{Bool, true, false, cond}
use native.Mathlib.Omega.{arith}
use lib.ListN.{length, take, length-append, length-take}
use lib.Seq.{take_all, take-append-le, append_snoc}
use lib.Dec.{eqb, ltb}
use borrow.Author.Tests.{ltb-true, ltb-false, lt-ltb}
use Rattle.bench.specs.Read.{line_of}
use Rattle.bench.specs.Bench.{Run, ran_line, line_says}
use Rattle.bench.specs.Stream.{Fed, fed_to, keep_byte, feed_byte, says_byte, fed, says, start, output, joined, fed_parts, parts_say, output_in_parts, InParts, plain, ByLine}

-- ---- two parts, and any number of them
pub fed_two : (s : Fed) (a b : List ℕ) → fed s (a ++ b) ≡ fed (fed s a) b
fed_two s [] b = refl
fed_two s (x ∷ a) b = fed_two (feed_byte s x) a b

pub says_two : (s : Fed) (a b : List ℕ) → says s (a ++ b) ≡ says s a ++ says (fed s a) b
says_two s [] b = refl
says_two s (x ∷ a) b =
    ap (λ (t : List ℕ). says_byte s x ++ t) (says_two (feed_byte s x) a b)
    ∙ sym (append_assoc (says_byte s x) (says (feed_byte s x) a) (says (fed (feed_byte s x) a) b))

pub fed_parts_lem : (ps : List (List ℕ)) (s : Fed) → fed_parts s ps ≡ fed s (joined ps)
fed_parts_lem [] s = refl
fed_parts_lem (p ∷ ps) s = fed_parts_lem ps (fed s p) ∙ sym (fed_two s p (joined ps))

pub says_parts : (ps : List (List ℕ)) (s : Fed) → parts_say s ps ≡ says s (joined ps)
says_parts [] s = refl
says_parts (p ∷ ps) s = ap (λ (t : List ℕ). says s p ++ t) (says_parts ps (fed s p)) ∙ sym (says_two s p (joined ps))

pub in_parts : InParts
unfolding output output_in_parts
in_parts ps = rw (says_parts ps start, fed_parts_lem ps start)

-- ---- bytes that are no newline are only kept, and 41 of them are as good as the line
kept : List ℕ → List ℕ → List ℕ
kept c [] = c
kept c (b ∷ l) = kept (keep_byte c b) l

kept_by : (t : Bool) (b : ℕ) (l c : List ℕ) → ltb (length c) 41 ≡ t → length c ≤ 41
    → ((d : List ℕ) → length d ≤ 41 → kept d l ≡ take 41 (d ++ l)) → kept (keep_byte c b) l ≡ take 41 (c ++ (b ∷ l))
unfolding keep_byte
kept_by true b l c e h a =
    let w = ltb-true (length c) 41 e in
    let q = length-append c (b ∷ []) in
    let k : length (c ++ (b ∷ [])) ≤ 41 = omega arith in
    simp e (a (c ++ (b ∷ [])) k ∙ ap (λ (x : List ℕ). take 41 x) (append_snoc c b l))
kept_by false b l c e h a =
    let w = ltb-false (length c) 41 e in
    simp e (a c h ∙ take-append-le 41 c l w ∙ sym (take-append-le 41 c (b ∷ l) w))

kept-take : (l c : List ℕ) → length c ≤ 41 → kept c l ≡ take 41 (c ++ l)
unfolding kept
kept-take [] c h = sym (ap (λ (x : List ℕ). take 41 x) (append-nil c) ∙ take_all 41 c h)
kept-take (b ∷ l) c h = kept_by (ltb (length c) 41) b l c refl h (kept-take l)

line_by : (t : Bool) (l : List ℕ) → ltb 40 (length l) ≡ t → line_of (take 41 l) ≡ line_of l
unfolding line_of
line_by true l e =
    let w = ltb-true 40 (length l) e in
    let h : 40 < length (take 41 l) = simp length-take (omega arith) in
    rw (e, lt-ltb 40 (length (take 41 l)) h)
line_by false l e = let w = ltb-false 40 (length l) e in ap line_of (take_all 41 l (omega arith))

line_same : (l : List ℕ) → line_of (take 41 l) ≡ line_of l
line_same l = line_by (ltb 40 (length l)) l refl

says_by : (t : Bool) (r : Run) (c : List ℕ) (b : ℕ) (l rest : List ℕ) → eqb b 10 ≡ t → cond t false (plain l) ≡ true
    → ((d : List ℕ) → plain l ≡ true → says (fed_to r d) (l ++ rest) ≡ says (fed_to r (kept d l)) rest)
    → says (fed_to r c) (b ∷ (l ++ rest)) ≡ says (fed_to r (kept (keep_byte c b) l)) rest
unfolding feed_byte says_byte
says_by true r c b l rest e h a = let z : ◌≡◌ {A = ℕ} 0 1 = ap (λ (x : Bool). cond x 1 0) h in absurd (omega arith)
says_by false r c b l rest e h a = simp e (a (keep_byte c b) h)

says_plain : (l : List ℕ) (r : Run) (c rest : List ℕ) → plain l ≡ true → says (fed_to r c) (l ++ rest) ≡ says (fed_to r (kept c l)) rest
unfolding kept
says_plain [] r c rest h = refl
says_plain (b ∷ l) r c rest h = says_by (eqb b 10) r c b l rest refl h (λ d. says_plain l r d rest)

pub by_line : ByLine
unfolding feed_byte says_byte line_says ran_line
by_line r l rest h = says_plain l r [] (10 ∷ rest) h ∙ rw (kept-take l [] (omega arith), line_same l)
