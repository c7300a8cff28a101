-- An answer's number and values tell it from every other, a line's kind and place too.
use Prim.Native.Nat.{ℕ}
use mathlib.Core.Path.{◌≡◌, refl, sym, ap, ◌∙◌}
use mathlib.Core.List.{List, [], ◌∷◌}
use mathlib.Core.Bool.{cond}
use lib.Dec.{eqb}
use lib.ListN.{get_or}
use Rattle.rules.specs.declared.Line.{Line}
use Rattle.rules.specs.declared.Line.TheVariants.{None, Copy, Tail, Cell as CellLine}
use Rattle.rules.specs.declared.Answer.{Answer}
use Rattle.rules.specs.declared.Answer.TheVariants.{Refused, Begun, Drew, Looked, SawHead, Landed, Missed, Asked, Waiting, Ok, Closed, SetClosed, Took, Flagged, Passed, SawTail, Lifted, Copied, Item, Empty, Written, Cut}
use Rattle.rules.specs.Line.{line_kind, line_place}
use Rattle.rules.specs.Answers.{by, found, numbers}
use Rattle.rules.specs.Block.{filled_up, six}

-- the line of a kind and a place
abbrev pub line_of : ℕ → ℕ → Line
line_of k p = cond (eqb k 0) None (cond (eqb k 1) (CellLine p) (cond (eqb k 2) (Copy p) Tail))

pub line_back : (l : Line) → line_of (line_kind l) (line_place l) ≡ l
line_back None = refl
line_back (CellLine j) = refl
line_back (Copy t) = refl
line_back Tail = refl

pub line_one_to_one : (l k : Line) → line_kind l ≡ line_kind k → line_place l ≡ line_place k → l ≡ k
line_one_to_one l k e p = sym (line_back l) ∙ (rw (e, p) (line_back k))

-- the answer of a number and its values
abbrev answer_of : ℕ → ℕ → ℕ → ℕ → ℕ → ℕ → Answer
answer_of k a b c d e =
    cond (eqb k 0) (Refused a)
    (cond (eqb k 1) (Begun a)
    (cond (eqb k 2) (Drew (by a b))
    (cond (eqb k 3) (Looked (by a b) c)
    (cond (eqb k 4) (SawHead (by a b) c)
    (cond (eqb k 5) (Landed (by a b) c d)
    (cond (eqb k 6) (Missed (by a b) c)
    (cond (eqb k 7) (Asked (by a b))
    (cond (eqb k 8) (Waiting (by a b))
    (cond (eqb k 9) (Ok (by a b) c)
    (cond (eqb k 10) (Closed (by a b))
    (cond (eqb k 11) (SetClosed (by a b))
    (cond (eqb k 12) (Took (by a b) c d)
    (cond (eqb k 13) (Flagged (by a b) c)
    (cond (eqb k 14) (Passed (by a b) c)
    (cond (eqb k 15) (SawTail (by a b) c)
    (cond (eqb k 16) (Lifted (by a b) c)
    (cond (eqb k 17) (Copied (by a b) c)
    (cond (eqb k 18) (Item (by a b) c)
    (cond (eqb k 19) (Empty (by a b))
    (cond (eqb k 20) (Written (line_of a b)) (Cut (found a b c d e))))))))))))))))))))))

abbrev pub answer_from : List ℕ → Answer
answer_from l = answer_of (get_or l 0 0) (get_or l 1 0) (get_or l 2 0) (get_or l 3 0) (get_or l 4 0) (get_or l 5 0)

pub answer_back : (a : Answer) → answer_from (numbers a) ≡ a
unfolding numbers
answer_back (Refused k) = refl
answer_back (Begun t) = refl
answer_back (Drew b) = refl
answer_back (Looked b j) = refl
answer_back (SawHead b v) = refl
answer_back (Landed b j x) = refl
answer_back (Missed b j) = refl
answer_back (Asked b) = refl
answer_back (Waiting b) = refl
answer_back (Ok b x) = refl
answer_back (Closed b) = refl
answer_back (SetClosed b) = refl
answer_back (Took b j x) = refl
answer_back (Flagged b j) = refl
answer_back (Passed b j) = refl
answer_back (SawTail b v) = refl
answer_back (Lifted b v) = refl
answer_back (Copied b v) = refl
answer_back (Item b x) = refl
answer_back (Empty b) = refl
answer_back (Written l) = ap Written (line_back l)
answer_back (Cut f) = refl

pub numbers_one_to_one : (a b : Answer) → numbers a ≡ numbers b → a ≡ b
numbers_one_to_one a b h = sym (answer_back a) ∙ (ap answer_from h ∙ answer_back b)

-- the same of an answer's six numbers in a block's room
filled : (l : List ℕ) → answer_from (filled_up 6 l) ≡ answer_from l
filled [] = refl
filled (a ∷ []) = refl
filled (a ∷ b ∷ []) = refl
filled (a ∷ b ∷ c ∷ []) = refl
filled (a ∷ b ∷ c ∷ d ∷ []) = refl
filled (a ∷ b ∷ c ∷ d ∷ e ∷ []) = refl
filled (a ∷ b ∷ c ∷ d ∷ e ∷ f ∷ l) = refl

pub six_one_to_one : (a b : Answer) → six a ≡ six b → a ≡ b
unfolding six
six_one_to_one a b e = sym (filled (numbers a) ∙ answer_back a) ∙ (ap (λ l. answer_from l) e ∙ (filled (numbers b) ∙ answer_back b))
