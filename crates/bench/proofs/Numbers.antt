-- The numbers after a word are their decimal texts, each after one space.
use Rattle.std.proofs.Common.{◌≡◌, ℕ, zero, suc, List, [], ◌∷◌, ◌++◌, length, ap, subst, refl, ◌∙◌, Option, Some, None, option_map, option_and_then}
use Rattle.std.proofs.lemmas.Option.{none-some, same_Some}
use Rattle.bench.specs.Read.{after_space, numbers}
use Rattle.bench.specs.Decimal.{decimal, spaced}
use Rattle.bench.specs.Grammar.{Small}
use Rattle.bench.proofs.Number.{space_sound, space_read}

pub numbers_read : (ns : List ℕ) → Small ns → numbers (length ns) (spaced ns) ≡ Some ns
numbers_read [] h = refl
numbers_read (n ∷ ns) h = rw (space_read n ns h.0, numbers_read ns h.1)

-- the numbers that were read, and that nothing but they stands in the line
abbrev pub Stand : ℕ → List ℕ → List ℕ → Type 0
Stand k l ns = (l ≡ spaced ns) × (Small ns × (length ns ≡ k))

rest_stands : (o : Option (List ℕ)) (k : ℕ) (l r ns : List ℕ) (n : ℕ) → after_space l ≡ Some (n, r) → ((xs : List ℕ) → o ≡ Some xs → Stand k r xs)
    → option_map (λ xs. n ∷ xs) o ≡ Some ns → Stand (suc k) l ns
rest_stands None k l r ns n e step q = absurd (none-some _ q)
rest_stands (Some xs) k l r ns n e step q =
    let a = step xs refl in
    let s = space_sound l r n e in
    subst (λ (x : List ℕ). Stand (suc k) l x) (same_Some _ _ q)
    (s.0 ∙ ap (λ (x : List ℕ). 32 ∷ (decimal n ++ x)) a.0, ((s.1, a.1.0), ap (λ (x : ℕ). suc x) a.1.1))

first_stands : (o : Option (ℕ × List ℕ)) (k : ℕ) (l ns : List ℕ) → after_space l ≡ o → ((r xs : List ℕ) → numbers k r ≡ Some xs → Stand k r xs)
    → option_and_then (λ p. option_map (λ xs. p.0 ∷ xs) (numbers k p.1)) o ≡ Some ns → Stand (suc k) l ns
first_stands None k l ns e step q = absurd (none-some _ q)
first_stands (Some p) k l ns e step q = rest_stands (numbers k p.1) k l p.1 ns p.0 e (λ xs h. step p.1 xs h) q

pub numbers_stand : (k : ℕ) (l ns : List ℕ) → numbers k l ≡ Some ns → Stand k l ns
numbers_stand zero [] ns q = subst (λ (x : List ℕ). Stand zero [] x) (same_Some _ _ q) (refl, (tt, refl))
numbers_stand zero (b ∷ l) ns q = absurd (none-some _ q)
numbers_stand (suc k) l ns q = first_stands (after_space l) k l ns refl (λ r xs h. numbers_stand k r xs h) q
