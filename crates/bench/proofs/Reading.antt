-- Turns of the loop that reads the numbers of a line.
use Rattle.std.proofs.Common.{◌≡◌, ℕ, suc, ◌+◌, ◌-◌, ◌<◌, List, [], ◌∷◌, ◌++◌, length, take, set, ap, sym, refl, arith, Option, Some, None, option_map}
use Rattle.std.proofs.Math.Seq.{append_snoc}
use Rattle.std.proofs.lemmas.List.{take_more_set}
use Rattle.bench.specs.Read.{after_space, numbers}

-- the numbers that were read, in front of those that follow
abbrev pub ahead : List ℕ → Option (List ℕ) → Option (List ℕ)
ahead xs o = option_map (λ ns. xs ++ ns) o

ahead_more : (xs : List ℕ) (x : ℕ) (o : Option (List ℕ)) → ahead xs (option_map (λ ns. x ∷ ns) o) ≡ ahead (xs ++ x ∷ []) o
ahead_more xs x None = refl
ahead_more xs x (Some ns) = ap Some (sym (append_snoc xs x ns))

pub numbers_more : (items : List ℕ) (n i x : ℕ) (l after : List ℕ) → i < n → n ≡ length items → after_space l ≡ Some (x, after)
    → ahead (take i items) (numbers (n - i) l) ≡ ahead (take (i + 1) (set items i x)) (numbers (n - (i + 1)) after)
numbers_more items n i x l after h e q =
    let k : n - i ≡ suc (n - (i + 1)) = omega arith in
    let m : i < length items = omega arith in
    rw (k, q, take_more_set items i x m) (ahead_more (take i items) x (numbers (n - (i + 1)) after))
