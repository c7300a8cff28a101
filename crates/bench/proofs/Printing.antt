-- Laws of writing a text into a buffer.
use Prim.Native.Nat.{ℕ, suc, ◌+◌, ◌<◌}
use mathlib.Core.Path.{◌≡◌, refl, ap, sym, ◌∙◌}
use mathlib.Core.List.{List, [], ◌∷◌, ◌++◌, append_assoc}
use native.Mathlib.Nat.{add-zero}
use native.Mathlib.Omega.{arith}
use lib.ListN.{length, take, get_or, set, length-append}
use lib.Seq.{sets}
use Rattle.std.proofs.lemmas.List.{take_more}
use Rattle.bench.specs.declared.print.Text.{Text}
use Rattle.bench.specs.Decimal.{decimal, spaced}
use Rattle.bench.specs.Print.{Wrote, Written}

pub sets-append : (l : List ℕ) (i : ℕ) (a b : List ℕ) → sets l i (a ++ b) ≡ sets (sets l i a) (i + length a) b
sets-append l i [] b = rw (add-zero i)
sets-append l i (x ∷ a) b = sets-append (set l i x) (suc i) a b ∙ ap (λ (k : ℕ). sets (sets (set l i x) (suc i) a) k b) (omega arith)

-- one text after another
pub then : {a b l m o : List ℕ} {i p q : ℕ} → Wrote l i a m p → Wrote m p b o q → Wrote l i (a ++ b) o q
then {a} {b} {l} {m} {o} {i} {p} {q} f g = record {
  bytes = g.bytes ∙ rw (f.place, f.bytes) (sym (sets-append l i a b));
  place = omega (arith, length-append a b);
}

pub and_then : {a b : List ℕ} {t u v : Text} → Written t a u → Written u b v → Written t (a ++ b) v
and_then f g = record {
  wrote = then f.wrote g.wrote;
  buffer = record { size = g.buffer.size ∙ f.buffer.size; name = g.buffer.name ∙ f.buffer.name };
}

pub nothing : (t : Text) → Written t [] t
nothing t = record {
  wrote = record { bytes = refl; place = sym (add-zero t.at) };
  buffer = record { size = refl; name = refl };
}

-- numbers
pub spaced-append : (a b : List ℕ) → spaced (a ++ b) ≡ spaced a ++ spaced b
spaced-append [] b = refl
spaced-append (n ∷ a) b = ap (λ (x : List ℕ). 32 ∷ x) (ap (λ (x : List ℕ). decimal n ++ x) (spaced-append a b) ∙ sym (append_assoc (decimal n) (spaced a) (spaced b)))

pub then_numbers : (a b : List ℕ) {t u v : Text} → Written t (spaced a) u → Written u (spaced b) v → Written t (spaced (a ++ b)) v
then_numbers a b f g = rw (spaced-append a b) (and_then f g)

pub one_more : (t u v : Text) (ns : List ℕ) (k : ℕ) → k < length ns → Written t (spaced (take k ns)) u → Written u (spaced (get_or ns k 0 ∷ [])) v
    → Written t (spaced (take (k + 1) ns)) v
one_more t u v ns k h f g = rw (take_more ns k 0 h) (then_numbers (take k ns) (get_or ns k 0 ∷ []) f g)
