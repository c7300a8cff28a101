-- For each public function: no second outcome satisfies its statement.
use Prim.Native.Nat.{ℕ}
use mathlib.Core.Path.{◌≡◌, sym, ◌∙◌}
use mathlib.Core.Bool.{Bool}
use Rattle.std.specs.Prelude.{List, Option}
use Rattle.rules.specs.declared.Event.{Event}
use Rattle.rules.specs.declared.Answer.{Answer}
use Rattle.rules.specs.Block.{is_kind, event_of, event_in, six}

pub is_kind_only : (k : ℕ) (r s : Bool) → r ≡ is_kind k → s ≡ is_kind k → r ≡ s
is_kind_only k r s p q = p ∙ sym q

pub event_of_only : (k i x : ℕ) (r s : Event) → r ≡ event_of k i x → s ≡ event_of k i x → r ≡ s
event_of_only k i x r s p q = p ∙ sym q

pub event_in_only : (three : List ℕ) (r s : Option Event) → r ≡ event_in three → s ≡ event_in three → r ≡ s
event_in_only three r s p q = p ∙ sym q

pub numbers_only : (a : Answer) (r s : List ℕ) → r ≡ six a → s ≡ six a → r ≡ s
numbers_only a r s p q = p ∙ sym q
