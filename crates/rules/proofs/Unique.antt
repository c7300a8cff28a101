-- No second outcome satisfies the statement of a public function of src/lib.rt.
use Prim.Native.Nat.{ℕ}
use mathlib.Core.Path.{◌≡◌, sym, ◌∙◌}
use Rattle.rules.specs.declared.Line.{Line}
use Rattle.rules.specs.declared.Thread.{Thread}
use Rattle.rules.specs.declared.Ring.{Ring}
use Rattle.rules.specs.declared.Control.{Control}
use Rattle.rules.specs.declared.Refusal.{Refusal}
use Rattle.rules.specs.declared.Answer.{Answer}
use Rattle.rules.specs.Record.{idle, fresh_control, with_thread, thread_at, counted_at, drawn_at}
use Rattle.rules.specs.Line.{line_kind, line_place}
use Rattle.rules.specs.Refusal.{number_of, answer_of}

-- a statement that is an equation has one outcome
pub only : {A : Type 0} {a b x : A} → a ≡ x → b ≡ x → a ≡ b
only p q = p ∙ sym q

pub kind_only : (self : Line) (r r' : ℕ) → r ≡ line_kind self → r' ≡ line_kind self → r ≡ r'
kind_only self r r' = only

pub place_only : (self : Line) (r r' : ℕ) → r ≡ line_place self → r' ≡ line_place self → r ≡ r'
place_only self r r' = only

pub idle_only : (r r' : Thread) → r ≡ idle → r' ≡ idle → r ≡ r'
idle_only r r' = only

pub count_only : (self r r' : Ring) → r ≡ counted_at self → r' ≡ counted_at self → r ≡ r'
count_only self r r' = only

pub draw_only : (self r r' : Ring) → r ≡ drawn_at self → r' ≡ drawn_at self → r ≡ r'
draw_only self r r' = only

pub fresh_only : (cells threads tries : ℕ) (r r' : Control) → r ≡ fresh_control cells threads tries → r' ≡ fresh_control cells threads tries → r ≡ r'
fresh_only cells threads tries r r' = only

pub thread_at_only : (self : Control) (i : ℕ) (r r' : Thread) → r ≡ thread_at self i → r' ≡ thread_at self i → r ≡ r'
thread_at_only self i r r' = only

pub with_thread_only : (self : Control) (i : ℕ) (t : Thread) (r r' : Control) → r ≡ with_thread self i t → r' ≡ with_thread self i t → r ≡ r'
with_thread_only self i t r r' = only

-- a refusal as a number and as an answer
pub number_only : (self : Refusal) (r r' : ℕ) → r ≡ number_of self → r' ≡ number_of self → r ≡ r'
number_only self r r' = only

pub answer_only : (self : Refusal) (r r' : Answer) → r ≡ answer_of self → r' ≡ answer_of self → r ≡ r'
answer_only self r r' = only
