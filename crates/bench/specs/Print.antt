-- Document 01, "ringrun": what it prints, as bytes.
use Rattle.std.specs.Prelude.{ℕ, ◌+◌, ◌≤◌, List, [], ◌∷◌, ◌++◌, ◌≡◌, length, Option, None, Some}
use Rattle.std.proofs.lemmas.List.Edits.{sets}
use Rattle.rules.specs.declared.Answer.{Answer}
use Rattle.rules.specs.declared.Answer.TheVariants as answer
use Rattle.bench.specs.declared.print.Said.{Said}
use Rattle.bench.specs.declared.print.Said.TheVariants.{Refused, Ok, Closed, Item, Empty, Cut}
use Rattle.bench.specs.declared.print.Text.{Text}
use Rattle.bench.specs.Text.{bytes}
use Rattle.bench.specs.Decimal.{decimal, spaced}

-- a text stands at a place of a buffer, and the next place is after it
pub record Wrote (before : List ℕ) (at : ℕ) (text after : List ℕ) (next : ℕ) : Type 0 where
  pub bytes : after ≡ sets before at text
  pub place : next ≡ at + length text

-- a text on its way into a buffer stays in that buffer
pub record SameBuffer (before after : Text) : Type 0 where
  pub size : length after.out.now ≡ length before.out.now
  pub name : after.out.ghost_name ≡ before.out.ghost_name

-- more of it was written
pub record Written (before : Text) (text : List ℕ) (after : Text) : Type 0 where
  pub wrote : Wrote before.out.now before.at text after.out.now after.at
  pub buffer : SameBuffer before after

-- a line has room in 2,048 bytes
abbrev pub HasRoom : Text → Type 0
HasRoom t = t.at + 2048 ≤ length t.out.now

-- a line, or nothing, was written
pub record LineWritten (before : Text) (text : List ℕ) (after : Text) : Type 0 where
  pub written : Written before text after
  pub near : after.at ≤ before.at + 2048

-- a word, its numbers, a newline; and the same after the event count
unfoldable pub line_text : List ℕ → List ℕ → List ℕ
line_text w ns = w ++ (spaced ns ++ (10 ∷ []))

unfoldable pub counted_text : ℕ → List ℕ → List ℕ → List ℕ
counted_text e w ns = decimal e ++ (32 ∷ line_text w ns)

-- OK, CLOSED, ITEM, EMPTY, cuts and refusals are printed, other answers are not
abbrev pub said_of : Answer → Option Said
said_of (answer.Refused k) = Some (Refused k)
said_of (answer.Ok b x) = Some (Ok b.thread x)
said_of (answer.Closed b) = Some (Closed b.thread)
said_of (answer.Item b x) = Some (Item b.thread x)
said_of (answer.Empty b) = Some (Empty b.thread)
said_of (answer.Cut f) = Some (Cut f)
said_of _ = None

-- its line, at event count e and input line l; a cut's has the items that it queued
unfoldable pub said_text : ℕ → ℕ → List ℕ → Option Said → List ℕ
said_text e l items None = []
said_text e l items (Some (Refused k)) = line_text (bytes "refused") (l ∷ k ∷ [])
said_text e l items (Some (Ok t x)) = counted_text e (bytes "ok") (t ∷ x ∷ [])
said_text e l items (Some (Closed t)) = counted_text e (bytes "closed") (t ∷ [])
said_text e l items (Some (Item t x)) = counted_text e (bytes "item") (t ∷ x ∷ [])
said_text e l items (Some (Empty t)) = counted_text e (bytes "empty") (t ∷ [])
said_text e l items (Some (Cut f)) = counted_text e (bytes "cut") (f.mark ∷ f.head ∷ f.tail ∷ f.closed ∷ f.count ∷ items)

-- the last line
unfoldable pub end_text : ℕ → List ℕ
end_text e = line_text (bytes "end") (e ∷ [])
