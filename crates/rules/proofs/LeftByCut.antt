-- What an accepted cut leaves, in document 01's words.
use Prim.Native.Nat.{ℕ, ◌+◌, ◌≤◌, ◌<◌}
use mathlib.Core.Path.{◌≡◌, refl, ◌∙◌}
use mathlib.Core.Logic.{◌≢◌}
use lib.ListN.{get_or}
use Rattle.rules.specs.declared.Event.TheVariants.{Cut as CutEvent}
use Rattle.rules.specs.declared.Answer.TheVariants.{Cut}
use Rattle.rules.specs.declared.Found.{Found}
use Rattle.rules.specs.Record.{cell, idle, ring_of, thread_at}
use Rattle.rules.specs.Memory.{cell_at, copy_at, closed_at, tail_at, size}
use Rattle.rules.specs.Cut.{pass_mark, head_of, finds, recovered}
use Rattle.rules.specs.State.{State, Out}
use Rattle.rules.specs.Refusals.{refusal}
use Rattle.rules.specs.Events.{cut, does, event}
use Rattle.rules.proofs.Tests.{get_or-all}
use Rattle.rules.proofs.Memory.{over_at}
use Rattle.rules.proofs.Sound.{sound_of}
use Rattle.rules.proofs.Recovered.{cell_recovered, copy_recovered, closed_recovered, tail_recovered}
use Rattle.rules.proofs.Events.{both_pass, accepted_does}
use Rattle.rules.proofs.RecoveredAgain.{mended_below, mended_blank, mended_queued}

-- a cut of s that finds f, in a ring of R cells and n threads
pub record AfterCut (R n : ℕ) (f : Found) (s : State) (o : Out) : Type 0 where
  -- the answer gives pass mark, Head, Tail, closed, count
  pub answer : o.answer ≡ Cut f
  -- one event more, and Head is the one found; all threads go idle
  pub ring : o.state.control.ring ≡ ring_of R n s.control.ring.tries (s.control.ring.events + 1) f.head
  pub threads : (i : ℕ) → thread_at o.state.control i ≡ idle
  -- occupied cells below the pass mark become blank with index + R, other cells keep index and item; every safe is 1, every mark is Head
  pub below : (j : ℕ) → j < R → (cell_at R s.kept j).item ≢ 0 → (cell_at R s.kept j).index < f.mark
      → cell_at R o.state.kept j ≡ cell 1 ((cell_at R s.kept j).index + R) 0 f.head
  pub blank : (j : ℕ) → j < R → (cell_at R s.kept j).item ≡ 0
      → cell_at R o.state.kept j ≡ cell 1 (cell_at R s.kept j).index (cell_at R s.kept j).item f.head
  pub queued : (j : ℕ) → j < R → (cell_at R s.kept j).item ≢ 0 → f.mark ≤ (cell_at R s.kept j).index
      → cell_at R o.state.kept j ≡ cell 1 (cell_at R s.kept j).index (cell_at R s.kept j).item f.head
  -- every copy is Head, closed stays, Tail is the one found
  pub copies : (t : ℕ) → t < n → copy_at R o.state.kept t ≡ f.head
  pub closed : closed_at R n o.state.kept ≡ closed_at R n s.kept
  pub tail : tail_at R n o.state.kept ≡ f.tail
  -- both images then hold this
  pub both : (i : ℕ) → i < size R n → get_or o.state.running i 0 ≡ get_or o.state.kept i 0

pub cut-leaves : (s : State) → refusal s CutEvent ≡ 0
    → AfterCut s.control.ring.cells s.control.ring.threads (finds s.control.ring.cells s.control.ring.threads s.kept) s (event s CutEvent)
unfolding does cut finds thread_at
cut-leaves s h =
    let R = s.control.ring.cells in
    let n = s.control.ring.threads in
    let m = s.kept in
    let mark = pass_mark R n m in
    let head = head_of R mark m in
    let k = sound_of s (both_pass s CutEvent h).0 in
    let long = k.long_kept in
    rw (accepted_does s CutEvent h)
    (record {
      answer = refl;
      ring = refl;
      threads = λ i. get_or-all 8 i idle;
      both = λ i l. over_at (recovered R n m) s.running (size R n) i k.long_running l;
      copies = copy_recovered R n m long;
      closed = closed_recovered R n m long;
      tail = tail_recovered R n m long;
      below = λ j l z b. cell_recovered R n m long j l ∙ mended_below R mark head (cell_at R m j) z b;
      blank = λ j l z. cell_recovered R n m long j l ∙ mended_blank R mark head (cell_at R m j) z;
      queued = λ j l z b. cell_recovered R n m long j l ∙ mended_queued R mark head (cell_at R m j) z b;
    })
