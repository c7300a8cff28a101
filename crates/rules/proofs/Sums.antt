-- No sum in a sound state reaches 2^32.
use Prim.Native.Nat.{ℕ, ◌+◌, ◌≤◌, ◌<◌}
use mathlib.Core.Path.{◌≡◌, ap}
use mathlib.Core.Logic.{inl, inr}
use native.Mathlib.Omega.{arith}
use Rattle.rules.specs.declared.Cell.{Cell}
use Rattle.rules.specs.declared.Thread.{Thread}
use Rattle.rules.specs.Numbers.{max_threads, run_limit}
use Rattle.rules.specs.Record.{thread_at}
use Rattle.rules.specs.Memory.{cell_at, tail_at, size}
use Rattle.rules.specs.State.{State}
use Rattle.rules.specs.Refusals.{unsound}
use Rattle.rules.specs.Facts.{InRange, SoundThread, SoundCell}
use Rattle.rules.proofs.Sound.{sound_of}

abbrev pub word : ℕ
word = 4294967296

-- the sums of a thread: number + 1, number + R, tries + 1
pub record SmallThread (R : ℕ) (t : Thread) : Type 0 where
  pub next : t.number + 1 < word
  pub passed : t.number + R < word
  pub tries : t.tries + 1 < word

-- the sums of a cell: index + 1, index + R
pub record SmallCell (R : ℕ) (c : Cell) : Type 0 where
  pub next : c.index + 1 < word
  pub passed : c.index + R < word

pub record Small (s : State) : Type 0 where
  pub size : size s.control.ring.cells s.control.ring.threads ≤ 266
  pub events : s.control.ring.events + 1 < word
  pub head : s.control.ring.head + 1 < word
  pub around : s.control.ring.head + s.control.ring.cells < word
  pub tail : tail_at s.control.ring.cells s.control.ring.threads s.running + 1 < word
  pub threads : (i : ℕ) → i < max_threads → SmallThread s.control.ring.cells (thread_at s.control i)
  pub running : (j : ℕ) → j < s.control.ring.cells → SmallCell s.control.ring.cells (cell_at s.control.ring.cells s.running j)
  pub kept : (j : ℕ) → j < s.control.ring.cells → SmallCell s.control.ring.cells (cell_at s.control.ring.cells s.kept j)

small_thread : {R n S e i : ℕ} (t : Thread) → InRange R n S → e ≤ run_limit → SoundThread R n S e i t → SmallThread R t
small_thread t r l (inl q) =
    let z : t.number ≡ 0 = ap (λ (t : Thread). t.number) q in
    let y : t.tries ≡ 0 = ap (λ (t : Thread). t.tries) q in
    record { next = omega arith; passed = omega arith; tries = omega arith }
small_thread t r l (inr b) = record { next = omega arith; passed = omega arith; tries = omega arith }

small_cell : {R n S e : ℕ} (c : Cell) → InRange R n S → e ≤ run_limit → SoundCell R e c → SmallCell R c
small_cell c r l k = record { next = omega arith; passed = omega arith }

pub sums_fit : (s : State) → unsound s ≡ 0 → Small s
sums_fit s u =
    let h = sound_of s u in
    let g = h.control.ring in
    let r = g.range in
    record {
      size = omega arith;
      events = omega arith;
      head = omega arith;
      around = omega arith;
      tail = omega (arith, h.running.tail);
      threads = λ i l. small_thread (thread_at s.control i) r g.events (h.control.threads i l);
      running = λ j l. small_cell (cell_at s.control.ring.cells s.running j) r g.events (h.running.cells j l);
      kept = λ j l. small_cell (cell_at s.control.ring.cells s.kept j) r g.events (h.kept.cells j l);
    }
