-- What soundness says, fact by fact: the form in which proofs use it.
use Rattle.std.specs.Prelude.{ℕ, ◌+◌, ◌≤◌, ◌<◌, ◌≡◌, ◌≢◌, ◌⊎◌, List, true, ◌||◌, length}
use Rattle.rules.specs.declared.Cell.{Cell}
use Rattle.rules.specs.declared.Thread.{Thread}
use Rattle.rules.specs.declared.Ring.{Ring}
use Rattle.rules.specs.declared.Control.{Control}
use Rattle.rules.specs.Numbers.{max_cells, max_threads, max_tries, run_limit}
use Rattle.rules.specs.Record.{idle, thread_at}
use Rattle.rules.specs.Memory.{cell_at, copy_at, closed_at, tail_at, size}
use Rattle.rules.specs.Line.{is_none, line_exists}
use Rattle.rules.specs.Places.{P1, P10, T1, T10}
use Rattle.rules.specs.State.{State}

pub record InRange (R n S : ℕ) : Type 0 where
  pub some_cells : 1 ≤ R
  pub most_cells : R ≤ max_cells
  pub some_threads : 1 ≤ n
  pub most_threads : n ≤ max_threads
  pub some_tries : 1 ≤ S
  pub most_tries : S ≤ max_tries

pub record SoundRing (g : Ring) : Type 0 where
  pub range : InRange g.cells g.threads g.tries
  pub events : g.events ≤ run_limit
  pub head : g.head ≤ g.events

-- thread i of n is busy
pub record Busy (R n S e i : ℕ) (t : Thread) : Type 0 where
  pub here : i < n
  pub first : P1 ≤ t.place
  pub last : t.place ≤ T10
  pub tries : t.tries < S
  pub awaited : (is_none t.awaited || line_exists R n t.awaited) ≡ true
  pub item : t.place ≤ P10 → t.item ≢ 0
  pub most : t.number ≤ e
  pub number : t.place ≢ P1 → t.place ≢ T1 → t.number < e
  pub begun : t.number ≢ 0 → t.number < e

abbrev pub SoundThread : ℕ → ℕ → ℕ → ℕ → ℕ → Thread → Type 0
SoundThread R n S e i t = (t ≡ idle) ⊎ Busy R n S e i t

pub record SoundCell (R e : ℕ) (c : Cell) : Type 0 where
  pub safe : c.safe ≤ 1
  pub mark : c.mark ≤ e
  -- of a blank cell the whole bound; an occupied one has it too
  pub blank : c.index < e + R
  pub occupied : c.item ≢ 0 → c.index < e

pub record SoundImage (R n e : ℕ) (m : List ℕ) : Type 0 where
  pub cells : (j : ℕ) → j < R → SoundCell R e (cell_at R m j)
  pub copies : (t : ℕ) → t < n → copy_at R m t ≤ e
  pub closed : closed_at R n m ≤ 1
  pub tail : tail_at R n m ≤ e

pub record SoundRecord (c : Control) : Type 0 where
  pub ring : SoundRing c.ring
  pub threads : (i : ℕ) → i < max_threads → SoundThread c.ring.cells c.ring.threads c.ring.tries c.ring.events i (thread_at c i)

pub record Sound (s : State) : Type 0 where
  pub control : SoundRecord s.control
  pub long_running : size s.control.ring.cells s.control.ring.threads ≤ length s.running
  pub long_kept : size s.control.ring.cells s.control.ring.threads ≤ length s.kept
  pub running : SoundImage s.control.ring.cells s.control.ring.threads s.control.ring.events s.running
  pub kept : SoundImage s.control.ring.cells s.control.ring.threads s.control.ring.events s.kept

-- what a row needs: the ring's numbers, its thread and the running image are sound
pub record Ready (g : Ring) (i : ℕ) (t : Thread) (m : List ℕ) : Type 0 where
  pub ring : SoundRing g
  pub thread : Busy g.cells g.threads g.tries g.events i t
  pub long : size g.cells g.threads ≤ length m
  pub image : SoundImage g.cells g.threads g.events m
