-- Document 01, "Numbers and memory": the control record, a thread's record, idle, fresh.
use Rattle.std.specs.Prelude.{ℕ, ◌+◌, cond, ltb, set, replicate, get_or}
use Rattle.rules.specs.declared.Line.TheVariants.{None}
use Rattle.rules.specs.declared.Cell.{Cell}
use Rattle.rules.specs.declared.Thread.{Thread}
use Rattle.rules.specs.declared.Ring.{Ring}
use Rattle.rules.specs.declared.Control.{Control}
use Rattle.rules.specs.Numbers.{max_threads, run_limit}

abbrev pub cell : ℕ → ℕ → ℕ → ℕ → Cell
cell s i x k = record { safe = s; index = i; item = x; mark = k }

abbrev pub zero_cell : Cell
zero_cell = cell 0 0 0 0

-- all fields of an idle thread are zero or none
abbrev pub idle : Thread
idle = record { place = 0; item = 0; number = 0; looked = zero_cell; tries = 0; awaited = None }

abbrev pub ring_of : ℕ → ℕ → ℕ → ℕ → ℕ → Ring
ring_of R n S e h = record { cells = R; threads = n; tries = S; events = e; head = h }

abbrev pub control_of : Ring → Control
control_of g = record { ring = g; thread = replicate max_threads idle }

abbrev pub fresh_control : ℕ → ℕ → ℕ → Control
fresh_control R n S = control_of (ring_of R n S 0 0)

abbrev pub zero_control : Control
zero_control = fresh_control 0 0 0

-- one thread's record
unfoldable pub thread_at : Control → ℕ → Thread
thread_at c i = get_or c.thread i idle

unfoldable pub with_thread : Control → ℕ → Thread → Control
with_thread c i t = record { ring = c.ring; thread = set c.thread i t }

abbrev pub with_ring : Control → Ring → Control
with_ring c g = record { ring = g; thread = c.thread }

-- one event more; Head drawn; Head as a cut finds it
abbrev pub counted : Ring → Ring
counted g = ring_of g.cells g.threads g.tries (g.events + 1) g.head

abbrev pub drawn : Ring → Ring
drawn g = ring_of g.cells g.threads g.tries g.events (g.head + 1)

abbrev pub headed : Ring → ℕ → Ring
headed g h = ring_of g.cells g.threads g.tries g.events h

-- the same where any numbers are taken: at the run limit they stay
unfoldable pub counted_at : Ring → Ring
counted_at g = cond (ltb g.events run_limit) (counted g) g

unfoldable pub drawn_at : Ring → Ring
drawn_at g = cond (ltb g.head run_limit) (drawn g) g
