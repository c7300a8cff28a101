-- Turns of the loop that gathers lines into a block of events.
use Prim.Native.Nat.{ℕ, zero, suc, ◌+◌, ◌*◌, ◌-◌, ◌<◌, ◌≤◌}
use mathlib.Core.Path.{◌≡◌, refl, ap, sym, ◌∙◌}
use mathlib.Core.List.{List, ◌++◌}
use native.Mathlib.Numerals.{add-one}
use native.Mathlib.Nat.{add-zero}
use native.Mathlib.Omega.{arith}
use lib.ListN.{length, drop, get_or, take, length-append}
use lib.Seq.{sets}
use Rattle.rules.specs.declared.Line.TheVariants as line
use Rattle.rules.specs.declared.Event.TheVariants as event
use Rattle.rules.specs.Block.{is_kind, event_of, runs, event_runs}
use Rattle.std.specs.Prelude.{Option, Some, None}
use Rattle.bench.specs.declared.read.Command.{Command}
use Rattle.bench.specs.declared.read.Command.TheVariants.{Ring, Event as EventOf}
use Rattle.bench.specs.declared.Phase.{Phase}
use Rattle.bench.specs.declared.Phase.TheVariants.{First, Running, Ended}
use Rattle.bench.specs.Read.{line_of}
use Rattle.bench.specs.Print.{said_text}
use Rattle.bench.specs.Bench.{Run, ran_in, says_in, event_says, next_line, ran_line, line_says}
use Rattle.bench.specs.Block.{scan_of, pour}
use Rattle.bench.specs.Gather.{three_of, most_of, Told, tells, told_to, Gathers}
use Rattle.bench.proofs.Printing.{sets-append}
use Rattle.bench.proofs.Stored.{before, within, Same}
use Rattle.bench.proofs.Blocks.{run_scan, run_line}

-- ---- blocks that are the same in their first events tell the same
tells_same : (u : Told) (a b : List ℕ) (k : ℕ) → get_or a (3 * k) 0 ≡ get_or b (3 * k) 0 → get_or a (3 * k + 1) 0 ≡ get_or b (3 * k + 1) 0
    → get_or a (3 * k + 2) 0 ≡ get_or b (3 * k + 2) 0 → tells u a k ≡ tells u b k
unfolding tells event_runs
tells_same u a b k e f g = rw (e, f, g)

pub told_same : (r : Run) (a b : List ℕ) (k : ℕ) → Same (3 * k) a b → told_to r a k ≡ told_to r b k
told_same r a b zero h = refl
told_same r a b (suc k) h =
    ap (λ (u : Told). tells u a k) (told_same r a b k (λ j l. h j (omega arith)))
    ∙ tells_same (told_to r b k) a b k (h (3 * k) (omega arith)) (h (3 * k + 1) (omega arith)) (h (3 * k + 2) (omega arith))

-- the phase stays
pub told_phase : (r : Run) (block : List ℕ) (k : ℕ) → (told_to r block k).run.phase ≡ r.phase
unfolding tells
told_phase r block zero = refl
told_phase r block (suc k) = told_phase r block k

-- ---- a line that is gathered runs as its event does
-- the numbers are event k of a block
Stands : List ℕ → ℕ → Option (List ℕ) → Type 0
Stands block k None = ⊥
Stands block k (Some t) =
    (get_or block (3 * k) 0 ≡ get_or t 0 0) × ((get_or block (3 * k + 1) 0 ≡ get_or t 1 0) × (get_or block (3 * k + 2) 0 ≡ get_or t 2 0))

abbrev Tells : Told → List ℕ → ℕ → Option Command → Type 0
Tells u block k c =
    u.run.phase ≡ Running → Stands block k (three_of c)
    → tells u block k ≡ record {
      run = ran_in u.run.phase (next_line u.run.lines) u.run.state c;
      text = u.text ++ says_in u.run.phase (next_line u.run.lines) u.run.state c;
    }

tells_by : (u : Told) (block : List ℕ) (k : ℕ) (c : Option Command) → Tells u block k c
unfolding Stands tells event_runs runs is_kind event_of event_says said_text
tells_by u block k (Some (Ring R n S)) p s = rw (p, s.0)
tells_by u block k None p s = rw (p, s.0)
tells_by u block k (Some (EventOf (event.Put i x))) p s = rw (p, s.0, s.1.0, s.1.1)
tells_by u block k (Some (EventOf (event.Take i))) p s = rw (p, s.0, s.1.0)
tells_by u block k (Some (EventOf (event.Go i))) p s = rw (p, s.0, s.1.0)
tells_by u block k (Some (EventOf (event.Back line.None))) p s = absurd s
tells_by u block k (Some (EventOf (event.Back (line.Cell j)))) p s = rw (p, s.0, s.1.0)
tells_by u block k (Some (EventOf (event.Back (line.Copy j)))) p s = rw (p, s.0, s.1.0)
tells_by u block k (Some (EventOf (event.Back line.Tail))) p s = rw (p, s.0)
tells_by u block k (Some (EventOf event.Cut)) p s = absurd s

-- one line more, whose numbers were stored after those of k
told_line : (r : Run) (block more l t : List ℕ) (k : ℕ) → r.phase ≡ Running → three_of (line_of l) ≡ Some t → length t ≡ 3
    → 3 * k + 3 ≤ length block → more ≡ sets block (3 * k) t
    → (let u = told_to r block k in told_to r more (suc k) ≡ record { run = ran_line u.run l; text = u.text ++ line_says u.run l })
unfolding Stands ran_line line_says
told_line r block more l t k p z n h q =
    let u = told_to r block k in
    let w : (j : ℕ) → j < 3 → get_or more (3 * k + j) 0 ≡ get_or t j 0 = λ j b. ap (λ (x : List ℕ). get_or x (3 * k + j) 0) q ∙ within block (3 * k) t j (omega arith) (omega arith) in
    ap (λ (x : Told). tells x more k)
    (told_same r more block k (λ j b. ap (λ (x : List ℕ). get_or x j 0) q ∙ before block (3 * k) t j b))
    ∙ tells_by u more k (line_of l) (told_phase r block k ∙ p)
    (rw z (ap (λ (x : ℕ). get_or more x 0) (sym (add-zero (3 * k))) ∙ w 0 (omega arith), (w 1 (omega arith), w 2 (omega arith))))

-- what was said before a line, and the line's own text
after_line : (m k : ℕ) (a b : Run) (c : List ℕ) (n i : ℕ) (s out x y z : List ℕ) (at : ℕ) → a ≡ b → z ≡ x ++ y
    → pour (m - k - 1) b c n i s (sets (sets out at x) (at + length x) y) (at + length x + length y)
    ≡ pour (m - suc k) a c n i s (sets out at z) (at + length z)
after_line m k a b c n i s out x y z at e f =
    let p : m - suc k ≡ m - k - 1 = omega arith in
    let q : at + length (x ++ y) ≡ at + length x + length y = simp length-append (omega arith) in
    rw (e, f, p, q, sets-append out at x y)

-- ---- the turns: none yet, a scan, a line
module _ (c : List ℕ) (n i : ℕ) (s : List ℕ) (most : ℕ) where
  pub gather_none : (block : List ℕ) → Gathers c n i s most block c n i 0
  unfolding Gathers
  gather_none block m r out at h p =
      ap (λ (x : ℕ). pour x r c n i (drop i s) out at) (omega arith) ∙ ap (λ (x : ℕ). pour (m - 0) r c n i (drop i s) out x) (omega arith)

  pub gather_scan : (block b after : List ℕ) (len next d e k : ℕ) → Gathers c n i s most block b len next k
      → record { carry = after; len = d; next = e; rest = drop e s } ≡ scan_of b len next (drop next s) → Gathers c n i s most block after d e k
  unfolding Gathers
  gather_scan block b after len next d e k g q m r out at h p =
      let t = told_to r block k in
      g m r out at h p ∙ run_scan (m - k) t.run b after len next d e s (sets out at t.text) (at + length t.text) q

  pub gather_line : (block more after t : List ℕ) (len next k : ℕ) → Gathers c n i s most block after len next k
      → next < length s → get_or s next 0 ≡ 10 → k < most → 3 * most ≤ length block → three_of (line_of (take len after)) ≡ Some t → length t ≡ 3
      → more ≡ sets block (3 * k) t → Gathers c n i s most more after 0 (next + 1) (k + 1)
  unfolding Gathers
  gather_line block more after t len next k g l x b w e z q m r out at h p =
      let u = told_to r block k in
      let v : told_to r more (suc k) ≡ record { run = ran_line u.run (take len after); text = u.text ++ line_says u.run (take len after) } =
      told_line r block more (take len after) t k (p (omega arith)) e z (omega arith) q in
      rw (add-one k)
      (g m r out at h p
      ∙ run_line (m - k) u.run _ after _ len next s (sets out at u.text) _ (at + length u.text) _ l x (λ y. omega arith) refl refl refl refl
      ∙ after_line m k _ _ after 0 (next + 1) (drop (next + 1) s) out u.text (line_says u.run (take len after)) _ at
      (ap (λ (y : Told). y.run) v) (ap (λ (y : Told). y.text) v))

-- only a running ring's lines are gathered
pub most_running : (p : Phase) (m : ℕ) → 1 ≤ most_of p m → p ≡ Running
most_running First m h = absurd (omega arith)
most_running Running m h = refl
most_running Ended m h = absurd (omega arith)
