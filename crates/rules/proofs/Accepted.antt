-- What an accepted event was not refused for.
use Prim.Native.Nat.{ℕ, ◌≤◌, ◌<◌}
use mathlib.Core.Path.{◌≡◌}
use mathlib.Core.Logic.{◌≢◌}
use mathlib.Core.Bool.{true, false, not}
use native.Mathlib.Omega.{arith}
use lib.Dec.{lit<, eqb}
use borrow.Author.Tests.{eqb-false, leb-false, not-false}
use Rattle.rules.specs.declared.Line.{Line}
use Rattle.rules.specs.declared.Control.{Control}
use Rattle.rules.specs.declared.Event.TheVariants.{Put, Take, Go, Back, Cut}
use Rattle.rules.specs.Numbers.{run_limit}
use Rattle.rules.specs.Line.{line_exists}
use Rattle.rules.specs.Record.{thread_at}
use Rattle.rules.specs.Refusals.{refuse, full, no_thread, is_idle, own_refusal}
use Rattle.rules.specs.Facts.{SoundRecord}
use Rattle.rules.proofs.Tests.{unrefused}

module _ (c : Control) where
  -- not refused with 7
  room : (x : ℕ) → SoundRecord c → refuse (full c.ring) 7 x ≡ 0 → c.ring.events < run_limit
  room x r h = below r.ring.events (eqb-false c.ring.events run_limit (unrefused (full c.ring) 7 x (lit< tt) h).0)
    where
      below : {a b : ℕ} → a ≤ b → a ≢ b → a < b
      below p q = omega arith

  -- not refused with 7 or 2
  thread : (i x : ℕ) → refuse (full c.ring) 7 (refuse (no_thread c.ring i) 2 x) ≡ 0 → (i < c.ring.threads) × (x ≡ 0)
  thread i x h =
      let q = unrefused (no_thread c.ring i) 2 x (lit< tt) (unrefused (full c.ring) 7 (refuse (no_thread c.ring i) 2 x) (lit< tt) h).1 in
      (leb-false c.ring.threads i q.0, q.1)

  pub put_accepted : (i x : ℕ) → SoundRecord c → own_refusal c (Put i x) ≡ 0 → (c.ring.events < run_limit) × (i < c.ring.threads) × (is_idle (thread_at c i) ≡ true) × (x ≢ 0)
  unfolding own_refusal
  put_accepted i x r h =
      let last = refuse (eqb x 0) 6 0 in
      let q = thread i (refuse (not (is_idle (thread_at c i))) 4 last) h in
      let p = unrefused (not (is_idle (thread_at c i))) 4 last (lit< tt) q.1 in
      let z = unrefused (eqb x 0) 6 0 (lit< tt) p.1 in
      (room (refuse (no_thread c.ring i) 2 (refuse (not (is_idle (thread_at c i))) 4 last)) r h, q.0, not-false (is_idle (thread_at c i)) p.0, eqb-false x 0 z.0)

  pub take_accepted : (i : ℕ) → SoundRecord c → own_refusal c (Take i) ≡ 0 → (c.ring.events < run_limit) × (i < c.ring.threads) × (is_idle (thread_at c i) ≡ true)
  unfolding own_refusal
  take_accepted i r h =
      let q = thread i (refuse (not (is_idle (thread_at c i))) 4 0) h in
      let p = unrefused (not (is_idle (thread_at c i))) 4 0 (lit< tt) q.1 in
      (room (refuse (no_thread c.ring i) 2 (refuse (not (is_idle (thread_at c i))) 4 0)) r h, q.0, not-false (is_idle (thread_at c i)) p.0)

  pub go_accepted : (i : ℕ) → SoundRecord c → own_refusal c (Go i) ≡ 0 → (c.ring.events < run_limit) × (i < c.ring.threads) × (is_idle (thread_at c i) ≡ false)
  unfolding own_refusal
  go_accepted i r h =
      let q = thread i (refuse (is_idle (thread_at c i)) 5 0) h in
      let p = unrefused (is_idle (thread_at c i)) 5 0 (lit< tt) q.1 in
      (room (refuse (no_thread c.ring i) 2 (refuse (is_idle (thread_at c i)) 5 0)) r h, q.0, p.0)

  pub back_accepted : (l : Line) → SoundRecord c → own_refusal c (Back l) ≡ 0 → (c.ring.events < run_limit) × (line_exists c.ring.cells c.ring.threads l ≡ true)
  unfolding own_refusal
  back_accepted l r h =
      let e = line_exists c.ring.cells c.ring.threads l in
      let p = unrefused (not e) 3 0 (lit< tt) (unrefused (full c.ring) 7 (refuse (not e) 3 0) (lit< tt) h).1 in
      (room (refuse (not e) 3 0) r h, not-false e p.0)

  pub cut_accepted : SoundRecord c → own_refusal c Cut ≡ 0 → c.ring.events < run_limit
  unfolding own_refusal
  cut_accepted r h = room 0 r h
