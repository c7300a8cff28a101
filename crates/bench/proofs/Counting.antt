-- The event count by the answers' numbers: an accepted event's answer is no refusal, and adds 1; a refusal adds nothing.
use Prim.Native.Nat.{ℕ, ◌+◌, ◌≤◌}
use mathlib.Core.Path.{◌≡◌, refl}
use mathlib.Core.List.{List}
use native.Mathlib.Omega.{arith}
use native.Mathlib.Decide.{ℕ_discrete}
use lib.Dec.{eqb, ltb}
use lib.ListN.{get_or}
use borrow.Author.Tests.{ne_eqb, lt-ltb}
use Rattle.rules.specs.declared.Thread.{Thread}
use Rattle.rules.specs.declared.Ring.{Ring}
use Rattle.rules.specs.declared.Event.{Event}
use Rattle.rules.specs.declared.Event.TheVariants.{Put, Take, Go, Back, Cut}
use Rattle.rules.specs.declared.Answer.{Answer}
use Rattle.rules.specs.Numbers.{run_limit}
use Rattle.rules.specs.Record.{thread_at}
use Rattle.rules.specs.Line.{is_none}
use Rattle.rules.specs.Answers.{numbers}
use Rattle.rules.specs.State.{State, Out, refused}
use Rattle.rules.specs.Refusals.{refusal}
use Rattle.rules.specs.Events.{begin_put, begin_take, step_thread, write_back, cut, does, event}
use Rattle.rules.specs.Places.{P1, P2, P3, P4, P5, P6, P7, P8, P9, T1, T2, T3, T4, T5, T6, T7, T8, T9}
use Rattle.rules.specs.Table.{Step, matches, row_wait, row_p1, row_p2, row_p3, row_p4, row_p5, row_p6, row_p7, row_p8, row_p9, row_p10, row_t1, row_t2, row_t3, row_t4, row_t5, row_t6, row_t7, row_t8, row_t9, row_t10, put_row, take_row, row}
use Rattle.rules.specs.Block.{is_kind, event_of, runs, six}
use Rattle.rules.proofs.Tests.{cond_cases}
use Rattle.rules.proofs.Events.{refused_changes_nothing, accepted_does, accepted_adds_one, never_past_the_limit}
use Rattle.bench.specs.Gather.{next_count}

-- the answer's own number is not 0
abbrev number : Answer → ℕ
number a = get_or (six a) 0 0

abbrev Tells : Step → Type 0
Tells r = 1 ≤ number r.moved.answer

module _ (g : Ring) (i : ℕ) (t : Thread) (m : List ℕ) where
  wait_tells : (a : Answer) → 1 ≤ number a → Tells (row_wait g i t m a)
  unfolding row_wait six numbers
  wait_tells a h = cond_cases Tells (is_none t.awaited) (λ _. h) (λ _. omega arith)

  put_tells : Tells (put_row g i t m)
  unfolding put_row row_p1 row_p2 row_p3 row_p4 row_p5 row_p6 row_p7 row_p8 row_p9 row_p10 six numbers
  put_tells =
      let p = t.place in
      cond_cases Tells (eqb p P1) (λ _. omega arith)
      (λ _. cond_cases Tells (eqb p P2) (λ _. omega arith)
      (λ _. cond_cases Tells (eqb p P3) (λ _. omega arith)
      (λ _. cond_cases Tells (eqb p P4) (λ _. cond_cases Tells (matches g t m) (λ _. omega arith) (λ _. omega arith))
      (λ _. cond_cases Tells (eqb p P5) (λ _. omega arith)
      (λ _. cond_cases Tells (eqb p P6) (λ _. wait_tells _ (omega arith))
      (λ _. cond_cases Tells (eqb p P7) (λ _. omega arith)
      (λ _. cond_cases Tells (eqb p P8) (λ _. omega arith)
      (λ _. cond_cases Tells (eqb p P9) (λ _. omega arith)
      (λ _. wait_tells _ (omega arith))))))))))

  take_tells : Tells (take_row g i t m)
  unfolding take_row row_t1 row_t2 row_t3 row_t4 row_t5 row_t6 row_t7 row_t8 row_t9 row_t10 six numbers
  take_tells =
      let p = t.place in
      cond_cases Tells (eqb p T1) (λ _. omega arith)
      (λ _. cond_cases Tells (eqb p T2) (λ _. omega arith)
      (λ _. cond_cases Tells (eqb p T3) (λ _. cond_cases Tells (matches g t m) (λ _. omega arith) (λ _. omega arith))
      (λ _. cond_cases Tells (eqb p T4) (λ _. cond_cases Tells (matches g t m) (λ _. omega arith) (λ _. omega arith))
      (λ _. cond_cases Tells (eqb p T5) (λ _. cond_cases Tells (matches g t m) (λ _. omega arith) (λ _. omega arith))
      (λ _. cond_cases Tells (eqb p T6) (λ _. omega arith)
      (λ _. cond_cases Tells (eqb p T7) (λ _. omega arith)
      (λ _. cond_cases Tells (eqb p T8) (λ _. omega arith)
      (λ _. cond_cases Tells (eqb p T9) (λ _. omega arith)
      (λ _. wait_tells _ (cond_cases (λ (a : Answer). 1 ≤ number a) (eqb t.item 0) (λ _. omega arith) (λ _. omega arith)))))))))))

  row_tells : Tells (row g i t m)
  unfolding row
  row_tells = cond_cases Tells (ltb t.place T1) (λ _. put_tells) (λ _. take_tells)

does-tells : (s : State) (e : Event) → 1 ≤ number (does s e).answer
unfolding does begin_put begin_take step_thread write_back cut six numbers
does-tells s (Put i x) = omega arith
does-tells s (Take i) = omega arith
does-tells s (Go i) = row_tells s.control.ring i (thread_at s.control i) s.running
does-tells s (Back l) = omega arith
does-tells s Cut = omega arith

-- the count of what is left is the count before, by the answer's number
abbrev Counts : State → Out → Type 0
Counts s o = o.state.control.ring.events ≡ next_count s.control.ring.events (number o.answer)

counts-refused : (s : State) (k : ℕ) → Counts s (refused s k)
unfolding next_count six numbers
counts-refused s k = refl

more : (e k n : ℕ) → 1 ≤ k → n ≡ e + 1 → n ≤ run_limit → n ≡ next_count e k
unfolding next_count
more e k n h p l = rw (ne_eqb k 0 (λ z. omega arith), lt-ltb e 4294967295 (omega arith)) p

counts-event : (s : State) (e : Event) → Counts s (event s e)
counts-event s e = elim (ℕ_discrete (refusal s e) 0) [ yes q ↦ accepted q | no d ↦ rw (refused_changes_nothing s e d) (counts-refused s (refusal s e)) ]
  where
    accepted : refusal s e ≡ 0 → Counts s (event s e)
    accepted q =
        let t : 1 ≤ number (event s e).answer = rw (accepted_does s e q) (does-tells s e) in
        more _ _ _ t (accepted_adds_one s e q) (never_past_the_limit s e q)

pub counts-runs : (s : State) (k i x : ℕ) → Counts s (runs s k i x)
unfolding runs
counts-runs s k i x = cond_cases (Counts s) (is_kind k) (λ _. counts-event s (event_of k i x)) (λ _. counts-refused s 9)
