-- An event is refused or does what its kind says; a step of a busy thread is the row of its place.
use Prim.Native.Nat.{ℕ, suc, ◌<◌, ◌≤◌}
use mathlib.Core.Path.{◌≡◌}
use mathlib.Core.Logic.{◌≢◌}
use mathlib.Core.List.{List}
use native.Mathlib.Omega.{arith}
use lib.Dec.{eqb, ltb}
use borrow.Author.Tests.{ltb-true, ltb-false, eqb-true, eqb-false}
use mathlib.Core.Bool.{true}
use Rattle.rules.specs.declared.Line.{Line}
use Rattle.rules.specs.declared.Thread.{Thread}
use Rattle.rules.specs.declared.Ring.{Ring}
use Rattle.rules.specs.declared.Event.{Event}
use Rattle.rules.specs.declared.Event.TheVariants.{Put, Take, Go, Back, Cut as CutEvent}
use Rattle.rules.specs.Record.{thread_at}
use Rattle.rules.specs.Line.{line_exists}
use Rattle.rules.specs.State.{State, Out, refused, accept}
use Rattle.rules.specs.Refusals.{unsound, own_refusal}
use Rattle.rules.specs.Events.{begin_put, begin_take, step_thread, write_back, cut, does, inner, event}
use Rattle.rules.specs.Table.{Step, row_p1, row_p2, row_p3, row_p4, row_p5, row_p6, row_p7, row_p8, row_p9, row_p10, row_t1, row_t2, row_t3, row_t4, row_t5, row_t6, row_t7, row_t8, row_t9, row_t10, put_row, take_row, row}
use Rattle.rules.specs.Facts.{SoundRecord}
use Rattle.rules.proofs.Tests.{cond_cases}
use Rattle.rules.proofs.Sound.{sound_of}
use Rattle.rules.proofs.Accepted.{put_accepted, take_accepted, go_accepted, back_accepted}

pub record Rows (P : Step → Type 0) (g : Ring) (i : ℕ) (t : Thread) (m : List ℕ) : Type 0 where
  pub p1 : t.place ≡ 1 → P (row_p1 g i t m)
  pub p2 : t.place ≡ 2 → P (row_p2 g i t m)
  pub p3 : t.place ≡ 3 → P (row_p3 g i t m)
  pub p4 : t.place ≡ 4 → P (row_p4 g i t m)
  pub p5 : t.place ≡ 5 → P (row_p5 g i t m)
  pub p6 : t.place ≡ 6 → P (row_p6 g i t m)
  pub p7 : t.place ≡ 7 → P (row_p7 g i t m)
  pub p8 : t.place ≡ 8 → P (row_p8 g i t m)
  pub p9 : t.place ≡ 9 → P (row_p9 g i t m)
  pub p10 : t.place ≡ 10 → P (row_p10 g i t m)
  pub t1 : t.place ≡ 11 → P (row_t1 g i t m)
  pub t2 : t.place ≡ 12 → P (row_t2 g i t m)
  pub t3 : t.place ≡ 13 → P (row_t3 g i t m)
  pub t4 : t.place ≡ 14 → P (row_t4 g i t m)
  pub t5 : t.place ≡ 15 → P (row_t5 g i t m)
  pub t6 : t.place ≡ 16 → P (row_t6 g i t m)
  pub t7 : t.place ≡ 17 → P (row_t7 g i t m)
  pub t8 : t.place ≡ 18 → P (row_t8 g i t m)
  pub t9 : t.place ≡ 19 → P (row_t9 g i t m)
  pub t10 : t.place ≡ 20 → P (row_t10 g i t m)

up : (p k : ℕ) → k ≤ p → p ≢ k → suc k ≤ p
up p k l d = omega arith

last : (p k : ℕ) → k ≤ p → p ≤ k → p ≡ k
last p k l h = omega arith

module _ (P : Step → Type 0) (g : Ring) (i : ℕ) (t : Thread) (m : List ℕ) (r : Rows P g i t m) where
  put_cases : 1 ≤ t.place → t.place ≤ 10 → P (put_row g i t m)
  unfolding put_row
  put_cases lo hi =
      let p = t.place in
      cond_cases P (eqb p 1) (λ e. r.p1 (eqb-true p 1 e)) (λ e. let l2 = up p 1 lo (eqb-false p 1 e) in
      cond_cases P (eqb p 2) (λ e. r.p2 (eqb-true p 2 e)) (λ e. let l3 = up p 2 l2 (eqb-false p 2 e) in
      cond_cases P (eqb p 3) (λ e. r.p3 (eqb-true p 3 e)) (λ e. let l4 = up p 3 l3 (eqb-false p 3 e) in
      cond_cases P (eqb p 4) (λ e. r.p4 (eqb-true p 4 e)) (λ e. let l5 = up p 4 l4 (eqb-false p 4 e) in
      cond_cases P (eqb p 5) (λ e. r.p5 (eqb-true p 5 e)) (λ e. let l6 = up p 5 l5 (eqb-false p 5 e) in
      cond_cases P (eqb p 6) (λ e. r.p6 (eqb-true p 6 e)) (λ e. let l7 = up p 6 l6 (eqb-false p 6 e) in
      cond_cases P (eqb p 7) (λ e. r.p7 (eqb-true p 7 e)) (λ e. let l8 = up p 7 l7 (eqb-false p 7 e) in
      cond_cases P (eqb p 8) (λ e. r.p8 (eqb-true p 8 e)) (λ e. let l9 = up p 8 l8 (eqb-false p 8 e) in
      cond_cases P (eqb p 9) (λ e. r.p9 (eqb-true p 9 e)) (λ e. let l10 = up p 9 l9 (eqb-false p 9 e) in
      r.p10 (last p 10 l10 hi))))))))))

  take_cases : 11 ≤ t.place → t.place ≤ 20 → P (take_row g i t m)
  unfolding take_row
  take_cases lo hi =
      let p = t.place in
      cond_cases P (eqb p 11) (λ e. r.t1 (eqb-true p 11 e)) (λ e. let l12 = up p 11 lo (eqb-false p 11 e) in
      cond_cases P (eqb p 12) (λ e. r.t2 (eqb-true p 12 e)) (λ e. let l13 = up p 12 l12 (eqb-false p 12 e) in
      cond_cases P (eqb p 13) (λ e. r.t3 (eqb-true p 13 e)) (λ e. let l14 = up p 13 l13 (eqb-false p 13 e) in
      cond_cases P (eqb p 14) (λ e. r.t4 (eqb-true p 14 e)) (λ e. let l15 = up p 14 l14 (eqb-false p 14 e) in
      cond_cases P (eqb p 15) (λ e. r.t5 (eqb-true p 15 e)) (λ e. let l16 = up p 15 l15 (eqb-false p 15 e) in
      cond_cases P (eqb p 16) (λ e. r.t6 (eqb-true p 16 e)) (λ e. let l17 = up p 16 l16 (eqb-false p 16 e) in
      cond_cases P (eqb p 17) (λ e. r.t7 (eqb-true p 17 e)) (λ e. let l18 = up p 17 l17 (eqb-false p 17 e) in
      cond_cases P (eqb p 18) (λ e. r.t8 (eqb-true p 18 e)) (λ e. let l19 = up p 18 l18 (eqb-false p 18 e) in
      cond_cases P (eqb p 19) (λ e. r.t9 (eqb-true p 19 e)) (λ e. let l20 = up p 19 l19 (eqb-false p 19 e) in
      r.t10 (last p 20 l20 hi))))))))))

  pub row_cases : 1 ≤ t.place → t.place ≤ 20 → P (row g i t m)
  unfolding row
  row_cases lo hi = cond_cases P (ltb t.place 11)
      (λ e. put_cases lo (omega (arith, ltb-true t.place 11 e)))
      (λ e. take_cases (ltb-false t.place 11 e) hi)

-- what each accepted event may count on
pub record Doing (P : Event → Out → Type 0) (s : State) : Type 0 where
  pub refuses : (e : Event) (k : ℕ) → P e (refused s k)
  pub put : (i x : ℕ) → i < s.control.ring.threads → (thread_at s.control i).place ≡ 0 → x ≢ 0 → P (Put i x) (begin_put s i x)
  pub take : (i : ℕ) → i < s.control.ring.threads → (thread_at s.control i).place ≡ 0 → P (Take i) (begin_take s i)
  pub go : (i : ℕ) → i < s.control.ring.threads → 1 ≤ (thread_at s.control i).place → P (Go i) (step_thread s i)
  pub back : (l : Line) → line_exists s.control.ring.cells s.control.ring.threads l ≡ true → P (Back l) (write_back s l)
  pub cuts : P CutEvent (cut s)

module _ (P : Event → Out → Type 0) (s : State) (d : Doing P s) where
  busy : (p : ℕ) → (p ≡ 0 → ⊥) → 1 ≤ p
  busy p h = omega arith

  done : (e : Event) → SoundRecord s.control → own_refusal s.control e ≡ 0 → P e (does s e)
  unfolding does
  done (Put i x) r h = let q = put_accepted s.control i x r h in d.put i x q.1 (eqb-true _ 0 q.2) q.3
  done (Take i) r h = let q = take_accepted s.control i r h in d.take i q.1 (eqb-true _ 0 q.2)
  done (Go i) r h = let q = go_accepted s.control i r h in d.go i q.1 (busy _ (eqb-false _ 0 q.2))
  done (Back l) r h = d.back l (back_accepted s.control l r h).1
  done CutEvent r h = d.cuts

  pub event_cases : (e : Event) → P e (event s e)
  unfolding event inner accept
  event_cases e = cond_cases (P e) (eqb (unsound s) 0)
      (λ p. cond_cases (P e) (eqb (own_refusal s.control e) 0) (λ q. done e (sound_of s (eqb-true _ 0 p)).control (eqb-true _ 0 q)) (λ q. d.refuses e _))
      (λ p. d.refuses e _)
