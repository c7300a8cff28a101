-- A block's answers as they are printed: what the numbers in the room say is what each line says.
use Prim.Native.Nat.{ℕ, zero, suc, ◌+◌, ◌*◌, ◌-◌, ◌/◌, ◌<◌, ◌≤◌}
use mathlib.Core.Path.{◌≡◌, refl, ap, sym, ◌∙◌}
use mathlib.Core.List.{List, [], ◌∷◌, ◌++◌, append_assoc}
use native.Mathlib.Numerals.{add-one}
use native.Mathlib.Omega.{arith}
use lib.ListN.{length, drop, get_or, take, length-drop}
use lib.Seq.{sets, sets-eq, length-sets, get_or-take, length-take-le, take_at, drop_at}
use Rattle.rules.specs.declared.Control.{Control}
use Rattle.rules.specs.declared.Answer.{Answer}
use Rattle.rules.specs.declared.Answer.TheVariants as answer
use Rattle.rules.specs.Answers.{numbers}
use Rattle.rules.specs.State.{State, state}
use Rattle.rules.specs.Block.{filled_up, six, Upto, upto, event_runs, one, run_to, event_count, run_block}
use Rattle.bench.specs.declared.Bench.{Bench}
use Rattle.bench.specs.declared.Phase.{Phase}
use Rattle.bench.specs.declared.Phase.TheVariants.{Running}
use Rattle.bench.specs.Block.{pour}
use Rattle.bench.specs.declared.print.Text.{Text}
use Rattle.bench.specs.Print.{LineWritten, said_of, said_text}
use Rattle.bench.specs.Bench.{Run, run, run_with, bench_of, next_line}
use Rattle.bench.specs.Gather.{Gathers, Told, tells, told_to, said_six, answer_at, next_count, Printed, printed, prints, printed_to, LinesRan, AnswersPrinted}
use Rattle.bench.proofs.Printing.{and_then}
use Rattle.std.proofs.lemmas.List.{drop-drop, drop-take, take-take, drop-append-le, take-append-le}
use Rattle.std.specs.Simd.{first_chunks}
use Rattle.bench.proofs.Gathering.{told_same, told_phase}
use Rattle.bench.proofs.Counting.{counts-runs}

-- ---- one answer in the room
six_said : (a : Answer) → said_six (six a) ≡ said_of a
unfolding said_six six numbers
six_said (answer.Refused k) = refl
six_said (answer.Begun t) = refl
six_said (answer.Drew b) = refl
six_said (answer.Looked b j) = refl
six_said (answer.SawHead b v) = refl
six_said (answer.Landed b j x) = refl
six_said (answer.Missed b j) = refl
six_said (answer.Asked b) = refl
six_said (answer.Waiting b) = refl
six_said (answer.Ok b x) = refl
six_said (answer.Closed b) = refl
six_said (answer.SetClosed b) = refl
six_said (answer.Took b j x) = refl
six_said (answer.Flagged b j) = refl
six_said (answer.Passed b j) = refl
six_said (answer.SawTail b v) = refl
six_said (answer.Lifted b v) = refl
six_said (answer.Copied b v) = refl
six_said (answer.Item b x) = refl
six_said (answer.Empty b) = refl
six_said (answer.Written l) = refl
six_said (answer.Cut f) = refl

length-filled : (k : ℕ) (l : List ℕ) → length (filled_up k l) ≡ k
length-filled zero l = refl
length-filled (suc k) [] = ap suc (length-filled k [])
length-filled (suc k) (x ∷ l) = ap suc (length-filled k l)

length-six : (a : Answer) → length (six a) ≡ 6
unfolding six
length-six a = length-filled 6 (numbers a)

-- the room's answers before that one stay as they were
part_of : (l : List ℕ) (i k : ℕ) → i + 6 ≤ k → take 6 (drop i (take k l)) ≡ take 6 (drop i l)
part_of l i k h =
    let e : k ≡ i + (k - i) = omega arith in
    let f : 6 ≤ k - i = omega arith in
    rw (e, drop-take i (k - i) l, take-take 6 (k - i) (drop i l) f)

stored : (room x : List ℕ) (k : ℕ) → length x ≡ 6 → 6 * k + 6 ≤ length room → answer_at (sets room (6 * k) x) k ≡ x
stored room x k q h =
    let a = take (6 * k) room in
    let n : length a ≡ 6 * k = length-take-le (6 * k) room (omega arith) in
    rw (sets-eq x room (6 * k) (omega arith), append_assoc, drop_at a _ (6 * k) n, take_at x _ 6 q)

earlier : (room x : List ℕ) (k j : ℕ) → j < k → 6 * k + length x ≤ length room → answer_at (sets room (6 * k) x) j ≡ answer_at room j
earlier room x k j l h =
    let a = take (6 * k) room in
    let n : length a ≡ 6 * k = length-take-le (6 * k) room (omega arith) in
    let m : 6 * j ≤ length a = omega arith in
    let r : 6 ≤ length (drop (6 * j) a) = simp length-drop (omega arith) in
    rw (sets-eq x room (6 * k) h, append_assoc, drop-append-le (6 * j) a _ m, take-append-le 6 (drop (6 * j) a) _ r) (part_of room (6 * j) (6 * k) (omega arith))

prints-six : (v : Printed) (room : List ℕ) (k : ℕ) (a : Answer) → 6 * k + 6 ≤ length room
    → (let e = next_count v.count (get_or (six a) 0 0) in let l = next_line v.line in
    prints v (sets room (6 * k) (six a)) k ≡ printed e l (v.text ++ said_text e l [] (said_of a)))
unfolding prints
prints-six v room k a h = rw (stored room (six a) k (length-six a) h, six_said a)

-- ---- rooms that are the same in their first answers print the same
abbrev SameAnswers : ℕ → List ℕ → List ℕ → Type 0
SameAnswers k a b = (j : ℕ) → j < k → answer_at a j ≡ answer_at b j

printed_same : (e l : ℕ) (a b : List ℕ) (k : ℕ) → SameAnswers k a b → printed_to e l a k ≡ printed_to e l b k
unfolding prints
printed_same e l a b zero h = refl
printed_same e l a b (suc k) h = rw (printed_same e l a b k (λ j q. h j (omega arith)), h k (omega arith))

-- ---- the block's run and its lines
told-state : (r : Run) (block room : List ℕ) (k : ℕ) → (run_to r.state block room k).state ≡ (told_to r block k).run.state
unfolding one tells
told-state r block room zero = refl
told-state r block room (suc k) = ap (λ (s : State). (event_runs s block k).state) (told-state r block room k)

room-length : (s : State) (block room : List ℕ) (k : ℕ) → length (run_to s block room k).room ≡ length room
unfolding one
room-length s block room zero = refl
room-length s block room (suc k) =
    let u = run_to s block room k in
    length-sets u.room (6 * k) (six (event_runs u.state block k).answer) ∙ room-length s block room k

-- one line more is printed as it is told
tells-printed : (t : Told) (room block : List ℕ) (k : ℕ) → 6 * k + 6 ≤ length room
    → (let u = tells t block k in
    prints (printed t.run.state.control.ring.events t.run.lines t.text) (sets room (6 * k) (six (event_runs t.run.state block k).answer)) k
    ≡ printed u.run.state.control.ring.events u.run.lines u.text)
unfolding tells event_runs
tells-printed t room block k h =
    let s = t.run.state in
    let c = counts-runs s (get_or block (3 * k) 0) (get_or block (3 * k + 1) 0) (get_or block (3 * k + 2) 0) in
    rw c (prints-six (printed s.control.ring.events t.run.lines t.text) room k (event_runs s block k).answer h)

pub told-printed : (r : Run) (block room : List ℕ) (k : ℕ) → 6 * k ≤ length room
    → (let t = told_to r block k in
    printed_to r.state.control.ring.events r.lines (run_to r.state block room k).room k
    ≡ printed t.run.state.control.ring.events t.run.lines t.text)
unfolding one
told-printed r block room zero h = refl
told-printed r block room (suc k) h =
    let e = r.state.control.ring.events in
    let u = run_to r.state block room k in
    let t = told_to r block k in
    let x = six (event_runs u.state block k).answer in
    let n = room-length r.state block room k in
    ap (λ (v : Printed). prints v (sets u.room (6 * k) x) k)
    (printed_same e r.lines (sets u.room (6 * k) x) u.room k (λ j q. earlier u.room x k j q (omega (arith, n, length-six (event_runs u.state block k).answer))) ∙ told-printed r block room k (omega arith))
    ∙ ap (λ (s : State). prints (printed t.run.state.control.ring.events t.run.lines t.text) (sets u.room (6 * k) (six (event_runs s block k).answer)) k)
    (told-state r block room k)
    ∙ tells-printed t u.room block k (omega arith)

-- ---- turns of the loop that prints
-- a room in parts of six numbers
part_at : (m k : ℕ) (room : List ℕ) → k < m → get_or (first_chunks 6 m room) k [] ≡ answer_at room k
part_at zero k room h = absurd (omega arith)
part_at (suc m) zero room h = refl
part_at (suc m) (suc k) room h =
    let e : 6 + 6 * k ≡ 6 * suc k = omega arith in
    part_at m k (drop 6 room) (omega arith) ∙ rw (drop-drop (6 * k) 6 room, e)

pub answer_in : (room : List ℕ) (parts : List (List ℕ)) (m k : ℕ) → parts ≡ first_chunks 6 m room → length parts ≡ m → k < length parts
    → get_or parts k [] ≡ answer_at room k
answer_in room parts m k e f h = rw e (part_at m k room (omega arith))

pub print_more : (e l : ℕ) (room : List ℕ) (t u v : Text) (k c d f g : ℕ)
    → (c ≡ (printed_to e l room k).count) × AnswersPrinted (printed_to e l room k) k t d u
    → f ≡ next_count c (get_or (answer_at room k) 0 0) → g ≡ next_line d → LineWritten u (said_text f g [] (said_six (answer_at room k))) v
    → (f ≡ (printed_to e l room (k + 1)).count) × AnswersPrinted (printed_to e l room (k + 1)) (k + 1) t g v
unfolding prints
print_more e l room t u v k c d f g (a, b) p q w =
    let x : f ≡ next_count (printed_to e l room k).count (get_or (answer_at room k) 0 0) = rw (← a) p in
    let y : g ≡ next_line (printed_to e l room k).line = rw (← b.line) q in
    rw (add-one k) (
      x,
      record {
        line = y;
        written = rw (← x, ← y) (and_then b.written w.written);
        near = omega arith;
      },
    )

-- what is said of a part of the room is said of the room
pub printed_part : (e l : ℕ) (room : List ℕ) (n : ℕ) → 6 * n ≤ length room
    → printed_to e l (take (6 * n) room) n ≡ printed_to e l room n
printed_part e l room n h = printed_same e l (take (6 * n) room) room n (λ j q. part_of room (6 * j) (6 * n) (omega arith))

pub part_count : (room : List ℕ) (n : ℕ) → 6 * n ≤ length room → length (take (6 * n) room) / 6 ≡ n
part_count room n h = rw (length-take-le (6 * n) room h) (omega arith)

-- ---- a block that was run and printed
run_of : (x : Run) (p : Phase) (l : ℕ) (s : State) → p ≡ x.phase → l ≡ x.lines → s ≡ x.state → run p l s ≡ x
run_of x p l s e f g = rw (e, f, g)

count_of : (events room : List ℕ) (n : ℕ) → 3 * n ≤ length events → 6 * n ≤ length room → event_count (take (3 * n) events) room ≡ n
unfolding event_count
count_of events room n h k = rw (length-take-le (3 * n) events h) (omega arith)

module _ (b : Bench) (running kept events room : List ℕ) (n : ℕ) (few : 3 * n ≤ length events) (long : 6 * n ≤ length room)
    (d : Control) (runs keeps answers : List ℕ)
    (ran : upto (state d runs keeps) answers ≡ run_block (state b.control running kept) (take (3 * n) events) room) where
  abbrev start : Run
  start = run_with b running kept

  part : List ℕ
  part = take (3 * n) events

  ran_to : upto (state d runs keeps) answers ≡ run_to start.state part room n
  unfolding run_block part
  ran_to = ran ∙ ap (λ (k : ℕ). run_to start.state part room k) (count_of events room n few long)

  same : told_to start part n ≡ told_to start events n
  unfolding part
  same = told_same start (take (3 * n) events) events n (λ j h. get_or-take (3 * n) events j 0 h)

  pub lines_ran : (before after : Text) (line : ℕ) → length answers ≡ length room
      → (let part = take (6 * n) answers in AnswersPrinted (printed_to b.control.ring.events b.lines part (length part / 6)) (length part / 6) before line after)
      → LinesRan (told_to start events n) n before (bench_of b.phase line d) runs keeps after
  lines_ran before after line size x =
      let fits : 6 * n ≤ length answers = omega arith in
      let a = rw (part_count answers n fits, printed_part b.control.ring.events b.lines answers n fits) at x in
      let t = told_to start events n in
      let p : printed_to b.control.ring.events b.lines answers n ≡ printed t.run.state.control.ring.events t.run.lines t.text =
      ap (λ (u : Upto). printed_to b.control.ring.events b.lines u.room n) ran_to
      ∙ told-printed start part room n long
      ∙ ap (λ (x : Told). printed x.run.state.control.ring.events x.run.lines x.text) same in
      record {
        run = run_of t.run b.phase line (state d runs keeps) (sym (told_phase start events n)) (a.line ∙ ap (λ (x : Printed). x.line) p)
            (ap (λ (u : Upto). u.state) ran_to ∙ told-state start part room n ∙ ap (λ (x : Told). x.run.state) same);
        written = rw (ap (λ (x : Printed). x.text) p) at a.written;
        near = a.near;
      }

-- ---- what was gathered, run and printed, poured
swap : (m : ℕ) (a b : Run) (c : List ℕ) (n i : ℕ) (l o p : List ℕ) (x y : ℕ) → b ≡ a → p ≡ o → y ≡ x → pour m a c n i l o x ≡ pour m b c n i l p y
swap m a b c n i l o p x y e f g = rw (e, f, g)

pub told-poured : (m most k : ℕ) (g : Run) (c : List ℕ) (n i : ℕ) (s block after : List ℕ) (len next : ℕ) (t : Text)
    (b : Bench) (running kept : List ℕ) (u : Text)
    → Gathers c n i s most block after len next k → most ≤ m → (1 ≤ most → g.phase ≡ Running)
    → LinesRan (told_to g block k) k t b running kept u
    → pour m g c n i (drop i s) t.out.now t.at ≡ pour (m - k) (run_with b running kept) after len next (drop next s) u.out.now u.at
unfolding Gathers
told-poured m most k g c n i s block after len next t b running kept u a h p r =
    let w = r.written.wrote in
    a m g t.out.now t.at h p ∙ swap (m - k) _ _ after len next (drop next s) _ _ _ _ r.run w.bytes w.place
