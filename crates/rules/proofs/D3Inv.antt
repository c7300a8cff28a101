-- The invariant of runs against the account, and what one thread's step keeps of it.
use Prim.Native.Nat.{ℕ, ◌+◌, ◌%◌, ◌<◌, ◌≤◌, max}
use mathlib.Core.Path.{◌≡◌, refl, ap, ◌∙◌}
use mathlib.Core.Logic.{◌≢◌}
use mathlib.Core.List.{List}
use native.Mathlib.Omega.{arith}
use native.Mathlib.Decide.{ℕ_discrete}
use native.Mathlib.Nat.{mod-lt}
use lib.ListN.{length, length-set}
use lib.Seq.{get_or-set_same, get_or-set_other}
use Rattle.rules.specs.declared.Cell.{Cell}
use Rattle.rules.specs.declared.Thread.{Thread}
use Rattle.rules.specs.declared.Ring.{Ring}
use Rattle.rules.specs.Record.{idle, thread_at, with_thread, with_ring, headed}
use Rattle.rules.specs.Memory.{cell_at, set_cell, copy_at, set_copy, closed_at, set_closed, tail_at, set_tail, size}
use Rattle.rules.specs.State.{State, state, Out}
use Rattle.rules.specs.Events.{counts}
use Rattle.rules.specs.Account.{Account, enters, copies}
use Rattle.rules.proofs.Memory.{length-set_cell, length-set_copy, length-set_closed, length-set_tail, cell_same, cell_other, cell_copy, cell_closed, cell_tail, copy_cell, closed_cell, tail_cell, copy_closed, copy_tail, copy_same, copy_other, closed_same, closed_tail, closed_copy, tail_same, tail_closed, tail_copy}
use Rattle.rules.proofs.D3Cells.{CellsOk, Upd, cells_ext, cells_top, cells_copied, at_else, at_cases}
use Rattle.rules.proofs.D3Threads.{Frame, ThrOk, Grow, grow}

-- c running, k kept copies
pub record CopiesOk (n top : ℕ) (c k : ℕ → ℕ) (a : Account) : Type 0 where
  pub run_copy : (t : ℕ) → t < n → c t ≡ max a.head (a.copied t)
  pub kept_copy : (t : ℕ) → t < n → k t ≡ max a.head (a.copied_written t)
  pub rises : (t : ℕ) → a.copied_written t ≤ a.copied t
  pub under : (t : ℕ) → t < n → a.copied t ≤ top

abbrev pub cells_of : State → ℕ
cells_of s = s.control.ring.cells

abbrev pub threads_of : State → ℕ
threads_of s = s.control.ring.threads

abbrev pub top_of : State → ℕ
top_of s = s.control.ring.head

abbrev pub run_cell : State → ℕ → Cell
run_cell s = cell_at (cells_of s) s.running

abbrev pub kept_cell : State → ℕ → Cell
kept_cell s = cell_at (cells_of s) s.kept

abbrev pub frame : State → Account → Frame
frame s a =
    record {
      top = top_of s;
      tail = tail_at (cells_of s) (threads_of s) s.running;
      shut = closed_at (cells_of s) (threads_of s) s.running;
      kept_shut = closed_at (cells_of s) (threads_of s) s.kept;
      acct = a;
    }

pub record Inv (s : State) (a : Account) : Type 0 where
  pub pos : 0 < cells_of s
  pub run_len : size (cells_of s) (threads_of s) ≤ length s.running
  pub kept_len : size (cells_of s) (threads_of s) ≤ length s.kept
  pub few : threads_of s ≤ 8
  pub wide : length s.control.thread ≡ 8
  pub cells : CellsOk (cells_of s) (top_of s) (run_cell s) (kept_cell s) a
  pub copies : CopiesOk (threads_of s) (top_of s) (copy_at (cells_of s) s.running) (copy_at (cells_of s) s.kept) a
  pub head : a.head ≤ top_of s
  pub tail : a.head ≤ tail_at (cells_of s) (threads_of s) s.running
  pub shut : closed_at (cells_of s) (threads_of s) s.kept ≡ 1 → closed_at (cells_of s) (threads_of s) s.running ≡ 1
  pub thrs : (i : ℕ) → ThrOk (cells_of s) (threads_of s) (frame s a) i (thread_at s.control i)

abbrev pub Good : State → Account → Out → Type 0
Good s a o = Inv o.state (enters (cells_of s) (threads_of s) a o.answer)

-- one thread's record changed
pub record TUpd (th th' : ℕ → Thread) (t : ℕ) (h : Thread) : Type 0 where
  pub same : th' t ≡ h
  pub other : (i : ℕ) → i ≢ t → th' i ≡ th i

pub thr_cases : (P : ℕ → Thread → Type 0) {th th' : ℕ → Thread} {t : ℕ} {h : Thread} → TUpd th th' t h → P t h → ((i : ℕ) → i ≢ t → P i (th i)) → (i : ℕ) → P i (th' i)
thr_cases P {t = t} u p q i = elim (ℕ_discrete i t) [ yes e ↦ rw (e, u.same) p | no n ↦ rw (u.other i n) (q i n) ]

-- the state that a thread's step leaves
abbrev pub next : State → Ring → List ℕ → ℕ → Thread → State
next s g m t h = state (counts (with_thread (with_ring s.control g) t h)) m s.kept

pub next_thr : (s : State) (g : Ring) (m : List ℕ) (t : ℕ) (h : Thread) → t < length s.control.thread → TUpd (thread_at s.control) (thread_at (next s g m t h).control) t h
unfolding thread_at with_thread
next_thr s g m t h l = record { same = get_or-set_same s.control.thread t h idle l; other = λ i d. get_or-set_other s.control.thread t i h idle d }

pub next_wide : (s : State) (g : Ring) (m : List ℕ) (t : ℕ) (h : Thread) → length (next s g m t h).control.thread ≡ length s.control.thread
unfolding with_thread
next_wide s g m t h = length-set s.control.thread t h

abbrev pub framed : State → ℕ → List ℕ → Account → Frame
framed s top m a =
    record { top = top; tail = tail_at (cells_of s) (threads_of s) m; shut = closed_at (cells_of s) (threads_of s) m; kept_shut = closed_at (cells_of s) (threads_of s) s.kept; acct = a }

-- with this Tail
abbrev pub tail_frame : State → Account → ℕ → Frame
tail_frame s a w = record { top = top_of s; tail = w; shut = closed_at (cells_of s) (threads_of s) s.running; kept_shut = closed_at (cells_of s) (threads_of s) s.kept; acct = a }

-- one thread's step, with what it does to Head, running memory and the account
module _ (s : State) (a : Account) (v : Inv s a) (t : ℕ) (tn : t < threads_of s) where
  pub stepped : (a' : Account) (top : ℕ) (m : List ℕ) (h : Thread) → length m ≡ length s.running
      → CellsOk (cells_of s) top (cell_at (cells_of s) m) (kept_cell s) a'
      → CopiesOk (threads_of s) top (copy_at (cells_of s) m) (copy_at (cells_of s) s.kept) a'
      → a'.head ≤ top → a'.head ≤ tail_at (cells_of s) (threads_of s) m
      → (closed_at (cells_of s) (threads_of s) s.running ≡ 1 → closed_at (cells_of s) (threads_of s) m ≡ 1)
      → ((i : ℕ) → i ≢ t → Grow (frame s a) (framed s top m a') i)
      → ThrOk (cells_of s) (threads_of s) (framed s top m a') t h
      → Inv (next s (headed s.control.ring top) m t h) a'
  unfolding with_thread
  stepped a' top m h len cells copies hd tl sh gr k =
      record {
        pos = v.pos;
        run_len = rw len v.run_len;
        kept_len = v.kept_len;
        few = v.few;
        wide = next_wide s s.control.ring m t h ∙ v.wide;
        cells = cells;
        copies = copies;
        head = hd;
        tail = tl;
        shut = λ q. sh (v.shut q);
        thrs = thr_cases (λ i. ThrOk (cells_of s) (threads_of s) (framed s top m a') i) (next_thr s (headed s.control.ring top) m t h (omega (arith, v.wide))) k (λ i d. grow (gr i d) (v.thrs i));
      }

  -- steps that change the thread only
  pub still : (h : Thread) → ThrOk (cells_of s) (threads_of s) (frame s a) t h → Inv (next s s.control.ring s.running t h) a
  still h k = stepped a (top_of s) s.running h refl v.cells v.copies v.head v.tail (λ q. q)
      (λ i d. record { head = refl; top = omega arith; tail = omega arith; shut = λ q. q; kept_shut = λ q. q; copied = refl; copied_written = omega arith; landed = λ x z. refl; durable = λ x z. refl }) k

  -- .. and draw Head
  pub drawing_head : (h : Thread) → ThrOk (cells_of s) (threads_of s) (framed s (top_of s + 1) s.running a) t h → Inv (next s (headed s.control.ring (top_of s + 1)) s.running t h) a
  drawing_head h k = stepped a (top_of s + 1) s.running h refl (cells_top _ _ _ _ _ v.cells v.pos (top_of s + 1) (omega arith))
      (record { run_copy = v.copies.run_copy; kept_copy = v.copies.kept_copy; rises = v.copies.rises; under = λ i l. omega (arith, v.copies.under i l) })
      (omega (arith, v.head)) v.tail (λ q. q)
      (λ i d. record { head = refl; top = omega arith; tail = omega arith; shut = λ q. q; kept_shut = λ q. q; copied = refl; copied_written = omega arith; landed = λ x z. refl; durable = λ x z. refl }) k

  -- .. and store Tail
  pub tailed : (w : ℕ) (h : Thread) → tail_at (cells_of s) (threads_of s) s.running ≤ w
      → ThrOk (cells_of s) (threads_of s) (tail_frame s a w) t h
      → Inv (next s s.control.ring (set_tail (cells_of s) (threads_of s) s.running w) t h) a
  tailed w h up k =
      let new = tail_same (cells_of s) (threads_of s) s.running w (omega (arith, v.run_len)) in
      let old = closed_tail (cells_of s) (threads_of s) s.running w in
      stepped a (top_of s) _ h (length-set_tail _ _ _ _)
      (cells_ext _ _ _ _ _ v.cells v.pos _ _ (λ j l. cell_tail (cells_of s) s.running j l (threads_of s) w) (λ j l. refl))
      (record { run_copy = λ i l. copy_tail (cells_of s) (threads_of s) s.running i w l ∙ v.copies.run_copy i l; kept_copy = v.copies.kept_copy; rises = v.copies.rises; under = v.copies.under })
      v.head (rw new (omega (arith, v.tail))) (λ q. old ∙ q)
      (λ i d. record { head = refl; top = omega arith; tail = omega arith; shut = λ q. old ∙ q; kept_shut = λ q. q; copied = refl; copied_written = omega arith; landed = λ x z. refl; durable = λ x z. refl })
      (rw (new, old) k)

  -- .. and set closed
  pub shutting : (h : Thread)
      → ThrOk (cells_of s) (threads_of s) (record { top = top_of s; tail = tail_at (cells_of s) (threads_of s) s.running; shut = 1; kept_shut = closed_at (cells_of s) (threads_of s) s.kept; acct = a }) t h
      → Inv (next s s.control.ring (set_closed (cells_of s) (threads_of s) s.running 1) t h) a
  shutting h k =
      let new = closed_same (cells_of s) (threads_of s) s.running 1 (omega (arith, v.run_len)) in
      let old = tail_closed (cells_of s) (threads_of s) s.running 1 in
      stepped a (top_of s) _ h (length-set_closed _ _ _ _)
      (cells_ext _ _ _ _ _ v.cells v.pos _ _ (λ j l. cell_closed (cells_of s) s.running j l (threads_of s) 1) (λ j l. refl))
      (record { run_copy = λ i l. copy_closed (cells_of s) (threads_of s) s.running i 1 l ∙ v.copies.run_copy i l; kept_copy = v.copies.kept_copy; rises = v.copies.rises; under = v.copies.under })
      v.head (rw old v.tail) (λ q. new)
      (λ i d. record { head = refl; top = omega arith; tail = omega arith; shut = λ q. new; kept_shut = λ q. q; copied = refl; copied_written = omega arith; landed = λ x z. refl; durable = λ x z. refl })
      (rw (new, old) k)

  pub stored : (x : ℕ) (c : Cell) → Upd (run_cell s) (cell_at (cells_of s) (set_cell (cells_of s) s.running (x % cells_of s) c)) (cells_of s) (x % cells_of s) c
  stored x c = record { same = cell_same (cells_of s) s.running (x % cells_of s) c (omega (arith, mod-lt x v.pos, v.run_len)); other = λ i b d. cell_other (cells_of s) s.running i (x % cells_of s) c d }

  -- .. and store the cell of a number
  pub celled : (x : ℕ) (c : Cell) (h : Thread) (a' : Account)
      → CellsOk (cells_of s) (top_of s) (cell_at (cells_of s) (set_cell (cells_of s) s.running (x % cells_of s) c)) (kept_cell s) a'
      → a'.head ≡ a.head → ((i : ℕ) → a'.copied i ≡ a.copied i) → ((i : ℕ) → a'.copied_written i ≡ a.copied_written i)
      → ((y : ℕ) → a.landed y ≢ 0 → a'.landed y ≡ a.landed y) → ((y : ℕ) → a.durable y ≢ 0 → a'.durable y ≡ a.durable y)
      → ThrOk (cells_of s) (threads_of s) (frame s a') t h
      → Inv (next s s.control.ring (set_cell (cells_of s) s.running (x % cells_of s) c) t h) a'
  celled x c h a' m e1 e2 e3 e4 e5 k =
      let l = mod-lt x v.pos in
      let tl = tail_cell (cells_of s) s.running (x % cells_of s) l c (threads_of s) in
      let sh = closed_cell (cells_of s) s.running (x % cells_of s) l c (threads_of s) in
      stepped a' (top_of s) _ h (length-set_cell _ _ _ _) m
      (record {
        run_copy = λ i b. copy_cell (cells_of s) s.running (x % cells_of s) l c i ∙ rw (e1, e2 i) (v.copies.run_copy i b);
        kept_copy = λ i b. rw (e1, e3 i) (v.copies.kept_copy i b);
        rises = λ i. rw (e2 i, e3 i) (v.copies.rises i);
        under = λ i b. rw (e2 i) (v.copies.under i b);
      })
      (rw e1 v.head) (rw (tl, e1) v.tail) (λ q. sh ∙ q)
      (λ i d. record { head = e1; top = omega arith; tail = omega (arith, tl); shut = λ q. sh ∙ q; kept_shut = λ q. q; copied = e2 i; copied_written = omega (arith, e3 i); landed = e4; durable = e5 })
      (rw (tl, sh) k)

  -- .. and store the own copy
  pub copying : (x : ℕ) (h : Thread) → a.head ≤ x → x < top_of s → a.copied t ≤ x + 1
      → ThrOk (cells_of s) (threads_of s) (frame s (copies a t (x + 1))) t h
      → Inv (next s s.control.ring (set_copy (cells_of s) s.running t (x + 1)) t h) (copies a t (x + 1))
  copying x h from drawn own k =
      let tl = tail_copy (cells_of s) (threads_of s) s.running t (x + 1) tn in
      let sh = closed_copy (cells_of s) (threads_of s) s.running t (x + 1) tn in
      stepped (copies a t (x + 1)) (top_of s) _ h (length-set_copy _ _ _ _)
      (cells_copied _ _ _ _ _ (cells_ext _ _ _ _ _ v.cells v.pos _ _ (λ j l. cell_copy (cells_of s) s.running j l t (x + 1)) (λ j l. refl)) v.pos t (x + 1))
      (record {
        run_copy = λ i b. at_cases (λ y. copy_at (cells_of s) (set_copy (cells_of s) s.running t (x + 1)) i ≡ max a.head y) a.copied t (max (a.copied t) (x + 1)) i
            (λ q. rw (q, copy_same (cells_of s) s.running t (x + 1) (omega (arith, v.run_len))) (omega arith))
            (λ d. copy_other (cells_of s) s.running i t (x + 1) d ∙ v.copies.run_copy i b);
        kept_copy = v.copies.kept_copy;
        rises = λ i. at_cases (λ y. a.copied_written i ≤ y) a.copied t (max (a.copied t) (x + 1)) i (λ q. omega (arith, v.copies.rises i, ap a.copied q)) (λ d. v.copies.rises i);
        under = λ i b. at_cases (λ y. y ≤ top_of s) a.copied t (max (a.copied t) (x + 1)) i (λ q. omega arith) (λ d. v.copies.under i b);
      })
      v.head (rw tl v.tail) (λ q. sh ∙ q)
      (λ i d. record {
        head = refl;
        top = omega arith;
        tail = omega (arith, tl);
        shut = λ q. sh ∙ q;
        kept_shut = λ q. q;
        copied = at_else a.copied t (max (a.copied t) (x + 1)) i d;
        copied_written = omega arith;
        landed = λ y z. refl;
        durable = λ y z. refl;
      })
      (rw (tl, sh) k)
