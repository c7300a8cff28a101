-- What a write-back carries, and that it keeps the invariant.
use Prim.Native.Nat.{ℕ, ◌<◌, ◌≤◌, max}
use mathlib.Core.Path.{◌≡◌, refl, sym, ap, ◌∙◌}
use mathlib.Core.Bool.{Bool, true, false, cond}
use mathlib.Core.List.{List}
use native.Mathlib.Omega.{arith}
use lib.ListN.{length, length-map}
use lib.Dec.{eqb}
use borrow.Author.Tests.{ltb-true, eqb-true, eqb-false}
use Rattle.rules.specs.declared.Line.{Line}
use Rattle.rules.specs.declared.Line.TheVariants.{None, Copy, Tail, Cell as CellLine}
use Rattle.rules.specs.Record.{thread_at}
use Rattle.rules.specs.Memory.{cell_at, copy_at, closed_at, set_closed, size}
use Rattle.rules.specs.Line.{line_exists, carries_cell, carries_copy, carries_tail, carried, released}
use Rattle.rules.specs.State.{State}
use Rattle.rules.specs.Events.{write_back}
use Rattle.rules.specs.Account.{Account, enters, writes}
use Rattle.rules.proofs.Tests.{cond_cases}
use Rattle.rules.proofs.Keep.{released_in}
pub use Rattle.rules.proofs.Keep.{released-idle}
use Rattle.rules.proofs.Memory.{length-set_cell, length-set_copy, length-set_closed, length-set_tail, cell_same, cell_other, cell_copy, cell_closed, cell_tail, copy_same, copy_other, copy_cell, copy_closed, copy_tail, closed_cell, closed_copy, closed_same, closed_tail}
use Rattle.rules.proofs.D3Cells.{back_keeps}
use Rattle.rules.proofs.D3Threads.{Frame, Carried, free}
use Rattle.rules.proofs.D3Inv.{Inv, Good, cells_of, threads_of, top_of, run_cell, kept_cell, frame}

-- the kept image once a line is carried
module _ (R n : ℕ) (run kept : List ℕ) (len : size R n ≤ length kept) where
  pub carried_length : (l : Line) → length (carried R n l run kept) ≡ length kept
  unfolding carried
  carried_length None = refl
  carried_length (CellLine j) = length-set_cell R kept j _
  carried_length (Copy t) = length-set_copy R kept t _
  carried_length Tail = length-set_tail R n _ _ ∙ length-set_closed R n kept _

  pub carried_cell : (l : Line) (j : ℕ) → j < R → cell_at R (carried R n l run kept) j ≡ cond (carries_cell l j) (cell_at R run j) (cell_at R kept j)
  unfolding carried carries_cell
  carried_cell None j h = refl
  carried_cell (CellLine i) j h = cond_cases (λ c. cell_at R (carried R n (CellLine i) run kept) j ≡ c) (eqb i j)
      (λ e. let q = eqb-true i j e in rw q (cell_same R kept j (cell_at R run j) (omega arith)))
      (λ e. cell_other R kept j i _ (λ q. eqb-false i j e (sym q)))
  carried_cell (Copy t) j h = cell_copy R kept j h t _
  carried_cell Tail j h = cell_tail R (set_closed R n kept _) j h n _ ∙ cell_closed R kept j h n _

  pub carried_copy : (l : Line) → line_exists R n l ≡ true → (t : ℕ) → t < n → copy_at R (carried R n l run kept) t ≡ cond (carries_copy l t) (copy_at R run t) (copy_at R kept t)
  unfolding carried carries_copy line_exists
  carried_copy None x t h = refl
  carried_copy (CellLine i) x t h = copy_cell R kept i (ltb-true i R x) _ t
  carried_copy (Copy i) x t h = cond_cases (λ c. copy_at R (carried R n (Copy i) run kept) t ≡ c) (eqb i t)
      (λ e. let q = eqb-true i t e in rw q (copy_same R kept t (copy_at R run t) (omega arith)))
      (λ e. copy_other R kept t i _ (λ q. eqb-false i t e (sym q)))
  carried_copy Tail x t h = copy_tail R n (set_closed R n kept _) t _ h ∙ copy_closed R n kept t _ h

  pub carried_closed : (l : Line) → line_exists R n l ≡ true → closed_at R n (carried R n l run kept) ≡ cond (carries_tail l) (closed_at R n run) (closed_at R n kept)
  unfolding carried carries_tail line_exists
  carried_closed None x = refl
  carried_closed (CellLine i) x = closed_cell R kept i (ltb-true i R x) _ n
  carried_closed (Copy i) x = closed_copy R n kept i _ (ltb-true i n x)
  carried_closed Tail x = closed_tail R n (set_closed R n kept _) _ ∙ closed_same R n kept _ (omega arith)

-- what a write-back leaves in the kept image: what the line carries from the running one, the rest as it was
module _ (s : State) (long : size (cells_of s) (threads_of s) ≤ length s.kept) (l : Line) where
  written_cell : (j : ℕ) → j < cells_of s → cell_at (cells_of s) (write_back s l).state.kept j ≡ cond (carries_cell l j) (run_cell s j) (kept_cell s j)
  unfolding write_back
  written_cell j b = carried_cell (cells_of s) (threads_of s) s.running s.kept long l j b

  written_length : length (write_back s l).state.kept ≡ length s.kept
  unfolding write_back
  written_length = carried_length (cells_of s) (threads_of s) s.running s.kept long l

  written_copy : line_exists (cells_of s) (threads_of s) l ≡ true → (t : ℕ) → t < threads_of s
      → copy_at (cells_of s) (write_back s l).state.kept t ≡ cond (carries_copy l t) (copy_at (cells_of s) s.running t) (copy_at (cells_of s) s.kept t)
  unfolding write_back
  written_copy x t b = carried_copy (cells_of s) (threads_of s) s.running s.kept long l x t b

  pub written_closed : line_exists (cells_of s) (threads_of s) l ≡ true
      → closed_at (cells_of s) (threads_of s) (write_back s l).state.kept ≡ cond (carries_tail l) (closed_at (cells_of s) (threads_of s) s.running) (closed_at (cells_of s) (threads_of s) s.kept)
  unfolding write_back
  written_closed x = carried_closed (cells_of s) (threads_of s) s.running s.kept long l x

pub keep_back : (s : State) (a : Account) → Inv s a → (l : Line) → line_exists (cells_of s) (threads_of s) l ≡ true → Good s a (write_back s l)
unfolding write_back enters thread_at
keep_back s a v l x =
    record {
      pos = v.pos;
      run_len = v.run_len;
      kept_len = rw (written_length s v.kept_len l) v.kept_len;
      few = v.few;
      wide = length-map s.control.thread (released l) ∙ v.wide;
      cells = back_keeps _ _ _ _ _ v.cells v.pos _ l (written_cell s v.kept_len l);
      copies = record {
        run_copy = v.copies.run_copy;
        kept_copy = λ t b. written_copy s v.kept_len l x t b ∙ of_copy (carries_copy l t) t b;
        rises = λ t. cond_cases (λ y. y ≤ a.copied t) (carries_copy l t) (λ e. omega arith) (λ e. v.copies.rises t);
        under = v.copies.under;
      };
      head = v.head;
      tail = v.tail;
      shut = rw closed_is (cond_cases (λ y. y ≡ 1 → closed_at (cells_of s) (threads_of s) s.running ≡ 1) (carries_tail l) (λ e q. q) (λ e. v.shut));
      thrs = λ i. rw (released_in l s.control.thread i) (free _ _ (frame s a) _ l carry i _ (v.thrs i));
    }
  where
    of_copy : (b : Bool) (t : ℕ) → t < threads_of s
        → cond b (copy_at (cells_of s) s.running t) (copy_at (cells_of s) s.kept t) ≡ max a.head (cond b (a.copied t) (a.copied_written t))
    of_copy true t h = v.copies.run_copy t h
    of_copy false t h = v.copies.kept_copy t h

    closed_is : closed_at (cells_of s) (threads_of s) (write_back s l).state.kept ≡ cond (carries_tail l) (closed_at (cells_of s) (threads_of s) s.running) (closed_at (cells_of s) (threads_of s) s.kept)
    closed_is = written_closed s v.kept_len l x

    after : Frame
    after = record { top = top_of s; tail = (frame s a).tail; shut = (frame s a).shut; kept_shut = closed_at (cells_of s) (threads_of s) (write_back s l).state.kept; acct = writes a l }

    carry : Carried (cells_of s) (frame s a) after l
    carry = record {
      same = λ i. record {
        head = refl;
        top = omega arith;
        tail = omega arith;
        shut = λ q. q;
        kept_shut = λ q. rw closed_is (cond_cases (λ y. y ≡ 1) (carries_tail l) (λ e. v.shut q) (λ e. q));
        copied = refl;
        copied_written = cond_cases (λ y. a.copied_written i ≤ y) (carries_copy l i) (λ e. v.copies.rises i) (λ e. omega arith);
        landed = λ y z. refl;
        durable = λ y z. cond_cases (λ w. w ≡ a.durable y) (carries_cell l (a.spot y)) (λ e. v.cells.sub y z) (λ e. refl);
      };
      cell = λ y z e. rw (ap (carries_cell l) (v.cells.where_landed y z) ∙ e);
      copy = λ i e. rw e;
      tail = λ e. rw (closed_is, e);
    }
