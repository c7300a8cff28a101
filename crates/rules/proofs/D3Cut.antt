-- The account's pass mark is recovery's, and a cut keeps the invariant.
use Prim.Native.Nat.{ℕ, ◌+◌, ◌%◌, ◌<◌, ◌≤◌, max}
use mathlib.Core.Path.{◌≡◌, refl, sym, ◌∙◌}
use mathlib.Core.Logic.{◌≢◌}
use mathlib.Core.Bool.{true, cond, ◌&&◌, not}
use native.Mathlib.Omega.{arith}
use native.Mathlib.Nat.{mod-lt, add-mod_right}
use lib.ListN.{length, get_or, length-replicate}
use lib.Dec.{ltb, leb}
use borrow.Author.Tests.{leb-true, le-leb, ltb-true, ltb-false, eqb-false, ne_eqb, not-true}
use Rattle.rules.specs.declared.Cell.{Cell}
use Rattle.rules.specs.declared.Found.{Found}
use Rattle.rules.specs.declared.Answer.TheVariants.{Cut}
use Rattle.rules.specs.Upto.{max_to}
use Rattle.rules.specs.Record.{cell, idle, thread_at}
use Rattle.rules.specs.Memory.{cell_at, copy_at, closed_at, tail_at, size}
use Rattle.rules.specs.Table.{blank}
use Rattle.rules.specs.Cut.{pass_mark, queued, tail_of, head_of, finds, mended, recovered}
use Rattle.rules.specs.State.{State}
use Rattle.rules.specs.Events.{cut}
use Rattle.rules.specs.Account.{Account, enters, mark_of, restarts}
use Rattle.rules.proofs.Tests.{cond_cases, both, not_both, get_or-all}
use Rattle.rules.proofs.Memory.{length-over_to, over_at, agree_cell, agree_copy, agree_closed, agree_tail}
use Rattle.rules.proofs.Recovered.{max-over, max_under, is_queued, head_low, head_to_tail, length_recovered, cell_recovered, copy_recovered, tail_recovered, closed_recovered}
use Rattle.rules.proofs.D3Cells.{Held, CellsOk, cells_ext}
use Rattle.rules.proofs.D3Threads.{idle_ok}
use Rattle.rules.proofs.D3Inv.{Inv, Good, cells_of, threads_of, top_of, kept_cell}

-- a mended cell: what it says of a predicate
pub mend_cases : (P : Cell → Type 0) (R mark head : ℕ) (c : Cell)
    → (c.item ≢ 0 → c.index < mark → P (cell 1 (c.index + R) 0 head))
    → ((c.item ≢ 0 → mark ≤ c.index) → P (cell 1 c.index c.item head)) → P (mended R mark head c)
unfolding mended
mend_cases P R mark head c f g = cond_cases P (not (blank c) && ltb c.index mark)
    (λ e. let q = both (not (blank c)) _ e in f (eqb-false _ _ (not-true _ q.0)) (ltb-true c.index mark q.1))
    (λ e. g (λ z. ltb-false c.index mark (not_both (not (blank c)) _ e (rw (ne_eqb c.item 0 z)))))

module _ (s : State) (a : Account) (v : Inv s a) where
  abbrev R : ℕ
  R = cells_of s

  abbrev n : ℕ
  n = threads_of s

  -- the two pass marks
  pub mark_is : mark_of (cells_of s) (threads_of s) a ≡ pass_mark (cells_of s) (threads_of s) s.kept
  unfolding mark_of pass_mark
  mark_is = omega (
    arith,
    max_under (λ j. (kept_cell s j).mark) R (max a.head (max (max_to a.copied_written n) (max_to a.passed_written R)))
        (λ j l. omega (arith, v.cells.kept_mark j l, max-over a.passed_written R j l)),
    max_under (copy_at R s.kept) n (max a.head (max (max_to a.copied_written n) (max_to a.passed_written R)))
        (λ t l. omega (arith, v.copies.kept_copy t l, max-over a.copied_written n t l)),
    max_under a.passed_written R (max_to (λ j. (kept_cell s j).mark) R) (λ j l. omega (arith, v.cells.kept_mark j l, max-over (λ j. (kept_cell s j).mark) R j l)),
    max_under a.copied_written n (max_to (copy_at R s.kept) n) (λ t l. omega (arith, v.copies.kept_copy t l, max-over (copy_at R s.kept) n t l)),
    v.cells.kept_mark 0 v.pos,
    max-over (λ j. (kept_cell s j).mark) R 0 v.pos,
  )

  -- Head has reached it
  pub mark_top : mark_of (cells_of s) (threads_of s) a ≤ top_of s
  unfolding mark_of
  mark_top = omega (
    arith,
    v.head,
    max_under a.passed_written R (top_of s) (λ j l. omega (arith, v.cells.rises j l, v.cells.under j l)),
    max_under a.copied_written n (top_of s) (λ t l. omega (arith, v.copies.rises t, v.copies.under t l)),
  )

  pub base_mark : a.head ≤ mark_of (cells_of s) (threads_of s) a
  unfolding mark_of
  base_mark = omega arith

  unfoldable pub mark : ℕ
  mark = pass_mark (cells_of s) (threads_of s) s.kept

  unfoldable pub head : ℕ
  head = head_of (cells_of s) mark s.kept

  pub cell_under : (j : ℕ) → j < cells_of s → (kept_cell s j).mark ≤ pass_mark (cells_of s) (threads_of s) s.kept
  unfolding pass_mark
  cell_under j l = omega (arith, max-over (λ j. (kept_cell s j).mark) R j l)

  -- a durable number at or past the pass mark stands in its kept cell
  pub stands : (x : ℕ) → a.durable x ≢ 0 → mark ≤ x → ((kept_cell s (x % cells_of s)).index ≡ x) × ((kept_cell s (x % cells_of s)).item ≡ a.durable x)
  unfolding mark
  stands x z past = v.cells.wlog x z (omega (arith, cell_under (x % R) (mod-lt x v.pos)))

  -- .. and is queued there
  pub stands_queued : (x : ℕ) → a.durable x ≢ 0 → mark ≤ x → queued mark (kept_cell s (x % cells_of s)) ≡ true
  stands_queued x z past = let k = stands x z past in is_queued mark (kept_cell s (x % R)) (λ e. z (sym k.1 ∙ e)) (omega arith)

  unfoldable pub rest : ℕ → ℕ
  rest x = cond (leb (mark_of (cells_of s) (threads_of s) a) x) (a.durable x) 0

  -- what stays in the account at a cut
  pub rest_is : (x : ℕ) → rest x ≢ 0 → (a.durable x ≢ 0) × (mark ≤ x) × (rest x ≡ a.durable x)
  unfolding rest mark
  rest_is x = cond_cases (λ y. y ≢ 0 → (a.durable x ≢ 0) × (pass_mark R n s.kept ≤ x) × (y ≡ a.durable x)) (leb (mark_of R n a) x)
      (λ e z. (z, omega (arith, leb-true (mark_of R n a) x e, mark_is), refl)) (λ e z. absurd (z refl))

  pub rest_of : (x : ℕ) → mark ≤ x → rest x ≡ a.durable x
  unfolding rest mark
  rest_of x l = rw (le-leb (mark_of R n a) x (omega (arith, mark_is)))

  -- what a cut leaves: the answer, Head, and the views of the kept image, which the running one shows too
  pub cut_answer : (cut s).answer ≡ Cut (finds (cells_of s) (threads_of s) s.kept)
  unfolding cut
  cut_answer = refl

  cut_head : top_of (cut s).state ≡ head
  unfolding cut finds head mark
  cut_head = refl

  cut_cell : (j : ℕ) → j < cells_of s → cell_at (cells_of s) (cut s).state.kept j ≡ mended (cells_of s) mark head (kept_cell s j)
  unfolding cut mark head
  cut_cell j l = cell_recovered R n s.kept v.kept_len j l

  cut_length : length (cut s).state.kept ≡ length s.kept
  unfolding cut
  cut_length = length_recovered R n s.kept v.kept_len

  cut_copy : (t : ℕ) → t < threads_of s → copy_at (cells_of s) (cut s).state.kept t ≡ head
  unfolding cut mark head
  cut_copy t l = copy_recovered R n s.kept v.kept_len t l

  cut_tail : tail_at (cells_of s) (threads_of s) (cut s).state.kept ≡ tail_of (cells_of s) mark s.kept
  unfolding cut mark
  cut_tail = tail_recovered R n s.kept v.kept_len

  pub cut_closed : closed_at (cells_of s) (threads_of s) (cut s).state.kept ≡ closed_at (cells_of s) (threads_of s) s.kept
  unfolding cut
  cut_closed = closed_recovered R n s.kept v.kept_len

  run_length : length (cut s).state.running ≡ length s.running
  unfolding cut
  run_length = length-over_to (recovered R n s.kept) s.running (size R n)

  over : (i : ℕ) → i < size (cells_of s) (threads_of s) → get_or (cut s).state.running i 0 ≡ get_or (cut s).state.kept i 0
  unfolding cut
  over i l = over_at (recovered R n s.kept) s.running (size R n) i v.run_len l

  pub run_tail : tail_at (cells_of s) (threads_of s) (cut s).state.running ≡ tail_of (cells_of s) mark s.kept
  run_tail = agree_tail R n (cut s).state.kept (cut s).state.running over ∙ cut_tail

  -- a recovered cell, by the two kinds
  by_kind : (P : Cell → Type 0) (j : ℕ) → j < cells_of s
      → ((kept_cell s j).item ≢ 0 → (kept_cell s j).index < mark → P (cell 1 ((kept_cell s j).index + cells_of s) 0 head))
      → (((kept_cell s j).item ≢ 0 → mark ≤ (kept_cell s j).index) → P (cell 1 (kept_cell s j).index (kept_cell s j).item head))
      → P (cell_at (cells_of s) (cut s).state.kept j)
  by_kind P j l f g = rw (cut_cell j l) (mend_cases P R mark head (kept_cell s j) f g)

  from_head : (x : ℕ) → rest x ≢ 0 → head ≤ x
  unfolding head head_of
  from_head x z = let q = rest_is x z in let k = stands x q.0 q.1 in
      omega (arith, head_low R mark s.kept (tail_of R mark s.kept) R (x % R) (mod-lt x v.pos) (stands_queued x q.0 q.1))

  head_kept : (j : ℕ) → j < cells_of s → (cell_at (cells_of s) (cut s).state.kept j).mark ≡ head
  head_kept j l = by_kind (λ c. c.mark ≡ head) j l (λ z b. refl) (λ g. refl)

  resid : (j : ℕ) → j < cells_of s → (cell_at (cells_of s) (cut s).state.kept j).index % cells_of s ≡ j
  resid j l = by_kind (λ c. c.index % R ≡ j) j l (λ z b. rw add-mod_right (v.cells.kept_mod j l)) (λ g. v.cells.kept_mod j l)

  held : (x : ℕ) → rest x ≢ 0 → Held (cell_at (cells_of s) (cut s).state.kept (x % cells_of s)) x (rest x)
  held x z = let q = rest_is x z in let k = stands x q.0 q.1 in
      by_kind (λ c. Held c x (rest x)) (x % R) (mod-lt x v.pos) (λ y b. absurd (omega arith)) (λ g h. (k.0, k.1 ∙ sym q.2))

  within : (j : ℕ) → j < cells_of s → (cell_at (cells_of s) (cut s).state.kept j).item ≢ 0
      → rest (cell_at (cells_of s) (cut s).state.kept j).index ≡ (cell_at (cells_of s) (cut s).state.kept j).item
  within j l = by_kind (λ c. c.item ≢ 0 → rest c.index ≡ c.item) j l (λ y b z. absurd (z refl)) (λ g z. rest_of (kept_cell s j).index (g z) ∙ v.cells.kept_in j l z)

  landed_too : (x : ℕ) → rest x ≢ 0 → a.landed x ≢ 0
  landed_too x z = let q = rest_is x z in λ e. q.0 (sym (v.cells.sub x q.0) ∙ e)

  low_tail : head ≤ tail_of (cells_of s) mark s.kept
  unfolding head
  low_tail = head_to_tail R mark s.kept

  cells_cut : (top : ℕ) (f : Found) → f.head ≡ head
      → CellsOk (cells_of s) top (cell_at (cells_of s) (cut s).state.kept) (cell_at (cells_of s) (cut s).state.kept) (restarts (cells_of s) (threads_of s) a f)
  unfolding rest
  cells_cut top f e = record {
    run_mod = resid;
    kept_mod = resid;
    run_mark = λ j l. omega (arith, head_kept j l);
    kept_mark = λ j l. omega (arith, head_kept j l);
    rises = λ j l. omega arith;
    under = λ j l. omega arith;
    low = λ j l. omega (arith, head_kept j l);
    log = held;
    wlog = held;
    run_in = within;
    kept_in = within;
    sub = λ x z. refl;
    where_landed = λ x z. v.cells.where_landed x (landed_too x z);
    from = λ x z. omega (arith, from_head x z);
    upto = λ x z. v.cells.upto x (landed_too x z);
  }

  keep_found : (f : Found) → f.head ≡ head → Inv (cut s).state (restarts (cells_of s) (threads_of s) a f)
  unfolding cut thread_at
  keep_found f e = record {
    pos = v.pos;
    run_len = rw run_length v.run_len;
    kept_len = rw cut_length v.kept_len;
    few = v.few;
    wide = length-replicate 8 idle;
    cells = cells_ext _ _ _ _ _ (cells_cut _ f e) v.pos _ _ (agree_cell R n (cut s).state.kept (cut s).state.running over) (λ j l. refl);
    copies = record {
      run_copy = λ t l. omega (arith, agree_copy R n (cut s).state.kept (cut s).state.running over t l, cut_copy t l);
      kept_copy = λ t l. omega (arith, cut_copy t l);
      rises = λ t. omega arith;
      under = λ t l. omega arith;
    };
    head = omega (arith, cut_head);
    tail = omega (arith, run_tail, low_tail);
    shut = λ q. agree_closed R n (cut s).state.kept (cut s).state.running over ∙ q;
    thrs = λ i. rw (get_or-all 8 i idle) (idle_ok _ _ _ i);
  }

  pub keep_cut : Good s a (cut s)
  unfolding enters
  keep_cut = rw cut_answer (keep_found (finds R n s.kept) found_head)
    where
      found_head : (finds R n s.kept).head ≡ head
      found_head = unfold finds head mark in refl
