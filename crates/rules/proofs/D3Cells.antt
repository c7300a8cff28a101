-- The cells against the account, and what each change of a cell keeps of that: functions only, no list.
use Prim.Native.Nat.{ℕ, ◌+◌, ◌%◌, ◌<◌, ◌≤◌, max}
use mathlib.Core.Path.{◌≡◌, refl, sym, ap, ◌∙◌}
use mathlib.Core.Logic.{◌≢◌}
use mathlib.Core.Bool.{Bool, true, false, cond}
use native.Mathlib.Omega.{arith}
use native.Mathlib.Decide.{ℕ_discrete}
use native.Mathlib.Nat.{mod-lt, add-mod_right}
use lib.Dec.{eqb}
use borrow.Author.Tests.{eqb-true, eqb-false, eq-eqb, ne_eqb}
use Rattle.rules.specs.declared.Line.{Line}
use Rattle.rules.specs.declared.Cell.{Cell}
use Rattle.rules.specs.Record.{cell}
use Rattle.rules.specs.Line.{carries_cell}
use Rattle.rules.specs.Account.{Account, at, lands, passes, copies, writes}
use Rattle.rules.proofs.Tests.{cond_cases}

-- what is entered under x as i stands in the cell, or the cell's mark is past it
abbrev pub Held : Cell → ℕ → ℕ → Type 0
Held c x i = c.mark ≤ x → (c.index ≡ x) × (c.item ≡ i)

-- c running, k kept, top the machine's Head
pub record CellsOk (R top : ℕ) (c k : ℕ → Cell) (a : Account) : Type 0 where
  pub run_mod : (j : ℕ) → j < R → (c j).index % R ≡ j
  pub kept_mod : (j : ℕ) → j < R → (k j).index % R ≡ j
  pub run_mark : (j : ℕ) → j < R → (c j).mark ≡ max a.head (a.passed j)
  pub kept_mark : (j : ℕ) → j < R → (k j).mark ≡ max a.head (a.passed_written j)
  pub rises : (j : ℕ) → j < R → a.passed_written j ≤ a.passed j
  pub under : (j : ℕ) → j < R → a.passed j ≤ top
  pub low : (j : ℕ) → j < R → (c j).mark ≤ max a.head (c j).index
  pub log : (x : ℕ) → a.landed x ≢ 0 → Held (c (x % R)) x (a.landed x)
  pub wlog : (x : ℕ) → a.durable x ≢ 0 → Held (k (x % R)) x (a.durable x)
  pub run_in : (j : ℕ) → j < R → (c j).item ≢ 0 → a.landed (c j).index ≡ (c j).item
  pub kept_in : (j : ℕ) → j < R → (k j).item ≢ 0 → a.durable (k j).index ≡ (k j).item
  pub sub : (x : ℕ) → a.durable x ≢ 0 → a.landed x ≡ a.durable x
  pub where_landed : (x : ℕ) → a.landed x ≢ 0 → a.spot x ≡ x % R
  pub from : (x : ℕ) → a.landed x ≢ 0 → a.head ≤ x
  pub upto : (x : ℕ) → a.landed x ≢ 0 → x < a.bound

-- a function changed at one place
pub record Upd {A : Type 0} (f g : ℕ → A) (R j : ℕ) (x : A) : Type 0 where
  pub same : g j ≡ x
  pub other : (i : ℕ) → i < R → i ≢ j → g i ≡ f i

pub upd_cases : {A : Type 0} (P : A → Type 0) {f g : ℕ → A} {R j : ℕ} {x : A} → Upd f g R j x → (i : ℕ) → i < R → (i ≡ j → P x) → (i ≢ j → P (f i)) → P (g i)
upd_cases P {j = j} u i l p q = elim (ℕ_discrete i j) [ yes e ↦ rw (e, u.same) (p e) | no n ↦ rw (u.other i l n) (q n) ]

pub at_here : {A : Type 0} (f : ℕ → A) (x : ℕ) (v : A) → at f x v x ≡ v
at_here f x v = rw (eq-eqb x x refl)

pub at_else : {A : Type 0} (f : ℕ → A) (x : ℕ) (v : A) (y : ℕ) → y ≢ x → at f x v y ≡ f y
at_else f x v y d = rw (ne_eqb y x d)

pub at_cases : {A : Type 0} (P : A → Type 0) (f : ℕ → A) (x : ℕ) (v : A) (y : ℕ) → (y ≡ x → P v) → (y ≢ x → P (f y)) → P (at f x v y)
at_cases P f x v y p q = cond_cases P (eqb y x) (λ e. p (eqb-true y x e)) (λ e. q (eqb-false y x e))

module _ (R top : ℕ) (c k : ℕ → Cell) (a : Account) (m : CellsOk R top c k a) (pos : 0 < R) where
  -- the same cells under other names
  pub cells_ext : (c' k' : ℕ → Cell) → ((j : ℕ) → j < R → c' j ≡ c j) → ((j : ℕ) → j < R → k' j ≡ k j) → CellsOk R top c' k' a
  cells_ext c' k' e f = record {
    run_mod = λ j l. rw (e j l) (m.run_mod j l);
    kept_mod = λ j l. rw (f j l) (m.kept_mod j l);
    run_mark = λ j l. rw (e j l) (m.run_mark j l);
    kept_mark = λ j l. rw (f j l) (m.kept_mark j l);
    rises = m.rises;
    under = m.under;
    low = λ j l. rw (e j l) (m.low j l);
    log = λ x z. rw (e (x % R) (mod-lt x pos)) (m.log x z);
    wlog = λ x z. rw (f (x % R) (mod-lt x pos)) (m.wlog x z);
    run_in = λ j l. rw (e j l) (m.run_in j l);
    kept_in = λ j l. rw (f j l) (m.kept_in j l);
    sub = m.sub;
    where_landed = m.where_landed;
    from = m.from;
    upto = m.upto;
  }

  -- Head rises
  pub cells_top : (top' : ℕ) → top ≤ top' → CellsOk R top' c k a
  cells_top top' h = record {
    run_mod = m.run_mod;
    kept_mod = m.kept_mod;
    run_mark = m.run_mark;
    kept_mark = m.kept_mark;
    rises = m.rises;
    under = λ j l. omega (arith, m.under j l);
    low = m.low;
    log = m.log;
    wlog = m.wlog;
    run_in = m.run_in;
    kept_in = m.kept_in;
    sub = m.sub;
    where_landed = m.where_landed;
    from = m.from;
    upto = m.upto;
  }

  -- a copy is entered
  pub cells_copied : (t v : ℕ) → CellsOk R top c k (copies a t v)
  cells_copied t v = record {
    run_mod = m.run_mod;
    kept_mod = m.kept_mod;
    run_mark = m.run_mark;
    kept_mark = m.kept_mark;
    rises = m.rises;
    under = m.under;
    low = m.low;
    log = m.log;
    wlog = m.wlog;
    run_in = m.run_in;
    kept_in = m.kept_in;
    sub = m.sub;
    where_landed = m.where_landed;
    from = m.from;
    upto = m.upto;
  }

  module _ (x : ℕ) (reached : a.head ≤ x) (before : (c (x % R)).index ≤ x) where
    here : x % R < R
    here = mod-lt x pos

    -- nothing landed under the number before
    pub unlanded : (c (x % R)).item ≡ 0 → a.landed x ≡ 0
    unlanded b = elim (ℕ_discrete (a.landed x) 0) [ yes e ↦ e | no z ↦ omega (arith, m.log x z (omega (arith, m.low (x % R) here))) ]

    -- a put lands
    pub land_keeps : (c' : ℕ → Cell) (i mk : ℕ) → Upd c c' R (x % R) (cell 1 x i mk) → mk ≡ (c (x % R)).mark → (c (x % R)).item ≡ 0 → CellsOk R top c' k (lands a x (x % R) i)
    land_keeps c' i mk u as_was blank = record {
      run_mod = λ j l. upd_cases (λ w. w.index % R ≡ j) u j l sym (λ d. m.run_mod j l);
      kept_mod = m.kept_mod;
      run_mark = λ j l. upd_cases (λ w. w.mark ≡ max a.head (a.passed j)) u j l (λ e. rw e (as_was ∙ m.run_mark (x % R) here)) (λ d. m.run_mark j l);
      kept_mark = m.kept_mark;
      rises = m.rises;
      under = m.under;
      low = λ j l. upd_cases (λ w. w.mark ≤ max a.head w.index) u j l (λ e. omega (arith, m.low (x % R) here)) (λ d. m.low j l);
      log = λ q. at_cases (λ v. v ≢ 0 → Held (c' (q % R)) q v) a.landed x i q
          (λ e z. rw (e, u.same) (λ h. (refl, refl)))
          (λ d z. upd_cases (λ w. Held w q (a.landed q)) u (q % R) (mod-lt q pos)
          (λ f h. omega (arith, (rw f at (m.log q z)) (omega arith))) (λ f. m.log q z));
      wlog = λ q. at_cases (λ v. v ≢ 0 → Held (k (q % R)) q v) a.durable x 0 q (λ e z. absurd (z refl)) (λ d. m.wlog q);
      run_in = λ j l. upd_cases (λ w. w.item ≢ 0 → at a.landed x i w.index ≡ w.item) u j l
          (λ e z. at_here a.landed x i)
          (λ d z. at_else a.landed x i (c j).index (λ e. d (sym (m.run_mod j l) ∙ ap (λ v. v % R) e)) ∙ m.run_in j l z);
      kept_in = λ j l z. at_else a.durable x 0 (k j).index (λ e. z (sym (m.kept_in j l z) ∙ ap a.durable e ∙ undurable)) ∙ m.kept_in j l z;
      sub = λ q. at_cases (λ v. v ≢ 0 → at a.landed x i q ≡ v) a.durable x 0 q (λ e z. absurd (z refl)) (λ d z. at_else a.landed x i q d ∙ m.sub q z);
      where_landed = λ q. at_cases (λ v. v ≢ 0 → at a.spot x (x % R) q ≡ q % R) a.landed x i q
          (λ e z. rw (e, at_here a.spot x (x % R))) (λ d z. at_else a.spot x (x % R) q d ∙ m.where_landed q z);
      from = λ q. at_cases (λ v. v ≢ 0 → a.head ≤ q) a.landed x i q (λ e z. omega arith) (λ d. m.from q);
      upto = λ q. at_cases (λ v. v ≢ 0 → q < max a.bound (x + 1)) a.landed x i q (λ e z. omega arith) (λ d z. omega (arith, m.upto q z));
    }
      where
        undurable : a.durable x ≡ 0
        undurable = elim (ℕ_discrete (a.durable x) 0) [ yes e ↦ e | no z ↦ sym (m.sub x z) ∙ unlanded blank ]

    -- a take takes or passes
    pub pass_keeps : (c' : ℕ → Cell) (s mk : ℕ) → Upd c c' R (x % R) (cell s (x + R) 0 mk) → mk ≡ x + 1 → x < top → CellsOk R top c' k (passes a x (x % R))
    pass_keeps c' s mk u raised drawn = record {
      run_mod = λ j l. upd_cases (λ w. w.index % R ≡ j) u j l (λ e. rw add-mod_right (sym e)) (λ d. m.run_mod j l);
      kept_mod = m.kept_mod;
      run_mark = λ j l. upd_cases (λ w. w.mark ≡ max a.head (at a.passed (x % R) (max (a.passed (x % R)) (x + 1)) j)) u j l
          (λ e. rw (eq-eqb j (x % R) e) (omega (arith, m.run_mark (x % R) here, m.low (x % R) here)))
          (λ d. rw (ne_eqb j (x % R) d) (m.run_mark j l));
      kept_mark = m.kept_mark;
      rises = λ j l. at_cases (λ v. a.passed_written j ≤ v) a.passed (x % R) (max (a.passed (x % R)) (x + 1)) j
          (λ e. omega (arith, m.rises j l, ap a.passed e)) (λ d. m.rises j l);
      under = λ j l. at_cases (λ v. v ≤ top) a.passed (x % R) (max (a.passed (x % R)) (x + 1)) j
          (λ e. omega (arith, m.under (x % R) here)) (λ d. m.under j l);
      low = λ j l. upd_cases (λ w. w.mark ≤ max a.head w.index) u j l (λ e. omega arith) (λ d. m.low j l);
      log = λ q z. upd_cases (λ w. Held w q (a.landed q)) u (q % R) (mod-lt q pos)
          (λ f h. omega (arith, (rw f at (m.log q z)) (omega (arith, m.low (x % R) here)))) (λ d. m.log q z);
      wlog = m.wlog;
      run_in = λ j l. upd_cases (λ w. w.item ≢ 0 → a.landed w.index ≡ w.item) u j l (λ e z. absurd (z refl)) (λ d. m.run_in j l);
      kept_in = m.kept_in;
      sub = m.sub;
      where_landed = m.where_landed;
      from = m.from;
      upto = m.upto;
    }

  -- a cell's safe number changes
  pub flag_keeps : (c' : ℕ → Cell) (i s : ℕ) → i < R → Upd c c' R i (cell s (c i).index (c i).item (c i).mark) → CellsOk R top c' k a
  flag_keeps c' i s h u = record {
    run_mod = λ q l. upd_cases (λ w. w.index % R ≡ q) u q l (λ e. rw e (m.run_mod i h)) (λ d. m.run_mod q l);
    kept_mod = m.kept_mod;
    run_mark = λ q l. upd_cases (λ w. w.mark ≡ max a.head (a.passed q)) u q l (λ e. rw e (m.run_mark i h)) (λ d. m.run_mark q l);
    kept_mark = m.kept_mark;
    rises = m.rises;
    under = m.under;
    low = λ q l. upd_cases (λ w. w.mark ≤ max a.head w.index) u q l (λ e. m.low i h) (λ d. m.low q l);
    log = λ q z. upd_cases (λ w. Held w q (a.landed q)) u (q % R) (mod-lt q pos) (λ e. rw e at (m.log q z)) (λ d. m.log q z);
    wlog = m.wlog;
    run_in = λ q l. upd_cases (λ w. w.item ≢ 0 → a.landed w.index ≡ w.item) u q l (λ e. m.run_in i h) (λ d. m.run_in q l);
    kept_in = m.kept_in;
    sub = m.sub;
    where_landed = m.where_landed;
    from = m.from;
    upto = m.upto;
  }

  -- a line is written back: the cells that it carries
  pub back_keeps : (k' : ℕ → Cell) (l : Line) → ((j : ℕ) → j < R → k' j ≡ cond (carries_cell l j) (c j) (k j)) → CellsOk R top c k' (writes a l)
  back_keeps k' l u = record {
    run_mod = m.run_mod;
    kept_mod = λ j h. rw (u j h) (cond_cases (λ (w : Cell). w.index % R ≡ j) (carries_cell l j) (λ e. m.run_mod j h) (λ e. m.kept_mod j h));
    run_mark = m.run_mark;
    kept_mark = λ j h. rw (u j h) (mark_of (carries_cell l j) j h);
    rises = λ j h. cond_cases (λ v. v ≤ a.passed j) (carries_cell l j) (λ e. omega arith) (λ e. m.rises j h);
    under = m.under;
    low = m.low;
    log = m.log;
    wlog = λ x. cond_cases (λ v. v ≢ 0 → Held (k' (x % R)) x v) (carries_cell l (a.spot x))
        (λ e z. rw (u (x % R) (mod-lt x pos), sym (ap (carries_cell l) (m.where_landed x z)) ∙ e) (m.log x z))
        (λ e z. rw (u (x % R) (mod-lt x pos), sym (ap (carries_cell l) (m.where_landed x (landed_too x z))) ∙ e) (m.wlog x z));
    run_in = m.run_in;
    kept_in = λ j h. rw (u j h) (cond_cases (λ (w : Cell). w.item ≢ 0 → cond (carries_cell l (a.spot w.index)) (a.landed w.index) (a.durable w.index) ≡ w.item) (carries_cell l j)
        (λ e z. let y = m.run_in j h z in
        rw (ap (carries_cell l) (m.where_landed (c j).index (λ q. z (sym y ∙ q)) ∙ m.run_mod j h) ∙ e) y)
        (λ e z. let y = m.kept_in j h z in
        rw (ap (carries_cell l) (m.where_landed (k j).index (landed_too (k j).index (λ q. z (sym y ∙ q))) ∙ m.kept_mod j h) ∙ e) y));
    sub = λ x. cond_cases (λ v. v ≢ 0 → a.landed x ≡ v) (carries_cell l (a.spot x)) (λ e z. refl) (λ e z. m.sub x z);
    where_landed = m.where_landed;
    from = m.from;
    upto = m.upto;
  }
    where
      landed_too : (x : ℕ) → a.durable x ≢ 0 → a.landed x ≢ 0
      landed_too x z e = z (sym (m.sub x z) ∙ e)

      mark_of : (b : Bool) (j : ℕ) → j < R → (cond b (c j) (k j)).mark ≡ max a.head (cond b (a.passed j) (a.passed_written j))
      mark_of true j h = m.run_mark j h
      mark_of false j h = m.kept_mark j h
