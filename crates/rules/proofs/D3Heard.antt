-- The tale has heard every answer: no OK, ITEM, landed or CLOSED is left out of it, and it tells of no other. And before it hears of a landing, the number is new; before it hears of an OK, the item is durable; before it hears of an ITEM, the item is no lost one.
use Prim.Native.Nat.{ℕ, ◌%◌, ◌≤◌}
use mathlib.Core.Path.{◌≡◌, refl, sym, ◌∙◌, ap, subst}
use mathlib.Core.Logic.{◌⊎◌, inl, inr}
use mathlib.Core.Bool.{true}
use mathlib.Core.List.Memᴰ
use mathlib.Core.List.{List, [], ◌∷◌, ◌++◌}
use native.Mathlib.Omega.{arith}
use lib.Dec.{eqb}
use borrow.Author.Tests.{eqb-false}
use Rattle.rules.specs.declared.By.{By}
use Rattle.rules.specs.declared.Line.TheVariants.{Cell as CellLine}
use Rattle.rules.specs.declared.Cell.{Cell}
use Rattle.rules.specs.declared.Thread.{Thread}
use Rattle.rules.specs.declared.Ring.{Ring}
use Rattle.rules.specs.declared.Event.{Event}
use Rattle.rules.specs.declared.Answer.{Answer}
use Rattle.rules.specs.declared.Answer.TheVariants.{Refused, Begun, Drew, Looked, SawHead, Landed, Missed, Asked, Waiting, Ok, Closed, SetClosed, Took, Flagged, Passed, SawTail, Lifted, Copied, Item, Empty, Written, Cut}
use Rattle.rules.specs.Record.{thread_at}
use Rattle.rules.specs.Line.{is_none}
use Rattle.rules.specs.Table.{Step, same, row_wait, row_p1, row_p2, row_p3, row_p4, row_p5, row_p6, row_p7, row_p8, row_p9, row_p10, row_t1, row_t2, row_t3, row_t4, row_t5, row_t6, row_t7, row_t8, row_t9, row_t10, row}
use Rattle.rules.specs.State.{State, Out}
use Rattle.rules.specs.Events.{begin_put, begin_take, step_thread, write_back, cut, event, answers}
use Rattle.rules.specs.Account.{Account}
use Rattle.rules.specs.Tale.{In, Tale, untold, tells, tale, adds, Heard, Answered}
use Rattle.rules.specs.Demand3.{New}
use Rattle.rules.proofs.Tests.{cond_cases}
use Rattle.rules.proofs.Sound.{same_eq}
use Rattle.rules.proofs.D3Cells.{at_here, at_cases, unlanded}
use Rattle.rules.proofs.D3Threads.{Nums}
use Rattle.rules.proofs.D3Inv.{Inv, cells_of, threads_of, run_cell, frame}
use Rattle.rules.proofs.D3Dispatch.{row_cases, event_cases}
use Rattle.rules.proofs.D3Told.{Told}
use Rattle.rules.proofs.D3Fates.{no_longer}

-- an answer that says this
abbrev IsOk : ℕ → ℕ → Answer → Type 0
IsOk x i a = (b : By) × (b.number ≡ x) × (Ok b i ≡ a)

abbrev IsItem : ℕ → ℕ → Answer → Type 0
IsItem x i a = (b : By) × (b.number ≡ x) × (Item b i ≡ a)

abbrev IsLanded : ℕ → ℕ → Answer → Type 0
IsLanded x i a = (b : By) × ((j : ℕ) × (b.number ≡ x) × (Landed b j i ≡ a))

abbrev IsClosed : Answer → Type 0
IsClosed a = (b : By) × (Closed b ≡ a)

-- of OK, ITEM, landed and CLOSED each: F of the answers that say it, and of what h and what k tell of it
abbrev Each : ((Answer → Type 0) → Type 0 → Type 0 → Type 0) → Tale → Tale → Type 0
Each F h k =
    ((x i : ℕ) → F (IsOk x i) (In i (h.confirmed x)) (In i (k.confirmed x)))
    × ((x i : ℕ) → F (IsItem x i) (In i (h.handed x)) (In i (k.handed x)))
    × ((x i : ℕ) → F (IsLanded x i) (In i (h.landings x)) (In i (k.landings x)))
    × F IsClosed (h.closed ≡ true) (k.closed ≡ true)

-- one answer takes nothing back, and adds only what it says
abbrev One : Answer → (Answer → Type 0) → Type 0 → Type 0 → Type 0
One a A P Q = (P → Q) × (Q → P ⊎ A a)

-- .. and what it says is told
abbrev Said : Answer → (Answer → Type 0) → Type 0 → Type 0 → Type 0
Said a A P Q = A a → Q

-- all three, by the answers l
record All (l : List Answer) (A : Answer → Type 0) (P Q : Type 0) : Type 0 where
  kept : P → Q
  said : (a : Answer) → In a l → A a → Q
  from : Q → P ⊎ ((a : Answer) × In a l × A a)

unsaid : {P S : Type 0} → (P → P) × (P → P ⊎ S)
unsaid = ((λ p. p), inl)

as_was : {a : Answer} (h : Tale) → Each (One a) h h
as_was h = ((λ x i. unsaid), (λ x i. unsaid), (λ x i. unsaid), unsaid)

just_added : (f : ℕ → List ℕ) (x i : ℕ) → In i (adds f x i x)
just_added f x i = rw (at_here f x (f x ++ i ∷ [])) (Memᴰ.append_right (f x) (Memᴰ.head refl))

adds_one : {S : Type 0} (f : ℕ → List ℕ) (y v x i : ℕ) → (y ≡ x → i ≡ v → S) → (In i (f x) → In i (adds f y v x)) × (In i (adds f y v x) → In i (f x) ⊎ S)
adds_one {S} f y v x i g = (
  λ m. at_cases (In i) f y (f y ++ v ∷ []) x (λ e. Memᴰ.append_left (v ∷ []) (rw e at m)) (λ d. m),
  at_cases (λ l. In i l → In i (f x) ⊎ S) f y (f y ++ v ∷ []) x
      (λ e m. elim (Memᴰ.append_cases (f y) m) [ inl n ↦ inl (rw e n) | inr n ↦ inr (g (sym e) (Memᴰ.eq_of_singleton n)) ]) (λ d. inl),
)

more : (h : Tale) (e : Event) (a : Answer) → Each (One a) h (tells h e a)
unfolding tells
more h e (Refused k) = as_was h
more h e (Begun t) = as_was h
more h e (Drew b) = as_was h
more h e (Looked b j) = as_was h
more h e (SawHead b v) = as_was h
more h e (Landed b j v) = (λ x i. unsaid, λ x i. unsaid, λ x i. adds_one h.landings b.number v x i (λ p q. (b, (j, p, ap (Landed b j) q))), unsaid)
more h e (Missed b j) = as_was h
more h e (Asked b) = as_was h
more h e (Waiting b) = as_was h
more h e (Ok b v) = (λ x i. adds_one h.confirmed b.number v x i (λ p q. (b, p, ap (Ok b) q)), λ x i. unsaid, λ x i. unsaid, unsaid)
more h e (Closed b) = (λ x i. unsaid, λ x i. unsaid, λ x i. unsaid, ((λ p. refl), (λ p. inr (b, refl))))
more h e (SetClosed b) = as_was h
more h e (Took b j x) = as_was h
more h e (Flagged b j) = as_was h
more h e (Passed b j) = as_was h
more h e (SawTail b v) = as_was h
more h e (Lifted b v) = as_was h
more h e (Copied b v) = as_was h
more h e (Item b v) = (λ x i. unsaid, λ x i. adds_one h.handed b.number v x i (λ p q. (b, p, ap (Item b) q)), λ x i. unsaid, unsaid)
more h e (Empty b) = as_was h
more h e (Written l) = as_was h
more h e (Cut f) = as_was h

says : (h : Tale) (e : Event) (a : Answer) → Each (Said a) h (tells h e a)
unfolding tells
says h e a = (
  (λ x i q. rw (sym q.2, sym q.1) (just_added h.confirmed q.0.number i)),
  (λ x i q. rw (sym q.2, sym q.1) (just_added h.handed q.0.number i)),
  (λ x i q. rw (sym q.1.2, sym q.1.1) (just_added h.landings q.0.number i)),
  (λ q. rw (sym q.1) refl),
)

no_answer : {A : Answer → Type 0} {P : Type 0} → All [] A P P
no_answer = record { kept = λ p. p; said = λ a m. absurd (Memᴰ.not-nil m); from = inl }

-- one answer more in front
and_then : {A : Answer → Type 0} {a : Answer} {l : List Answer} {P Q S : Type 0} → One a A P Q → Said a A P Q → All l A Q S → All (a ∷ l) A P S
and_then {A} {a} p s r = record {
  kept = λ x. r.kept (p.0 x);
  said = λ b m y. elim (Memᴰ.cases_cons m) [ inl q ↦ r.kept (s (subst A q y)) | inr n ↦ r.said b n y ];
  from = λ z. elim (r.from z) [
    | inl y ↦ elim (p.1 y) [ inl x ↦ inl x | inr w ↦ inr (a, Memᴰ.head refl, w) ]
    | inr w ↦ inr (w.0, Memᴰ.tail w.1, w.2)
  ];
}

run : (s : State) (h : Tale) (es : List Event) → Each (All (answers s es)) h (tale h es (answers s es))
unfolding answers tale
run s h [] = ((λ x i. no_answer), (λ x i. no_answer), (λ x i. no_answer), no_answer)
run s h (e ∷ es) =
    let p = more h e (event s e).answer in
    let q = says h e (event s e).answer in
    let r = run (event s e).state (tells h e (event s e).answer) es in
    (λ x i. and_then (p.0 x i) (q.0 x i) (r.0 x i), λ x i. and_then (p.1 x i) (q.1 x i) (r.1 x i), λ x i. and_then (p.2 x i) (q.2 x i) (r.2 x i), and_then p.3 q.3 r.3)

pub heard : (s : State) (h : Tale) (es : List Event) → Heard (answers s es) (tale h es (answers s es))
heard s h es = let r = run s h es in record {
  oks = λ b i m. (r.0 b.number i).said (Ok b i) m (b, refl, refl);
  items = λ b i m. (r.1 b.number i).said (Item b i) m (b, refl, refl);
  landings = λ b j i m. (r.2 b.number i).said (Landed b j i) m (b, (j, refl, refl));
  closed = λ b m. r.3.said (Closed b) m (b, refl);
}

pub answered : (s : State) (es : List Event) → Answered (answers s es) (tale untold es (answers s es))
unfolding untold
answered s es = let r = run s untold es in record {
  oks = λ x i m. elim ((r.0 x i).from m) [ inl n ↦ absurd (Memᴰ.not-nil n) | inr (a, n, (b, e, q)) ↦ (b, e, rw q n) ];
  items = λ x i m. elim ((r.1 x i).from m) [ inl n ↦ absurd (Memᴰ.not-nil n) | inr (a, n, (b, e, q)) ↦ (b, e, rw q n) ];
  landings = λ x i m. elim ((r.2 x i).from m) [ inl n ↦ absurd (Memᴰ.not-nil n) | inr (a, n, (b, (j, e, q))) ↦ (b, (j, e, rw q n)) ];
  closed = λ z. elim (r.3.from z) [ inl e ↦ cc | inr (a, n, (b, q)) ↦ (b, rw q n) ];
}

-- what an answer may count on before it is told
abbrev pub Fits : ℕ → Account → Tale → Answer → Type 0
Fits n a h (Refused k) = Unit {0}
Fits n a h (Begun t) = Unit {0}
Fits n a h (Drew b) = Unit {0}
Fits n a h (Looked b j) = Unit {0}
Fits n a h (SawHead b v) = Unit {0}
Fits n a h (Landed b j x) = New n b.number a h
Fits n a h (Missed b j) = Unit {0}
Fits n a h (Asked b) = Unit {0}
Fits n a h (Waiting b) = Unit {0}
Fits n a h (Ok b x) = a.durable b.number ≡ x
Fits n a h (Closed b) = Unit {0}
Fits n a h (SetClosed b) = Unit {0}
Fits n a h (Took b j x) = Unit {0}
Fits n a h (Flagged b j) = Unit {0}
Fits n a h (Passed b j) = Unit {0}
Fits n a h (SawTail b v) = Unit {0}
Fits n a h (Lifted b v) = Unit {0}
Fits n a h (Copied b v) = Unit {0}
Fits n a h (Item b x) = a.landed b.number ≡ x
Fits n a h (Empty b) = Unit {0}
Fits n a h (Written l) = Unit {0}
Fits n a h (Cut f) = Unit {0}

module _ (s : State) (a : Account) (v : Inv s a) (τ : Tale) (w : Told s a τ) where
  abbrev Right : Answer → Type 0
  Right = Fits (threads_of s) a τ

  module _ (t : ℕ) where
    abbrev h : Thread
    h = thread_at s.control t

    abbrev g : Ring
    g = s.control.ring

    abbrev c : Cell
    c = run_cell s ((thread_at s.control t).number % cells_of s)

    mine : Nums (frame s a) t h
    mine = (v.thrs t).nums

    -- P4: nothing landed under the number, so nothing was handed out under it; this put was not confirmed; Head is past what is gone
    is_new : h.place ≡ 4 → c ≡ h.looked → New (threads_of s) h.number a τ
    is_new e q =
        let b = mine.put (omega arith) (omega arith) in
        let k = mine.p4 (omega arith) (omega arith) in
        let un = unlanded _ _ _ _ _ v.cells v.pos h.number b.0 (rw q k.1) (rw q k.0) in
        record {
          unhanded = elim (w.hands h.number) [ inl q ↦ q | inr q ↦ absurd (q.2.item (sym (q.2.is b.0) ∙ un)) ];
          unconfirmed = elim (w.confs h.number) [ inl q ↦ q | inr q ↦ absurd (q.2.free t (record { from = omega arith; upto = omega arith; is = refl })) ];
          ungone = λ g. omega (arith, (w.gones h.number g).0, b.0);
          unlanded = un;
        }

    -- P6: the cell that the put awaited is written
    is_durable : h.place ≡ 6 → is_none h.awaited ≡ true → a.durable h.number ≡ h.item
    is_durable e p = no_longer h.awaited (CellLine (h.number % cells_of s)) p refl ((v.thrs t).waits.p6 e)

    abbrev Fit : Step → Type 0
    Fit r = Right r.moved.answer

    row_fits : 1 ≤ h.place → Fit (row g t h s.running)
    unfolding row_wait row_p1 row_p2 row_p3 row_p4 row_p5 row_p6 row_p7 row_p8 row_p9 row_p10 row_t1 row_t2 row_t3 row_t4 row_t5 row_t6 row_t7 row_t8 row_t9 row_t10
    row_fits lo = row_cases Fit g t h s.running
        (record {
          p1 = λ e. tt;
          p2 = λ e. tt;
          p3 = λ e. tt;
          p4 = λ e. cond_cases Fit (same c h.looked) (λ p. is_new e (same_eq c h.looked p)) (λ p. tt);
          p5 = λ e. tt;
          p6 = λ e. cond_cases Fit (is_none h.awaited) (is_durable e) (λ p. tt);
          p7 = λ e. tt;
          p8 = λ e. tt;
          p9 = λ e. tt;
          p10 = λ e. cond_cases Fit (is_none h.awaited) (λ p. tt) (λ p. tt);
          t1 = λ e. tt;
          t2 = λ e. tt;
          t3 = λ e. cond_cases Fit (same c h.looked) (λ p. tt) (λ p. tt);
          t4 = λ e. cond_cases Fit (same c h.looked) (λ p. tt) (λ p. tt);
          t5 = λ e. cond_cases Fit (same c h.looked) (λ p. tt) (λ p. tt);
          t6 = λ e. tt;
          t7 = λ e. tt;
          t8 = λ e. tt;
          t9 = λ e. tt;
          t10 = λ e. cond_cases Fit (is_none h.awaited) (λ p. cond_cases Right (eqb h.item 0) (λ q. tt) (λ q. mine.carry (omega arith) (eqb-false h.item 0 q))) (λ p. tt);
        })
        lo mine.place

  pub fits : (e : Event) → Fits (threads_of s) a τ (event s e).answer
  unfolding begin_put begin_take step_thread write_back cut
  fits = event_cases (λ e (o : Out). Right o.answer) s
      (record { refuses = λ e k. tt; put = λ i x l p z. tt; take = λ i l p. tt; go = λ i l b. row_fits i b; back = λ l x. tt; cuts = tt })
