-- What a thread's record says, by its place, against the account.
use Prim.Native.Nat.{ℕ, ◌+◌, ◌%◌, ◌<◌, ◌≤◌}
use mathlib.Core.Path.{◌≡◌, refl, sym, ap, ◌∙◌}
use mathlib.Core.Logic.{◌≢◌, ◌⊎◌, inl, inr}
use mathlib.Core.Bool.{Bool, true, false, cond}
use native.Mathlib.Omega.{arith}
use Rattle.rules.specs.declared.Line.{Line}
use Rattle.rules.specs.declared.Line.TheVariants.{None, Copy, Tail, Cell as CellLine}
use Rattle.rules.specs.declared.Thread.{Thread}
use Rattle.rules.specs.Record.{idle}
use Rattle.rules.specs.Line.{carries_cell, carries_copy, carries_tail, ends, released}
use Rattle.rules.specs.Account.{Account}

-- the numbers that stand around a thread: Head, Tail and closed, closed as kept, the account
pub record Frame : Type 0 where
  pub top : ℕ
  pub tail : ℕ
  pub shut : ℕ
  pub kept_shut : ℕ
  pub acct : Account

pub record Nums (f : Frame) (i : ℕ) (h : Thread) : Type 0 where
  pub place : h.place ≤ 20
  pub put : 2 ≤ h.place → h.place ≤ 10 → (f.acct.head ≤ h.number) × (h.number < f.tail)
  pub take : 12 ≤ h.place → (f.acct.head ≤ h.number) × (h.number < f.top)
  pub item : 1 ≤ h.place → h.place ≤ 10 → h.item ≢ 0
  pub idles : h.place ≡ 0 → h.item ≡ 0
  pub bare : 11 ≤ h.place → h.place ≤ 17 → h.item ≡ 0
  pub p4 : 3 ≤ h.place → h.place ≤ 4 → (h.looked.item ≡ 0) × (h.looked.index ≤ h.number)
  pub p5 : 5 ≤ h.place → h.place ≤ 6 → f.acct.landed h.number ≡ h.item
  pub p7 : h.place ≡ 7 → f.shut ≡ 1
  pub p10 : h.place ≡ 10 → f.shut ≡ 1
  pub t3 : h.place ≡ 13 → (h.looked.item ≢ 0) × (h.looked.index ≡ h.number)
  pub t4 : h.place ≡ 14 → (h.looked.item ≢ 0) × (h.looked.index < h.number)
  pub t5 : h.place ≡ 15 → (h.looked.item ≡ 0) × (h.looked.index ≤ h.number)
  pub own : 12 ≤ h.place → h.place ≤ 18 → f.acct.copied i ≤ h.number + 1
  pub copy : 19 ≤ h.place → f.acct.copied i ≡ h.number + 1
  pub carry : 18 ≤ h.place → h.item ≢ 0 → f.acct.landed h.number ≡ h.item

-- what a thread awaits, or what has come of it
pub record Waits (R : ℕ) (f : Frame) (i : ℕ) (h : Thread) : Type 0 where
  pub p6 : h.place ≡ 6 → (h.awaited ≡ CellLine (h.number % R)) ⊎ (f.acct.durable h.number ≡ h.item)
  pub p10 : h.place ≡ 10 → (h.awaited ≡ Tail) ⊎ (f.kept_shut ≡ 1)
  pub t10 : h.place ≡ 20 → (h.awaited ≡ Copy i) ⊎ (h.number < f.acct.copied_written i)

pub record ThrOk (R n : ℕ) (f : Frame) (i : ℕ) (h : Thread) : Type 0 where
  pub known : 1 ≤ h.place → i < n
  pub nums : Nums f i h
  pub waits : Waits R f i h

-- away from P6, P10, T10
pub away : {R : ℕ} {f : Frame} {i : ℕ} {h : Thread} → h.place ≢ 6 → h.place ≢ 10 → h.place ≢ 20 → Waits R f i h
away a b c = record { p6 = λ e. absurd (a e); p10 = λ e. absurd (b e); t10 = λ e. absurd (c e) }

pub away_ok : {R n : ℕ} {f : Frame} {i : ℕ} {h : Thread} → i < n → h.place ≢ 6 → h.place ≢ 10 → h.place ≢ 20 → Nums f i h → ThrOk R n f i h
away_ok l a b c k = record { known = λ z. l; nums = k; waits = away a b c }

pub idle_ok : (R n : ℕ) (f : Frame) (i : ℕ) → ThrOk R n f i idle
idle_ok R n f i = record { known = omega arith; nums = omega arith; waits = away (omega arith) (omega arith) (omega arith) }

-- another frame that takes nothing back
pub record Grow (f g : Frame) (i : ℕ) : Type 0 where
  pub head : g.acct.head ≡ f.acct.head
  pub top : f.top ≤ g.top
  pub tail : f.tail ≤ g.tail
  pub shut : f.shut ≡ 1 → g.shut ≡ 1
  pub kept_shut : f.kept_shut ≡ 1 → g.kept_shut ≡ 1
  pub copied : g.acct.copied i ≡ f.acct.copied i
  pub copied_written : f.acct.copied_written i ≤ g.acct.copied_written i
  pub landed : (x : ℕ) → f.acct.landed x ≢ 0 → g.acct.landed x ≡ f.acct.landed x
  pub durable : (x : ℕ) → f.acct.durable x ≢ 0 → g.acct.durable x ≡ f.acct.durable x

pub grow_nums : {f g : Frame} {i : ℕ} {h : Thread} → Grow f g i → Nums f i h → Nums g i h
grow_nums {f} {g} {i} {h} u k =
    record {
      place = k.place;
      put = λ a b. omega (arith, k.put a b, u.head, u.tail);
      take = λ a. omega (arith, k.take a, u.head, u.top);
      item = k.item;
      idles = k.idles;
      bare = k.bare;
      p4 = k.p4;
      p5 = λ a b. let y = k.p5 a b in let z = k.item (omega arith) (omega arith) in u.landed h.number (λ e. z (sym y ∙ e)) ∙ y;
      p7 = λ a. u.shut (k.p7 a);
      p10 = λ a. u.shut (k.p10 a);
      t3 = k.t3;
      t4 = k.t4;
      t5 = k.t5;
      own = λ a b. omega (arith, k.own a b, u.copied);
      copy = λ a. u.copied ∙ k.copy a;
      carry = λ a z. let y = k.carry a z in u.landed h.number (λ e. z (sym y ∙ e)) ∙ y;
    }

pub grow : {R n : ℕ} {f g : Frame} {i : ℕ} {h : Thread} → Grow f g i → ThrOk R n f i h → ThrOk R n g i h
grow {h = h} u k = record {
  known = k.known;
  nums = grow_nums u k.nums;
  waits = record {
    p6 = λ e. elim (k.waits.p6 e) [ inl q ↦ inl q | inr q ↦ inr (u.durable h.number (λ z. k.nums.item (omega arith) (omega arith) (sym q ∙ z)) ∙ q) ];
    p10 = λ e. elim (k.waits.p10 e) [ inl q ↦ inl q | inr q ↦ inr (u.kept_shut q) ];
    t10 = λ e. elim (k.waits.t10 e) [ inl q ↦ inl q | inr q ↦ inr (omega (arith, u.copied_written)) ];
  };
}

-- a line is written back: the thread is released, and what it carries is kept
pub record Carried (R : ℕ) (f g : Frame) (l : Line) : Type 0 where
  pub same : (i : ℕ) → Grow f g i
  pub cell : (x : ℕ) → f.acct.landed x ≢ 0 → carries_cell l (x % R) ≡ true → g.acct.durable x ≡ f.acct.landed x
  pub copy : (i : ℕ) → carries_copy l i ≡ true → g.acct.copied_written i ≡ f.acct.copied i
  pub tail : carries_tail l ≡ true → g.kept_shut ≡ f.shut

-- a released wait: it goes on, or the line was carried
still_or : (l w v : Line) → w ≡ v → (cond (ends l w) None w ≡ v) ⊎ (ends l v ≡ true)
still_or l w v e = go (ends l w) refl
  where
    go : (b : Bool) → ends l w ≡ b → (cond b None w ≡ v) ⊎ (ends l v ≡ true)
    go true p = inr (sym (ap (ends l) e) ∙ p)
    go false p = inl e

pub free_nums : {f : Frame} {i : ℕ} (l : Line) {h : Thread} → Nums f i h → Nums f i (released l h)
unfolding released
free_nums l k = record {
  place = k.place;
  put = k.put;
  take = k.take;
  item = k.item;
  idles = k.idles;
  bare = k.bare;
  p4 = k.p4;
  p5 = k.p5;
  p7 = k.p7;
  p10 = k.p10;
  t3 = k.t3;
  t4 = k.t4;
  t5 = k.t5;
  own = k.own;
  copy = k.copy;
  carry = k.carry;
}

pub free : (R n : ℕ) (f g : Frame) (l : Line) → Carried R f g l → (i : ℕ) (h : Thread) → ThrOk R n f i h → ThrOk R n g i (released l h)
unfolding released ends
free R n f g l u i h k = record {
  known = k.known;
  nums = free_nums l (grow_nums (u.same i) k.nums);
  waits = record {
    p6 = λ e. elim (k.waits.p6 e) [ inl q ↦ six e (still_or l h.awaited _ q) | inr q ↦ inr ((u.same i).durable h.number (λ z. k.nums.item (omega arith) (omega arith) (sym q ∙ z)) ∙ q) ];
    p10 = λ e. elim (k.waits.p10 e) [ inl q ↦ ten e (still_or l h.awaited _ q) | inr q ↦ inr ((u.same i).kept_shut q) ];
    t10 = λ e. elim (k.waits.t10 e) [ inl q ↦ twenty e (still_or l h.awaited _ q) | inr q ↦ inr (omega (arith, (u.same i).copied_written)) ];
  };
}
  where
    six : h.place ≡ 6 → (cond (ends l h.awaited) None h.awaited ≡ CellLine (h.number % R)) ⊎ (ends l (CellLine (h.number % R)) ≡ true)
        → (cond (ends l h.awaited) None h.awaited ≡ CellLine (h.number % R)) ⊎ (g.acct.durable h.number ≡ h.item)
    six e (inl q) = inl q
    six e (inr q) = inr (let y = k.nums.p5 (omega arith) (omega arith) in let z = k.nums.item (omega arith) (omega arith) in u.cell h.number (λ o. z (sym y ∙ o)) q ∙ y)

    ten : h.place ≡ 10 → (cond (ends l h.awaited) None h.awaited ≡ Tail) ⊎ (ends l Tail ≡ true)
        → (cond (ends l h.awaited) None h.awaited ≡ Tail) ⊎ (g.kept_shut ≡ 1)
    ten e (inl q) = inl q
    ten e (inr q) = inr (u.tail q ∙ k.nums.p10 e)

    twenty : h.place ≡ 20 → (cond (ends l h.awaited) None h.awaited ≡ Copy i) ⊎ (ends l (Copy i) ≡ true)
        → (cond (ends l h.awaited) None h.awaited ≡ Copy i) ⊎ (h.number < g.acct.copied_written i)
    twenty e (inl q) = inl q
    twenty e (inr q) = inr (omega (arith, u.copy i q, k.nums.copy (omega arith)))
