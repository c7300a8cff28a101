-- Every number that takes have drawn is in a busy take's hands, or nothing can land under it any more;
-- and whatever landed stands in its cell, is carried by a take, or was handed out. Functions only, no list of memory.
use Prim.Native.Nat.{ℕ, ◌+◌, ◌%◌, ◌<◌, ◌≤◌}
use mathlib.Core.Path.{◌≡◌, ap, ◌∙◌}
use mathlib.Core.Logic.{◌≢◌, ◌⊎◌, inl, inr}
use mathlib.Core.List.{List, [], ◌∷◌}
use native.Mathlib.Omega.{arith}
use native.Mathlib.Decide.{ℕ_discrete}
use native.Mathlib.Nat.{mod-lt}
use Rattle.rules.specs.declared.Cell.{Cell}
use Rattle.rules.specs.declared.Thread.{Thread}
use Rattle.rules.proofs.D3Cells.{Upd, upd_cases}
use Rattle.rules.proofs.D3Inv.{TUpd, thr_cases}

-- a take at T2 to T5 with this number
pub record Busy (h : Thread) (x : ℕ) : Type 0 where
  pub from : 12 ≤ h.place
  pub upto : h.place ≤ 15
  pub is : h.number ≡ x

-- a take at T8 to T10 with this number and item
pub record Carries (h : Thread) (x i : ℕ) : Type 0 where
  pub from : 18 ≤ h.place
  pub is : h.number ≡ x
  pub item : h.item ≡ i

-- a cell under which x cannot land: it is flagged, and every put that may still match it has a later number
pub record Flagged (R : ℕ) (c : Cell) (th : ℕ → Thread) (x : ℕ) : Type 0 where
  pub safe : c.safe ≡ 0
  pub blank : c.index ≡ x → c.item ≡ 0
  pub late : (t : ℕ) → (th t).place ≡ 4 → (th t).number % R ≡ x % R → (th t).looked ≡ c → x < (th t).number

abbrev pub Dead : ℕ → (ℕ → Cell) → (ℕ → Thread) → ℕ → Type 0
Dead R c th x = (x < (c (x % R)).index) ⊎ Flagged R (c (x % R)) th x

abbrev pub Taken : ℕ → (ℕ → Cell) → (ℕ → Thread) → ℕ → Type 0
Taken R c th x = ((t : ℕ) × Busy (th t) x) ⊎ Dead R c th x

abbrev pub InCell : Cell → ℕ → ℕ → Type 0
InCell c x i = (c.index ≡ x) × (c.item ≡ i)

abbrev pub OutOf : (ℕ → Thread) → (ℕ → List ℕ) → ℕ → ℕ → Type 0
OutOf th handed x i = ((t : ℕ) × Carries (th t) x i) ⊎ (handed x ≡ i ∷ [])

pub record Drawn (R base top : ℕ) (c : ℕ → Cell) (th : ℕ → Thread) (landed : ℕ → ℕ) (handed : ℕ → List ℕ) : Type 0 where
  pub seen : (t : ℕ) → 3 ≤ (th t).place → (th t).place ≤ 4 → (th t).looked.index ≤ (c ((th t).number % R)).index
  pub here : (x : ℕ) → landed x ≢ 0 → InCell (c (x % R)) x (landed x) ⊎ OutOf th handed x (landed x)
  pub drawn : (x : ℕ) → base ≤ x → x < top → Taken R c th x

abbrev Seen : ℕ → (ℕ → Cell) → Thread → Type 0
Seen R c h = 3 ≤ h.place → h.place ≤ 4 → h.looked.index ≤ (c (h.number % R)).index

abbrev Late : ℕ → Cell → ℕ → Thread → Type 0
Late R c x h = h.place ≡ 4 → h.number % R ≡ x % R → h.looked ≡ c → x < h.number

-- one thread's record changes, and perhaps what was handed out
module _ (R base top : ℕ) (c : ℕ → Cell) (th : ℕ → Thread) (landed : ℕ → ℕ) (handed : ℕ → List ℕ) (k : Drawn R base top c th landed handed) (pos : 0 < R)
    (th' : ℕ → Thread) (t : ℕ) (h : Thread) (u : TUpd th th' t h) (handed' : ℕ → List ℕ)
    (more : (x i : ℕ) → handed x ≡ i ∷ [] → handed' x ≡ i ∷ []) (goes : (x i : ℕ) → i ≢ 0 → Carries (th t) x i → Carries h x i ⊎ (handed' x ≡ i ∷ [])) where
  pub out_on : (x i : ℕ) → i ≢ 0 → OutOf th handed x i → OutOf th' handed' x i
  out_on x i o (inr e) = inr (more x i e)
  out_on x i o (inl (j, y)) = elim (ℕ_discrete j t) [ yes e ↦ mine (goes x i o (rw e at y)) | no d ↦ inl (j, rw (u.other j d) y) ]
    where
      mine : Carries h x i ⊎ (handed' x ≡ i ∷ []) → OutOf th' handed' x i
      mine (inl z) = inl (t, rw u.same z)
      mine (inr z) = inr z

  -- what a changed record and changed cells leave of the numbers drawn
  move : (c' : ℕ → Cell) → ((x : ℕ) → x < top → Busy (th t) x → Busy h x ⊎ Dead R c' th' x) → ((x : ℕ) → x < top → Dead R c th x → Dead R c' th' x)
      → (x : ℕ) → x < top → Taken R c th x → Taken R c' th' x
  move c' b f x l (inr y) = inr (f x l y)
  move c' b f x l (inl (i, y)) = elim (ℕ_discrete i t) [ yes e ↦ mine (b x l (rw e at y)) | no d ↦ inl (i, rw (u.other i d) y) ]
    where
      mine : Busy h x ⊎ Dead R c' th' x → Taken R c' th' x
      mine (inl z) = inl (t, rw u.same z)
      mine (inr z) = inr z

  -- a row that leaves the cells
  pub still_drawn : (3 ≤ h.place → h.place ≤ 4 → h.looked.index ≤ (c (h.number % R)).index)
      → ((x : ℕ) → Busy (th t) x → Busy h x ⊎ (x < (c (x % R)).index))
      → ((x : ℕ) → x < top → h.place ≡ 4 → h.looked ≡ c (x % R) → (c (x % R)).safe ≡ 0 → x < h.number)
      → Drawn R base top c th' landed handed'
  still_drawn s b l = record {
    seen = thr_cases (λ i. Seen R c) u s (λ i d. k.seen i);
    here = λ x z. elim (k.here x z) [ inl y ↦ inl y | inr y ↦ inr (out_on x (landed x) z y) ];
    drawn = λ x lo hi. move c (λ y m z. weak y (b y z)) dead x hi (k.drawn x lo hi);
  }
    where
      weak : (x : ℕ) → Busy h x ⊎ (x < (c (x % R)).index) → Busy h x ⊎ Dead R c th' x
      weak x (inl y) = inl y
      weak x (inr y) = inr (inl y)

      dead : (x : ℕ) → x < top → Dead R c th x → Dead R c th' x
      dead x hi (inl y) = inl y
      dead x hi (inr y) = inr (record { safe = y.safe; blank = y.blank; late = thr_cases (λ i. Late R (c (x % R)) x) u (λ p m z. l x hi p z y.safe) (λ i d. y.late i) })

  -- where the index rises past every old look, no look of before fits
  pub risen : (3 ≤ h.place → h.place ≤ 4 → ⊥) → (j : ℕ) (y : Cell) → (c j).index < y.index → y.safe ≡ (c j).safe → y.item ≡ 0
      → (x : ℕ) → x % R ≡ j → Flagged R (c j) th x → Flagged R y th' x
  risen off j y up s z x e f = record {
    safe = s ∙ f.safe;
    blank = λ q. z;
    late = thr_cases (λ i. Late R y x) u (λ p m q. absurd (off (omega arith) (omega arith)))
        (λ i d p m q. absurd (omega (arith, ap (λ w. w.index) q, (rw (m ∙ e) at (k.seen i (omega arith) (omega arith))))));
  }

  -- a row that changes a cell, and leaves the thread away from P3 and P4
  module _ (c' : ℕ → Cell) (j : ℕ) (y : Cell) (w : Upd c c' R j y) (grows : (c j).index ≤ y.index) (landed' : ℕ → ℕ)
      (off : 3 ≤ h.place → h.place ≤ 4 → ⊥)
      (b : (x : ℕ) → x < top → Busy (th t) x → Busy h x ⊎ Dead R c' th' x)
      (f : (x : ℕ) → x < top → x % R ≡ j → Flagged R (c j) th x → (x < y.index) ⊎ Flagged R y th' x)
      (hr : (x : ℕ) → landed' x ≢ 0 → InCell (c' (x % R)) x (landed' x) ⊎ OutOf th' handed' x (landed' x)) where
    index_grows : (i : ℕ) → i < R → (c i).index ≤ (c' i).index
    index_grows i l = upd_cases (λ z. (c i).index ≤ z.index) w i l (λ e. rw e grows) (λ d. omega arith)

    dead_on : (x : ℕ) → x < top → Dead R c th x → Dead R c' th' x
    dead_on x l (inl z) = inl (omega (arith, index_grows (x % R) (mod-lt x pos)))
    dead_on x l (inr z) = upd_cases (λ q. (x < q.index) ⊎ Flagged R q th' x) w (x % R) (mod-lt x pos)
        (λ e. f x l e (rw e at z))
        (λ d. inr (record { safe = z.safe; blank = z.blank; late = thr_cases (λ i. Late R (c (x % R)) x) u (λ p m q. absurd (off (omega arith) (omega arith))) (λ i d. z.late i) }))

    pub cell_drawn : Drawn R base top c' th' landed' handed'
    cell_drawn = record {
      here = hr;
      seen = thr_cases (λ i. Seen R c') u (λ p q. absurd (off p q)) (λ i d p q. omega (arith, k.seen i p q, index_grows ((th i).number % R) (mod-lt (th i).number pos)));
      drawn = λ x lo hi. move c' b dead_on x hi (k.drawn x lo hi);
    }

module _ (R base top : ℕ) (c : ℕ → Cell) (th : ℕ → Thread) (landed : ℕ → ℕ) (handed : ℕ → List ℕ) (k : Drawn R base top c th landed handed) where
  -- the same cells under another name
  pub drawn_ext : 0 < R → (c' : ℕ → Cell) → ((j : ℕ) → j < R → c' j ≡ c j) → Drawn R base top c' th landed handed
  drawn_ext pos c' e = record {
    seen = λ t. rw (e ((th t).number % R) (mod-lt (th t).number pos)) (k.seen t);
    here = λ x. rw (e (x % R) (mod-lt x pos)) (k.here x);
    drawn = λ x lo hi. rw (e (x % R) (mod-lt x pos)) (k.drawn x lo hi);
  }

  -- Head is drawn
  pub drawn_raise : Taken R c th top → Drawn R base (top + 1) c th landed handed
  drawn_raise y = record { seen = k.seen; here = k.here; drawn = λ x lo hi. elim (ℕ_discrete x top) [ yes e ↦ rw e y | no d ↦ k.drawn x lo (omega arith) ] }
