-- Where the invariant holds, the queue that recovery reads is the account's: its numbers and items, Head, Tail and count.
use Prim.Native.Nat.{ℕ, zero, suc, ◌+◌, ◌-◌, ◌%◌, ◌<◌, ◌≤◌}
use mathlib.Core.Path.{◌≡◌, refl, sym, ap, ◌∙◌}
use mathlib.Core.Logic.{◌≢◌}
use mathlib.Core.Bool.{true, ◌&&◌}
use mathlib.Core.List.{List, [], ◌∷◌}
use native.Mathlib.Omega.{arith}
use native.Mathlib.Decide.{ℕ_discrete, dec_lt}
use native.Mathlib.Nat.{mod-lt}
use lib.ListN.{length}
use lib.Dec.{eqb}
use borrow.Author.Tests.{eqb-true, eq-eqb, ne_eqb}
use Rattle.rules.specs.declared.Cell.{Cell}
use Rattle.rules.specs.Upto.{join_from}
use Rattle.rules.specs.Memory.{cell_at}
use Rattle.rules.specs.Cut.{pass_mark, queued, tail_to, head_to, tail_of, head_of, finds, Entry, entry, entry_if, entries_at, queue_of}
use Rattle.rules.specs.State.{State}
use Rattle.rules.specs.Account.{Account, mark_of, listed, queue_by, first_of, past_of}
use Rattle.rules.proofs.Tests.{cond_cases, both}
use Rattle.rules.proofs.Recovered.{queued_is, tail_from, tail_over, head_low, mark_to_head, head_to_tail}
use Rattle.rules.proofs.Joined.{join_none, join_same}
use Rattle.rules.proofs.Queue.{queue_length}
use Rattle.rules.proofs.D3Walk.{join_only, join_two}
use Rattle.rules.proofs.D3Inv.{Inv, cells_of, threads_of, kept_cell}
use Rattle.rules.proofs.D3Cut.{mark_is, mark, stands, stands_queued}

-- Tail and Head are those of queued cells
module _ (R mark : ℕ) (m : List ℕ) where
  abbrev Queued : ℕ → ℕ → Type 0
  Queued k x = (j : ℕ) × (j < k) × (queued mark (cell_at R m j) ≡ true) × ((cell_at R m j).index ≡ x)

  more : {k : ℕ} {x : ℕ} → Queued k x → Queued (suc k) x
  more (j, l, q, e) = (j, omega arith, q, e)

  pub tail_met : (k : ℕ) → mark < tail_to R mark m k → (x : ℕ) × (tail_to R mark m k ≡ x + 1) × ((j : ℕ) × (j < k) × (queued mark (cell_at R m j) ≡ true) × ((cell_at R m j).index ≡ x))
  tail_met zero = λ h. absurd (omega arith)
  tail_met (suc k) = cond_cases (λ v. mark < v → (x : ℕ) × (v ≡ x + 1) × Queued (suc k) x) (queued mark (cell_at R m k))
      (λ q h. elim (dec_lt ((cell_at R m k).index + 1) (tail_to R mark m k)) [
        | yes l ↦ (let r = tail_met k (omega (arith, (queued_is mark (cell_at R m k) q).1)) in (r.0, omega (arith, r.1), more r.2))
        | no l ↦ ((cell_at R m k).index, omega arith, (k, omega arith, q, refl))
      ])
      (λ q h. let r = tail_met k h in (r.0, r.1, more r.2))

  pub head_met : (tail k : ℕ) → head_to R mark tail m k < tail → (j : ℕ) × (j < k) × (queued mark (cell_at R m j) ≡ true) × ((cell_at R m j).index ≡ head_to R mark tail m k)
  head_met tail zero = λ h. absurd (omega arith)
  head_met tail (suc k) = cond_cases (λ v. v < tail → Queued (suc k) v) (queued mark (cell_at R m k))
      (λ q h. elim (dec_lt (head_to R mark tail m k) (cell_at R m k).index) [
        | yes l ↦ (let r = head_met tail k (omega arith) in (r.0, omega (arith, r.1), r.2, omega (arith, r.3)))
        | no l ↦ (k, omega arith, q, omega arith)
      ])
      (λ q h. more (head_met tail k h))

-- the first and the last of a walk over a function of numbers
module _ (a : Account) where
  pub listed_none : (x : ℕ) → a.durable x ≡ 0 → listed a x ≡ []
  unfolding listed
  listed_none x e = rw (eq-eqb (a.durable x) 0 e)

  pub listed_one : (x : ℕ) → a.durable x ≢ 0 → listed a x ≡ entry x (a.durable x) ∷ []
  unfolding listed
  listed_one x z = rw (ne_eqb (a.durable x) 0 z)

  first_is : (lo k d h : ℕ) → lo ≤ h → h < lo + k → a.durable h ≢ 0 → ((x : ℕ) → lo ≤ x → x < h → a.durable x ≡ 0) → first_of d (join_from (listed a) lo k) ≡ h
  unfolding first_of
  first_is lo zero d h p q z f = absurd (omega arith)
  first_is lo (suc k) d h p q z f = elim (ℕ_discrete lo h) [
    | yes e ↦ rw (listed_one lo (rw (sym e) at z)) e
    | no n ↦ rw (listed_none lo (f lo (omega arith) (omega arith))) (first_is (suc lo) k d h (omega arith) (omega arith) z (λ x c b. f x (omega arith) b))
  ]

  past_is : (lo k d t : ℕ) → lo ≤ t → t < lo + k → a.durable t ≢ 0 → ((x : ℕ) → t < x → a.durable x ≡ 0) → past_of d (join_from (listed a) lo k) ≡ t + 1
  unfolding past_of
  past_is lo zero d t p q z f = absurd (omega arith)
  past_is lo (suc k) d t p q z f = elim (ℕ_discrete lo t) [
    | yes e ↦ rw (listed_one lo (rw (sym e) at z), join_none (listed a) (suc lo) k (λ x c b. listed_none x (f x (omega arith)))) (ap (λ y. y + 1) e)
    | no n ↦ later (ℕ_discrete (a.durable lo) 0) (λ d. past_is (suc lo) k d t (omega arith) (omega arith) z f)
  ]
    where
      later : Dec (a.durable lo ≡ 0) → ((d : ℕ) → past_of d (join_from (listed a) (suc lo) k) ≡ t + 1) → past_of d (join_from (listed a) lo (suc k)) ≡ t + 1
      later (yes e) g = rw (listed_none lo e) (g d)
      later (no w) g = rw (listed_one lo w) (g (lo + 1))

module _ (s : State) (a : Account) (v : Inv s a) where
  abbrev R : ℕ
  R = cells_of s

  abbrev pm : ℕ
  pm = pass_mark (cells_of s) (threads_of s) s.kept

  abbrev tl : ℕ
  tl = tail_of R pm s.kept

  abbrev hd : ℕ
  hd = head_of R pm s.kept

  -- a queued cell's number is durable, and a durable number past the mark lies below Tail
  durable_of : (j : ℕ) → j < cells_of s → queued (pass_mark (cells_of s) (threads_of s) s.kept) (kept_cell s j) ≡ true → a.durable (kept_cell s j).index ≢ 0
  durable_of j l q e = (queued_is pm (kept_cell s j) q).0 (sym (v.cells.kept_in j l (queued_is pm (kept_cell s j) q).0) ∙ e)

  pub below_tail : (x : ℕ) → pass_mark (cells_of s) (threads_of s) s.kept ≤ x → a.durable x ≢ 0 → x < tail_of (cells_of s) (pass_mark (cells_of s) (threads_of s) s.kept) s.kept
  unfolding tail_of mark
  below_tail x p z = omega (arith, tail_over R pm s.kept R (x % R) (mod-lt x v.pos) (stands_queued s a v x z p), stands s a v x z p)

  pub above_head : (x : ℕ) → pass_mark (cells_of s) (threads_of s) s.kept ≤ x → a.durable x ≢ 0 → head_of (cells_of s) (pass_mark (cells_of s) (threads_of s) s.kept) s.kept ≤ x
  unfolding head_of mark
  above_head x p z = omega (arith, head_low R pm s.kept tl R (x % R) (mod-lt x v.pos) (stands_queued s a v x z p), stands s a v x z p)

  gone_of : (x : ℕ) → (a.durable x ≢ 0 → ⊥) → a.durable x ≡ 0
  gone_of x f = elim (ℕ_discrete (a.durable x) 0) [ yes e ↦ e | no z ↦ absurd (f z) ]

  bounded : (x : ℕ) → a.bound ≤ x → a.durable x ≡ 0
  bounded x l = gone_of x (λ z. let y = v.cells.sub x z in let w = v.cells.upto x (λ e. z (sym y ∙ e)) in omega arith)

  -- the queued cells of one number
  elsewhere : (x j : ℕ) → j < cells_of s → j ≢ x % cells_of s → entry_if (cells_of s) (pass_mark (cells_of s) (threads_of s) s.kept) s.kept x j ≡ []
  unfolding entry_if
  elsewhere x j l d = cond_cases (λ (y : List Entry). y ≡ []) (queued pm (kept_cell s j) && eqb (kept_cell s j).index x)
      (λ e. absurd (d (sym (v.cells.kept_mod j l) ∙ ap (λ w. w % R) (eqb-true (kept_cell s j).index x (both (queued pm (kept_cell s j)) _ e).1))))
      (λ e. refl)

  here : (x : ℕ) → pass_mark (cells_of s) (threads_of s) s.kept ≤ x → entry_if (cells_of s) (pass_mark (cells_of s) (threads_of s) s.kept) s.kept x (x % cells_of s) ≡ listed a x
  unfolding entry_if mark
  here x p = elim (ℕ_discrete (a.durable x) 0) [
    | yes e ↦ rw (listed_none a x e) (cond_cases (λ (y : List Entry). y ≡ []) (queued pm c && eqb c.index x)
        (λ t. let q = both (queued pm c) _ t in
        absurd (durable_of j l q.0 (ap a.durable (eqb-true c.index x q.1) ∙ e)))
        (λ t. refl))
    | no z ↦ (let k = stands s a v x z p in
        rw (listed_one a x z, stands_queued s a v x z p, eq-eqb c.index x k.0, k.1))
  ]
    where
      j : ℕ
      j = x % R

      l : j < R
      l = mod-lt x v.pos

      c : Cell
      c = kept_cell s j

  pub entries_agree : (x : ℕ) → pass_mark (cells_of s) (threads_of s) s.kept ≤ x → entries_at (cells_of s) (pass_mark (cells_of s) (threads_of s) s.kept) s.kept x ≡ listed a x
  unfolding entries_at
  entries_agree x p = join_only _ 0 R (x % R) (omega arith) (omega (arith, mod-lt x v.pos)) (λ j lo hi d. elsewhere x j (omega arith) d) ∙ here x p

  pub queues_agree : queue_of (cells_of s) (threads_of s) s.kept ≡ queue_by (cells_of s) (threads_of s) a
  unfolding queue_of queue_by
  queues_agree = rw (mark_is s a v) (join_same _ _ pm (tl - pm) (λ x p q. entries_agree x p)
      ∙ join_two (listed a) pm (a.bound - pm) (tl - pm) (λ x l. listed_none a x (bounded x (omega arith)))
      (λ x l. listed_none a x (gone_of x (λ z. omega (arith, below_tail x (omega arith) z, under)))))
    where
      under : pm ≤ tl
      under = unfold tail_of in tail_from R pm s.kept R

  pub unwalked : queue_by (cells_of s) (threads_of s) a ≡ join_from (listed a) pm (a.bound - pm)
  unfolding queue_by
  unwalked = rw (mark_is s a v)

  pub in_walk : (x : ℕ) → pm ≤ x → a.durable x ≢ 0 → x < pm + (a.bound - pm)
  in_walk x p z = elim (dec_lt x a.bound) [ yes l ↦ omega arith | no l ↦ absurd (z (bounded x (omega arith))) ]

  -- Head and Tail
  pub ends_agree : (first_of (mark_of (cells_of s) (threads_of s) a) (queue_by (cells_of s) (threads_of s) a) ≡ head_of (cells_of s) (pass_mark (cells_of s) (threads_of s) s.kept) s.kept)
      × (past_of (mark_of (cells_of s) (threads_of s) a) (queue_by (cells_of s) (threads_of s) a) ≡ tail_of (cells_of s) (pass_mark (cells_of s) (threads_of s) s.kept) s.kept)
  unfolding tail_of head_of first_of past_of
  ends_agree = rw (unwalked, mark_is s a v) (elim (dec_lt pm tl) [ yes l ↦ some l | no l ↦ none l ])
    where
      up : pm ≤ tl
      up = tail_from R pm s.kept R

      pm_hd : pm ≤ hd
      pm_hd = mark_to_head R pm s.kept

      none : ¬ (pm < tl) → (first_of pm (join_from (listed a) pm (a.bound - pm)) ≡ hd) × (past_of pm (join_from (listed a) pm (a.bound - pm)) ≡ tl)
      none l = let e = join_none (listed a) pm (a.bound - pm) (λ x p q. listed_none a x (gone_of x (λ z. omega (arith, below_tail x p z)))) in
          (rw e (omega (arith, head_to_tail R pm s.kept, pm_hd)), rw e (omega (arith, up)))

      some : pm < tl → (first_of pm (join_from (listed a) pm (a.bound - pm)) ≡ hd) × (past_of pm (join_from (listed a) pm (a.bound - pm)) ≡ tl)
      some l =
          let t = tail_met R pm s.kept R l in
          let last : a.durable t.0 ≢ 0 = rw t.2.3 at (durable_of t.2.0 t.2.1 t.2.2) in
          let tl-is : tl ≡ t.0 + 1 = t.1 in
          let h = head_met R pm s.kept tl R (omega (arith, above_head t.0 (omega arith) last, tl-is)) in
          let first : a.durable hd ≢ 0 = rw h.3 at (durable_of h.0 h.1 h.2) in (
            first_is a pm (a.bound - pm) pm hd pm_hd (in_walk hd pm_hd first) first (λ x p q. gone_of x (λ z. omega (arith, above_head x p z))),
            past_is a pm (a.bound - pm) pm t.0 (omega arith) (in_walk t.0 (omega arith) last) last (λ x q. gone_of x (λ z. omega (arith, below_tail x (omega arith) z)))
                ∙ sym tl-is,
          )

  -- the count
  pub counts_agree : (finds (cells_of s) (threads_of s) s.kept).count ≡ length (queue_by (cells_of s) (threads_of s) a)
  counts_agree = sym (queue_length (cells_of s) (threads_of s) s.kept) ∙ ap length queues_agree
