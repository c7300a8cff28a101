-- A cut keeps the invariant of the tale: every confirmed number is then queued, or handed out or gone.
use Prim.Native.Nat.{ℕ, ◌%◌, ◌<◌, ◌≤◌}
use mathlib.Core.Path.{◌≡◌, refl, sym, ap, ◌∙◌}
use mathlib.Core.Logic.{◌≢◌, ◌⊎◌, inl, inr}
use mathlib.Core.Option.{some}
use mathlib.Core.List.Memᴰ
use mathlib.Core.List.{[], ◌∷◌}
use native.Mathlib.Omega.{arith}
use native.Mathlib.Decide.{dec_le}
use native.Mathlib.Nat.{mod-lt}
use Rattle.rules.specs.declared.Thread.{Thread}
use Rattle.rules.specs.declared.Event.TheVariants.{Cut as CutEvent}
use Rattle.rules.specs.Record.{idle, thread_at}
use Rattle.rules.specs.Memory.{tail_at}
use Rattle.rules.specs.Cut.{pass_mark, tail_of, head_of, finds}
use Rattle.rules.specs.State.{State}
use Rattle.rules.specs.Events.{cut}
use Rattle.rules.specs.Account.{Account, enters, mark_of, restarts}
use Rattle.rules.specs.Tale.{In, CutOff, Tale, tells, Gone}
use Rattle.rules.proofs.Tests.{get_or-all}
use Rattle.rules.proofs.Recovered.{mark_to_head, head_to_tail}
use Rattle.rules.proofs.D3Inv.{Inv, cells_of, threads_of, run_cell}
use Rattle.rules.proofs.D3Cut.{mark_is, mark_top, base_mark, mark, rest, rest_is, rest_of, run_tail, cut_closed, keep_cut}
use Rattle.rules.proofs.D3Queue.{below_tail, above_head}
use Rattle.rules.proofs.D3Drawn.{Dead, Taken, InCell, OutOf}
use Rattle.rules.proofs.D3Told.{Within, Says, HandsAt, ConfsAt, Told}

module _ (s : State) (a : Account) (v : Inv s a) (τ : Tale) (w : Told s a τ) where
  abbrev R : ℕ
  R = cells_of s

  abbrev n : ℕ
  n = threads_of s

  abbrev pm : ℕ
  pm = pass_mark (cells_of s) (threads_of s) s.kept

  abbrev hd : ℕ
  hd = head_of R pm s.kept

  abbrev tl : ℕ
  tl = tail_of R pm s.kept

  abbrev now : CutOff
  now = record { found = finds (cells_of s) (threads_of s) s.kept; held = τ.holds }

  -- a take that holds x below the pass mark is cut off: x is gone
  lost : (t x : ℕ) → 12 ≤ (thread_at s.control t).place → (thread_at s.control t).number ≡ x → x < pm → Gone n (now ∷ τ.cuts) x
  unfolding finds
  lost t x p e l = (now, Memᴰ.head refl, (t, ((v.thrs t).known (omega arith), (w.says t).held p ∙ ap some e, l)))

  -- the fate of a confirmed number below the pass mark
  fate : (x i : ℕ) → i ≢ 0 → a.head ≤ x → x < pm → a.durable x ≡ i → (τ.handed x ≡ i ∷ []) ⊎ Gone n (now ∷ τ.cuts) x
  fate x i z from past dur = by_draw (w.drawn.drawn x from (omega (arith, mark_is s a v, mark_top s a v)))
    where
      durable≢0 : a.durable x ≢ 0
      durable≢0 e = z (sym dur ∙ e)

      land : a.landed x ≡ i
      land = v.cells.sub x durable≢0 ∙ dur

      landed≢0 : a.landed x ≢ 0
      landed≢0 e = z (sym land ∙ e)

      by_cell : InCell (run_cell s (x % R)) x (a.landed x) ⊎ OutOf (thread_at s.control) τ.handed x (a.landed x) → Dead R (run_cell s) (thread_at s.control) x
          → (τ.handed x ≡ i ∷ []) ⊎ Gone n (now ∷ τ.cuts) x
      by_cell (inl k) (inl d) = absurd (omega arith)
      by_cell (inl k) (inr d) = absurd (landed≢0 (sym k.1 ∙ d.blank k.0))
      by_cell (inr (inl (t, k))) d = inr (lost t x (omega (arith, k.from)) k.is past)
      by_cell (inr (inr k)) d = inl (k ∙ ap (λ q. q ∷ []) land)

      by_draw : Taken R (run_cell s) (thread_at s.control) x → (τ.handed x ≡ i ∷ []) ⊎ Gone n (now ∷ τ.cuts) x
      by_draw (inl (t, k)) = inr (lost t x k.from k.is past)
      by_draw (inr d) = by_cell (w.drawn.here x landed≢0) d

  older : {x : ℕ} (c : CutOff) → Gone n τ.cuts x → Gone n (c ∷ τ.cuts) x
  older c (b, m, g) = (b, Memᴰ.tail m, g)

  -- what is gone lies below Head, and was not handed out
  gone_low : (x : ℕ) → Gone n (now ∷ τ.cuts) x → (x < hd) × (τ.handed x ≡ [])
  unfolding finds
  gone_low x (c, m, (t, (tn, e, l))) = go (Memᴰ.cases_cons m)
    where
      holder : τ.holds t ≡ some x → Within 12 20 (thread_at s.control t) x
      holder q = elim (dec_le 12 (thread_at s.control t).place) [
        | yes p ↦ (let k = (w.says t).held p in record { from = p; upto = (v.thrs t).nums.place; is = cc })
        | no p ↦ (let k = (w.says t).none_held (omega arith) in cc)
      ]

      unhanded : Within 12 20 (thread_at s.control t) x → τ.handed x ≡ []
      unhanded k = elim (w.hands x) [ inl q ↦ q | inr q ↦ absurd (q.2.free t k) ]

      go : (c ≡ now) ⊎ In c τ.cuts → (x < hd) × (τ.handed x ≡ [])
      go (inl q) = let b : x < pm = rw q at l in (omega (arith, mark_to_head R pm s.kept), unhanded (holder (rw q at e)))
      go (inr q) = let k = w.gones x (c, q, (t, (tn, e, l))) in (omega (arith, k.0, base_mark s a v, mark_is s a v, mark_to_head R pm s.kept), k.1)

  -- every thread is at rest
  at_rest : (P : Thread → Type 0) (i : ℕ) → P idle → P (thread_at (cut s).state.control i)
  unfolding cut thread_at
  at_rest P i p = rw (get_or-all 8 i idle) p

  rest_within : (lo hi i x : ℕ) → 1 ≤ lo → Within lo hi (thread_at (cut s).state.control i) x → ⊥
  rest_within lo hi i x l = at_rest (λ y. Within lo hi y x → ⊥) i (λ k. omega arith)

  new_tail : tail_at (cells_of s) (threads_of s) (cut s).state.running ≡ tl
  unfolding mark
  new_tail = run_tail s a v

  abbrev later : Account
  later = restarts (cells_of s) (threads_of s) a (finds (cells_of s) (threads_of s) s.kept)

  hd_mark : hd ≤ mark_of (cells_of s) (threads_of s) later
  unfolding mark_of finds
  hd_mark = omega arith

  hand : (x : ℕ) → HandsAt (mark_of R n a) a.head (thread_at s.control) a.landed τ.landings τ.handed x
      → HandsAt (mark_of R n later) hd (thread_at (cut s).state.control) (rest s a v) τ.landings τ.handed x
  hand x (inl q) = inl q
  hand x (inr (i, q, f)) = inr (
    i,
    q,
    record {
      item = f.item;
      under = omega (arith, f.under, mark_is s a v, mark_to_head R pm s.kept, hd_mark);
      free = λ t k. rest_within 12 20 t x (omega arith) k;
      from = f.from;
      is = λ b. absurd (omega (arith, f.under, mark_is s a v, mark_to_head R pm s.kept));
    },
  )

  conf : (x : ℕ) → ConfsAt n a.head (tail_at R n s.running) (thread_at s.control) a.durable τ.landings τ.handed τ.cuts τ.confirmed x
      → ConfsAt n hd tl (thread_at (cut s).state.control) (rest s a v) τ.landings τ.handed (now ∷ τ.cuts) τ.confirmed x
  unfolding mark
  conf x (inl q) = inl q
  conf x (inr (i, q, f)) = inr (
    i,
    q,
    elim (dec_le pm x) [
      | yes l ↦ (let d : a.durable x ≡ i = f.kept (omega (arith, base_mark s a v, mark_is s a v)) in
          let o : a.durable x ≢ 0 = λ e. f.item (sym d ∙ e) in
          record { item = f.item; under = below_tail s a v x l o; free = λ t k. rest_within 2 10 t x (omega arith) k; from = f.from; kept = λ b. rest_of s a v x l ∙ d; past = λ b. absurd (omega (arith, above_head s a v x l o)) })
      | no l ↦ record { item = f.item; under = omega (arith, mark_to_head R pm s.kept, head_to_tail R pm s.kept); free = λ t k. rest_within 2 10 t x (omega arith) k; from = f.from; kept = λ b. absurd (omega (arith, mark_to_head R pm s.kept)); past = λ b. fell (dec_le a.head x) (omega arith) }
    ],
  )
    where
      fell : Dec (a.head ≤ x) → x < pm → (τ.handed x ≡ i ∷ []) ⊎ Gone n (now ∷ τ.cuts) x
      fell (yes b) l = fate x i f.item b l (f.kept b)
      fell (no b) l = elim (f.past (omega arith)) [ inl k ↦ inl k | inr k ↦ inr (older now k) ]

  pub tell_cut : Told (cut s).state (enters (cells_of s) (threads_of s) a (cut s).answer) (tells τ CutEvent (cut s).answer)
  unfolding cut enters tells finds rest
  tell_cut =
      let k = keep_cut s a v in
      record {
        drawn = record {
          seen = λ t p q. absurd (rest_within 3 4 t _ (omega arith) (record { from = p; upto = q; is = refl }));
          here = λ x z. inl (k.cells.log x z (omega (arith, k.cells.run_mark (x % R) (mod-lt x v.pos), k.cells.from x z)));
          drawn = λ x lo hi. absurd (omega arith);
        };
        says = λ i. at_rest (Says _ i) i (record { puts = λ p q. refl; takes = λ p. absurd (omega arith); none_held = λ p. refl; held = λ p. absurd (omega arith) });
        takes = λ i j x p q. absurd (rest_within 12 20 i x (omega arith) p);
        puts = λ i j x p q. absurd (rest_within 2 10 i x (omega arith) p);
        hands = λ x. hand x (w.hands x);
        confs = λ x. rw new_tail (conf x (w.confs x));
        gones = gone_low;
        lands = λ x z. let q = rest_is s a v x z in rw (q.2 ∙ sym (v.cells.sub x q.0)) (w.lands x (λ e. q.0 (sym (v.cells.sub x q.0) ∙ e)));
        closed = λ q. cut_closed s a v ∙ w.closed q;
      }
