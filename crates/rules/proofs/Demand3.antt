-- Demand 3 holds of every run from a fresh ring.
use Prim.Native.Nat.{ℕ, ◌+◌, ◌-◌, ◌<◌, ◌≤◌}
use mathlib.Core.Path.{◌≡◌, refl, sym, ◌∙◌, subst}
use mathlib.Core.Logic.{◌≢◌, ◌⊎◌, inl, inr}
use mathlib.Core.Option.{Option, some}
use mathlib.Core.List.Memᴰ
use mathlib.Core.List.{List, [], ◌∷◌}
use native.Mathlib.Omega.{arith}
use native.Mathlib.Decide.{ℕ_discrete, dec_le}
use lib.ListN.{length}
use Rattle.rules.specs.declared.Found.{Found}
use Rattle.rules.specs.declared.Event.{Event}
use Rattle.rules.specs.declared.Event.TheVariants.{Go, Cut as CutEvent}
use Rattle.rules.specs.declared.Answer.TheVariants.{Cut}
use Rattle.rules.specs.Record.{idle, thread_at}
use Rattle.rules.specs.Upto.{join_from}
use Rattle.rules.specs.Cut.{pass_mark, finds, Entry, entry, queue_of}
use Rattle.rules.specs.State.{State, Out}
use Rattle.rules.specs.Events.{step_thread, cut, event, fresh_state, after, answers}
use Rattle.rules.specs.Account.{Account, opened, listed, enters, account}
use Rattle.rules.specs.Tale.{In, Tale, untold, tells, tale, Gone}
use Rattle.rules.specs.Demand3.{Unqueued, ExactlyOne, first, second, third, AtCut, Demand3Holds}
use Rattle.rules.proofs.Tests.{get_or-all}
use Rattle.rules.proofs.Joined.{join_from_lem, in_join}
use Rattle.rules.proofs.D3Dispatch.{event_cases}
use Rattle.rules.proofs.D3Inv.{Inv, cells_of, threads_of}
use Rattle.rules.proofs.D3Cut.{mark_is, rest_is, rest}
use Rattle.rules.proofs.D3Queue.{listed_none, listed_one, queues_agree, unwalked, in_walk, above_head}
use Rattle.rules.proofs.D3Agree.{Reached, reach, cut-finds, cut-agrees, fresh_reached}
use Rattle.rules.proofs.D3Told.{no_item, Within, Told}
use Rattle.rules.proofs.D3Moves.{tell_row}
use Rattle.rules.proofs.D3Written.{tell_put, tell_take, tell_back}
use Rattle.rules.proofs.D3Heard.{heard, answered, Fits, fits}
use Rattle.rules.proofs.D3Within.{within}
use Rattle.rules.proofs.D3CutOff.{tell_cut}
use Rattle.rules.proofs.Recovered.{mark_to_head}

-- an entry of a walk stands at its number, and each number's entry is in the walk
module _ (a : Account) (lo k : ℕ) where
  at_number : (e : Entry) → In e (join_from (listed a) lo k) → (lo ≤ e.number) × (a.durable e.number ≢ 0)
  at_number e m = let q = join_from_lem (listed a) lo k m in here q.0 q.1 q.3 (ℕ_discrete (a.durable q.0) 0)
    where
      here : (x : ℕ) → lo ≤ x → In e (listed a x) → Dec (a.durable x ≡ 0) → (lo ≤ e.number) × (a.durable e.number ≢ 0)
      here x l j (yes z) = absurd (Memᴰ.not-nil (rw (listed_none a x z) at j))
      here x l j (no z) = let q : e ≡ entry x (a.durable x) = Memᴰ.eq_of_singleton (rw (listed_one a x z) at j) in rw q (l, z)

  stands_in : (x : ℕ) → lo ≤ x → x < lo + k → a.durable x ≢ 0 → In (entry x (a.durable x)) (join_from (listed a) lo k)
  stands_in x p q z = in_join (listed a) lo k x p q (rw (listed_one a x z) (Memᴰ.head refl))

-- every event keeps the invariant of the tale
module _ (s : State) (a : Account) (v : Inv s a) (τ : Tale) (w : Told s a τ) where
  abbrev Tells : Event → Out → Type 0
  Tells e o = Told o.state (enters (cells_of s) (threads_of s) a o.answer) (tells τ e o.answer)

  tell_go : (i : ℕ) → i < threads_of s → 1 ≤ (thread_at s.control i).place → Tells (Go i) (step_thread s i)
  unfolding step_thread
  tell_go i l b = tell_row s a v τ w i l b

  pub tell : (e : Event) → Told (event s e).state (enters (cells_of s) (threads_of s) a (event s e).answer) (tells τ e (event s e).answer)
  unfolding enters tells
  tell = event_cases Tells s
      (record { refuses = λ e k. w; put = tell_put s a v τ w; take = tell_take s a v τ w; go = tell_go; back = tell_back s a v τ w; cuts = tell_cut s a v τ w })

-- what holds after a run
pub record Ran (R n : ℕ) (s : State) (a : Account) (τ : Tale) : Type 0 where
  pub reached : Reached R n s a
  pub told : Told s a τ

pub runs : (R n : ℕ) (s : State) (a : Account) (τ : Tale) → Ran R n s a τ → (es : List Event) → Ran R n (after s es) (account R n a (answers s es)) (tale τ es (answers s es))
unfolding after answers account tale
runs R n s a τ w [] = w
runs R n s a τ w (e ∷ es) = runs R n (event s e).state (enters R n a (event s e).answer) (tells τ e (event s e).answer)
    (record { reached = reach R n s a w.reached e; told = rw (sym w.reached.cells, sym w.reached.threads) (tell s a w.reached.inv τ w.told e) }) es

fresh_told : (R n S : ℕ) (r k : List ℕ) → Told (fresh_state R n S r k) opened untold
unfolding fresh_state opened untold thread_at
fresh_told R n S r k = record {
  drawn = record { seen = λ t p q. absurd (rest t 3 4 _ (omega arith) (record { from = p; upto = q; is = refl })); here = λ x z. absurd (z refl); drawn = λ x lo hi. absurd (omega arith) };
  says = λ i. rw (get_or-all 8 i idle) (record { puts = λ p q. refl; takes = λ p. absurd (omega arith); none_held = λ p. refl; held = λ p. absurd (omega arith) });
  takes = λ i j x p q. absurd (rest i 12 20 x (omega arith) p);
  puts = λ i j x p q. absurd (rest i 2 10 x (omega arith) p);
  hands = λ x. inl refl;
  confs = λ x. inl refl;
  gones = λ x g. absurd (Memᴰ.not-nil g.1);
  lands = λ x z. absurd (z refl);
  closed = λ q. cc;
}
  where
    rest : (i lo hi x : ℕ) → 1 ≤ lo → Within lo hi (thread_at (fresh_state R n S r k).control i) x → ⊥
    rest i lo hi x l = rw (get_or-all 8 i idle) (λ c. omega arith)

-- at most one in a list
one_or_none : {A : ℕ → Type 0} (l : List ℕ) → (l ≡ []) ⊎ ((i : ℕ) × (l ≡ i ∷ []) × A i) → length l ≤ 1
one_or_none l (inl e) = rw e (omega arith)
one_or_none l (inr (i, e, f)) = rw e (omega arith)

-- what is told of the one, of all in the list
all_from : {A : ℕ → Type 0} {l m : List ℕ} → (l ≡ []) ⊎ ((i : ℕ) × (l ≡ i ∷ []) × A i) → ((i : ℕ) → A i → In i m) → (i : ℕ) → In i l → In i m
all_from (inl q) f i k = absurd (Memᴰ.not-nil (rw q at k))
all_from (inr (j, q, y)) f i k = Memᴰ.cast (Memᴰ.eq_of_singleton (rw q at k)) (f j y)

module _ (s : State) (a : Account) (v : Inv s a) (τ : Tale) (w : Told s a τ) where
  abbrev f : Found
  f = finds (cells_of s) (threads_of s) s.kept

  abbrev h' : Tale
  h' = tells τ CutEvent (Cut f)

  after_cut : Told (cut s).state (enters (cells_of s) (threads_of s) a (Cut f)) (tells τ CutEvent (Cut f))
  unfolding cut
  after_cut = tell_cut s a v τ w

  queue_low : (e : Entry) → In e (queue_of (cells_of s) (threads_of s) s.kept) → f.head ≤ e.number
  unfolding finds
  queue_low e i =
      let q = at_number a (pass_mark (cells_of s) (threads_of s) s.kept) (a.bound - pass_mark (cells_of s) (threads_of s) s.kept) e (rw (queues_agree s a v, unwalked s a v) at i) in
      above_head s a v e.number q.0 q.1

  in_queue : (x : ℕ) → f.head ≤ x → a.durable x ≢ 0 → In (entry x (a.durable x)) (queue_of (cells_of s) (threads_of s) s.kept)
  unfolding finds
  in_queue x l z =
      let p : pass_mark (cells_of s) (threads_of s) s.kept ≤ x = omega (arith, mark_to_head (cells_of s) (pass_mark (cells_of s) (threads_of s) s.kept) s.kept) in
      rw (queues_agree s a v, unwalked s a v) (stands_in a _ _ x p (in_walk s a v x p z) z)

  gone_is : (x : ℕ) → Gone (threads_of s) h'.cuts x → (x < f.head) × (τ.handed x ≡ [])
  unfolding tells enters cut
  gone_is x g = after_cut.gones x g

  -- what was handed out lies below Head
  unhanded : (x : ℕ) → f.head ≤ x → τ.handed x ≡ []
  unfolding finds
  unhanded x l = elim (w.hands x) [ inl q ↦ q | inr q ↦ absurd (omega (arith, q.2.under, mark_is s a v, mark_to_head (cells_of s) (pass_mark (cells_of s) (threads_of s) s.kept) s.kept)) ]

  -- what a cut decides of a confirmed put
  abbrev Decided : ℕ → ℕ → Type 0
  Decided x i = (f.head ≤ x → a.durable x ≡ i) × (x < f.head → (τ.handed x ≡ i ∷ []) ⊎ Gone (threads_of s) h'.cuts x)

  decided : (x : ℕ) → (τ.confirmed x ≡ []) ⊎ ((i : ℕ) × (τ.confirmed x ≡ i ∷ []) × (i ≢ 0) × Decided x i)
  unfolding tells enters cut rest
  decided x = elim (after_cut.confs x) [ inl q ↦ inl q | inr q ↦ inr (q.0, q.1, q.2.item, ((λ b. kept (q.2.kept b) q.2.item), q.2.past)) ]
    where
      kept : {i : ℕ} → rest s a v x ≡ i → i ≢ 0 → a.durable x ≡ i
      kept e z = let q = rest_is s a v x (λ d. z (sym e ∙ d)) in sym q.2 ∙ e

  abbrev Fate : ℕ → ℕ → Type 0
  Fate x i = ExactlyOne x i (τ.handed x) (queue_of (cells_of s) (threads_of s) s.kept) (Gone (threads_of s) h'.cuts x)

  fates : (x i : ℕ) → In i (τ.confirmed x) → Fate x i
  fates x i m = elim (decided x) [
    | inl q ↦ absurd (Memᴰ.not-nil (rw q at m))
    | inr q ↦ (let e : i ≡ q.0 = Memᴰ.eq_of_singleton (rw q.1 at m) in rw e (one q.0 q.2 q.3 (dec_le f.head x)))
  ]
    where
      unqueued : x < f.head → Unqueued x (queue_of (cells_of s) (threads_of s) s.kept)
      unqueued l e m q = omega (arith, queue_low e m)

      one : (i : ℕ) → i ≢ 0 → Decided x i → Dec (f.head ≤ x) → Fate x i
      one i z d (yes l) = let k = d.0 l in second (unhanded x l) (rw k at (in_queue x l (λ e. z (sym k ∙ e)))) (λ g. omega (arith, gone_is x g))
      one i z d (no l) = elim (d.1 (omega arith)) [
        | inl e ↦ first e (unqueued (omega arith)) (λ g. no_item (gone_is x g).1 e)
        | inr g ↦ third (gone_is x g).1 (unqueued (omega arith)) g
      ]

  pub at_cut : Reached (cells_of s) (threads_of s) s a → (event s CutEvent).answer ≡ Cut f → AtCut (cells_of s) (threads_of s) s.kept f a τ (tells τ CutEvent (Cut f))
  unfolding finds
  at_cut r e = record {
    agreement = cut-agrees (cells_of s) (threads_of s) s a r f e;
    fates = fates;
    one_a_thread = λ c m t x y p q. same p.1 q.1;
    ahead = λ x g e m. omega (arith, gone_is x g, queue_low e m);
    closed = w.closed;
  }
    where
      same : {o : Option ℕ} {x y : ℕ} → o ≡ some x → o ≡ some y → x ≡ y
      same p q = cc

-- the same for R and n
whole : (R n : ℕ) (s : State) (a : Account) (τ : Tale) → Ran R n s a τ → (f : Found) → (event s CutEvent).answer ≡ Cut f → AtCut R n s.kept f a τ (tells τ CutEvent (Cut f))
whole R n s a τ w f e = let q = (cut-finds s f e).1 in
    rw (q, sym w.reached.cells, sym w.reached.threads) (at_cut s a w.reached.inv τ w.told (record { cells = refl; threads = refl; inv = w.reached.inv }) (rw q at e))

next_fits : (R n : ℕ) (s : State) (a : Account) (τ : Tale) → Ran R n s a τ → (e : Event) → Fits n a τ (event s e).answer
next_fits R n s a τ w e = subst (λ m. Fits m a τ (event s e).answer) w.reached.threads (fits s a w.reached.inv τ w.told e)

-- demand 3
pub demand_3 : Demand3Holds
demand_3 R n S r k h es = record {
  within = within R n S r k h es;
  cut = λ f e. whole R n _ _ _ ran f e;
  heard = heard (fresh_state R n S r k) untold es;
  answered = answered (fresh_state R n S r k) es;
  one_ok = λ x. one_or_none _ (ran.told.confs x);
  landed_new = λ e b j i q. rw q at (next_fits R n _ _ _ ran e);
  one_item = λ x. one_or_none _ (ran.told.hands x);
  item_landed = λ x. all_from (ran.told.hands x) (λ i y. y.from);
  item_not_lost = λ e b i q. rw q at (next_fits R n _ _ _ ran e);
  ok_landed = λ x. all_from (ran.told.confs x) (λ i y. y.from);
  ok_durable = λ e b i q. rw q at (next_fits R n _ _ _ ran e);
}
  where
    ran : Ran R n (after (fresh_state R n S r k) es) (account R n opened (answers (fresh_state R n S r k) es)) (tale untold es (answers (fresh_state R n S r k) es))
    ran = runs R n (fresh_state R n S r k) opened untold (record { reached = fresh_reached R n S r k h; told = fresh_told R n S r k }) es
