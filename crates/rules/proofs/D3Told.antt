-- The invariant of runs against the tale: what was handed out and confirmed, who holds which number, what is gone; and what one thread's step keeps of it.
use Prim.Native.Nat.{ℕ, ◌<◌, ◌≤◌}
use mathlib.Core.Path.{◌≡◌, sym, ◌∙◌}
use mathlib.Core.Logic.{◌≢◌, ◌⊎◌, inl, inr}
use mathlib.Core.Bool.{true, false}
use mathlib.Core.Option.{none, some}
use mathlib.Core.List.{List, [], ◌∷◌}
use native.Mathlib.Omega.{arith}
use native.Mathlib.Decide.{ℕ_discrete}
use Rattle.rules.specs.declared.Thread.{Thread}
use Rattle.rules.specs.Record.{thread_at, with_thread, headed}
use Rattle.rules.specs.Memory.{cell_at, closed_at, tail_at}
use Rattle.rules.specs.State.{State}
use Rattle.rules.specs.Account.{Account, mark_of}
use Rattle.rules.specs.Tale.{In, CutOff, Tale, Gone}
use Rattle.rules.proofs.D3Inv.{Inv, cells_of, threads_of, top_of, run_cell, TUpd, thr_cases, next, next_thr}
use Rattle.rules.proofs.D3Cut.{mark_top}
use Rattle.rules.proofs.D3Drawn.{Drawn}

-- a thread at places lo to hi with this number
pub record Within (lo hi : ℕ) (h : Thread) (x : ℕ) : Type 0 where
  pub from : lo ≤ h.place
  pub upto : h.place ≤ hi
  pub is : h.number ≡ x

-- no two threads have one number
abbrev pub Distinct : ℕ → ℕ → (ℕ → Thread) → Type 0
Distinct lo hi th = (i j x : ℕ) → Within lo hi (th i) x → Within lo hi (th j) x → i ≡ j

-- a thread's number is as it was, or the one that is drawn next
abbrev pub Steps : ℕ → ℕ → ℕ → Thread → Thread → Type 0
Steps lo hi bound h y = (x : ℕ) → Within lo hi y x → Within lo hi h x ⊎ (x ≡ bound)

module _ (lo hi bound : ℕ) (th th' : ℕ → Thread) (t : ℕ) (y : Thread) (u : TUpd th th' t y) (st : Steps lo hi bound (th t) y) where
  -- a number below the next one that no thread has, none has then
  pub free_on : (x : ℕ) → x < bound → ((i : ℕ) → Within lo hi (th i) x → ⊥) → (i : ℕ) → Within lo hi (th' i) x → ⊥
  free_on x l f = thr_cases (λ i h. Within lo hi h x → ⊥) u (λ k. mine (st x k)) (λ i d. f i)
    where
      mine : Within lo hi (th t) x ⊎ (x ≡ bound) → ⊥
      mine (inl k) = f t k
      mine (inr e) = omega arith

  pub distinct_on : ((j x : ℕ) → Within lo hi (th j) x → x < bound) → Distinct lo hi th → Distinct lo hi th'
  distinct_on below d i j x = elim (ℕ_discrete i t) [
    | yes e ↦ elim (ℕ_discrete j t) [ yes f ↦ (λ p q. e ∙ sym f) | no g ↦ (λ p q. e ∙ one j g x (rw (e, u.same) at p) (rw (u.other j g) at q)) ]
    | no e ↦ elim (ℕ_discrete j t) [ yes f ↦ (λ p q. sym (f ∙ one i e x (rw (f, u.same) at q) (rw (u.other i e) at p))) | no g ↦ (λ p q. d i j x (rw (u.other i e) at p) (rw (u.other j g) at q)) ]
  ]
    where
      one : (j : ℕ) → j ≢ t → (x : ℕ) → Within lo hi y x → Within lo hi (th j) x → t ≡ j
      one j g x p q = elim (st x p) [ inl k ↦ d t j x k q | inr e ↦ absurd (omega (arith, below j x q)) ]

-- what the tale says of a thread
pub record Says (τ : Tale) (i : ℕ) (h : Thread) : Type 0 where
  pub puts : 1 ≤ h.place → h.place ≤ 10 → τ.taking i ≡ false
  pub takes : 11 ≤ h.place → τ.taking i ≡ true
  pub none_held : h.place ≤ 11 → τ.holds i ≡ none
  pub held : 12 ≤ h.place → τ.holds i ≡ some h.number

-- x was handed out as i
pub record HandFacts (mark base : ℕ) (th : ℕ → Thread) (landed : ℕ → ℕ) (landings : ℕ → List ℕ) (x i : ℕ) : Type 0 where
  pub item : i ≢ 0
  pub under : x < mark
  pub free : (t : ℕ) → Within 12 20 (th t) x → ⊥
  pub from : In i (landings x)
  pub is : base ≤ x → landed x ≡ i

abbrev pub HandsAt : ℕ → ℕ → (ℕ → Thread) → (ℕ → ℕ) → (ℕ → List ℕ) → (ℕ → List ℕ) → ℕ → Type 0
HandsAt mark base th landed landings handed x = (handed x ≡ []) ⊎ ((i : ℕ) × (handed x ≡ i ∷ []) × HandFacts mark base th landed landings x i)

-- x was confirmed as i
pub record ConfFacts (n base tail : ℕ) (th : ℕ → Thread) (durable : ℕ → ℕ) (landings handed : ℕ → List ℕ) (cuts : List CutOff) (x i : ℕ) : Type 0 where
  pub item : i ≢ 0
  pub under : x < tail
  pub free : (t : ℕ) → Within 2 10 (th t) x → ⊥
  pub from : In i (landings x)
  pub kept : base ≤ x → durable x ≡ i
  pub past : x < base → (handed x ≡ i ∷ []) ⊎ Gone n cuts x

abbrev pub ConfsAt : ℕ → ℕ → ℕ → (ℕ → Thread) → (ℕ → ℕ) → (ℕ → List ℕ) → (ℕ → List ℕ) → List CutOff → (ℕ → List ℕ) → ℕ → Type 0
ConfsAt n base tail th durable landings handed cuts confirmed x = (confirmed x ≡ []) ⊎ ((i : ℕ) × (confirmed x ≡ i ∷ []) × ConfFacts n base tail th durable landings handed cuts x i)

pub record Told (s : State) (a : Account) (τ : Tale) : Type 0 where
  pub drawn : Drawn (cells_of s) a.head (top_of s) (run_cell s) (thread_at s.control) a.landed τ.handed
  pub says : (i : ℕ) → Says τ i (thread_at s.control i)
  pub takes : Distinct 12 20 (thread_at s.control)
  pub puts : Distinct 2 10 (thread_at s.control)
  pub hands : (x : ℕ) → HandsAt (mark_of (cells_of s) (threads_of s) a) a.head (thread_at s.control) a.landed τ.landings τ.handed x
  pub confs : (x : ℕ) → ConfsAt (threads_of s) a.head (tail_at (cells_of s) (threads_of s) s.running) (thread_at s.control) a.durable τ.landings τ.handed τ.cuts τ.confirmed x
  pub gones : (x : ℕ) → Gone (threads_of s) τ.cuts x → (x < a.head) × (τ.handed x ≡ [])
  pub lands : (x : ℕ) → a.landed x ≢ 0 → In (a.landed x) (τ.landings x)
  pub closed : τ.closed ≡ true → closed_at (cells_of s) (threads_of s) s.kept ≡ 1

pub no_item : {l : List ℕ} {i : ℕ} → l ≡ [] → l ≡ i ∷ [] → ⊥
no_item p q = cc

module _ (s : State) (a : Account) (v : Inv s a) (τ : Tale) (w : Told s a τ) (t : ℕ) (tn : t < threads_of s) where
  takes_below : (j x : ℕ) → Within 12 20 (thread_at s.control j) x → x < top_of s
  takes_below j x k = omega (arith, (v.thrs j).nums.take k.from, k.is)

  puts_below : (j x : ℕ) → Within 2 10 (thread_at s.control j) x → x < tail_at (cells_of s) (threads_of s) s.running
  puts_below j x k = omega (arith, (v.thrs j).nums.put k.from k.upto, k.is)

  -- one thread's step, with what it does to Head, running memory, the account and the tale
  pub told_step : (a' : Account) (top : ℕ) (m : List ℕ) (y : Thread) (τ' : Tale)
      → Drawn (cells_of s) a.head top (cell_at (cells_of s) m) (thread_at (next s (headed s.control.ring top) m t y).control) a'.landed τ'.handed
      → Says τ' t y → ((i : ℕ) → i ≢ t → (τ'.taking i ≡ τ.taking i) × (τ'.holds i ≡ τ.holds i))
      → Steps 12 20 (top_of s) (thread_at s.control t) y → Steps 2 10 (tail_at (cells_of s) (threads_of s) s.running) (thread_at s.control t) y
      → tail_at (cells_of s) (threads_of s) s.running ≤ tail_at (cells_of s) (threads_of s) m
      → a'.head ≡ a.head → mark_of (cells_of s) (threads_of s) a' ≡ mark_of (cells_of s) (threads_of s) a
      → ((x : ℕ) → a.landed x ≢ 0 → a'.landed x ≡ a.landed x) → ((x : ℕ) → a.durable x ≢ 0 → a'.durable x ≡ a.durable x)
      → ((x i : ℕ) → In i (τ.landings x) → In i (τ'.landings x)) → ((x : ℕ) → a'.landed x ≢ 0 → In (a'.landed x) (τ'.landings x))
      → ((x : ℕ) → (τ'.handed x ≡ τ.handed x) ⊎ ((a.head ≤ x) × (τ.handed x ≡ []) × ((i : ℕ) × (τ'.handed x ≡ i ∷ [])
      × HandFacts (mark_of (cells_of s) (threads_of s) a) a.head (thread_at (next s (headed s.control.ring top) m t y).control) a'.landed τ'.landings x i)))
      → ((x : ℕ) → (τ'.confirmed x ≡ τ.confirmed x) ⊎ ((i : ℕ) × (τ'.confirmed x ≡ i ∷ [])
      × ConfFacts (threads_of s) a.head (tail_at (cells_of s) (threads_of s) m) (thread_at (next s (headed s.control.ring top) m t y).control) a'.durable τ'.landings τ'.handed τ'.cuts x i))
      → τ'.cuts ≡ τ.cuts → (τ'.closed ≡ true → closed_at (cells_of s) (threads_of s) s.kept ≡ 1)
      → Told (next s (headed s.control.ring top) m t y) a' τ'
  unfolding with_thread
  told_step a' top m y τ' dr sy so st sp tl hd mk lg dg ng ln hn cn cs cl =
      record {
        drawn = rw hd dr;
        says = thr_cases (Says τ') u sy (λ i d. let o = so i d in let k = w.says i in
            record { puts = λ p q. o.0 ∙ k.puts p q; takes = λ p. o.0 ∙ k.takes p; none_held = λ p. o.1 ∙ k.none_held p; held = λ p. o.1 ∙ k.held p });
        takes = distinct_on 12 20 (top_of s) _ _ t y u st takes_below w.takes;
        puts = distinct_on 2 10 (tail_at (cells_of s) (threads_of s) s.running) _ _ t y u sp puts_below w.puts;
        hands = λ x. rw (mk, hd) (hand x (hn x) (w.hands x));
        confs = λ x. rw hd (conf x (cn x) (w.confs x));
        gones = λ x g. rw hd (went x (w.gones x (rw cs at g)) (hn x));
        lands = ln;
        closed = cl;
      }
    where
      new : ℕ → Thread
      new = thread_at (next s (headed s.control.ring top) m t y).control

      u : TUpd (thread_at s.control) new t y
      u = next_thr s (headed s.control.ring top) m t y (omega (arith, v.wide, v.few))

      hand : (x : ℕ) → (τ'.handed x ≡ τ.handed x) ⊎ ((a.head ≤ x) × (τ.handed x ≡ []) × ((i : ℕ) × (τ'.handed x ≡ i ∷ [])
          × HandFacts (mark_of (cells_of s) (threads_of s) a) a.head new a'.landed τ'.landings x i))
          → HandsAt (mark_of (cells_of s) (threads_of s) a) a.head (thread_at s.control) a.landed τ.landings τ.handed x
          → HandsAt (mark_of (cells_of s) (threads_of s) a) a.head new a'.landed τ'.landings τ'.handed x
      hand x (inr z) k = inr z.2
      hand x (inl e) (inl k) = inl (e ∙ k)
      hand x (inl e) (inr (i, q, f)) = inr (
        i,
        e ∙ q,
        record {
          item = f.item;
          under = f.under;
          free = free_on 12 20 (top_of s) _ _ t y u st x (omega (arith, f.under, mark_top s a v)) f.free;
          from = ng x i f.from;
          is = λ b. let g = f.is b in lg x (λ z. f.item (sym g ∙ z)) ∙ g;
        },
      )

      conf : (x : ℕ) → (τ'.confirmed x ≡ τ.confirmed x) ⊎ ((i : ℕ) × (τ'.confirmed x ≡ i ∷ [])
          × ConfFacts (threads_of s) a.head (tail_at (cells_of s) (threads_of s) m) new a'.durable τ'.landings τ'.handed τ'.cuts x i)
          → ConfsAt (threads_of s) a.head (tail_at (cells_of s) (threads_of s) s.running) (thread_at s.control) a.durable τ.landings τ.handed τ.cuts τ.confirmed x
          → ConfsAt (threads_of s) a.head (tail_at (cells_of s) (threads_of s) m) new a'.durable τ'.landings τ'.handed τ'.cuts τ'.confirmed x
      conf x (inr z) k = inr z
      conf x (inl e) (inl k) = inl (e ∙ k)
      conf x (inl e) (inr (i, q, f)) = inr (
        i,
        e ∙ q,
        record {
          item = f.item;
          under = omega (arith, f.under);
          free = free_on 2 10 (tail_at (cells_of s) (threads_of s) s.running) _ _ t y u sp x f.under f.free;
          from = ng x i f.from;
          kept = λ b. let g = f.kept b in dg x (λ z. f.item (sym g ∙ z)) ∙ g;
          past = λ b. was (f.past b) (hn x);
        },
      )
        where
          was : (τ.handed x ≡ i ∷ []) ⊎ Gone (threads_of s) τ.cuts x → (τ'.handed x ≡ τ.handed x) ⊎ ((a.head ≤ x) × (τ.handed x ≡ []) × ((i : ℕ) × (τ'.handed x ≡ i ∷ [])
              × HandFacts (mark_of (cells_of s) (threads_of s) a) a.head new a'.landed τ'.landings x i))
              → (τ'.handed x ≡ i ∷ []) ⊎ Gone (threads_of s) τ'.cuts x
          was (inr g) o = inr (rw cs g)
          was (inl g) (inl o) = inl (o ∙ g)
          was (inl g) (inr o) = absurd (no_item o.1 g)

      went : (x : ℕ) → (x < a.head) × (τ.handed x ≡ []) → (τ'.handed x ≡ τ.handed x) ⊎ ((a.head ≤ x) × (τ.handed x ≡ []) × ((i : ℕ) × (τ'.handed x ≡ i ∷ [])
          × HandFacts (mark_of (cells_of s) (threads_of s) a) a.head new a'.landed τ'.landings x i))
          → (x < a.head) × (τ'.handed x ≡ [])
      went x (b, e) (inl o) = (b, o ∙ e)
      went x (b, e) (inr o) = absurd (omega (arith, o.0))
