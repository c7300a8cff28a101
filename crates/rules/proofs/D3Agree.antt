-- Demand 3, its first half: after every run from a fresh ring, a cut answers what the account says.
use Prim.Native.Nat.{ℕ, ◌≤◌}
use mathlib.Core.Path.{◌≡◌, refl, sym, ◌∙◌}
use mathlib.Core.Bool.{Bool, cond}
use mathlib.Core.List.{List, [], ◌∷◌}
use lib.Dec.{eqb}
use Rattle.rules.specs.declared.Line.{Line}
use Rattle.rules.specs.declared.Found.{Found}
use Rattle.rules.specs.declared.Event.{Event}
use Rattle.rules.specs.declared.Event.TheVariants.{Cut as CutEvent}
use Rattle.rules.specs.declared.Answer.TheVariants.{Cut}
use Rattle.rules.specs.Record.{thread_at, with_thread}
use Rattle.rules.specs.Table.{Step, row_wait, row_p1, row_p2, row_p3, row_p4, row_p5, row_p6, row_p7, row_p8, row_p9, row_p10, row_t1, row_t2, row_t3, row_t4, row_t5, row_t6, row_t7, row_t8, row_t9, row_t10, row, matches}
use Rattle.rules.specs.Line.{is_none}
use Rattle.rules.specs.Cut.{finds}
use Rattle.rules.specs.State.{State, Out, accept}
use Rattle.rules.specs.Refusals.{setup_refusal, unsound, own_refusal}
use Rattle.rules.specs.Events.{begin_put, begin_take, step_thread, write_back, cut, does, inner, event, fresh_state, after, answers}
use Rattle.rules.specs.Account.{Account, opened, enters, account}
use Rattle.rules.specs.Agreement.{Agreement}
use Rattle.rules.proofs.Tests.{cond_cases}
use Rattle.rules.proofs.D3Dispatch.{row_cases, event_cases}
use Rattle.rules.proofs.D3Inv.{Inv, cells_of, threads_of}
use Rattle.rules.proofs.D3Cut.{mark_is}
use Rattle.rules.proofs.D3Queue.{queues_agree, ends_agree, counts_agree}
use Rattle.rules.proofs.D3Fresh.{fresh_ok}
use Rattle.rules.proofs.D3Runs.{keeps}

-- R and n stay what they are
pub record Stays (s : State) (o : Out) : Type 0 where
  pub cells : cells_of o.state ≡ cells_of s
  pub threads : threads_of o.state ≡ threads_of s

record RingStays (s : State) (r : Step) : Type 0 where
  cells : r.moved.ring.cells ≡ cells_of s
  threads : r.moved.ring.threads ≡ threads_of s

module _ (s : State) where
  yes_no : (b : Bool) {x y : Step} → RingStays s x → RingStays s y → RingStays s (cond b x y)
  yes_no b p q = cond_cases (RingStays s) b (λ e. p) (λ e. q)

  row_stays : (a : Account) → Inv s a → (i : ℕ) → 1 ≤ (thread_at s.control i).place → RingStays s (row s.control.ring i (thread_at s.control i) s.running)
  unfolding row_wait row_p1 row_p2 row_p3 row_p4 row_p5 row_p6 row_p7 row_p8 row_p9 row_p10 row_t1 row_t2 row_t3 row_t4 row_t5 row_t6 row_t7 row_t8 row_t9 row_t10
  row_stays a v i b =
      let m = matches s.control.ring (thread_at s.control i) s.running in
      let w = is_none (thread_at s.control i).awaited in
      row_cases (RingStays s) s.control.ring i (thread_at s.control i) s.running
      (record {
        p1 = λ e. record { cells = refl; threads = refl };
        p2 = λ e. record { cells = refl; threads = refl };
        p3 = λ e. record { cells = refl; threads = refl };
        p4 = λ e. yes_no m (record { cells = refl; threads = refl }) (record { cells = refl; threads = refl });
        p5 = λ e. record { cells = refl; threads = refl };
        p6 = λ e. yes_no w (record { cells = refl; threads = refl }) (record { cells = refl; threads = refl });
        p7 = λ e. record { cells = refl; threads = refl };
        p8 = λ e. record { cells = refl; threads = refl };
        p9 = λ e. record { cells = refl; threads = refl };
        p10 = λ e. yes_no w (record { cells = refl; threads = refl }) (record { cells = refl; threads = refl });
        t1 = λ e. record { cells = refl; threads = refl };
        t2 = λ e. record { cells = refl; threads = refl };
        t3 = λ e. yes_no m (record { cells = refl; threads = refl }) (record { cells = refl; threads = refl });
        t4 = λ e. yes_no m (record { cells = refl; threads = refl }) (record { cells = refl; threads = refl });
        t5 = λ e. yes_no m (record { cells = refl; threads = refl }) (record { cells = refl; threads = refl });
        t6 = λ e. record { cells = refl; threads = refl };
        t7 = λ e. record { cells = refl; threads = refl };
        t8 = λ e. record { cells = refl; threads = refl };
        t9 = λ e. record { cells = refl; threads = refl };
        t10 = λ e. yes_no w (record { cells = refl; threads = refl }) (record { cells = refl; threads = refl });
      })
      b (v.thrs i).nums.place

  go_stays : (a : Account) → Inv s a → (i : ℕ) → 1 ≤ (thread_at s.control i).place → Stays s (step_thread s i)
  unfolding step_thread with_thread
  go_stays a v i b = let r = row_stays a v i b in record { cells = r.cells; threads = r.threads }

  put_stays : (i x : ℕ) → Stays s (begin_put s i x)
  unfolding begin_put with_thread
  put_stays i x = record { cells = refl; threads = refl }

  take_stays : (i : ℕ) → Stays s (begin_take s i)
  unfolding begin_take with_thread
  take_stays i = record { cells = refl; threads = refl }

  back_stays : (l : Line) → Stays s (write_back s l)
  unfolding write_back
  back_stays l = record { cells = refl; threads = refl }

  cut_stays : Stays s (cut s)
  unfolding cut
  cut_stays = record { cells = refl; threads = refl }

  pub stays : (a : Account) → Inv s a → (e : Event) → Stays s (event s e)
  stays a v = event_cases (λ e. Stays s) s
      (record {
        refuses = λ e k. record { cells = refl; threads = refl };
        put = λ i x l p z. put_stays i x;
        take = λ i l p. take_stays i;
        go = λ i l b. go_stays a v i b;
        back = λ l x. back_stays l;
        cuts = cut_stays;
      })

-- what holds after a run: R and n, and the invariant
pub record Reached (R n : ℕ) (s : State) (a : Account) : Type 0 where
  pub cells : cells_of s ≡ R
  pub threads : threads_of s ≡ n
  pub inv : Inv s a

pub reach : (R n : ℕ) (s : State) (a : Account) → Reached R n s a → (e : Event) → Reached R n (event s e).state (enters R n a (event s e).answer)
reach R n s a w e = record { cells = (stays s a w.inv e).cells ∙ w.cells; threads = (stays s a w.inv e).threads ∙ w.threads; inv = rw (sym w.cells, sym w.threads) (keeps s a w.inv e) }

pub runs : (R n : ℕ) (s : State) (a : Account) → Reached R n s a → (es : List Event) → Reached R n (after s es) (account R n a (answers s es))
unfolding after answers account
runs R n s a w [] = w
runs R n s a w (e ∷ es) = runs R n (event s e).state (enters R n a (event s e).answer) (reach R n s a w e) es

-- an answer of a cut is what recovery finds
pub cut-finds : (s : State) (f : Found) → (event s CutEvent).answer ≡ Cut f → (event s CutEvent ≡ cut s) × (f ≡ finds (cells_of s) (threads_of s) s.kept)
unfolding event inner accept does cut
cut-finds s f = cond_cases (λ o. o.answer ≡ Cut f → (o ≡ cut s) × (f ≡ finds (cells_of s) (threads_of s) s.kept)) (eqb (unsound s) 0)
    (λ p. cond_cases (λ o. o.answer ≡ Cut f → (o ≡ cut s) × (f ≡ finds (cells_of s) (threads_of s) s.kept)) (eqb (own_refusal s.control CutEvent) 0)
    (λ q h. (refl, cc)) (λ q h. (cc, cc)))
    (λ p h. (cc, cc))

pub agrees : (s : State) (a : Account) → Inv s a → Agreement (cells_of s) (threads_of s) s.kept (finds (cells_of s) (threads_of s) s.kept) a
unfolding finds
agrees s a v = record { queue = queues_agree s a v; mark = sym (mark_is s a v); head = sym (ends_agree s a v).0; tail = sym (ends_agree s a v).1; count = counts_agree s a v }

pub fresh_reached : (R n S : ℕ) (r k : List ℕ) → setup_refusal R n S r k ≡ 0 → Reached R n (fresh_state R n S r k) opened
unfolding fresh_state
fresh_reached R n S r k h = record { cells = refl; threads = refl; inv = fresh_ok R n S r k h }

pub cut-agrees : (R n : ℕ) (s : State) (a : Account) → Reached R n s a → (f : Found) → (event s CutEvent).answer ≡ Cut f → Agreement R n s.kept f a
cut-agrees R n s a w f e = rw ((cut-finds s f e).1, sym w.cells, sym w.threads) (agrees s a w.inv)

-- the two accounts agree at each accepted cut
pub agreement : (R n S : ℕ) (r k : List ℕ) → setup_refusal R n S r k ≡ 0 → (es : List Event) (f : Found)
    → (event (after (fresh_state R n S r k) es) CutEvent).answer ≡ Cut f
    → Agreement R n (after (fresh_state R n S r k) es).kept f (account R n opened (answers (fresh_state R n S r k) es))
agreement R n S r k h es f = cut-agrees R n _ _ (runs R n (fresh_state R n S r k) opened (fresh_reached R n S r k h) es) f
