-- For each public function: no second outcome satisfies its statement.
use Prim.Native.Nat.{ℕ, ◌+◌}
use mathlib.Core.Path.{◌≡◌, refl, sym, ap, ◌∙◌}
use mathlib.Core.Bool.{Bool, cond}
use lib.Dec.{eqb}
use Rattle.std.specs.Prelude.{Result, Ok, Err}
use mathlib.Core.List.{List}
use denote.Ref.{Bor}
use Rattle.rules.specs.declared.Line.{Line}
use Rattle.rules.specs.declared.Control.{Control}
use Rattle.rules.specs.declared.Outcome.{Outcome}
use Rattle.rules.specs.declared.Event.{Event}
use Rattle.rules.specs.declared.Event.TheVariants.{Put, Take, Go, Back, Cut}
use Rattle.rules.specs.declared.Refusal.{Refusal}
use Rattle.rules.specs.declared.Refusal.TheVariants.{Range, Thread, Line as NoLine, Busy, Idle, Blank, Full, Record, Text, Short, Room, Image}
use Rattle.rules.specs.Refusal.{number_of, refusal_of}
use Rattle.rules.specs.State.{State, state, Out, out}
use Rattle.rules.specs.Refusals.{setup_refusal, kept_refusal, listing_refusal}
use Rattle.rules.specs.Events.{event, setup}
use Rattle.rules.specs.Block.{Upto, upto, event_count, run_block}
use Rattle.std.specs.Result.{result_unwrap_or}
use Rattle.rules.specs.Listing.{host_kept, listed_count, listed_room}
use Rattle.rules.specs.Reader.{cell_part, part_from}
use Rattle.ring.specs.declared.Started.{Started}
use Rattle.ring.specs.declared.Ran.{Ran}

same_outcome : (r s : Outcome) → r.control ≡ s.control → r.answer ≡ s.answer → r ≡ s
same_outcome r s p q = λ i. record { control = p i; answer = q i }

-- record, answer and both images
all_four : (r s : Outcome) (a b k l : List ℕ) (o : Out) → out (state r.control a k) r.answer ≡ o → out (state s.control b l) s.answer ≡ o → (r ≡ s) × (a ≡ b) × (k ≡ l)
all_four r s a b k l o p q =
    let e = p ∙ sym q in
    (same_outcome r s (ap (λ (x : Out). x.state.control) e) (ap (λ (x : Out). x.answer) e), ap (λ (x : Out). x.state.running) e, ap (λ (x : Out). x.state.kept) e)

module _ (c : Control) (running kept : List ℕ) where
  -- two outcomes, with the images that they leave
  module _ (r s : Outcome) (a b k l : List ℕ) where
    pub event_only : (e : Event) → out (state r.control a k) r.answer ≡ event (state c running kept) e → out (state s.control b l) s.answer ≡ event (state c running kept) e
        → (r ≡ s) × (a ≡ b) × (k ≡ l)
    event_only e p q = all_four r s a b k l (event (state c running kept) e) p q

    pub cut_only : out (state r.control a k) r.answer ≡ event (state c running kept) Cut → out (state s.control b l) s.answer ≡ event (state c running kept) Cut
        → (r ≡ s) × (a ≡ b) × (k ≡ l)
    cut_only p q = event_only Cut p q

  -- entries that are lent an image they cannot change
  module _ (r s : Outcome) (a b : List ℕ) where
    pub go_only : (i : ℕ) → out (state r.control a kept) r.answer ≡ event (state c running kept) (Go i) → out (state s.control b kept) s.answer ≡ event (state c running kept) (Go i)
        → (r ≡ s) × (a ≡ b)
    go_only i p q = let t = event_only r s a b kept kept (Go i) p q in (t.0, t.1)

    pub back_only : (l : Line) → out (state r.control running a) r.answer ≡ event (state c running kept) (Back l) → out (state s.control running b) s.answer ≡ event (state c running kept) (Back l)
        → (r ≡ s) × (a ≡ b)
    back_only l p q = let t = event_only r s running running a b (Back l) p q in (t.0, t.2)

  module _ (r s : Outcome) where
    pub put_only : (i x : ℕ) → out (state r.control running kept) r.answer ≡ event (state c running kept) (Put i x)
        → out (state s.control running kept) s.answer ≡ event (state c running kept) (Put i x) → r ≡ s
    put_only i x p q = (event_only r s running running kept kept (Put i x) p q).0

    pub take_only : (i : ℕ) → out (state r.control running kept) r.answer ≡ event (state c running kept) (Take i)
        → out (state s.control running kept) s.answer ≡ event (state c running kept) (Take i) → r ≡ s
    take_only i p q = (event_only r s running running kept kept (Take i) p q).0

-- a block: record, count, both images and the room
pub run_only : (s : State) (block room : List ℕ) (r t : Ran) (a b k l m n : List ℕ)
    → (r.count ≡ event_count block room) × (upto (state r.control a k) m ≡ run_block s block room)
    → (t.count ≡ event_count block room) × (upto (state t.control b l) n ≡ run_block s block room) → (r ≡ t) × (a ≡ b) × (k ≡ l) × (m ≡ n)
run_only s block room r t a b k l m n p q =
    let e = p.1 ∙ sym q.1 in
    let f = p.0 ∙ sym q.0 in
    let g = ap (λ (x : Upto). x.state.control) e in
    (λ i. record { control = g i; count = f i }, ap (λ (x : Upto). x.state.running) e, ap (λ (x : Upto). x.state.kept) e, ap (λ (x : Upto). x.room) e)

-- what the number and the value of a refusable result say: no second one has both
told : {A : Type 0} → ℕ → A → Result A Refusal
told k a =
    cond (eqb k 0) (Ok a)
    (cond (eqb k 1) (Err Range)
    (cond (eqb k 2) (Err Thread)
    (cond (eqb k 3) (Err NoLine)
    (cond (eqb k 4) (Err Busy)
    (cond (eqb k 5) (Err Idle)
    (cond (eqb k 6) (Err Blank)
    (cond (eqb k 7) (Err Full)
    (cond (eqb k 8) (Err Record)
    (cond (eqb k 9) (Err Text)
    (cond (eqb k 10) (Err Short)
    (cond (eqb k 11) (Err Room) (Err Image))))))))))))

told_err : {A : Type 0} (a : A) (r : Refusal) → told (number_of r) a ≡ Err r
unfolding told
told_err a Range = refl
told_err a Thread = refl
told_err a NoLine = refl
told_err a Busy = refl
told_err a Idle = refl
told_err a Blank = refl
told_err a Full = refl
told_err a Record = refl
told_err a Text = refl
told_err a Short = refl
told_err a Room = refl
told_err a Image = refl

told_unit : (r : Result Unit Refusal) → told (refusal_of r) tt ≡ r
unfolding told
told_unit (Ok a) = refl
told_unit (Err r) = told_err tt r

told_count : (r : Result ℕ Refusal) → told (refusal_of r) (result_unwrap_or r 0) ≡ r
unfolding told
told_count (Ok a) = refl
told_count (Err r) = told_err 0 r

same_refusal : (r s : Result Unit Refusal) → refusal_of r ≡ refusal_of s → r ≡ s
same_refusal r s h = sym (told_unit r) ∙ ap (λ (k : ℕ). told k tt) h ∙ told_unit s

same_count : (r s : Result ℕ Refusal) → refusal_of r ≡ refusal_of s → result_unwrap_or r 0 ≡ result_unwrap_or s 0 → r ≡ s
same_count r s h g = sym (told_count r) ∙ ap (λ (k : ℕ). told k (result_unwrap_or r 0)) h ∙ ap (λ (n : ℕ). told (refusal_of s) n) g ∙ told_count s

module _ (R n S : ℕ) where
  pub setup_only : (running kept : List ℕ) (r s : Started) (a b k l : List ℕ)
      → (refusal_of r.done ≡ setup_refusal R n S running kept) × (state r.control a k ≡ setup R n S running kept)
      → (refusal_of s.done ≡ setup_refusal R n S running kept) × (state s.control b l ≡ setup R n S running kept) → (r ≡ s) × (a ≡ b) × (k ≡ l)
  setup_only running kept r s a b k l p q =
      let e = p.1 ∙ sym q.1 in
      let f = same_refusal r.done s.done (p.0 ∙ sym q.0) in
      let g = ap (λ (x : State). x.control) e in
      (λ i. record { control = g i; done = f i }, ap (λ (x : State). x.running) e, ap (λ (x : State). x.kept) e)

  pub recover_only : (e : ℕ) (kept : List ℕ) (r s : Result Unit Refusal) (k l : List ℕ) → (refusal_of r ≡ kept_refusal R n S e kept) × (k ≡ host_kept R n S e kept)
      → (refusal_of s ≡ kept_refusal R n S e kept) × (l ≡ host_kept R n S e kept) → (r ≡ s) × (k ≡ l)
  recover_only e kept r s k l p q = (same_refusal r s (p.0 ∙ sym q.0), p.1 ∙ sym q.1)

  pub list_only : (e : ℕ) (kept room : List ℕ) (r s : Result ℕ Refusal) (a b : List ℕ)
      → (refusal_of r ≡ listing_refusal R n S e kept room) × (result_unwrap_or r 0 ≡ listed_count R n S e kept room) × (a ≡ listed_room R n S e kept room)
      → (refusal_of s ≡ listing_refusal R n S e kept room) × (result_unwrap_or s 0 ≡ listed_count R n S e kept room) × (b ≡ listed_room R n S e kept room) → (r ≡ s) × (a ≡ b)
  list_only e kept room r s a b p q =
      (same_count r s (p.0 ∙ sym q.0) (p.1 ∙ sym q.1), p.2 ∙ sym q.2)

pub read_cell_only : (which : Bool) (R j : ℕ) (running kept p q : Bor (List ℕ))
    → (p.now ≡ cell_part which R j running.now kept.now) × (p.ref_ptr.0 ≡ cond which kept.ref_ptr.0 running.ref_ptr.0) × (p.ref_ptr.1 ≡ cond which kept.ref_ptr.1 running.ref_ptr.1 + part_from which R j running.now kept.now)
    → (q.now ≡ cell_part which R j running.now kept.now) × (q.ref_ptr.0 ≡ cond which kept.ref_ptr.0 running.ref_ptr.0) × (q.ref_ptr.1 ≡ cond which kept.ref_ptr.1 running.ref_ptr.1 + part_from which R j running.now kept.now)
    → (p.now ≡ q.now) × (p.ref_ptr.0 ≡ q.ref_ptr.0) × (p.ref_ptr.1 ≡ q.ref_ptr.1)
read_cell_only which R j running kept p q e f = (e.0 ∙ sym f.0, e.1 ∙ sym f.1, e.2 ∙ sym f.2)
