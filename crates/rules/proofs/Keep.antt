-- An accepted event keeps record and images sound.
use Prim.Native.Nat.{ℕ, ◌+◌, ◌≤◌, ◌<◌}
use mathlib.Core.Path.{◌≡◌, refl, ap, ◌∙◌}
use mathlib.Core.Logic.{◌≢◌, inl, inr}
use mathlib.Core.Bool.{true, false, ◌||◌}
use mathlib.Core.List.{List, map}
use native.Mathlib.Omega.{arith}
use lib.Dec.{eqb}
use lib.ListN.{length, get_or, get_or-map}
use borrow.Author.Tests.{ltb-true, eqb-true, eqb-false}
use Rattle.rules.specs.declared.Line.{Line}
use Rattle.rules.specs.declared.Line.TheVariants.{None, Copy, Tail, Cell as CellLine}
use Rattle.rules.specs.declared.Thread.{Thread}
use Rattle.rules.specs.declared.Control.{Control}
use Rattle.rules.specs.declared.Event.{Event}
use Rattle.rules.specs.declared.Event.TheVariants.{Put, Take, Go, Back, Cut as CutEvent}
use Rattle.rules.specs.Numbers.{run_limit}
use Rattle.rules.specs.Record.{idle, thread_at, with_thread}
use Rattle.rules.specs.Memory.{closed_at, set_closed, size, over_to}
use Rattle.rules.specs.Line.{is_none, line_exists, carried, ends, released}
use Rattle.rules.specs.Places.{P1, T1}
use Rattle.rules.specs.Cut.{finds, recovered}
use Rattle.rules.specs.State.{State, state, Out, accept}
use Rattle.rules.specs.Refusals.{is_idle, own_refusal}
use Rattle.rules.specs.Events.{counts, begins, begin_put, begin_take, step_thread, write_back, cut, does, inner}
use Rattle.rules.specs.Facts.{Busy, SoundThread, SoundImage, SoundRecord, Sound}
use Rattle.rules.proofs.Tests.{cond_cases, set_cases, get_or-all}
use Rattle.rules.proofs.Memory.{length-set_cell, length-set_copy, length-set_closed, length-set_tail, length-over_to, over_at, agree_cell, agree_copy, agree_closed, agree_tail}
use Rattle.rules.proofs.Accepted.{put_accepted, take_accepted, go_accepted, back_accepted, cut_accepted}
use Rattle.rules.proofs.Recovered.{length_recovered, sound_recovered, head_bound}
use Rattle.rules.proofs.Rows.{thread-more, image-more, store_cell, store_copy, store_closed, store_tail, busy, keep_row}

-- a thread that is not idle is busy, an idle one is idle
pub busy_at : {R n S e i : ℕ} {t : Thread} → SoundThread R n S e i t → t.place ≢ 0 → Busy R n S e i t
busy_at (inl q) z = absurd (z (ap (λ (t : Thread). t.place) q))
busy_at (inr b) z = b

pub idle_at : {R n S e i : ℕ} {t : Thread} → SoundThread R n S e i t → t.place ≡ 0 → t ≡ idle
idle_at (inl q) z = q
idle_at (inr b) z = absurd (omega (arith, b.first))

-- threads once a line is written
pub released-idle : (l : Line) → released l idle ≡ idle
unfolding released ends
released-idle l = refl

pub released_in : (l : Line) (ts : List Thread) (i : ℕ) → get_or (map (released l) ts) i idle ≡ released l (get_or ts i idle)
released_in l ts i = rw (released-idle l) at (get_or-map (released l) ts i idle)

pub released_at : (l : Line) (c : Control) (i : ℕ) → get_or (map (released l) c.thread) i idle ≡ released l (thread_at c i)
unfolding thread_at
released_at l c i = released_in l c.thread i

wait : {R n S e i : ℕ} (l : Line) (t : Thread) → Busy R n S e i t → Busy R n S e i (released l t)
unfolding released
wait {R} {n} l t b = record {
  here = b.here;
  first = b.first;
  last = b.last;
  tries = b.tries;
  item = b.item;
  most = b.most;
  number = b.number;
  begun = b.begun;
  awaited = cond_cases (λ w. (is_none w || line_exists R n w) ≡ true) (ends l t.awaited) (λ q. refl) (λ q. b.awaited);
}

release : {R n S e i : ℕ} (l : Line) (t : Thread) → SoundThread R n S e i t → SoundThread R n S e i (released l t)
release l t (inl q) = inl (rw q (released-idle l))
release l t (inr b) = inr (wait l t b)

-- a record with one thread anew, counted
one_thread : (c : Control) (i : ℕ) (t : Thread) → SoundRecord c → c.ring.events < run_limit
    → SoundThread c.ring.cells c.ring.threads c.ring.tries (c.ring.events + 1) i t → SoundRecord (counts (with_thread c i t))
unfolding with_thread thread_at
one_thread c i t r l k = record {
  ring = record { range = r.ring.range; events = omega arith; head = omega (arith, r.ring.head) };
  threads = λ j h. set_cases (SoundThread c.ring.cells c.ring.threads c.ring.tries (c.ring.events + 1) j) c.thread j i t idle
      (λ e. rw e k) (λ d. thread-more (r.threads j h)) (thread-more (r.threads j h));
}

module _ (s : State) (h : Sound s) where
  -- the images stay, the record is sound
  same_images : (c : Control) → SoundRecord (counts c) → c.ring.cells ≡ s.control.ring.cells → c.ring.threads ≡ s.control.ring.threads → c.ring.events ≡ s.control.ring.events
      → Sound (state (counts c) s.running s.kept)
  same_images c r a b d = record {
    control = r;
    long_running = rw (a, b) h.long_running;
    long_kept = rw (a, b) h.long_kept;
    running = rw (a, b, d) (image-more h.running);
    kept = rw (a, b, d) (image-more h.kept);
  }

  begin : (i x p : ℕ) → i < s.control.ring.threads → is_idle (thread_at s.control i) ≡ true → s.control.ring.events < run_limit → P1 ≤ p → p ≤ T1 → (p ≤ 10 → x ≢ 0)
      → Sound (state (counts (with_thread s.control i (begins (thread_at s.control i) p x))) s.running s.kept)
  unfolding with_thread
  begin i x p l e f a b z =
      let r = h.control.ring.range in
      let q = idle_at (h.control.threads i (omega (arith, r.most_threads))) (eqb-true _ _ e) in
      same_images (with_thread s.control i (begins (thread_at s.control i) p x))
      (rw q (one_thread s.control i (begins idle p x) h.control f (inr (busy p x 0 _ 0 None l a (omega arith) (omega (arith, r.some_tries)) refl z (omega arith)))))
      refl refl refl

  step_sound : (i : ℕ) → i < s.control.ring.threads → is_idle (thread_at s.control i) ≡ false → s.control.ring.events < run_limit → Sound (step_thread s i).state
  unfolding step_thread with_thread thread_at
  step_sound i l e f =
      let g = s.control.ring in
      let r = h.control.ring.range in
      let b = busy_at (h.control.threads i (omega (arith, r.most_threads))) (eqb-false _ _ e) in
      let k = keep_row g i (thread_at s.control i) s.running h.control.ring b h.running h.long_running in
      record {
        control = record {
          ring = record { range = rw (k.cells, k.threads, k.tries) r; events = rw k.events (omega arith); head = rw k.events k.head };
          threads = λ j w. rw (k.cells, k.threads, k.tries, k.events)
              (set_cases (SoundThread g.cells g.threads g.tries (g.events + 1) j) s.control.thread j i _ idle
              (λ q. rw q k.thread) (λ d. thread-more (h.control.threads j w)) (thread-more (h.control.threads j w)));
        };
        long_running = rw (k.cells, k.threads, k.long) h.long_running;
        long_kept = rw (k.cells, k.threads) h.long_kept;
        running = rw (k.cells, k.threads, k.events) k.image;
        kept = rw (k.cells, k.threads, k.events) (image-more h.kept);
      }

  -- a line that exists, copied from running to kept
  carried_sound : (l : Line) → line_exists s.control.ring.cells s.control.ring.threads l ≡ true
      → (length (carried s.control.ring.cells s.control.ring.threads l s.running s.kept) ≡ length s.kept)
      × SoundImage s.control.ring.cells s.control.ring.threads s.control.ring.events (carried s.control.ring.cells s.control.ring.threads l s.running s.kept)
  unfolding carried line_exists
  carried_sound None e = (refl, h.kept)
  carried_sound (CellLine j) e =
      let l = ltb-true _ _ e in
      (length-set_cell _ s.kept j _, store_cell _ _ _ s.kept h.kept h.long_kept j _ l (h.running.cells j l))
  carried_sound (Copy t) e =
      let l = ltb-true _ _ e in
      (length-set_copy _ s.kept t _, store_copy _ _ _ s.kept h.kept h.long_kept t _ l (h.running.copies t l))
  carried_sound Tail e =
      let k = set_closed s.control.ring.cells s.control.ring.threads s.kept (closed_at s.control.ring.cells s.control.ring.threads s.running) in
      let q : length k ≡ length s.kept = length-set_closed _ _ s.kept _ in (
        length-set_tail _ _ k _ ∙ q,
        store_tail _ _ _ k (store_closed _ _ _ s.kept h.kept h.long_kept _ h.running.closed) (omega (arith, h.long_kept)) _ h.running.tail,
      )

  back_sound : (l : Line) → line_exists s.control.ring.cells s.control.ring.threads l ≡ true → s.control.ring.events < run_limit → Sound (write_back s l).state
  unfolding write_back thread_at
  back_sound l e f =
      let k = carried_sound l e in
      record {
        control = record {
          ring = record { range = h.control.ring.range; events = omega arith; head = omega (arith, h.control.ring.head) };
          threads = λ i w. rw (released_at l s.control i) (release l (thread_at s.control i) (thread-more (h.control.threads i w)));
        };
        long_running = h.long_running;
        long_kept = rw k.0 h.long_kept;
        running = image-more h.running;
        kept = image-more k.1;
      }

  cut_sound : s.control.ring.events < run_limit → Sound (cut s).state
  unfolding cut thread_at finds
  cut_sound f =
      let R = s.control.ring.cells in
      let n = s.control.ring.threads in
      let e = s.control.ring.events in
      let k = recovered R n s.kept in
      let i = image-more (sound_recovered R n s.kept h.long_kept e h.kept) in
      let over : (j : ℕ) → j < size R n → get_or (over_to k s.running (size R n)) j 0 ≡ get_or k j 0 = λ j l. over_at k s.running (size R n) j h.long_running l in
      let q = length_recovered R n s.kept h.long_kept in
      record {
        control = record {
          ring = record { range = h.control.ring.range; events = omega arith; head = omega (arith, head_bound R n e s.kept h.kept) };
          threads = λ j w. inl (get_or-all 8 j idle);
        };
        long_running = rw (length-over_to k s.running (size R n)) h.long_running;
        long_kept = rw q h.long_kept;
        running = record {
          cells = λ j l. rw (agree_cell R n k _ over j l) (i.cells j l);
          copies = λ t l. rw (agree_copy R n k _ over t l) (i.copies t l);
          closed = rw (agree_closed R n k _ over) i.closed;
          tail = rw (agree_tail R n k _ over) i.tail;
        };
        kept = i;
      }

-- an accepted event of a sound state
pub does_sound : (s : State) (e : Event) → Sound s → own_refusal s.control e ≡ 0 → Sound (does s e).state
unfolding does begin_put begin_take
does_sound s (Put i x) h q = let a = put_accepted s.control i x h.control q in begin s h i x P1 a.1 a.2 a.0 (omega arith) (omega arith) (λ _. a.3)
does_sound s (Take i) h q =
    let a = take_accepted s.control i h.control q in
    begin s h i (thread_at s.control i).item T1 a.1 a.2 a.0 (omega arith) (omega arith) (λ l. absurd (omega arith))
does_sound s (Go i) h q = let a = go_accepted s.control i h.control q in step_sound s h i a.1 a.2 a.0
does_sound s (Back l) h q = let a = back_accepted s.control l h.control q in back_sound s h l a.1 a.0
does_sound s CutEvent h q = cut_sound s h (cut_accepted s.control h.control q)

-- an event of a sound state, accepted or refused
pub inner_sound : (s : State) (e : Event) → Sound s → Sound (inner s e).state
unfolding inner accept
inner_sound s e h =
    cond_cases (λ (o : Out). Sound o.state) (eqb (own_refusal s.control e) 0) (λ q. does_sound s e h (eqb-true _ _ q)) (λ q. h)
