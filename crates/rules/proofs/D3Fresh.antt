-- A fresh ring begins with the invariant.
use Prim.Native.Nat.{ℕ, ◌%◌, ◌<◌, ◌≤◌}
use mathlib.Core.Path.{◌≡◌, refl}
use mathlib.Core.List.{List}
use native.Mathlib.Omega.{arith}
use native.Mathlib.Nat.{mod-eq_of_lt}
use lib.ListN.{length, length-replicate}
use Rattle.rules.specs.Record.{idle, thread_at}
use Rattle.rules.specs.Memory.{cell_at, size, fresh_image}
use Rattle.rules.specs.Refusals.{setup_refusal}
use Rattle.rules.specs.Events.{fresh_state}
use Rattle.rules.specs.Account.{opened}
use Rattle.rules.proofs.Tests.{get_or-all}
use Rattle.rules.proofs.Past.{past_fresh}
use Rattle.rules.proofs.Fresh.{fresh_cell, fresh_copy, fresh_closed, setup_of}
use Rattle.rules.proofs.D3Threads.{idle_ok}
use Rattle.rules.proofs.D3Inv.{Inv}

-- a fresh cell
module _ (R n : ℕ) (m : List ℕ) (long : size R n ≤ length m) where
  mark0 : (j : ℕ) → j < R → (cell_at R (fresh_image R n m) j).mark ≡ 0
  mark0 j l = rw (fresh_cell R n m long j l)

  item0 : (j : ℕ) → j < R → (cell_at R (fresh_image R n m) j).item ≡ 0
  item0 j l = rw (fresh_cell R n m long j l)

  resid : (j : ℕ) → j < R → (cell_at R (fresh_image R n m) j).index % R ≡ j
  resid j l = rw (fresh_cell R n m long j l, mod-eq_of_lt)

pub fresh_ok : (R n S : ℕ) (r k : List ℕ) → setup_refusal R n S r k ≡ 0 → Inv (fresh_state R n S r k) opened
unfolding fresh_state opened thread_at
fresh_ok R n S r k h =
    let e = setup_of R n S r k h in
    let g = e.0 in
    let long_r = e.1 in
    let long_k = e.2 in
    record {
      pos = omega (arith, g);
      run_len = rw (past_fresh R n r).long long_r;
      kept_len = rw (past_fresh R n k).long long_k;
      few = omega (arith, g);
      wide = length-replicate 8 idle;
      cells = record {
        run_mod = resid R n r long_r;
        kept_mod = resid R n k long_k;
        run_mark = λ j l. omega (arith, mark0 R n r long_r j l);
        kept_mark = λ j l. omega (arith, mark0 R n k long_k j l);
        rises = λ j l. omega arith;
        under = λ j l. omega arith;
        low = λ j l. omega (arith, mark0 R n r long_r j l);
        log = λ x z. absurd (z refl);
        wlog = λ x z. absurd (z refl);
        run_in = λ j l z. absurd (z (item0 R n r long_r j l));
        kept_in = λ j l z. absurd (z (item0 R n k long_k j l));
        sub = λ x z. refl;
        where_landed = λ x z. absurd (z refl);
        from = λ x z. omega arith;
        upto = λ x z. absurd (z refl);
      };
      copies = record { run_copy = λ t l. omega (arith, fresh_copy R n r long_r t l); kept_copy = λ t l. omega (arith, fresh_copy R n k long_k t l); rises = λ t. omega arith; under = λ t l. omega arith };
      head = omega arith;
      tail = omega arith;
      shut = λ q. absurd (omega (arith, fresh_closed R n k long_k));
      thrs = λ i. rw (get_or-all 8 i idle) (idle_ok _ _ _ i);
    }
