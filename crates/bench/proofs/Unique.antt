-- No second outcome satisfies a public function's statement.
use Rattle.std.specs.Prelude.{ℕ, ◌≡◌, List, Option}
use Rattle.std.proofs.Common.{ap, sym, ◌∙◌}
use Rattle.bench.specs.declared.Bench.{Bench}
use Rattle.bench.specs.declared.carry.Carry.{Carry}
use Rattle.bench.specs.declared.Fed.{Fed}
use Rattle.bench.specs.declared.Finished.{Finished}
use Rattle.bench.specs.declared.read.Command.{Command}
use Rattle.bench.specs.Read.{line_of}
use Rattle.bench.specs.Bench.{run_with, bench_of, fresh_bench}
use Rattle.bench.specs.Block.{empty_carry, Poured, poured, Finished as End}

-- read::line
pub one_command : (s : List ℕ) (c d : Option Command) → c ≡ line_of s → d ≡ line_of s → c ≡ d
one_command s c d e f = e ∙ sym f

-- Bench::fresh
pub one_fresh : (b c : Bench) → b ≡ fresh_bench → c ≡ fresh_bench → b ≡ c
one_fresh b c e f = e ∙ sym f

-- Carry::empty
pub one_empty : (b c : Carry) → b ≡ empty_carry → c ≡ empty_carry → b ≡ c
one_empty b c e f = e ∙ sym f

-- feed: whatever a block gives, the result, the carry, both images and the buffer are settled by it
module _ (p : Poured) (r s : Fed) (running running' kept kept' : List ℕ) (carry carry' : Carry) (out out' : List ℕ)
    (e : poured (run_with r.bench running kept) carry.bytes carry.len r.next out r.at ≡ p)
    (f : poured (run_with s.bench running' kept') carry'.bytes carry'.len s.next out' s.at ≡ p) where
  pub one_fed : (r ≡ s) × ((running ≡ running') × ((kept ≡ kept') × ((carry ≡ carry') × (out ≡ out'))))
  one_fed =
      let g = e ∙ sym f in (
        ap (λ (x : Poured). record { bench = bench_of x.run.phase x.run.lines x.run.state.control; next = x.next; at = x.at }) g,
        (
          ap (λ (x : Poured). x.run.state.running) g,
          (
            ap (λ (x : Poured). x.run.state.kept) g,
            (
              ap (λ (x : Poured). record { bytes = x.carry; len = x.len }) g,
              ap (λ (x : Poured). x.out) g,
            ),
          ),
        ),
      )

-- finish: the same
module _ (p : End) (r s : Finished) (running running' kept kept' out out' : List ℕ)
    (e : record { run = run_with r.bench running kept; out = out; at = r.at } ≡ p)
    (f : record { run = run_with s.bench running' kept'; out = out'; at = s.at } ≡ p) where
  pub one_end : (r ≡ s) × ((running ≡ running') × ((kept ≡ kept') × (out ≡ out')))
  one_end =
      let g = e ∙ sym f in (
        ap (λ (x : End). record { bench = bench_of x.run.phase x.run.lines x.run.state.control; at = x.at }) g,
        (
          ap (λ (x : End). x.run.state.running) g,
          (
            ap (λ (x : End). x.run.state.kept) g,
            ap (λ (x : End). x.out) g,
          ),
        ),
      )
