use Rattle.std.proofs.Common.{arith, ap, sym, ◌∙◌, ◌≡◌}
use Rattle.rules.specs.Refusal.{refusal_of}
use Rattle.ring.proofs.Entries.{numbered}
use Rattle.bench.proofs.Printing.{nothing}
use Rattle.bench.proofs.Running.{ring_ran, ring_refused, ring_says, ring_silent}
use Rattle.bench.proofs.run.set_up.Goals as goal

pub returns-in-Ok : goal.returns-in-Ok
returns-in-Ok c =
    let a = c.args in
    let s = c.setup-s.ensures in
    let z = ap refusal_of c.in-Ok.is in
    record {
      run = ring_ran a.l a.cells a.threads a.tries _ a.running.now a.kept.now _ _ _ s.refusal s.left z;
      printed = record {
        written = rw (ring_silent a.l a.cells a.threads a.tries _ a.running.now a.kept.now _ _ _ s.refusal s.left z) (nothing _);
        near = omega arith;
      };
    }

pub returns-in-Err : goal.returns-in-Err
returns-in-Err c =
    let a = c.args in
    let s = c.setup-s.ensures in
    let z = ap refusal_of c.in-Err.is in
    let n : refusal_of c.setup-s.result.done ≡ 0 → ⊥ = λ q. numbered c.in-Err.r (sym z ∙ q) in
    record {
      run = ring_refused a.l a.cells a.threads a.tries _ a.running.now a.kept.now _ _ _ s.refusal s.left n;
      printed = rw (ring_says a.l a.cells a.threads a.tries _ a.running.now a.kept.now _ _ _ s.refusal s.left n, z, ← c.into.ensures) c.refused.ensures;
    }
