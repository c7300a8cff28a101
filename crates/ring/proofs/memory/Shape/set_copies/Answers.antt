use Rattle.std.proofs.Common.{rules, arith, ◌≡◌, ◌∙◌, ◌+◌, ◌*◌, ◌-◌, ap, refl, length, take, drop, length-take, length-drop}
use Rattle.std.proofs.Math.ListN.{replicate}
use Rattle.ring.proofs.Images.{copies_filled}
use Rattle.ring.proofs.memory.Shape.set_copies.Goals as goal

pub returns : goal.returns
returns c =
    let s = c.args.self in
    let m = c.args.m.now in
    let n : 4 * s.cells + s.threads - 4 * s.cells ≡ s.threads = omega arith in
    let l : length (take (c.closed_at.result - c.copies_at.result) (drop c.copies_at.result m)) ≡ s.threads = simp (length-take, length-drop, c.closed_at.ensures, c.copies_at.ensures) (omega arith) in
    let e : c.fill.new.self ≡ replicate s.threads c.args.v = c.fill.ensures.after (λ y h. search rules) ∙ ap (λ k. replicate k c.args.v) l in
    rw (copies_filled s.cells c.args.v m s.threads c.requires, e, c.closed_at.ensures, c.copies_at.ensures, n) refl
