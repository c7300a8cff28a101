use Rattle.std.proofs.Common.{arith, refl}
use Rattle.ring.proofs.Least.{list_is}
use Rattle.rules.specs.Listing.{in_front, listed_count, listed_room}
use Rattle.ring.proofs.list.Goals as goal

pub returns-clause-count : goal.returns-clause-count
unfolding listed_count
returns-clause-count c =
    let a = c.args in
    let o = c.in_ok-shape.ensures in
    let h = o.sound.0 in
    let w = c.write_items.ensures in
    let l = list_is a.cells a.threads a.kept.now h.range.most_cells (λ j l. omega (arith, (h.image.cells j l).blank, h.events, h.range.most_cells)) in
    rw (← o.refusal a.room.now refl, w.count, c.pass_mark-mark.ensures, o.shape.0, o.shape.1, l)

pub returns-clause-room : goal.returns-clause-room
unfolding listed_room in_front
returns-clause-room c =
    let a = c.args in
    let o = c.in_ok-shape.ensures in
    let h = o.sound.0 in
    let w = c.write_items.ensures in
    let l = list_is a.cells a.threads a.kept.now h.range.most_cells (λ j l. omega (arith, (h.image.cells j l).blank, h.events, h.range.most_cells)) in
    rw (← o.refusal a.room.now refl, w.room, w.count, c.pass_mark-mark.ensures, o.shape.0, o.shape.1, l)
