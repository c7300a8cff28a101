use Rattle.std.proofs.Common.{rules}
use Rattle.std.proofs.iter.Rest.{running}
use Rattle.rules.specs.Sound.{sound_cell}
use Rattle.ring.proofs.Images.{all_cells_are}
use Rattle.ring.proofs.sound.sound_cells.Goals as goal

pub returns : goal.returns
returns c = let a = c.args in all_cells_are a.s.cells a.m.now (sound_cell a.s.cells a.events) _ c.requires.1 (search (rules, running))
