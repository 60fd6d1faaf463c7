-- `fill_groups` meets its contract: before each turn the groups before g are the last pixel, and have its record.
use Rattle.format.specs.Picture.{pixels}
use Rattle.color_table.specs.Pack.{Filled}
use Rattle.color_table.proofs.each.Packing.fill_groups.Given as goal

abbrev pub invariant-loop-g : goal.invariant-loop-g
invariant-loop-g g l = Filled g.row.N l.last l.g (pixels l.self.row.now) l.initial.out l.out
