-- `hints_of` meets its contract: before each turn the entries from i on are linked.
use Rattle.format.specs.Picture.{pixels}
use Rattle.color_table.specs.Hints.{Linked}
use Rattle.color_table.proofs.find.hints_of.Given as goal

abbrev pub invariant-loop-i : goal.invariant-loop-i
invariant-loop-i l = Linked l.i l.entries.size (pixels l.entries.bytes.now) l.hints
