-- `find` meets its contract: before each turn every entry that equals w is reached from i.
use Prim.Native.Nat.{◌<◌, ◌-◌}
use Rattle.format.specs.Picture.{pixels}
use Rattle.color_table.proofs.Hints.{Leads}
use Rattle.color_table.proofs.lookup.Lookup.find.Given as goal

abbrev pub invariant-loop-w : goal.invariant-loop-w
invariant-loop-w l = record { inside : l.i < l.self.entries.size; leads : Leads l.self.entries.size (pixels l.self.entries.bytes.now) l.w l.i }

abbrev pub decreases-loop-w : goal.decreases-loop-w
decreases-loop-w l = l.self.entries.size - l.i
