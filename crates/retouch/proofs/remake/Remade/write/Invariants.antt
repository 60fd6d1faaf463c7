-- Before each turn the strip has the records of the spots so far.
use Prim.Native.Nat.{◌/◌}
use lib.ListN.{length}
use Rattle.retouch.specs.Spots.{records_of}
use Rattle.retouch.proofs.Writing.{WrittenTo}
use Rattle.retouch.proofs.remake.Remade.write.Given as goal

abbrev pub invariant-loop-r : goal.invariant-loop-r
invariant-loop-r l = WrittenTo (records_of l.self.spots) (length l.initial.strip / 4) l.self.made l.initial.strip (length l.yielded) l.strip
