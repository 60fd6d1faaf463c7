-- Before each turn the mask is that of the spots so far.
use Prim.Native.Nat.{◌/◌, ◌≤◌}
use lib.ListN.{length}
use Rattle.format.specs.Picture.{pixels}
use Rattle.retouch.specs.Spots.{records_of}
use Rattle.retouch.proofs.Marked.{MaskTo}
use Rattle.retouch.proofs.remake.Remade.changes.Given as goal

abbrev pub invariant-loop-k : goal.invariant-loop-k
invariant-loop-k l =
    MaskTo (records_of l.self.spots) (length l.strip / 4) (pixels l.strip) l.self.made (length l.yielded) l.mask
    × (length l.yielded ≤ 5)
