-- `put_fours` meets its contract: before each turn the first 4 * k records are there.
use Prim.Native.Nat.{◌*◌}
use Rattle.color_table.specs.Packed.{RecordsOf}
use Rattle.color_table.proofs.flat.Flat.put_fours.Given as goal

abbrev pub invariant-loop-k : goal.invariant-loop-k
invariant-loop-k g l = RecordsOf l.self.packing.now 0 (4 * l.k) l.initial.out l.out
