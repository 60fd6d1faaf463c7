-- `put_eights` meets its contract: before each turn the columns from 8 * k on are there.
use Prim.Native.Nat.{◌-◌, ◌*◌}
use Rattle.color_table.specs.Unpack.{Columns}
use Rattle.color_table.proofs.unpack.Unpacking+8.put_eights.Given as goal

abbrev pub invariant-loop-k : goal.invariant-loop-k
invariant-loop-k l =
    Columns 8 l.self.columns.now l.self.first (8 * l.k) (8 * l.count - 8 * l.k) l.initial.part l.part
