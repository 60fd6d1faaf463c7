-- `put_fours` meets its contract: before each turn the columns from 4 * k on are there.
use Prim.Native.Nat.{◌-◌, ◌*◌}
use Rattle.color_table.specs.Unpack.{Columns}
use Rattle.color_table.proofs.unpack.Unpacking.put_fours.Given as goal

abbrev pub invariant-loop-k : goal.invariant-loop-k
invariant-loop-k g l =
    Columns g.row.N l.self.columns.now l.self.first (4 * l.k) (4 * l.count - 4 * l.k) l.initial.part l.part
