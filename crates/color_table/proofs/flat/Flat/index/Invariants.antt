-- `index` meets its contract: before each turn r counts the entries before j that come before the pixel's.
use mathlib.Core.Path.{◌≡◌}
use Prim.Native.Nat.{min}
use lib.Dec.{ltb}
use Rattle.format.specs.ColorTable.{index_of}
use Rattle.color_table.specs.Packed.{table_of}
use Rattle.color_table.proofs.flat.Flat.index.Given as goal

abbrev pub invariant-loop-j : goal.invariant-loop-j
invariant-loop-j g l =
    let p = l.self.packing.now in
    let i = index_of p.lookup.now.entries.size (table_of p) l.w in
    record { passed : l.found ≡ ltb i l.j; counted : l.r ≡ min i l.j }
