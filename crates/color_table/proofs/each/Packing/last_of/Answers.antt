-- `last_of` meets its contract: n digits are its index.
use mathlib.Core.Path.{refl}
use Prim.Native.Nat.{◌<◌}
use Rattle.format.specs.ColorTable.{range}
use native.Mathlib.Omega.{arith}
use Rattle.color_table.proofs.Digits.{base_in}
use Rattle.color_table.proofs.Records.{entry_there, index_is, uniform_of}
use Rattle.color_table.proofs.each.Packing.last_of.Goals as goal
use Rattle.color_table.proofs.each.Packing.last_of.Goals.{After-index}

-- its index is below the table's size and the range
small : (g : _) → (c : After-index g) → (c.index.result < 256) × (c.index.result < range g.row.N)
small g c =
    let m = (base_in c.args.self.now).most in
    let i = (index_is c.args.self.now _ _ c.at-word.ensures c.requires _ c.index.ensures).1 in
    (omega arith, i)

pub index-requires : goal.index-requires
index-requires g c = entry_there c.args.self.now _ _ c.at-word.ensures c.requires

pub overflow_cast-i : goal.overflow_cast-i
overflow_cast-i g c = omega (arith, small g (goal.at.overflow_cast-i g c).After-index)

pub record-packed-requires : goal.record-packed-requires
record-packed-requires g c =
    (omega arith, ((λ k l. tt), λ k r l post. rw post (small g (goal.at.record-packed-requires g c).After-index).1))

pub returns : goal.returns
returns g c = (refl, uniform_of _ _ _ _ _ _ (c.record-packed.ensures (λ k. c.index.result) (λ k r l post. post)) c.index.ensures)
