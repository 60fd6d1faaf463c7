-- `index_inside` meets its contract: the pixel has an entry.
use native.Mathlib.Omega.{arith}
use Rattle.color_table.proofs.Records.{entry_there, index_there, index_is}
use Rattle.color_table.proofs.each.Packing.index_inside.Goals as goal

pub index-requires : goal.index-requires
index-requires g c = entry_there c.args.self.now _ _ c.at.ensures c.requires

pub overflow_cast-result : goal.overflow_cast-result
overflow_cast-result g c =
    let m = c.args.self.now.lookup.now.entries.most in
    omega (arith, index_there c.args.self.now _ _ c.at.ensures c.requires)

pub returns : goal.returns
returns g c = index_is c.args.self.now _ _ c.at.ensures c.requires _ c.index.ensures
