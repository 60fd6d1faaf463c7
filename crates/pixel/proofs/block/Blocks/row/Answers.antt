-- `row` meets its contract: the part is inside, and has the blocks of the row.
use native.Mathlib.Omega.{arith}
use Rattle.pixel.proofs.Blocks.{data_there, data-part}
use Rattle.pixel.proofs.block.Blocks.row.Goals as goal

pub row_bytes-requires : goal.row_bytes-requires
row_bytes-requires c = omega (arith, data_there _ _ _ _ _ c.args.self.now.there c.requires _ c.subsample_size-columns.ensures)

pub slice_bounds-result-end : goal.slice_bounds-result-end
slice_bounds-result-end c = omega (arith, data_there _ _ _ _ _ c.args.self.now.there c.requires _ c.subsample_size-columns.ensures)

pub returns-clause-holds : goal.returns-clause-holds
returns-clause-holds c =
    let e = c.row_bytes.ensures in
    rw (e.1, e.0) (data-part _ _ _ _ _ c.args.self.now.there c.requires _ c.subsample_size-columns.ensures)
