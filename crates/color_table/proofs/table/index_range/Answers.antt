-- `index_range` meets its contract.
use Rattle.color_table.proofs.Digits.{range_shift, ranged}
use Rattle.color_table.proofs.table.index_range.Goals as goal

pub returns : goal.returns
returns c =
    let p = c.per_pixel.ensures in
    rw (range_shift _ p.1, p.0) (ranged _ c.requires)
