-- `rebuild_row_at` meets its contract: by the blocks of row y, the picture's rule is that of the row that is lent.
use Rattle.std.proofs.Common.{arith}
use Rattle.format.specs.Color.{inverse_color}
use Rattle.pixel.proofs.Blocks.{row_there}
use Rattle.color.proofs.Blocks.{row_blocks}
use Rattle.color.proofs.Pointwise.{lent}
use Rattle.color.proofs.color.rebuild_row_at.Goals as goal

pub returns : goal.returns
returns c =
    let b = c.args.blocks.now in
    let r = c.row.ensures in
    let e = c.row_bytes.ensures in
    lent _ _ c.args.y b.width _ _ _ _ e.0 e.1 (rw (r.same.0, r.same.1) at c.make_row.ensures)
    (row_blocks inverse_color b.width b.bits c.args.y b.bytes.now _ r.holds)
    (omega (arith, row_there b.width _ _ c.requires.1))
