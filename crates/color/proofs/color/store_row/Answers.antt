-- `store_row` meets its contract: by the blocks of row y, the picture's rule is the row's.
use Rattle.format.specs.Color.{transform_color, color_stored}
use Rattle.format.specs.Picture.{pixels}
use Rattle.color.specs.Row.{in_picture}
use Rattle.color.proofs.Blocks.{row_blocks}
use Rattle.color.proofs.Pointwise.{held}
use Rattle.color.proofs.color.store_row.Goals as goal

pub returns : goal.returns
unfolding color_stored
returns c =
    let b = c.args.blocks.now in
    let r = c.row.ensures in
    held (in_picture transform_color b.width b.bits (pixels b.bytes.now)) _ c.args.y b.width _ _
    (rw (← r.same.0, ← r.same.1) c.make_row.ensures)
    (row_blocks transform_color b.width b.bits c.args.y b.bytes.now _ r.holds)
    c.requires.0
