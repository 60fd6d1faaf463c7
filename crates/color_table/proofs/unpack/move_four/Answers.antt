-- `move_four` meets its contract: four pixels are read and put.
use mathlib.Core.Path.{◌∙◌}
use Rattle.format.specs.Picture.{pixels}
use Rattle.pixel.specs.Cells.{pixel_cells}
use Rattle.color_table.proofs.Records.{four_given, four_at}
use Rattle.color_table.proofs.unpack.move_four.Goals as goal

pub returns : goal.returns
returns c f h =
    let at = four_at (pixels c.args.columns.now) c.args.from f c.args.i h in
    four_given pixel_cells f _ _ _ _ _ _ _ _ _ _ c.put_pixel.ensures c.put_pixel-2.ensures c.put_pixel-3.ensures c.put_pixel-4.ensures
    (c.pixel_at-a.ensures ∙ at 0 0) (c.pixel_at-b.ensures ∙ at 1 0) (c.pixel_at-c.ensures ∙ at 2 0) (c.pixel_at-d.ensures ∙ at 3 0)
