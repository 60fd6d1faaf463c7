-- `rebuild_first_row` meets its contract: the first pixel gains black, and each other one L.
use Rattle.std.proofs.Common.{◌∙◌, arith, rules}
use Rattle.format.specs.Picture.{pixels}
use Rattle.format.specs.Predictor.{gained}
use Rattle.predictor.proofs.Rows.{first_row, gained_left}
use Rattle.predictor.proofs.inverse.rebuild_first_row.Goals as goal

pub returns : goal.returns
returns c =
    λ bits d. let w = c.args.width in
    first_row w bits d _ _ _ _ c.put_pixel.ensures (c.add_pixels-first.ensures ∙ rw c.pixel_at.ensures)
    (c.replace_left.ensures (gained w bits d) (λ ys i v n l u p. let e = gained_left w bits d (pixels ys.now) i l u in search rules))
    (omega arith)
