-- `store_first_row` meets its contract: the first pixel loses black, and each other one L.
use Rattle.std.proofs.Common.{◌∙◌, arith, rules}
use Rattle.predictor.proofs.StoredRows.{left_lost, lost_bytes, stored_first_row}
use Rattle.predictor.proofs.forward.store_first_row.Goals as goal

pub returns : goal.returns
returns c =
    λ bits d f h. let w = c.args.width in
    stored_first_row w bits d f c.args.row.now (search rules) h _ _ _ _ c.put_pixel.ensures (c.subtract_pixels-first.ensures ∙ rw c.pixel_at.ensures)
    (lost_bytes w bits d f c.args.row.now (omega arith) h _ _ (c.fill.ensures (left_lost c.args.row.now) (λ i v l u p. search rules)))
    (omega arith)
