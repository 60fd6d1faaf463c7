-- `rebuild_row_at` meets its contract: row 0 by its own rule. Of another row, the part that is lent holds rows y - 1
-- and y, and the row rebuilt in it is row y of the picture rebuilt.
use Rattle.std.proofs.Common.{arith}
use Rattle.pixel.proofs.Blocks.{row_there}
use Rattle.predictor.proofs.Rows.{first_back, row_back}
use Rattle.predictor.proofs.inverse.rebuild_row_at.Goals as goal

pub returns-then-y-eq0 : goal.returns-then-y-eq0
returns-then-y-eq0 c =
    let b = c.args.blocks.now in
    let e = c.row_bytes.ensures in
    first_back _ _ _ c.args.y _ _ _ _ e.0 e.1 (c.rebuild_first_row.ensures _ _) c.if-y-eq0.true (omega (arith, row_there b.width _ _ c.requires.1))

pub returns-else-y-eq0 : goal.returns-else-y-eq0
returns-else-y-eq0 c =
    let b = c.args.blocks.now in
    let r = c.row.ensures in
    rw (c.rebuild_row.ensures, r.same.0, r.same.1)
    (row_back _ _ _ _ _ _ _ _ c.args.image.now c.row_bytes-above.ensures.0 c.row_bytes-else-y-eq0.ensures.1 c.requires.0 (omega arith) c.requires.1 r.holds)
