-- `store_row` meets its contract: row 0 by its own rule, out of the second half of `rows`; another by the blocks of its
-- row.
use Rattle.std.proofs.Common.{◌≡◌, ◌≤◌, ◌∙◌, arith}
use Rattle.format.specs.Picture.{pixels}
use Rattle.predictor.proofs.StoredRows.{second_row, stored_row}
use Rattle.predictor.proofs.forward.store_row.Goals as goal

pub returns-then-y-eq0 : goal.returns-then-y-eq0
returns-then-y-eq0 c =
    λ f above row. let b = c.args.blocks.now in
    let z : c.args.y ≡ 0 = c.if-y-eq0.true in
    let e = c.row_bytes.ensures in
    rw z (c.store_first_row.ensures b.bits (pixels b.bytes.now) f (λ x u. second_row b.width _ _ c.args.rows.now e.0 e.1 (omega arith) x u ∙ rw z at (row x u)))

pub returns-else-y-eq0 : goal.returns-else-y-eq0
returns-else-y-eq0 c =
    λ f above row. let b = c.args.blocks.now in
    let r = c.row.ensures in
    let off : 1 ≤ c.args.y = omega arith in
    stored_row b.width b.bits c.args.y _ _ f c.args.rows.now off r.holds (above off) row _ _ (rw (r.same.0, r.same.1) at c.store_row.ensures) (omega arith)
