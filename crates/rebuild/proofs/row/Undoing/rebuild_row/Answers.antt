-- `rebuild_row` meets its contract: a table's row is unpacked by its columns.
use Rattle.rebuild.proofs.Rows.{rule_3, as_rule}
use Rattle.rebuild.proofs.row.Undoing.rebuild_row.Goals as goal

pub returns-in-ColorTable : goal.returns-in-ColorTable
returns-in-ColorTable c =
    let u = c.args.self.now in
    let t = u.inverts.table _ c.in-ColorTable.is in
    as_rule _ _ _ _ _ _ (rule_3 u.«record» _ t.0) (c.unpack_row_at.ensures _ t.1)
