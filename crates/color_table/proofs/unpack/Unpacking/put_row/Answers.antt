-- `put_row` meets its contract: the last columns, and those before them.
use native.Mathlib.Omega.{arith}
use Rattle.color_table.proofs.Rows.{columns_before}
use Rattle.color_table.proofs.unpack.Unpacking.put_row.Goals as goal

pub returns : goal.returns
returns g c =
    columns_before _ _ _ _ _ _ _ _ _ _ _ c.put_rest.ensures c.put_front.ensures (omega arith) (omega arith)
