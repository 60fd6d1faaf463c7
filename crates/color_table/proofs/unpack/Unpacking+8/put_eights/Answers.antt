-- `put_eights` meets its contract: before each turn the columns from 8 * k on are there.
use native.Mathlib.Omega.{arith}
use Rattle.color_table.proofs.Rows.{columns_none, columns_before}
use Rattle.color_table.proofs.unpack.Unpacking+8.put_eights.Goals as goal

pub loop-k-init : goal.loop-k-init
loop-k-init c = columns_none _ _ _ _ _ _

pub loop-k-preserved : goal.loop-k-preserved
loop-k-preserved c =
    columns_before _ _ _ _ _ _ _ _ _ _ _ c.loop-k.invariant c.put_pixel.ensures (omega arith) (omega arith)
