-- `put_fours` meets its contract: before each turn the columns from 4 * k on are there.
use native.Mathlib.Omega.{arith}
use Rattle.color_table.proofs.Rows.{columns_none, columns_before}
use Rattle.color_table.proofs.unpack.Unpacking.put_fours.Goals as goal

pub loop-k-init : goal.loop-k-init
loop-k-init g c = columns_none _ _ _ _ _ _

pub loop-k-preserved : goal.loop-k-preserved
loop-k-preserved g c =
    columns_before _ _ _ _ _ _ _ _ _ _ _ c.loop-k.invariant c.put_four.ensures (omega arith) (omega arith)
