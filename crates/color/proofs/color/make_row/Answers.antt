-- `make_row` meets its contract: before each turn the columns of the blocks before block k are made.
use Rattle.pixel.proofs.Blocks.{start_none}
use Rattle.pixel.proofs.Rows.{run_zero}
use Rattle.color.proofs.Blocks.{block_more}
use Rattle.color.proofs.color.make_row.Goals as goal

pub loop-k-init : goal.loop-k-init
loop-k-init g c = let b = c.args.blocks.now in rw (start_none b.width b.bits) (run_zero _ _)

pub loop-k-preserved : goal.loop-k-preserved
loop-k-preserved g c =
    let b = c.args.blocks.now in
    let l = c.loop-k in
    block_more g.D.Direction.rule b.width b.bits l.k b.bytes.now _ c.at.ensures _ _ _ l.invariant (rw (c.start.ensures, c.start-in-loop-k.ensures) at c.make_segment.ensures)
