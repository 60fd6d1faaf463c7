-- `make_row` meets its contract: before each turn the columns of the blocks before block k are made.
use Rattle.std.proofs.Common.{◌≡◌}
use Rattle.pixel.specs.Blocks.{block_start}
use Rattle.color.specs.Row.{row_made}
use Rattle.color.proofs.color.make_row.Given as goal

abbrev pub invariant-loop-k : goal.invariant-loop-k
invariant-loop-k g l =
    let b = l.blocks in
    l.row ≡ row_made g.D.Direction.rule (block_start b.width b.bits l.k) b.bits b.bytes.now l.initial.row
