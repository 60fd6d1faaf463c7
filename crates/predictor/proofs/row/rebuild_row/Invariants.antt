-- `rebuild_row` meets its contract: before each turn column 0 and the columns of the blocks before are rebuilt.
use Rattle.std.proofs.Common.{◌≡◌}
use Rattle.predictor.specs.Row.{front_gained, segment_start}
use Rattle.predictor.proofs.row.rebuild_row.Given as goal

abbrev pub invariant-loop-block : goal.invariant-loop-block
invariant-loop-block l = let b = l.blocks in l.rows ≡ front_gained b.width b.bits b.bytes.now (segment_start b.width b.bits l.block) l.fn.rows
