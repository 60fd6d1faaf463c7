-- `of` meets its contract: in a block's columns the row's rule is that of the block's mode.
use Rattle.std.proofs.Common.{◌∙◌, arith}
use Rattle.format.specs.Picture.{pixels}
use Rattle.predictor.proofs.Blocks.{row_block}
use Rattle.predictor.proofs.segment.Segment.of.Goals as goal

pub returns-clause-mode : goal.returns-clause-mode
returns-clause-mode c =
    λ p i l u. let b = c.args.blocks.now in
    row_block b.width b.bits (pixels b.bytes.now) p c.args.block i (omega arith) (omega arith) (omega arith) ∙ rw c.at.ensures
