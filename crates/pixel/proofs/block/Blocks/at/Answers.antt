-- `at` meets its contract: the block is one of the row's.
use mathlib.Core.Path.{◌∙◌}
use Rattle.format.specs.Picture.{block}
use Rattle.pixel.proofs.Blocks.{block_there}
use Rattle.pixel.proofs.block.Blocks.at.Goals as goal

pub returns : goal.returns
unfolding block
returns c =
    let s = c.args.self.now in
    c.at.ensures ∙ c.row.ensures.holds _ (block_there s.width s.bits c.args.x c.requires.0)
