use Rattle.std.proofs.Common.{sym}
use Rattle.format.specs.Picture.{pixels}
use Rattle.pixel.proofs.word.PixelFromWord.from.Goals as goal

pub returns : goal.returns
unfolding pixels
returns c = sym c.from.ensures
