use Rattle.format.specs.Picture.{pixels}
use Rattle.pixel.proofs.word.Word.at.Goals as goal

pub returns : goal.returns
unfolding pixels
returns c = c.from.ensures
