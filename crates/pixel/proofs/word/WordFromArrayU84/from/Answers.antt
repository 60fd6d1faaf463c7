use Rattle.std.proofs.Common.{rules}
use Rattle.format.specs.Picture.{pixels}
use Rattle.pixel.proofs.Words.{joined}
use Rattle.pixel.proofs.word.WordFromArrayU84.from.Goals as goal

pub returns : goal.returns
unfolding pixels
returns c = rw c.from_le_bytes.ensures (joined _ _ _ _ (search rules) (search rules) (search rules) (search rules))
