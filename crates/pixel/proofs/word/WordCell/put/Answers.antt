-- `put` meets its contract: the four stores are those of the word's bytes.
use Rattle.std.proofs.Common.{refl}
use Rattle.format.specs.Picture.{pixels}
use Rattle.pixel.specs.Cells.{put_pixel}
use Rattle.pixel.proofs.word.WordCell.put.Goals as goal

pub returns : goal.returns
unfolding put_pixel pixels
returns c = rw c.from.ensures refl
