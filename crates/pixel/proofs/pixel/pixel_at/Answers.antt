-- `pixel_at` meets its contract: its four reads are the definition's.
use Rattle.std.proofs.Common.{refl}
use Rattle.format.specs.Picture.{pixels}
use Rattle.pixel.proofs.pixel.pixel_at.Goals as goal

pub returns : goal.returns
unfolding pixels
returns c = refl
