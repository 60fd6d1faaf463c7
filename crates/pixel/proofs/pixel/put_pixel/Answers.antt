-- `put_pixel` meets its contract: its four stores are the definition's.
use Rattle.std.proofs.Common.{refl}
use Rattle.pixel.specs.Cells.{put_pixel}
use Rattle.pixel.proofs.pixel.put_pixel.Goals as goal

pub returns : goal.returns
unfolding put_pixel
returns c = refl
