-- `subtract_pixels` meets its contract, channel by channel.
use Rattle.format.specs.Pixel.{each}
use Rattle.pixel.proofs.pixel.subtract_pixels.Goals as goal

pub returns : goal.returns
unfolding each
returns c = cc
