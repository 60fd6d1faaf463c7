-- `make` meets its contract: each sum is the definition's, with the deltas of the data pixel.
use Rattle.format.specs.Color.{inverse_color}
use Rattle.color.proofs.Pixels.{green_to_red, green_to_blue, red_to_blue}
use Rattle.color.proofs.color.RebuildDirection.make.Goals as goal

pub returns : goal.returns
unfolding inverse_color
returns c =
    λ e f. rw (
      red_to_blue _ e f _ _ c.delta-3.ensures,
      green_to_blue _ e f _ _ c.delta-2.ensures,
      green_to_red _ e f _ _ c.delta.ensures,
    )
