-- `make` meets its contract: each difference is the definition's, with the deltas of the data pixel.
use Rattle.std.proofs.Common.{arith}
use Rattle.format.specs.Color.{transform_color}
use Rattle.color.proofs.Pixels.{green_to_red, green_to_blue, red_to_blue, taken}
use Rattle.color.proofs.color.StoreDirection.make.Goals as goal

pub returns : goal.returns
unfolding transform_color
returns c =
    λ e f. rw (
      taken _ c.delta-3.result (omega arith),
      taken _ c.delta-2.result (omega arith),
      taken _ c.delta.result (omega arith),
      red_to_blue _ e f _ _ c.delta-3.ensures,
      green_to_blue _ e f _ _ c.delta-2.ensures,
      green_to_red _ e f _ _ c.delta.ensures,
    )
