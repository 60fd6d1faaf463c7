-- `add_black` meets its contract: mode 0 predicts black, whatever is around.
use Rattle.std.proofs.Common.{rules}
use Rattle.format.specs.Byte.{add}
use Rattle.format.specs.Pixel.{black, each}
use Rattle.format.specs.Predictor.{predict}
use Rattle.pixel.specs.Cells.{of_its_own}
use Rattle.predictor.proofs.segment.add_black.Goals as goal

pub returns : goal.returns
unfolding predict of_its_own
returns c = c.update.ensures (λ v. each add v black) (λ v u p. search rules)
