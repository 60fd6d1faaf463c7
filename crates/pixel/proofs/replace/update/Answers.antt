-- `update` meets its contract: the rule at an index is the function of the pixel there.
use Rattle.pixel.specs.Cells.{of_its_own}
use Rattle.pixel.proofs.replace.update.Goals as goal

pub returns : goal.returns
unfolding of_its_own
returns g c = λ t gives. c.replace.ensures (of_its_own t) (λ ys i v n a b p. gives _ _ p)
