-- `fill` meets its contract: the rule looks at the index alone.
use Rattle.pixel.specs.Cells.{given}
use Rattle.pixel.proofs.replace.fill.Goals as goal

pub returns : goal.returns
unfolding given
returns g c = λ f gives. c.replace.ensures (given f) (λ ys i v n a b p. gives i v a b p)
