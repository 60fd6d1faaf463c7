-- `make_segment` meets its contract: the factors are those of the data pixel.
use Rattle.std.proofs.Common.{rules}
use Rattle.color.proofs.Pointwise.{everywhere_own}
use Rattle.color.proofs.color.make_segment.Goals as goal

pub returns : goal.returns
returns g c =
    let t = g.D.Direction.rule c.args.e in
    rw (everywhere_own t) at (c.update.ensures t (λ v u p. let f = c.from-factors.ensures in search rules))
