-- `average2` meets its contract: what it adds up is the mean, and no more than the bits that either byte has.
use Rattle.std.proofs.Common.{arith}
use Rattle.pixel.proofs.Mean.{mean_bits, either_bits}
use Rattle.pixel.proofs.byte.average2.Goals as goal

pub returns : goal.returns
returns c = omega (arith, mean_bits c.args.a c.args.b, either_bits c.args.a c.args.b)
