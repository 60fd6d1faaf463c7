-- `delta` meets its contract: the delta by an unsigned factor was tested for all pairs of bytes.
use Rattle.std.proofs.Common.{◌%◌, arith}
use Rattle.color.proofs.Delta.{delta-by}
use Rattle.color.proofs.factor.Factor.delta.Goals as goal

pub returns : goal.returns
returns c = rw (← c.self.view_is) (rw c.self.invariant at (delta-by (c.self.inside.bits % 256) c.args.c (omega arith) (omega arith)))
