-- `predict_byte` meets its contract: past 13 the table has no line.
use Rattle.std.proofs.Common.{sym, arith}
use Rattle.predictor.proofs.Bytewise.{byte_over_13}
use Rattle.predictor.proofs.bytes.predict_byte.Goals as goal

pub returns-in_default : goal.returns-in_default
returns-in_default c = let n = c.args.n in sym (byte_over_13 c.args.mode n.l n.t n.tr n.tl (omega arith))
