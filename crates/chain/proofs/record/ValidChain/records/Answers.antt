-- `records` meets its contract: they are at most 16384 times 16384.
use native.Mathlib.Omega.{arith}
use Rattle.chain.proofs.Valid.{records_few}
use Rattle.chain.proofs.record.ValidChain.records.Goals as goal

pub overflow_mul-result : goal.overflow_mul-result
overflow_mul-result c = omega (arith, records_few _ _ c.args.self.now.valid)

pub returns : goal.returns
returns c = (omega arith, omega (arith, records_few _ _ c.args.self.now.valid))
