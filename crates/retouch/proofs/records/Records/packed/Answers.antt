-- `packed` meets its contract.
use native.Mathlib.Omega.{arith}
use Rattle.std.proofs.lemmas.Grind.{common_steps}
use Rattle.retouch.proofs.Follow.{taken_packed}
use Rattle.retouch.proofs.records.Records.packed.Goals as goal

pub returns : goal.returns
returns c = taken_packed _ _ c.args.self.count c.args.self.places _ c.args.self.full (grind (arith, common_steps))
