-- `record` meets its contract: each record of a valid chain is valid.
use Rattle.chain.proofs.Valid.{step_sized}
use Rattle.chain.proofs.record.ValidChain.record.Goals as goal

pub invariant_of-result : goal.invariant_of-result
invariant_of-result c =
    let v = c.args.self.now in
    record { sized = step_sized v.chain _ v.valid c.args.k c.requires; valid = v.valid.step c.args.k c.requires }
