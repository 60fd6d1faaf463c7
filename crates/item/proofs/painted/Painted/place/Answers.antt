-- `place` meets its contract.
use Rattle.item.proofs.Before.{stands_there}
use Rattle.item.proofs.painted.Painted.place.Goals as goal

pub returns-clause-stands : goal.returns-clause-stands
returns-clause-stands c =
    let a = rw c.record.ensures.0 at c.of.ensures in
    stands_there c.args.self.now c.args.k c.requires.0 c.args.q c.requires.1 c.of.result a.column a.row
