-- `read_records` meets its contract: before each turn the records before k are taken, and the current width is theirs.
use mathlib.Core.Path.{◌≡◌}
use lib.ListN.{length}
use Rattle.format.specs.Chain.{width_at}
use Rattle.format.specs.Refusals.{records_refusal}
use Rattle.chain.specs.Reading.{StepsTo}
use Rattle.chain.proofs.read_records.Given as goal

abbrev pub invariant-loop-k : goal.invariant-loop-k
invariant-loop-k l =
    (records_refusal l.chain l.width l.height l.data l.k ≡ 0)
    × (l.current ≡ width_at l.chain l.width l.k)
    × (length l.steps ≡ 4)
    × StepsTo l.k l.width l.chain l.steps
