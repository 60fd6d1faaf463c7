-- `rebuild` meets its contract: before each turn, undoing the records before k makes of the buffer what the call is to
-- leave.
use mathlib.Core.Path.{◌≡◌}
use Rattle.format.specs.Chain.{count as record_count}
use Rattle.rebuild.proofs.Turns.{Rebuilt}
use Rattle.rebuild.proofs.rebuild.Given as goal

abbrev pub invariant-loop-k : goal.invariant-loop-k
invariant-loop-k l =
    Rebuilt l.width l.height l.chain l.data l.k l.image ≡ Rebuilt l.width l.height l.chain l.data (record_count l.chain) l.initial.image
