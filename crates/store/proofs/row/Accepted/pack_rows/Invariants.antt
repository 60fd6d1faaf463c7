-- `pack_rows` meets its contract: before each turn the rows before y are packed.
use Rattle.store.proofs.Copied.{Done}
use Rattle.store.proofs.row.Accepted.pack_rows.Given as goal

abbrev pub invariant-loop-y : goal.invariant-loop-y
invariant-loop-y l = Done l.self l.y l.initial.strip l.strip
