-- `store_rows` meets its contract: before each turn the rows before y are stored, and the row above is at hand.
use Rattle.store.specs.Made.{AboveIn}
use Rattle.store.proofs.Copied.{Done}
use Rattle.store.proofs.row.Accepted.store_rows.Given as goal

abbrev pub invariant-loop-y : goal.invariant-loop-y
invariant-loop-y l = Done l.self l.y l.initial.strip l.strip × AboveIn l.self 0 l.y l.scratch.rows
