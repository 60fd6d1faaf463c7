-- `make_row` meets its contract: before each turn the row is that of stage k.
use Rattle.store.specs.Made.{RowIn, AboveIn}
use Rattle.store.proofs.row.Accepted.make_row.Given as goal

abbrev pub invariant-loop-k : goal.invariant-loop-k
invariant-loop-k l = RowIn l.self l.k l.y l.scratch.row × AboveIn l.self l.k l.y l.scratch.rows
