-- `accept_rows` meets its contract: before each turn each pixel of the rows before y has an entry, and the row above is
-- at hand.
use mathlib.Core.Bool.{true}
use mathlib.Core.Path.{◌≡◌}
use Prim.Native.Nat.{◌*◌}
use Rattle.format.specs.Picture.{pixels}
use Rattle.format.specs.ColorTable.{have_entries}
use Rattle.store.specs.Made.{stage, AboveIn}
use Rattle.store.proofs.storing.Storing.accept_rows.Given as goal

abbrev pub invariant-loop-y : goal.invariant-loop-y
invariant-loop-y l =
    (have_entries l.lookup.entries.size (pixels l.lookup.entries.bytes.now) (l.y * l.before.width) (stage l.before l.before.count) ≡ true)
    × AboveIn l.before 0 l.y l.scratch.rows
