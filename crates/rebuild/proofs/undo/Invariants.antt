-- `undo` meets its contract: before each turn the rows from y on are rebuilt, or those before y.
use mathlib.Core.Path.{◌≡◌}
use Rattle.rebuild.specs.Rows.{rows_rebuilt}
use Rattle.rebuild.proofs.undo.Given as goal

abbrev pub invariant-loop-y : goal.invariant-loop-y
invariant-loop-y l = l.image ≡ rows_rebuilt l.fn.«record» l.y l.fn.«record».height l.initial.image

abbrev pub invariant-loop-y-else-eq : goal.invariant-loop-y-else-eq
invariant-loop-y-else-eq l = l.image ≡ rows_rebuilt l.fn.«record» 0 l.y l.initial.image
