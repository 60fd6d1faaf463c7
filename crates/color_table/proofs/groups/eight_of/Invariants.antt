-- `eight_of` meets its contract: where `all` is true, the first k pixels are a or b.
use mathlib.Core.Bool.{true}
use mathlib.Core.Path.{◌≡◌}
use Rattle.format.specs.Picture.{pixels}
use Rattle.color_table.specs.OneOf.{EachOf}
use Rattle.color_table.proofs.groups.eight_of.Given as goal

abbrev pub invariant-loop-k : goal.invariant-loop-k
invariant-loop-k l = l.all ≡ true → EachOf l.a l.b (pixels l.row) l.i l.k
