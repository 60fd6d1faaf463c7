-- The measures of the calls that item, after, residual, neighbor and packed make of each other. An item after k records
-- asks for items after k - 1, by way of a record's n positions or of a residual's neighbors. A record has at most 8
-- positions, so that 16 * k leaves room for the calls between.
use Rattle.std.proofs.Common.{◌+◌, ◌*◌}
use Rattle.item.proofs.painted.Painted.+making.Given as goal

abbrev pub decreases-item : goal.decreases-item
decreases-item l = 16 * l.k

abbrev pub decreases-after : goal.decreases-after
decreases-after l = 16 * l.k + 15

abbrev pub decreases-neighbor : goal.decreases-neighbor
decreases-neighbor l = 16 * l.k + 1

abbrev pub decreases-packed : goal.decreases-packed
decreases-packed l = 16 * l.k + l.n + 1

abbrev pub decreases-residual : goal.decreases-residual
decreases-residual l = 16 * l.k + 2
