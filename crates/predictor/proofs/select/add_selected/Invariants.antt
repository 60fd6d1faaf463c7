-- `add_selected` meets its contract: before each turn the pixels up to i are rebuilt, `left` is the last of them, and
-- `near` is the choice for pixel i.
use Rattle.std.proofs.Common.{◌≡◌, ◌-◌}
use Rattle.format.specs.Picture.{pixels}
use Rattle.pixel.specs.Cells.{pixel_cells, run}
use Rattle.predictor.specs.Row.{around, gains, left_nearer}
use Rattle.predictor.proofs.select.add_selected.Given as goal

abbrev pub invariant-loop-i : goal.invariant-loop-i
invariant-loop-i l = record {
  done : l.rows ≡ run pixel_cells (gains (around 11 l.w)) l.from (l.i - l.from) l.initial.rows;
  left : l.left ≡ pixels l.rows (l.i - 1);
  near : l.near ≡ left_nearer l.w (pixels l.rows) l.i;
}
