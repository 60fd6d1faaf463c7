-- `add_selected` meets its contract: before each turn the pixels up to i are rebuilt, `left` is the last of them, and
-- `near` is the choice for pixel i.
use Rattle.std.proofs.Common.{◌∙◌, arith}
use Rattle.pixel.proofs.Cells.{run_none}
use Rattle.pixel.proofs.Turn.{left_next, run_turn}
use Rattle.predictor.proofs.Choice.{around_11, nearer_next}
use Rattle.predictor.proofs.select.add_selected.Goals as goal

pub loop-i-init : goal.loop-i-init
loop-i-init c = record { done = run_none _ _ _ _; left = c.pixel_at-left.ensures; near = c.left_nearer-near.ensures }

pub loop-i-preserved : goal.loop-i-preserved
loop-i-preserved c =
    let l = c.loop-i in
    let k = l.invariant in
    let p = c.put_pixel.ensures in
    let u = c.choose-turn.ensures in
    let t = c.pixel_at-t.ensures in
    record {
      done = run_turn _ _ _ _ _ _ _ k.done (u.pixel ∙ rw (c.pixel_at.ensures, t, k.left, k.near, around_11)) p l.auto.i;
      left = left_next _ _ _ _ p (omega arith);
      near = nearer_next _ _ _ _ _ _ p (u.near ∙ rw (c.pixel_at-next.ensures, t)) (omega arith) (omega arith) (omega arith);
    }
