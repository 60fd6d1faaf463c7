-- `store_selected` meets its contract: before each turn the columns up to x are stored.
use Rattle.std.proofs.Common.{◌≡◌}
use Rattle.format.specs.Picture.{pixels}
use Rattle.format.specs.Predictor.{predict}
use Rattle.pixel.specs.Cells.{given}
use Rattle.pixel.proofs.Cells.{run_none}
use Rattle.pixel.proofs.Turn.{run_turn}
use Rattle.predictor.specs.Row.{around, residual}
use Rattle.predictor.proofs.residual.Residuals.store_selected.Goals as goal

pub loop-x-init : goal.loop-x-init
loop-x-init c = run_none _ _ _ _

pub loop-x-preserved : goal.loop-x-preserved
unfolding given predict
loop-x-preserved c =
    let w = c.args.self.now.segment.width in
    let v : c.subtract_pixels-residual.result ≡ residual (around 11 w) w (pixels c.args.self.now.rows.now) c.loop-x.x = cc in
    run_turn _ _ _ _ _ _ _ c.loop-x.invariant v c.put_pixel.ensures c.loop-x.auto.x
