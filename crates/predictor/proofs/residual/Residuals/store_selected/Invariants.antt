-- `store_selected` meets its contract: before each turn the columns up to x are stored.
use Rattle.std.proofs.Common.{◌≡◌}
use Rattle.predictor.specs.Row.{segment_lost}
use Rattle.predictor.proofs.residual.Residuals.store_selected.Given as goal

abbrev pub invariant-loop-x : goal.invariant-loop-x
invariant-loop-x l = l.out ≡ segment_lost 11 l.w l.fn.self.segment.from l.x l.rows l.initial.out
