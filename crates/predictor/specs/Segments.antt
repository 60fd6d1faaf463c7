-- What is made of a segment, where a struct holds its rows.
use Rattle.std.specs.Prelude.{ℕ, List}
use Rattle.predictor.specs.declared.residual.Residuals.{Residuals}
use Rattle.predictor.specs.Row.{segment_lost}

-- its columns stored by mode m, into out
abbrev pub lost_in : ℕ → Residuals → List ℕ → List ℕ
lost_in m r out = segment_lost m r.segment.width r.segment.from r.segment.to r.rows.now out
