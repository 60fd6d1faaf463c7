-- `store_bytes` meets its contract: each byte's residual is given, and bytes are the channels of pixels.
use Rattle.std.proofs.Common.{◌*◌, rules}
use Rattle.format.specs.Picture.{byte_at}
use Rattle.predictor.specs.Bytewise.{byte_residual}
use Rattle.predictor.proofs.Bytewise.{bytes_lost}
use Rattle.predictor.proofs.residual.Residuals.store_bytes.Goals as goal

pub returns : goal.returns
returns g c =
    let r = c.args.self.now in
    let s = r.segment in
    let rows = r.rows.now in
    bytes_lost g.row.MODE s.width c.requires.0 s.from s.to s.inside.0 s.inside.2 _ _ rows
    (c.fill.ensures (byte_residual g.row.MODE (4 * s.width) (byte_at rows)) (λ i v l u q. search rules))
