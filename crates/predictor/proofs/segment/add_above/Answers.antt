-- `add_above` meets its contract: bytes are the channels of pixels.
use Rattle.std.proofs.Common.{◌*◌, rules}
use Rattle.predictor.specs.Bytewise.{byte_gains}
use Rattle.predictor.proofs.Bytewise.{bytes_gained}
use Rattle.predictor.proofs.segment.add_above.Goals as goal

pub returns : goal.returns
returns g c =
    let s = c.args.segment in
    bytes_gained g.row.MODE s.width c.requires.0 s.from s.to s.inside.0 s.inside.2 _ _
    (c.replace.ensures (byte_gains g.row.MODE (4 * s.width)) (λ ys i v n l u q. search rules))
