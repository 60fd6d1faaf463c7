-- `predict_pixel` meets its contract: modes other than 0 and 11 go channel by channel.
use Rattle.std.proofs.Common.{sym, arith, rules}
use Rattle.predictor.proofs.Bytewise.{predict_channels}
use Rattle.predictor.proofs.mode.predict_pixel.Goals as goal

pub returns-in_default : goal.returns-in_default
returns-in_default c =
    let n = c.args.n in
    let red = c.map.ensures (λ v. v.red) (λ v u p. search rules) in
    let green = c.map-in_default.ensures (λ v. v.green) (λ v u p. search rules) in
    let blue = c.map-in_default-2.ensures (λ v. v.blue) (λ v u p. search rules) in
    let alpha = c.map-in_default-3.ensures (λ v. v.alpha) (λ v u p. search rules) in
    rw (c.predict_byte.ensures, c.predict_byte-in_default.ensures, c.predict_byte-in_default-2.ensures, c.predict_byte-in_default-3.ensures, red, green, blue, alpha)
    (sym (predict_channels c.args.mode (record { not_black = λ z. omega arith; not_select = λ z. omega arith }) n.l n.t n.tr n.tl))
