-- `side` meets its contract: 2 ^ bits is at most 2 ^ 9, so that the shift loses nothing.
use Rattle.std.proofs.Common.{◌^◌, ◌<◌, ◌≤◌, refl, mod-eq_of_lt, one-mul, arith, pow_pos, pow_mono}
use Rattle.pixel.proofs.block.side.Goals as goal

pub returns : goal.returns
returns c =
    let b = c.args.bits in
    let l : 2 ^ b ≤ 2 ^ 9 = pow_mono c.requires in
    let p = pow_pos b in
    let h : 2 ^ b < 2 ^ 64 = omega arith in
    rw (one-mul, mod-eq_of_lt h) (refl, omega arith, omega arith)
