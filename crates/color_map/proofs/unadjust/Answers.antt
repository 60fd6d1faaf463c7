-- `unadjust` meets its contract: what a byte is made of stands as at first.
use Rattle.std.proofs.Common.{◌≡◌, ◌-◌, arith, rules}
use Rattle.format.specs.Byte.{sub}
use Rattle.format.specs.Picture.{byte_at}
use Rattle.format.specs.ColorMap.{unadjusted}
use Rattle.format.proofs.ColorMap.{unadjusted_at}
use Rattle.pixel.proofs.Cells.{byte_lawful}
use Rattle.color_map.proofs.Laws.{unadjusted_run}
use Rattle.color_map.proofs.unadjust.Goals as goal

pub returns : goal.returns
returns c =
    let xs = c.args.color_map.now in
    unadjusted_run xs _ (c.replace_back.ensures byte_lawful (unadjusted (byte_at xs)) (λ ys i v n a b kept p.
    let s : v ≡ sub (byte_at ys.now i) (byte_at ys.now (i - 4)) = search rules in
    cc (s, kept i (omega arith), kept (i - 4) (omega arith), unadjusted_at (byte_at xs) i a)))
