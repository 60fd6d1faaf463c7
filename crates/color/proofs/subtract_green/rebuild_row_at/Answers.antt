-- `rebuild_row_at` meets its contract: the row that is lent has the pixels from y * width on.
use Rattle.std.proofs.Common.{refl, rules, arith}
use Rattle.format.specs.SubtractGreen.{add_green}
use Rattle.color.proofs.Pointwise.{everywhere_own, from_front, lent}
use Rattle.color.proofs.subtract_green.rebuild_row_at.Goals as goal

pub returns : goal.returns
returns c =
    let r = c.row_bytes.ensures in
    lent _ _ c.args.y c.args.width _ _ _ _ r.0 r.1 (from_front _ _ _ _ (rw (everywhere_own add_green) at (c.update.ensures add_green (λ v u p. search rules)))) (λ i l v. refl) (omega arith)
