-- `store_row` meets its contract: each pixel is stored.
use Rattle.std.proofs.Common.{refl, rules}
use Rattle.format.specs.SubtractGreen.{subtract_green, green_stored}
use Rattle.color.specs.Row.{everywhere}
use Rattle.color.proofs.Pointwise.{everywhere_own, from_front, held}
use Rattle.color.proofs.subtract_green.store_row.Goals as goal

pub returns : goal.returns
unfolding green_stored
returns c =
    let e = from_front _ _ _ _ (rw (everywhere_own subtract_green) at (c.update.ensures subtract_green (λ v u p. search rules))) in
    λ f y h. held (everywhere subtract_green) (everywhere subtract_green) y c.args.width _ _ e (λ i l v. refl) c.requires f h
