-- `copy_row` meets its contract: all pixels are written.
use borrow.Author.Rules.{rules}
use mathlib.Core.Path.{◌∙◌}
use Prim.Native.Nat.{◌/◌}
use native.Mathlib.Omega.{arith}
use lib.ListN.{length}
use Rattle.format.specs.Picture.{pixels}
use Rattle.format.proofs.Written.{written_self}
use Rattle.pixel.proofs.Given.{front_done}
use Rattle.store.proofs.Copied.{whole_written}
use Rattle.store.proofs.scratch.copy_row.Goals as goal

pub returns : goal.returns
returns c =
    let from = c.args.from.now in
    let n = length from / 4 in
    front_done (pixels from) _ n c.args.to.now _ (c.fill.ensures (pixels from) (λ i v a b p. search rules)) (omega arith) (omega arith)
    ∙ whole_written n (pixels from) c.args.to.now from (omega arith) (omega arith)
    ∙ written_self n from (omega arith)
