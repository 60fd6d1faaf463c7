-- `accept_first` meets its contract.
use mathlib.Core.Path.{refl, ◌∙◌}
use Prim.Native.Nat.{◌*◌}
use native.Mathlib.Omega.{arith}
use Rattle.format.specs.Picture.{pixels}
use Rattle.format.specs.Stages.{stored}
use Rattle.color_table.proofs.Fronts.{entries_front}
use Rattle.store.proofs.Accepting.{table_accepts}
use Rattle.store.proofs.Lent.{front_count}
use Rattle.store.proofs.Tables.{looked}
use Rattle.store.proofs.storing.Storing.accept_first.Goals as goal

pub returns : goal.returns
unfolding stored
returns c =
    let s = c.args.self.now in
    let n = s.opened.chain.height * s.opened.chain.width.0 in
    table_accepts s.opened (pixels s.picture.now) 0 c.requires _
    ((rw (c.pixels.ensures.0, front_count n s.picture.now s.held) at c.accept.ensures) ∙ entries_front _ _ n (4 * n) s.picture.now (omega arith) ∙ looked _ _ _ c.lookup.ensures _ _ ∙ rw (s.opened.valid.width 0 c.requires.below) refl)
