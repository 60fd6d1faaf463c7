-- `replace_left` meets its contract: before each turn the pixels up to i are replaced, and `left` is the one before i.
use Rattle.std.proofs.Common.{arith}
use Rattle.pixel.proofs.Cells.{run_none}
use Rattle.pixel.proofs.Turn.{run_turn, left_next}
use Rattle.pixel.proofs.replace.replace_left.Goals as goal

pub loop-i-init : goal.loop-i-init
loop-i-init g c = ((λ h gives. run_none _ h _ _), c.pixel_at-left.ensures)

pub rule-left-requires : goal.rule-left-requires
rule-left-requires g c = rw c.loop-i.invariant.1 (c.requires.asked _ _ c.loop-i.auto.xs c.loop-i.auto.i c.loop-i-test.true)

pub loop-i-preserved : goal.loop-i-preserved
loop-i-preserved g c = (
  (λ h gives.
      let v = gives _ _ _ c.loop-i.auto.xs c.loop-i.auto.i c.loop-i-test.true (rw c.loop-i.invariant.1 at c.rule-left.ensures) in
      run_turn h _ _ _ _ _ _ (c.loop-i.invariant.0 h gives) v c.put_pixel.ensures c.loop-i.auto.i),
  left_next _ _ _ _ c.put_pixel.ensures (omega (arith, c.loop-i.auto.xs)),
)
