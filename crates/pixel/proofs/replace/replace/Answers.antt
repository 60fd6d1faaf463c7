-- `replace` meets its contract: before each turn the cells up to i are replaced.
use Rattle.pixel.proofs.Cells.{run_none, run_more}
use Rattle.pixel.proofs.replace.replace.Goals as goal

pub loop-i-init : goal.loop-i-init
loop-i-init g c h gives = run_none _ h _ _

pub loop-i-preserved : goal.loop-i-preserved
loop-i-preserved g c h gives =
    let v = gives _ _ _ c.loop-i.auto.xs c.loop-i.auto.i c.loop-i-test.true c.rule-v.ensures in
    rw c.put.ensures (run_more _ h _ _ _ _ _ c.loop-i.auto.i (c.loop-i.invariant h gives) v)
