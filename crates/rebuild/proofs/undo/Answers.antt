-- `undo` meets its contract: before each turn the rows from y on are rebuilt, or those before y.
use mathlib.Core.Path.{◌≡◌, refl}
use borrow.Author.Rules.{rules}
use native.Mathlib.Omega.{arith}
use Rattle.rebuild.proofs.Rows.{up_turn, all_rows}
use Rattle.rebuild.proofs.undo.Goals as goal

pub loop-y-preserved : goal.loop-y-preserved
loop-y-preserved c =
    let r = c.args.«record».now in
    let k : r.step.kind ≡ 3 = search rules in
    let row = rw c.new-undoing.ensures at c.rebuild_row.ensures in
    up_turn r _ _ _ _ _ _ _ k c.loop-y.invariant row (omega (arith, c.loop-y-test.true)) (omega arith) c.loop-y.auto.y

pub returns-after-loop-y : goal.returns-after-loop-y
returns-after-loop-y c = all_rows _ _ _ _ _ c.requires c.loop-y.invariant (omega arith) refl

pub returns-after-loop-y-else-eq : goal.returns-after-loop-y-else-eq
returns-after-loop-y-else-eq c = all_rows _ _ _ _ _ c.requires c.loop-y-else-eq.invariant refl (omega arith)
