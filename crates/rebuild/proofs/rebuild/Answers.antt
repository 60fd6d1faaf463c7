-- `rebuild` meets its contract: before each turn, undoing the records before k makes of the buffer what the call is to
-- leave.
use mathlib.Core.Path.{sym}
use native.Mathlib.Omega.{arith}
use Rattle.rebuild.proofs.Turns.{undo_turn, room, undo_done}
use Rattle.rebuild.proofs.rebuild.Goals as goal

pub undo-requires : goal.undo-requires
undo-requires c =
    room _ _ _ _ _ c.in_ok-read.ensures.read _ (omega (arith, c.loop-k-test.true, c.loop-k.auto.k)) c.record.result c.record.ensures _ (omega (arith, c.if-image-height.false, c.loop-k.auto.image))

pub loop-k-preserved : goal.loop-k-preserved
loop-k-preserved c =
    let r = c.in_ok-read.ensures in
    undo_turn _ _ _ _ _ r.read _ (omega (arith, c.loop-k-test.true, c.loop-k.auto.k)) c.record.result c.record.ensures _ _ _ _ _ c.loop-k.invariant (omega (arith, c.loop-k-test.true)) (omega arith) c.undo.ensures (sym r.refusal)

pub returns-clause-image_after : goal.returns-clause-image_after
returns-clause-image_after c =
    undo_done _ _ _ _ _ _ _ c.loop-k.invariant (omega arith) (sym c.in_ok-read.ensures.refusal) c.if-image-height.false c.loop-k.auto.image
