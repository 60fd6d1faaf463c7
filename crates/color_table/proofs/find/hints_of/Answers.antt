-- `hints_of` meets its contract: before each turn the entries from i on are linked.
use mathlib.Core.Path.{ap, ◌∙◌}
use Prim.Native.Nat.{◌-◌}
use native.Mathlib.Omega.{arith}
use Rattle.color_table.specs.Hints.{slot_of}
use Rattle.color_table.proofs.Hints.{linked_more}
use Rattle.color_table.proofs.find.hints_of.Goals as goal

pub loop-i-preserved : goal.loop-i-preserved
loop-i-preserved c =
    let i = c.loop-i.i in
    let s = c.slot-s.ensures.0 ∙ ap slot_of c.at.ensures in
    linked_more (i - 1) i _ _ _ _ (omega arith) s c.loop-i.invariant (omega arith) (omega arith)
