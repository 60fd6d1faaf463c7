-- `slot` meets its contract: it is what the word's number gives.
use native.Mathlib.Omega.{arith}
use Rattle.color_table.specs.Hints.{slot_of}
use Rattle.color_table.proofs.find.slot.Goals as goal

pub returns : goal.returns
unfolding slot_of
returns c = (rw c.number.ensures, omega arith)
