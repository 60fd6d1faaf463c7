-- `replace` meets its contract: before each turn the cells up to i are replaced.
use Rattle.std.proofs.Common.{◌≡◌, ◌-◌, length}
use Rattle.pixel.specs.Cells.{Rule, run}
use Rattle.pixel.specs.Calls.{Gives}
use Rattle.pixel.proofs.replace.replace.Given as goal

abbrev pub invariant-loop-i : goal.invariant-loop-i
invariant-loop-i g l =
    (h : Rule g.C.Cell.Value) → Gives g.C.Cell.cells g.C.Cell.value (goal.F-post g l.rule) (length l.initial.xs) l.from l.to h
    → l.xs ≡ run g.C.Cell.cells h l.from (l.i - l.from) l.initial.xs
