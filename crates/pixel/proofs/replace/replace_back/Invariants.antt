-- `replace_back` meets its contract: before each turn the cells from i on are replaced, and those before i are not.
use Rattle.std.proofs.Common.{◌≡◌, ℕ, ◌-◌, ◌<◌, ◌≤◌}
use Rattle.pixel.specs.Cells.{Lawful, run, given}
use Rattle.pixel.specs.Calls.{GivesBack}
use Rattle.pixel.proofs.replace.replace_back.Given as goal

abbrev pub invariant-loop-i : goal.invariant-loop-i
invariant-loop-i g l =
    let cells = g.C.Cell.cells in
    record {
      inside : l.from ≤ l.i;
      replaced : Lawful cells → (f : ℕ → g.C.Cell.Value) → GivesBack cells g.C.Cell.value (goal.F-post g l.rule) l.initial.xs l.from l.to f
          → l.xs ≡ run cells (given f) l.i (l.to - l.i) l.initial.xs;
      kept : Lawful cells → (j : ℕ) → j < l.i → cells.get l.xs j ≡ cells.get l.initial.xs j;
    }
