-- `replace_left` meets its contract: before each turn the pixels up to i are replaced, and `left` is the one before i.
use Rattle.std.proofs.Common.{◌≡◌, ◌-◌, length}
use Rattle.format.specs.declared.Pixel.{Pixel}
use Rattle.format.specs.Picture.{pixels}
use Rattle.pixel.specs.Cells.{pixel_cells, Rule, run}
use Rattle.pixel.specs.Calls.{GivesLeft}
use Rattle.pixel.proofs.replace.replace_left.Given as goal

abbrev pub invariant-loop-i : goal.invariant-loop-i
invariant-loop-i g l =
    ((h : Rule Pixel) → GivesLeft (goal.F-post g l.rule) (length l.initial.xs) l.from l.to h → l.xs ≡ run pixel_cells h l.from (l.i - l.from) l.initial.xs)
    × (l.left ≡ pixels l.xs (l.i - 1))
