-- `each` meets its contract: before each turn the pixels before it are counted.
use Rattle.std.proofs.Common.{◌+◌}
use Rattle.report.specs.Counting.{CountedIn}
use Rattle.report.proofs.count.Counting.each.Given as goal

abbrev pub invariant-loop-pixel : goal.invariant-loop-pixel
invariant-loop-pixel l = CountedIn l.self (l.from + l.pixel-index) l.counts
