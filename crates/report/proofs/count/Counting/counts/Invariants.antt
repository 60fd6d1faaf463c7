-- `counts` meets its contract: before each turn the pixels before i are counted.
use Rattle.std.proofs.Common.{◌-◌}
use Rattle.report.specs.Counting.{count_of, CountedIn, Start}
use Rattle.report.proofs.count.Counting.counts.Given as goal

abbrev pub invariant-loop-i : goal.invariant-loop-i
invariant-loop-i l = Start l.self l.i × CountedIn l.self l.i l.counts

abbrev pub decreases-loop-i : goal.decreases-loop-i
decreases-loop-i l = count_of l.self - l.i
