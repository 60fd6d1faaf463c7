-- `sums` meets its contract: before each turn the first k sums are made.
use Rattle.std.proofs.Common.{◌≡◌, ℕ, ◌≤◌}
use Rattle.format.specs.Report.{counter}
use Rattle.report.specs.Counts.{at, Sums}
use Rattle.report.proofs.count.Counts.sums.Given as goal

abbrev pub invariant-loop-k : goal.invariant-loop-k
invariant-loop-k l =
    (l.self.size ≡ l.initial.self.size)
    × Sums l.k (counter l.counters) l.initial.self.numbers l.self.numbers
    × ((j : ℕ) → l.k ≤ j → at l.self.numbers j ≡ at l.initial.self.numbers j)
