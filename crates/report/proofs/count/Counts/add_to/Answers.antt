-- `add_to` meets its contract: byte i of the counters is the byte i % 8 of sum i / 8.
use Rattle.std.proofs.Common.{rules, arith, ◌∙◌}
use Rattle.format.specs.Report.{counter, counter_byte}
use Rattle.format.proofs.Report.{counters_same}
use Rattle.report.specs.Counts.{at, sum_at}
use Rattle.report.proofs.Sums.{counters_run}
use Rattle.report.proofs.count.Counts.add_to.Goals as goal

pub returns-clause-counters_after : goal.returns-clause-counters_after
returns-clause-counters_after c =
    let a = c.args in
    let g = at c.sums.new.self.numbers in
    counters_run a.self.size g _ _ (search (rules, c.fill.ensures (counter_byte g) (λ i v a b p. search rules))) (omega (arith, c.requires))
    ∙ counters_same a.self.size g (sum_at (counter a.counters.now) a.self.numbers) a.counters.now (λ k l. (c.in_ok-sums.ensures.sums k l).0)
