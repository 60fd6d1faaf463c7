-- `report` meets its contract: what refuses it is read off its answer, and sums of counts are those of the definition.
use Rattle.std.proofs.Common.{rules, tests, arith, ◌*◌}
use Rattle.report.proofs.Own.{listed}
use Rattle.report.proofs.Counts.{counted_front}
use Rattle.report.proofs.Answers.{counted}
use Rattle.report.proofs.report.report.Goals as goal

pub returns : goal.returns
returns c =
    let l = listed _ _ c.new-list.result c.in_ok-colors_of.ensures.colors c.new-list.ensures c.in_ok-check_distinct.ensures in
    let m = c.counts.ensures in
    let a = c.add_to.ensures in
    let n = counted_front _ _ (c.args.height * c.args.width) c.args.picture.now _ (omega arith) (rw (l.entries, l.size) at m.numbers) in
    let r = counted _ _ _ _ _ l.list _ n (search (rules, tests)) (rw (← l.size) (search (rules, tests))) _ _ (rw (m.size, l.size) at a.value) (rw (m.size, l.size) at a.counters_after) in
    record { value = r.0; counters_after = r.1 }
