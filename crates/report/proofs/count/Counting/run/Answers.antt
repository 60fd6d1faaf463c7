-- `run` meets its contract: the pixels that were passed are of pixel i's color, and those after them are counted one by
-- one.
use Rattle.std.proofs.Common.{◌-◌, rules, arith}
use Rattle.report.proofs.Counts.{counted_room, counted_run}
use Rattle.report.proofs.count.Counting.run.Goals as goal

pub add-requires : goal.add-requires
add-requires c = counted_room c.requires.counted _ c.place.ensures (c.pass-j.result - c.args.i) (omega arith)

pub each-requires-clause-counted : goal.each-requires-clause-counted
each-requires-clause-counted c =
    counted_run c.requires.counted _ c.place.ensures c.pass-j.result c.add.new.self (omega arith) (search rules) c.add.ensures.added c.add.ensures.size
