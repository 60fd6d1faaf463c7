-- `counts` meets its contract: before each turn the pixels before i are counted.
use Rattle.std.proofs.Common.{arith}
use Rattle.format.specs.Picture.{pixels}
use Rattle.report.proofs.Counts.{counted_none}
use Rattle.report.proofs.count.Counting.counts.Goals as goal

pub loop-i-init : goal.loop-i-init
loop-i-init c =
    let t = c.args.self.now in
    (record { inside = omega arith; group = λ l. omega arith }, record { size = omega arith; numbers = counted_none _ (pixels t.list.now.entries.bytes.now) (pixels t.picture.now) t.list.now.entries.most })
