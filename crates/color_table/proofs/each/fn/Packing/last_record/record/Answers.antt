-- The last columns' index: their own, or the last column's.
use Rattle.std.proofs.Common.{rules, tests, ◌≤◌, ◌+◌, ◌∙◌}
use Rattle.color_table.proofs.Records.{index_past}
use Rattle.color_table.proofs.each.fn.Packing.last_record.record.Goals as goal

pub returns-else-a-k : goal.returns-else-a-k
returns-else-a-k g c =
    let r = c.requires.room in
    let past : c.captures.end ≤ c.captures.a + c.args.k = search (rules, tests) in
    (c.requires.last.0 ∙ index_past c.captures.self.now c.captures.end (c.captures.a + c.args.k) r.1 r.2 past, c.requires.last.1)
