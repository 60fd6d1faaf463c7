-- `last_record` meets its contract: its indices are the row's, from the last column on that column's.
use Prim.Native.Nat.{◌+◌, ◌*◌}
use Rattle.color_table.specs.Packed.{index_in_row}
use Rattle.color_table.proofs.Records.{record_is, index_past}
use Rattle.color_table.proofs.each.Packing.last_record.Goals as goal

pub returns : goal.returns
returns g c =
    let p = c.args.self.now in
    let n = g.row.N in
    record_is p c.args.j _ (c.record.ensures (λ k. index_in_row p (c.args.j * n + k)) (λ k r l post. post.0)) c.requires.0
