-- `whole_record` meets its contract: its indices are the row's.
use Prim.Native.Nat.{◌+◌, ◌*◌}
use Rattle.color_table.specs.Packed.{index_in_row}
use Rattle.color_table.proofs.Records.{record_is, inside_count}
use Rattle.color_table.proofs.each.Packing.whole_record.Goals as goal

pub returns : goal.returns
returns g c =
    let p = c.args.self.now in
    let n = g.row.N in
    record_is p c.args.j _ (c.record.ensures (λ k. index_in_row p (c.args.j * n + k)) (λ k r l post. post.0)) (inside_count p c.args.j c.requires)
