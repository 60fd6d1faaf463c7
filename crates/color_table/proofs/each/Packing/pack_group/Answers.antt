-- `pack_group` meets its contract: every arm does.
use mathlib.Core.Path.{◌≡◌}
use Prim.Native.Nat.{◌+◌, ◌*◌, ◌/◌}
use native.Mathlib.Omega.{arith}
use Rattle.color_table.proofs.Digits.{base_in}
use Rattle.color_table.proofs.Records.{columns_count, group_columns, groups_columns}
use Rattle.color_table.proofs.each.Packing.pack_group.Goals as goal

pub put_each-requires : goal.put_each-requires
put_each-requires g c =
    let m = 16 / g.row.N in
    let e = group_columns c.args.g g.row.N in
    let i = groups_columns g.row.N m (base_in c.args.self.now).group (c.args.g + 1) in
    let s : (c.args.g * m + m) * g.row.N ≡ 16 * (c.args.g + 1) = rw (← e.0) i in
    let r = columns_count c.args.self.now (c.args.g * m + m) (omega arith) in
    (omega arith, ((omega arith, omega arith, omega arith), λ inside. omega arith))
