-- `unpack_row_at` meets its contract: the row in its part is the row in the picture.
use mathlib.Core.Path.{◌≡◌, refl}
use mathlib.Core.List.{List}
use Prim.Native.Nat.{ℕ, ◌*◌, ◌+◌, ◌-◌, ◌≤◌}
use native.Mathlib.Nat.{add-zero}
use native.Mathlib.Omega.{arith}
use lib.ListN.{length, take, drop, length-drop}
use lib.Seq.{length-take-le}
use Rattle.format.specs.ColorTable.{entry}
use Rattle.color_table.proofs.Rows.{rows_before, row_lent}
use Rattle.color_table.proofs.unpack.unpack_row_at.Goals as goal

part_bytes : (a b w : ℕ) (xs : List ℕ) → a ≤ b → 4 * (b + w) ≤ length xs → length (take (4 * (b + w) - 4 * a) (drop (4 * a) xs)) ≡ 4 * (b + w) - 4 * a
part_bytes a b w xs l h = length-take-le (4 * (b + w) - 4 * a) (drop (4 * a) xs) (rw (length-drop (4 * a) xs) (omega arith))

pub unpack_row-requires : goal.unpack_row-requires
unpack_row-requires c =
    let b = part_bytes (c.args.y * c.args.packed.0) (c.args.y * c.args.expanded.0) c.args.expanded.0 c.args.image.now (rows_before c.args.y _ _ _ c.requires.1 c.requires.0) c.requires.2 in
    let f = rows_before c.args.y _ _ _ c.requires.1 c.requires.0 in
    omega arith

pub returns : goal.returns
returns c =
    λ e h. row_lent _ _ _ e _ c.requires.0 c.requires.2 _ _ _ c.requires.1 refl (rw add-zero at (c.unpack_row.ensures (entry c.args.size e) h))
