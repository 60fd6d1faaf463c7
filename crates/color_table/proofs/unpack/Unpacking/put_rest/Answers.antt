-- `put_rest` meets its contract: the packed pixels that are left are before the column.
use mathlib.Core.Path.{◌≡◌, ◌∙◌}
use Prim.Native.Nat.{◌+◌, ◌-◌, ◌/◌}
use native.Mathlib.Nat.{div-le_self}
use native.Mathlib.Omega.{arith}
use Rattle.format.specs.Picture.{pixels}
use Rattle.pixel.proofs.Cells.{pixel_lawful}
use Rattle.color_table.specs.Unpack.{row_of}
use Rattle.color_table.proofs.Rows.{row_same}
use Rattle.color_table.proofs.unpack.Unpacking.put_rest.Goals as goal

pub returns : goal.returns
returns g c e h =
    let n = g.row.N in
    let s = c.args in
    let first = s.self.now.first in
    let z : first + s.width - (first + s.from) ≡ s.width - s.from = omega arith in
    rw z at (c.replace_back.ensures pixel_lawful (row_of n e (pixels s.part.now) first) (λ ys i v len a b before post.
    post e h ∙ row_same n e (pixels ys.now) (pixels s.part.now) first i (before ((i - first) / n) (omega (arith, div-le_self (i - first) n)))))
