-- `put_four` meets its contract: the four columns were read before one was written.
use Prim.Native.Nat.{◌+◌}
use mathlib.Core.Path.{refl}
use native.Mathlib.Omega.{arith}
use Rattle.format.specs.Picture.{pixels}
use Rattle.color_table.specs.Unpack.{row_of}
use Rattle.color_table.proofs.Records.{four_is}
use Rattle.color_table.proofs.Rows.{column_in, column_looked}
use Rattle.color_table.proofs.unpack.Unpacking.put_four.Goals as goal

pub returns-then-this-eq1 : goal.returns-then-this-eq1
returns-then-this-eq1 g c e h =
    let n = g.row.N in
    let a = c.args in
    let first = a.self.now.first in
    let f = pixels a.part.now in
    let i = first + a.x in
    let row = row_of n e f first in
    let is = column_looked n e f first in
    let t = c.if-this-eq1.true in
    c.move_four.ensures row (four_is row i _ _ _ _
    (is a.x i _ _ _ t h c.packed_byte.ensures refl (omega arith))
    (is (a.x + 1) (i + 1) _ _ _ t h c.packed_byte-then-this-eq1.ensures refl (omega arith))
    (is (a.x + 2) (i + 2) _ _ _ t h c.packed_byte-then-this-eq1-2.ensures refl (omega arith))
    (is (a.x + 3) (i + 3) _ _ _ t h c.packed_byte-then-this-eq1-3.ensures refl (omega arith)))

pub returns-else-this-eq1 : goal.returns-else-this-eq1
returns-else-this-eq1 g c e h =
    let n = g.row.N in
    let a = c.args in
    let first = a.self.now.first in
    let f = pixels a.part.now in
    let i = first + a.x in
    let row = row_of n e f first in
    let is = column_in n e f first in
    c.put_four.ensures row (four_is row i _ _ _ _
    (is a.x i _ (c.column_at.ensures e h) (omega arith))
    (is (a.x + 1) (i + 1) _ (c.column_at-else-this-eq1.ensures e h) (omega arith))
    (is (a.x + 2) (i + 2) _ (c.column_at-else-this-eq1-2.ensures e h) (omega arith))
    (is (a.x + 3) (i + 3) _ (c.column_at-else-this-eq1-3.ensures e h) (omega arith)))
