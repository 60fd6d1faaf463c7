-- `put_pixel` meets its contract: the byte was read before a column was written.
use mathlib.Core.Path.{◌∙◌}
use Prim.Native.Nat.{◌+◌, ◌*◌}
use native.Mathlib.Omega.{arith}
use Rattle.format.specs.Picture.{pixels}
use Rattle.pixel.proofs.Given.{given_before}
use Rattle.color_table.specs.Unpack.{row_of}
use Rattle.color_table.proofs.Rows.{column_of_eight}
use Rattle.color_table.proofs.unpack.Unpacking+8.put_pixel.Goals as goal

pub returns : goal.returns
returns c e h =
    let s = c.args in
    let first = s.self.now.first in
    let f = row_of 8 e (pixels s.part.now) first in
    let b = c.packed_byte-j.ensures in
    let high = c.copy_four.ensures f (λ k l. column_of_eight e _ first s.k (4 + k) _ _ _ _ h b.0 b.1 (omega arith) (omega arith) (omega arith)) in
    let low = c.copy_four-2.ensures f (λ k l. column_of_eight e _ first s.k k _ _ _ _ h b.0 b.1 (omega arith) (omega arith) (omega arith)) in
    low ∙ rw high (given_before f 4 (first + 8 * s.k) 4 s.part.now)
