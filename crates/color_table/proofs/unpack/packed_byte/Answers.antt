-- `packed_byte` meets its contract: byte 1 of the pixel is a byte.
use mathlib.Core.Path.{refl}
use Prim.Native.Nat.{◌+◌, ◌*◌}
use native.Mathlib.Omega.{arith}
use Rattle.format.specs.Picture.{pixels}
use Rattle.color_table.proofs.unpack.packed_byte.Goals as goal

pub returns : goal.returns
unfolding pixels
returns c = (refl, omega (arith, (c.type_inv.part (4 * c.args.k + 1)).fits))
