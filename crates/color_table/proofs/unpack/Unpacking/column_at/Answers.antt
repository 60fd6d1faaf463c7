-- `column_at` meets its contract: the column of its packed pixel's byte.
use mathlib.Core.Path.{refl}
use Rattle.color_table.proofs.Rows.{column_is}
use Rattle.color_table.proofs.unpack.Unpacking.column_at.Goals as goal

pub returns : goal.returns
returns g c e h =
    column_is _ e _ c.args.self.now.first _ _ _ _ _ h c.at.ensures c.packed_byte.ensures.0 refl c.packed_byte.ensures.1 c.args.self.now.some
