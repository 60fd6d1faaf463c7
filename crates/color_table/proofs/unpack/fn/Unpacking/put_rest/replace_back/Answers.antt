-- The closure of `put_rest` meets its contract: column i - first goes to pixel i.
use mathlib.Core.Path.{◌∙◌}
use native.Mathlib.Omega.{arith}
use Rattle.color_table.proofs.Rows.{column_in}
use Rattle.color_table.proofs.unpack.fn.Unpacking.put_rest.replace_back.Goals as goal

pub returns : goal.returns
returns g c e h =
    column_in _ e _ _ _ _ _ (c.from.ensures ∙ c.column_at.ensures e h) (omega arith)
