-- `has` meets its contract.
use Rattle.std.proofs.Common.{◌∙◌}
use Rattle.color_table.proofs.Index.{found_has}
use Rattle.color_table.proofs.lookup.Lookup.has.Goals as goal

pub returns : goal.returns
returns c = c.is_some.ensures ∙ found_has _ _ _ _ c.find.ensures
