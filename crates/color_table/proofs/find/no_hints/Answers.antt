-- `no_hints` meets its contract: from the last entry on nothing is to be linked.
use Rattle.color_table.proofs.Hints.{linked_none}
use Rattle.color_table.proofs.find.no_hints.Goals as goal

pub returns : goal.returns
returns c = linked_none _ _ c.requires
