-- `column` meets its contract: the quotient is a byte.
use Rattle.color_table.specs.Table.{entry_in}
use Rattle.color_table.proofs.Entries.{column-in}
use Rattle.color_table.proofs.table.Padded.column.Goals as goal

pub returns : goal.returns
unfolding entry_in
returns c = column-in _ _ _ _ _ c.from.ensures c.index_in-index.ensures
