-- `repeated` meets its contract.
use Rattle.item.proofs.Columns.{repeated_item}
use Rattle.item.proofs.table.repeated.Goals as goal

pub returns : goal.returns
returns c =
    repeated_item _ _ _ _ _ _ _ _ _ c.in_ok-item.was c.in_ok-i.ensures c.record_of.ensures c.repeated_index.ensures c.index_range.ensures.0
