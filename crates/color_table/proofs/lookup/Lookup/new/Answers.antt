-- `new` meets its contract: the hints are those of all entries.
use Rattle.color_table.proofs.lookup.Lookup.new.Goals as goal

pub invariant_of-result : goal.invariant_of-result
invariant_of-result c = record { some = c.requires; hinted = c.hints_of.ensures }
