-- `first_holds` meets its contract: a slot's index is below the table's size, so that what it holds is an entry.
use mathlib.Core.Path.{sym, ◌∙◌}
use Rattle.format.proofs.Pixels.{equal_true}
use Rattle.color_table.proofs.Index.{entry_accepted}
use Rattle.color_table.proofs.lookup.Lookup.first_holds.Goals as goal

pub returns : goal.returns
returns c t =
    entry_accepted _ _ _ _ (sym (equal_true _ _ (sym c.eq.ensures ∙ t)) ∙ c.at.ensures) (c.args.self.now.hinted.below c.slot.result)
