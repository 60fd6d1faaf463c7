-- `index` meets its contract: there is one.
use mathlib.Core.Path.{refl, sym, ◌∙◌}
use Rattle.color_table.proofs.Index.{found_is, has_found}
use Rattle.color_table.proofs.lookup.Lookup.index.Goals as goal

pub unwrap-requires : goal.unwrap-requires
unwrap-requires c = rw (c.find.ensures, found_is _ _ _ c.requires) refl

pub returns : goal.returns
returns c = (has_found _ _ _ _ (sym c.unwrap.ensures ∙ c.find.ensures)).0
