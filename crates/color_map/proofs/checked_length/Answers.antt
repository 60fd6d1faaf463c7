-- `checked_length` meets its contract: it refuses what the definition refuses.
use Rattle.std.proofs.Common.{sym, ◌∙◌}
use Rattle.color_map.proofs.checked_length.Goals as goal

pub returns-then-refused_length : goal.returns-then-refused_length
returns-then-refused_length c = rw (sym c.refused_length.ensures ∙ c.if-refused_length.true)

pub returns : goal.returns
returns c = rw (sym c.refused_length.ensures ∙ c.if-refused_length.false)
