-- `index_in` meets its contract: a shift is a quotient.
use Rattle.format.specs.ColorTable.{index_in}
use Rattle.color_table.proofs.Digits.{range_shift}
use Rattle.color_table.proofs.table.Padded.index_in.Goals as goal

pub returns : goal.returns
unfolding index_in
returns c = rw (range_shift _ c.args.self.now.places)
