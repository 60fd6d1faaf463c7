-- `number` meets its contract: a number of 32 bits is that of its pixel.
use mathlib.Core.Path.{sym}
use Rattle.pixel.specs.Word.{number-unword}
use Rattle.pixel.proofs.word.Word.number.Goals as goal

pub returns : goal.returns
returns c = rw (← c.self.view_is) (sym (number-unword _ c.self.invariant))
