use Rattle.pixel.proofs.Words.{equal_words}
use Rattle.pixel.proofs.word.WordPartialEq.eq.Goals as goal

pub returns : goal.returns
returns c = rw (← c.self.view_is, ← c.other.view_is) (equal_words _ _ c.self.invariant c.other.invariant)
