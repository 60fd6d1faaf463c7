use Rattle.format.specs.Picture.{pixels}
use Rattle.pixel.specs.Word.{unword}
use Rattle.pixel.proofs.word.ArrayU84FromWord.from.Goals as goal

pub returns : goal.returns
unfolding pixels unword
returns c = rw (c.to_le_bytes.ensures, ← c.w.view_is)
