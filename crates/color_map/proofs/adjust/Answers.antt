-- `adjust` meets its contract: each byte gains what is adjusted already.
use Rattle.std.proofs.Common.{rules}
use Rattle.color_map.proofs.Laws.{gains, adjusted_run}
use Rattle.color_map.proofs.adjust.Goals as goal

pub returns : goal.returns
returns c = adjusted_run _ _ (c.replace.ensures gains (λ ys i v n a b p. search rules))
