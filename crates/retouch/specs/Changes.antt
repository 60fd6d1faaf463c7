-- What a retouch returns.
use Rattle.std.specs.Prelude.{Result, Ok, Err, ℕ}
use Rattle.std.specs.Int.Count.{ones}
use Rattle.format.specs.declared.Refusal.{Refusal}
use Rattle.format.specs.Refusals.{number}
use Rattle.format.specs.Retouch.{answer}
use Rattle.retouch.specs.declared.changes.Changes.{Changes}

-- its number: a refusal's, or the mask with how many ones it has
abbrev pub retouched : Result Changes Refusal → ℕ
retouched (Ok c) = answer (ones c.mask) c.mask
retouched (Err r) = number r
