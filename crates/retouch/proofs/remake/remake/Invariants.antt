-- Before each turn none of the first k spots' records is missing, and those are made.
use mathlib.Core.Path.{◌≡◌}
use lib.ListN.{length}
use Rattle.chain.specs.Valid.{records_in}
use Rattle.item.specs.Source.{picture_of}
use Rattle.retouch.specs.Remade.{MadeTo, strip_of}
use Rattle.retouch.proofs.Making.{SpotsPassed}
use Rattle.retouch.proofs.remake.remake.Given as goal

abbrev pub invariant-loop-k : goal.invariant-loop-k
invariant-loop-k l =
    let v = l.painted.opened in
    let f = picture_of l.painted in
    SpotsPassed v f l.records l.k
    × MadeTo l.k (strip_of v f) (records_in v.chain) l.records l.made
    × (length l.made ≡ 5)
