-- `front` meets its contract.
use native.Mathlib.Omega.{arith}
use lib.Seq.{length-take-le}
use Rattle.color_table.proofs.Fronts.{pixels_front}
use Rattle.store.proofs.scratch.Scratch.front.Goals as goal

pub returns : goal.returns
returns c =
    let s = c.args.self.now in
    (length-take-le _ s.row (omega (arith, s.one)), λ x l. pixels_front _ s.row x (omega arith))
