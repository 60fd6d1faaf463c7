-- `pack_row` meets its contract: in each arm a record has as many indices as the table's size gives.
use mathlib.Core.Path.{◌≡◌, sym, ◌∙◌}
use Prim.Native.Nat.{ℕ, ◌≤◌}
use native.Mathlib.Omega.{arith}
use Rattle.color_table.specs.Row.{Row}
use Rattle.color_table.proofs.lookup.Lookup.pack_row.Goals as goal
use Rattle.color_table.proofs.lookup.Lookup.pack_row.Goals.{After-per_pixel}

packs : (s : After-per_pixel) (n : ℕ) → s.per_pixel.result ≡ n → 1 ≤ n → n ≤ 8 → Row s.args.self.now.entries n s.args.row.now
packs s n q l m =
    let f = s.requires.fits in
    record { wide = f.0; narrow = f.1; taken = s.requires.taken; places = sym q ∙ s.per_pixel.ensures.0; some = l; most = m }

pub invariant_of-put : goal.invariant_of-put
invariant_of-put c = record { packs = packs (goal.at.invariant_of-put c).After-per_pixel _ c.in-8.is (omega arith) (omega arith) }

pub invariant_of-put-in-4 : goal.invariant_of-put-in-4
invariant_of-put-in-4 c = record { packs = packs (goal.at.invariant_of-put-in-4 c).After-per_pixel _ c.in-4.is (omega arith) (omega arith) }

pub invariant_of-put-in-2 : goal.invariant_of-put-in-2
invariant_of-put-in-2 c = record { packs = packs (goal.at.invariant_of-put-in-2 c).After-per_pixel _ c.in-2.is (omega arith) (omega arith) }
