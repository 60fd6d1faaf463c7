-- `pack_accepted` meets its contract: what is packed in scratch comes back to the row.
use mathlib.Core.Path.{◌∙◌}
use Prim.Native.Nat.{◌*◌}
use native.Mathlib.Omega.{arith}
use lib.ListN.{take}
use Rattle.format.specs.Picture.{pixels}
use Rattle.format.specs.ColorTable.{packed, packed_width}
use Rattle.color_table.proofs.Fronts.{entries_front, packed_front}
use Rattle.store.proofs.Lent.{front_count, copied_back}
use Rattle.store.proofs.Packed.{packed_few}
use Rattle.store.proofs.step.pack_accepted.Goals as goal

pub pack_row-requires-clause-taken : goal.pack_row-requires-clause-taken
pack_row-requires-clause-taken c =
    let w = c.args.width in
    let r = c.requires.room in
    rw (front_count w c.args.row.now (omega (arith, r.2))) (entries_front _ _ w (4 * w) c.args.row.now (omega arith) ∙ c.requires.accepted)

pub returns : goal.returns
returns c =
    λ x i. let l = c.args.lookup.now in
    let w = c.args.width in
    let row = c.args.row.now in
    let r = c.requires.room in
    let f = packed_few l.entries.size w r.0 r.1 in
    let n = c.packed_width-n.ensures in
    copied_back (packed_width l.entries.size w) _ (packed w l.entries.size (pixels l.entries.bytes.now) (pixels (take (4 * w) row))) c.args.free.now _
    row _ (rw (front_count w row (omega (arith, r.2))) at c.pack_row.ensures) c.copy_row.ensures (omega arith) (omega (arith, r.3)) x i
    ∙ packed_front w l.entries.size _ (4 * w) row r.0 (omega arith) x i
