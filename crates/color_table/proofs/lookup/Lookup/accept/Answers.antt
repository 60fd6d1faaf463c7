-- `accept` meets its contract: what the groups refuse is refused, and the rest is looked at one by one.
use mathlib.Core.Path.{refl}
use Prim.Native.Nat.{◌*◌, ◌/◌}
use native.Mathlib.Omega.{arith}
use lib.ListN.{length}
use Rattle.format.specs.Picture.{pixels}
use Rattle.color_table.proofs.Fronts.{entries_parts}
use Rattle.color_table.proofs.lookup.Lookup.accept.Goals as goal

pub returns-then-accept_groups : goal.returns-then-accept_groups
returns-then-accept_groups c =
    let s = c.args.self.now.entries in
    let xs = c.args.row.now in
    rw (entries_parts s.size (pixels s.bytes.now) (length xs / 64 * 64) xs (omega arith) (omega arith), ← c.accept_groups.ensures, c.if-accept_groups.true) c.accept_each.ensures

pub returns-else-accept_groups : goal.returns-else-accept_groups
returns-else-accept_groups c =
    let s = c.args.self.now.entries in
    let xs = c.args.row.now in
    rw (entries_parts s.size (pixels s.bytes.now) (length xs / 64 * 64) xs (omega arith) (omega arith), ← c.accept_groups.ensures, c.if-accept_groups.false) refl
