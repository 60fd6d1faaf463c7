-- `accept_groups` meets its contract: before each turn the pixels before group g, and a, have an entry.
use mathlib.Core.Bool.{true}
use mathlib.Core.Path.{◌≡◌}
use Prim.Native.Nat.{◌*◌}
use Rattle.format.specs.Picture.{pixels}
use Rattle.format.specs.ColorTable.{has_entry, have_entries}
use Rattle.color_table.proofs.lookup.Lookup.accept_groups.Given as goal

abbrev pub invariant-loop-g : goal.invariant-loop-g
invariant-loop-g l =
    let e = pixels l.self.entries.bytes.now in
    record {
      before : have_entries l.self.entries.size e (16 * l.g) (pixels l.row) ≡ true;
      has : has_entry l.self.entries.size e l.a ≡ true;
    }
