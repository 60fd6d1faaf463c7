-- `padded` meets its contract: before each turn the rows before i are entries, and those from i on are clear.
use mathlib.Core.Path.{◌≡◌}
use Prim.Native.Nat.{ℕ, ◌≤◌, ◌<◌}
use lib.ListN.{length}
use Rattle.format.specs.Pixel.{clear}
use Rattle.format.specs.Picture.{pixels}
use Rattle.color_table.specs.Table.{entry_in}
use Rattle.color_table.proofs.table.Padded.new.Given as goal

abbrev pub invariant-loop-i : goal.invariant-loop-i
invariant-loop-i l =
    record {
      long : length l.padded ≡ 256;
      entries : (j : ℕ) → j < l.i → entry_in l.padded j ≡ pixels l.entries.bytes.now j;
      clear_after : (j : ℕ) → l.i ≤ j → entry_in l.padded j ≡ clear;
    }
