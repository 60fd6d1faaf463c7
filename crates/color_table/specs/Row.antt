-- A row to be packed.
use Rattle.std.specs.Prelude.{true, List, ◌≡◌, ℕ, ◌/◌, ◌≤◌, length}
use Rattle.format.specs.Picture.{pixels}
use Rattle.format.specs.ColorTable.{per_pixel, have_entries}
use Rattle.pixel.specs.declared.entries.Entries.{Entries}

-- a row of pixels that have entries, n of which go into a record
pub record Row (e : Entries) (n : ℕ) (row : List ℕ) : Type 0 where
  pub wide : 1 ≤ length row / 4
  pub narrow : length row / 4 ≤ 16384
  pub taken : have_entries e.size (pixels e.bytes.now) (length row / 4) (pixels row) ≡ true
  pub places : n ≡ per_pixel e.size
  pub some : 1 ≤ n
  pub most : n ≤ 8
