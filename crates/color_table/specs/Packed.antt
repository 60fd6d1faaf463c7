-- What packing a row writes.
use Rattle.std.specs.Prelude.{List, ◌≡◌, ℕ, ◌-◌, ◌*◌, ◌/◌, length}
use Rattle.format.specs.declared.Pixel.{Pixel}
use Rattle.format.specs.Picture.{Picture, pixels}
use Rattle.format.specs.ColorTable.{packed_width, index_at, packed}
use Rattle.pixel.specs.Cells.{pixel_cells, run, given}
use Rattle.color_table.specs.declared.each.Packing.{Packing}

module _ {n : ℕ} (p : Packing n) where
  abbrev pub table_of : Picture
  table_of = pixels p.lookup.now.entries.bytes.now

  -- its columns
  abbrev pub width_of : ℕ
  width_of = length p.row.now / 4

  abbrev pub record_count : ℕ
  record_count = packed_width p.lookup.now.entries.size width_of

  -- the index at position x
  abbrev pub index_in_row : ℕ → ℕ
  index_in_row x = index_at width_of p.lookup.now.entries.size table_of (pixels p.row.now) 0 x

  -- record j of the row
  abbrev pub record_of : ℕ → Pixel
  record_of j = packed width_of p.lookup.now.entries.size table_of (pixels p.row.now) j

  -- ys is xs with m records of the row there, from record j on
  abbrev pub RecordsOf : ℕ → ℕ → List ℕ → List ℕ → Type 0
  RecordsOf j m xs ys = ys ≡ run pixel_cells (given record_of) j m xs

  -- the records of the groups of sixteen pixels from g up to r
  abbrev pub GroupsOf : ℕ → ℕ → List ℕ → List ℕ → Type 0
  GroupsOf g r xs ys = RecordsOf (g * (16 / n)) (r * (16 / n) - g * (16 / n)) xs ys
