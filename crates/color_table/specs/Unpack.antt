-- What unpacking writes. n is how many indices a packed pixel holds, e the table.
use Rattle.std.specs.Prelude.{List, ◌≡◌, ℕ, ◌+◌, ◌-◌, ◌*◌, ◌/◌, ◌%◌}
use Rattle.format.specs.Picture.{Picture, pixels}
use Rattle.format.specs.ColorTable.{per_pixel, index_in, entry, unpacked}
use Rattle.pixel.specs.Cells.{pixel_cells, run, given}
use Rattle.color_table.specs.Table.{ColumnsOf}

-- a row's columns from pixel a on, from the packed pixels g
unfoldable pub row_of : ℕ → Picture → Picture → ℕ → Picture
row_of n e g a i = e (index_in n (g ((i - a) / n)).green ((i - a) % n))

-- xs starts with a row's packed pixels, and its columns go to pixel `first` on: ys is xs with columns x up to x + m
-- there
abbrev pub Columns : ℕ → List ℕ → ℕ → ℕ → ℕ → List ℕ → List ℕ → Type 0
Columns n c first x m xs ys =
    (e : Picture) → ColumnsOf n e c → ys ≡ run pixel_cells (given (row_of n e (pixels xs) first)) (first + x) m xs

-- ys is xs with row y of the picture unpacked, w columns wide
abbrev pub RowUnpacked : ℕ → ℕ → ℕ → List ℕ → List ℕ → List ℕ → Type 0
RowUnpacked w size y c xs ys =
    (e : Picture) → ColumnsOf (per_pixel size) (entry size e) c
    → ys ≡ run pixel_cells (given (unpacked w size e (pixels xs))) (y * w) w xs
