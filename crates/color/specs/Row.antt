-- Pixels made each from the pixel that stands in its place.
use Rattle.std.specs.Prelude.{ℕ, ◌-◌, ◌*◌, ◌/◌, ◌%◌, ◌^◌, List}
use Rattle.format.specs.declared.Pixel.{Pixel}
use Rattle.format.specs.Picture.{Picture, pixels, block}
use Rattle.format.specs.Color.{inverse_color, color_stored}
use Rattle.format.specs.SubtractGreen.{add_green, green_stored}
use Rattle.pixel.specs.Cells.{Rule, pixel_cells, run}
use Rattle.pixel.specs.Held.{HoldsRow}

-- pixel i by k
unfoldable pub pointwise : (ℕ → Pixel → Pixel) → Rule Pixel
pointwise k p i = k i (p i)

-- the same at every index
abbrev pub everywhere : (Pixel → Pixel) → ℕ → Pixel → Pixel
everywhere t i v = t v

-- by the data pixel of the block: at column x of a row whose blocks are d, and at index q of a picture of w columns
abbrev pub in_row : (Pixel → Pixel → Pixel) → ℕ → Picture → ℕ → Pixel → Pixel
in_row t bits d x v = t (d (x / 2 ^ bits)) v

abbrev pub in_picture : (Pixel → Pixel → Pixel) → ℕ → ℕ → Picture → ℕ → Pixel → Pixel
in_picture t w bits d q v = t (block w bits d (q % w) (q / w)) v

-- pixels from a up to b by t
abbrev pub made_by : (Pixel → Pixel) → ℕ → ℕ → List ℕ → List ℕ
made_by t a b xs = run pixel_cells (pointwise (everywhere t)) a (b - a) xs

-- a row's first n columns by the data of its blocks
abbrev pub row_made : (Pixel → Pixel → Pixel) → ℕ → ℕ → List ℕ → List ℕ → List ℕ
row_made t n bits blocks xs = run pixel_cells (pointwise (in_row t bits (pixels blocks))) 0 n xs

-- row y of a picture's buffer rebuilt
abbrev pub color_row : ℕ → ℕ → List ℕ → ℕ → List ℕ → List ℕ
color_row w bits blocks y xs = run pixel_cells (pointwise (in_picture inverse_color w bits (pixels blocks))) (y * w) w xs

abbrev pub green_row : ℕ → ℕ → List ℕ → List ℕ
green_row w y xs = run pixel_cells (pointwise (everywhere add_green)) (y * w) w xs

-- row y stored, in a buffer of its own
abbrev pub ColorRowStored : ℕ → ℕ → List ℕ → ℕ → List ℕ → List ℕ → Type 0
ColorRowStored w bits blocks y xs ys =
    (f : Picture) → HoldsRow f y w xs → HoldsRow (color_stored w bits (pixels blocks) f) y w ys

abbrev pub GreenRowStored : ℕ → List ℕ → List ℕ → Type 0
GreenRowStored w xs ys = (f : Picture) (y : ℕ) → HoldsRow f y w xs → HoldsRow (green_stored f) y w ys
