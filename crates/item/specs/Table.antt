-- Records of indices, position by position.
use Rattle.std.specs.Prelude.{◌≡◌, ℕ, ◌+◌, ◌*◌, ◌≤◌, Option, Some, option_and_then, option_map}
use Rattle.color_table.specs.Found.{found}
use Rattle.format.specs.declared.Pixel.{Pixel}
use Rattle.format.specs.Pixel.{pixel}
use Rattle.format.specs.Picture.{Picture}
use Rattle.format.specs.ColorTable.{per_pixel, range, index_at, digits}
use Rattle.format.specs.Indices.{some}
use Rattle.format.specs.Made.{columns, lost, made}
use Rattle.item.specs.declared.painted.Painted.{Painted}
use Rattle.item.specs.Source.{picture_of, step_of, data_pixels, stage_of}

-- the record of n positions of row y, from x on
unfoldable pub record_from : ℕ → ℕ → Picture → Picture → ℕ → ℕ → ℕ → Pixel
record_from w size e f y n x = pixel 0 (digits (range (per_pixel size)) n (λ k. index_at w size e f y (x + k))) 0 255

-- what making that record by the table that is record k gives
abbrev pub record_made : Painted → ℕ → ℕ → ℕ → ℕ → Option Pixel
record_made p k y n x =
    made (some (lost (step_of p) p.opened.«data».now k (picture_of p)) (columns (step_of p k).width y n x))
    (record_from (step_of p k).width (step_of p k).size (data_pixels p k) (stage_of p k) y n x)

-- the record of a column and of the positions after it, by the record of these
unfoldable pub joined_made : ℕ → Picture → Option Pixel → Option Pixel → Option Pixel
joined_made size e first rest =
    option_and_then
    (λ v. option_and_then (λ p. option_map (λ i. pixel 0 (i + range (per_pixel size) * p.green) 0 255) (found size e v)) rest) first

-- the record of n positions that all have an item's index
unfoldable pub repeated_made : ℕ → Picture → ℕ → Option Pixel → Option Pixel
repeated_made size e n m =
    option_and_then (λ v. option_map (λ i. pixel 0 (digits (range (per_pixel size)) n (λ k. i)) 0 255) (found size e v)) m

-- one more index goes into a record
abbrev pub Room : ℕ → Option Pixel → Type 0
Room size m = (p : Pixel) → m ≡ Some p → range (per_pixel size) * p.green + range (per_pixel size) ≤ 256
