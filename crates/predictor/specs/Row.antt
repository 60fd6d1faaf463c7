-- A row in a part of the picture that holds the row above it and then the row, w pixels each: pixel w + x of the part
-- is column x of the row.
use Rattle.std.specs.Prelude.{◌≡◌, ℕ, ◌+◌, ◌-◌, ◌/◌, ◌^◌, ◌<◌, ◌≤◌, max, Bool, List, ◌==◌, nat_lt, if◌then◌else◌}
use Rattle.format.specs.declared.Pixel.{Pixel}
use Rattle.format.specs.Byte.{add, sub}
use Rattle.format.specs.Pixel.{each}
use Rattle.format.specs.Picture.{Picture, pixels}
use Rattle.format.specs.Predictor.{predict}
use Rattle.pixel.specs.Distance.{between}
use Rattle.pixel.specs.Blocks.{block_start}
use Rattle.pixel.specs.Cells.{Rule, pixel_cells, run, given}

-- the prediction of pixel i from its neighbors by a mode; TR of the last column is the row's first pixel, since the row
-- follows the row above
abbrev pub around : ℕ → ℕ → Rule Pixel
around m w p i = predict m (p (i - 1)) (p (i - w)) (p (i - w + 1)) (p (i - w - 1))

-- the same with column 0 predicted as T, by the modes of the row's blocks d
unfoldable pub row_predicted : ℕ → ℕ → Picture → Rule Pixel
row_predicted w bits d p i = if i == w then p (i - w) else around (d ((i - w) / 2 ^ bits)).green w p i

-- rebuilding: a pixel gains its prediction
abbrev pub gains : Rule Pixel → Rule Pixel
gains f p i = each add (p i) (f p i)

-- columns a up to b of the row do, by mode m
abbrev pub segment_gained : ℕ → ℕ → ℕ → ℕ → List ℕ → List ℕ
segment_gained m w a b rows = run pixel_cells (gains (around m w)) (w + a) (w + b - (w + a)) rows

-- columns 0 up to n do, by the data of the row's blocks
abbrev pub front_gained : ℕ → ℕ → List ℕ → ℕ → List ℕ → List ℕ
front_gained w bits blocks n rows = run pixel_cells (gains (row_predicted w bits (pixels blocks))) w n rows

-- storing: column x of the row loses it
abbrev pub residual : Rule Pixel → ℕ → Picture → ℕ → Pixel
residual f w r x = each sub (r (w + x)) (f r (w + x))

-- columns a up to b do, by mode m, into out
abbrev pub segment_lost : ℕ → ℕ → ℕ → ℕ → List ℕ → List ℕ → List ℕ
segment_lost m w a b rows out = run pixel_cells (given (residual (around m w) w (pixels rows))) a (b - a) out

-- columns 0 up to n do, by the data of the row's blocks
abbrev pub front_lost : ℕ → ℕ → List ℕ → ℕ → List ℕ → List ℕ → List ℕ
front_lost w bits blocks n rows out =
    run pixel_cells (given (residual (row_predicted w bits (pixels blocks)) w (pixels rows))) 0 n out

-- mode 11 takes L for pixel i
abbrev pub left_nearer : ℕ → Picture → ℕ → Bool
left_nearer w p i = nat_lt (between (p (i - w)) (p (i - w - 1))) (between (p (i - 1)) (p (i - w - 1)))

-- the first column off column 0 of block k
abbrev pub segment_start : ℕ → ℕ → ℕ → ℕ
segment_start w bits k = max 1 (block_start w bits k)

-- columns a up to b are of one block, whose mode is m
abbrev pub OneMode : ℕ → ℕ → List ℕ → ℕ → ℕ → ℕ → Type 0
OneMode w bits blocks a b m =
    (p : ℕ → Pixel) (i : ℕ) → w + a ≤ i → i < w + b → row_predicted w bits (pixels blocks) p i ≡ around m w p i
