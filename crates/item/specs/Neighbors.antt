-- The neighbors L, T, TR and TL, and the border rule as a mode.
use Rattle.std.specs.Prelude.{Bool, Option, ℕ, eqb, if◌then◌else◌}
use Rattle.format.specs.Indices.{among}
use Rattle.format.specs.declared.Pixel.{Pixel}
use Rattle.format.specs.Picture.{Picture}
use Rattle.format.specs.Predictor.{index, left, top, top_right, top_left, mode}
use Rattle.format.specs.Made.{named_by}
use Rattle.item.specs.declared.around.Neighbor.{Neighbor}
use Rattle.item.specs.declared.around.Neighbor.TheVariants.{Left, Top, TopRight, TopLeft}
use Rattle.item.specs.declared.painted.Painted.{Painted}
use Rattle.item.specs.declared.place.Place.{Place}
use Rattle.item.specs.Made.{asked}
use Rattle.item.specs.Source.{step_of, item_of}

-- a neighbor's number
abbrev pub order : Neighbor → ℕ
order Left = 0
order Top = 1
order TopRight = 2
order TopLeft = 3

-- a mode names neighbor n
unfoldable pub names_neighbor : ℕ → ℕ → Bool
names_neighbor mode n = among n (named_by mode 0 1 2 3)

-- the index of a neighbor of column x of row y
unfoldable pub neighbor_at : ℕ → ℕ → ℕ → Neighbor → ℕ
neighbor_at w x y Left = left w index x y
neighbor_at w x y Top = top w index x y
neighbor_at w x y TopRight = top_right w index x y
neighbor_at w x y TopLeft = top_left w index x y

-- what making a neighbor of a place before record k gives, where the mode names it
abbrev pub neighbor_made : Painted → ℕ → ℕ → Neighbor → Place → Option Pixel
neighbor_made p k mode n at =
    asked (names_neighbor mode (order n)) (item_of p k (neighbor_at (step_of p k).width at.x at.y n))

-- the mode that predicts column x of row y: of the first pixel 0, of the rest of row 0 and of column 0 the one that
-- predicts L or T
unfoldable pub mode_at : ℕ → ℕ → Picture → ℕ → ℕ → ℕ
mode_at w bits d x y = if eqb y 0 then (if eqb x 0 then 0 else 1) else (if eqb x 0 then 2 else mode w bits d x y)
