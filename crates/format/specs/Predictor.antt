-- The predictor transform (RFC 9649, "Predictor Transform"; document 01, module 2).
use Rattle.std.specs.Prelude.{List, [], ◌∷◌, ℕ, ◌+◌, ◌-◌, ◌*◌, ◌/◌, ◌%◌, eqb, ltb, get_or, if◌then◌else◌}
use Rattle.format.specs.declared.Pixel.{Pixel}
use Rattle.format.specs.Byte.{add, sub, avg, distance, clamp_full, clamp_half}
use Rattle.format.specs.Pixel.{black, clear, each, each3}
use Rattle.format.specs.Picture.{Picture, block, in_order}

-- the sum over four channels of |p - u|, where p = l + t - tl: `tl` stands on the other side, so that no number is
-- negative
abbrev pub distance_to : Pixel → Pixel → Pixel → Pixel → ℕ
distance_to u l t tl =
    distance (l.red + t.red) (tl.red + u.red) + distance (l.green + t.green) (tl.green + u.green)
    + distance (l.blue + t.blue) (tl.blue + u.blue)
    + distance (l.alpha + t.alpha) (tl.alpha + u.alpha)

-- L where it is nearer to the estimate, else T
unfoldable pub select : Pixel → Pixel → Pixel → Pixel
select l t tl = if ltb (distance_to l l t tl) (distance_to t l t tl) then l else t

-- what modes 0 to 13 predict from L, T, TR and TL, in the order of the table in the RFC
abbrev pub predictions : Pixel → Pixel → Pixel → Pixel → List Pixel
predictions l t tr tl =
    black
    ∷ l
    ∷ t
    ∷ tr
    ∷ tl
    ∷ each avg (each avg l tr) t
    ∷ each avg l tl
    ∷ each avg l t
    ∷ each avg tl t
    ∷ each avg t tr
    ∷ each avg (each avg l tl) (each avg t tr)
    ∷ select l t tl
    ∷ each3 clamp_full l t tl
    ∷ each3 clamp_half l t tl
    ∷ []

-- modes 14 to 255 predict zero
unfoldable pub predict : ℕ → Pixel → Pixel → Pixel → Pixel → Pixel
predict mode l t tr tl = get_or (predictions l t tr tl) mode clear

-- the neighbors of column x of row y in a picture f of w columns; of `index` they are the indices
abbrev pub index : ℕ → ℕ
index q = q

module _ {P : Type 0} (w : ℕ) (f : ℕ → P) (x y : ℕ) where
  abbrev pub left : P
  left = f (y * w + (x - 1))

  abbrev pub top : P
  top = f ((y - 1) * w + x)

  abbrev pub top_left : P
  top_left = f ((y - 1) * w + (x - 1))

  -- TR of the last column is column 0 of the same row. At width 2 that is L. At width 1 every pixel is on a border, and
  -- no mode is used (proofs/Predictor.antt, widths 1 and 2)
  abbrev pub top_right : P
  top_right = if eqb (x + 1) w then f (y * w) else f ((y - 1) * w + (x + 1))

-- byte 1 of the block's data pixel
abbrev pub mode : ℕ → ℕ → Picture → ℕ → ℕ → ℕ
mode w bits d x y = (block w bits d x y).green

-- the prediction of column x of row y: the first pixel as mode 0, the rest of row 0 as L, the rest of column 0 as T,
-- whatever the mode
unfoldable pub predicted : ℕ → ℕ → Picture → Picture → ℕ → ℕ → Pixel
predicted w bits d f x y =
    if eqb y 0 then (if eqb x 0 then black else left w f x y)
    else (if eqb x 0 then top w f x y
    else predict (mode w bits d x y) (left w f x y) (top w f x y) (top_right w f x y) (top_left w f x y))

-- storing subtracts the prediction
unfoldable pub residuals : ℕ → ℕ → Picture → Picture → Picture
residuals w bits d f q = each sub (f q) (predicted w bits d f (q % w) (q / w))

-- a pixel gains its prediction
unfoldable pub gained : ℕ → ℕ → Picture → Picture → ℕ → Pixel
gained w bits d f q = each add (f q) (predicted w bits d f (q % w) (q / w))

-- rebuilding adds it: n residuals, in scan-line order, each from the pixels that are rebuilt by then
abbrev pub from_residuals : ℕ → ℕ → Picture → ℕ → Picture → Picture
from_residuals w bits d n g = in_order (gained w bits d) n g
