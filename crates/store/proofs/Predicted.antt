-- The predictor's turn on a row: the row is copied behind the row above, and takes its place at the end.
use mathlib.Core.List.{List, ◌++◌}
use mathlib.Core.Path.{◌≡◌, ap, ◌∙◌}
use Prim.Native.Nat.{ℕ, ◌+◌, ◌-◌, ◌*◌, ◌<◌, ◌≤◌}
use native.Mathlib.Omega.{arith}
use lib.ListN.{length, take, drop}
use lib.Seq.{length-take-le}
use Rattle.format.specs.Picture.{Picture, pixels}
use Rattle.format.proofs.Written.{pixels_same}
use Rattle.pixel.specs.Held.{HoldsRow}
use Rattle.pixel.proofs.Part.{back}
use Rattle.color_table.proofs.Fronts.{pixels_front}
use Rattle.store.proofs.Lent.{back_length, pixel_first, pixel_second}

-- the front of the row was copied behind the first of the rows, as z
module _ (w : ℕ) (row rows z : List ℕ) (e : z ≡ take (4 * w) row) (room : 4 * w ≤ length row) (fits : 8 * w ≤ length rows) where
  abbrev above : List ℕ
  above = take (4 * w) rows

  abbrev behind_above : ℕ
  behind_above = 2 * (4 * w) - 4 * w

  -- what stands behind it, once z is back
  abbrev rest : List ℕ
  rest = z ++ drop behind_above (drop (4 * w) rows)

  abbrev both : List ℕ
  both = back (4 * w) behind_above rows z

  above_length : length above ≡ 4 * w
  above_length = length-take-le (4 * w) rows (omega arith)

  full : length z ≡ 4 * w
  full = ap (λ (ys : List ℕ). length ys) e ∙ length-take-le (4 * w) row room

  pub both_length : length both ≡ length rows
  both_length = back_length (4 * w) behind_above rows z (omega arith) (omega (arith, full))

  -- the row, behind the row above
  pub behind : (x : ℕ) → x < w → pixels both (w + x) ≡ pixels row x
  behind x l =
      pixel_second w above rest x above_length
      ∙ pixel_first z _ x (omega (arith, full))
      ∙ pixels_same e x
      ∙ pixels_front (4 * w) row x (omega arith)

  -- the two rows as they are lent
  pub held_behind : (y : ℕ) (f : Picture) → HoldsRow f y w row → (x : ℕ) → x < w → pixels (take (2 * (4 * w)) both) (w + x) ≡ f (y * w + x)
  held_behind y f h x l = pixels_front (2 * (4 * w)) both (w + x) (omega arith) ∙ behind x l ∙ h x l

  pub held_above : (y : ℕ) (f : Picture) → HoldsRow f (y - 1) w rows → HoldsRow f (y - 1) w (take (2 * (4 * w)) both)
  held_above y f h x l =
      pixels_front (2 * (4 * w)) both x (omega arith)
      ∙ pixel_first above rest x (omega (arith, above_length))
      ∙ pixels_front (4 * w) rows x (omega arith)
      ∙ h x l

-- a row that came back as the front of a buffer
pub held_first : (g : Picture) (y w : ℕ) (z rest : List ℕ) → HoldsRow g y w z → length z ≡ 4 * w → HoldsRow g y w (z ++ rest)
held_first g y w z rest h full x l = pixel_first z rest x (omega arith) ∙ h x l
