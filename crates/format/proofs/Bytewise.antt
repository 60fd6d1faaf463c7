-- Transforms give bytes: stored and rebuilt pixels have channels below 256 where the picture's do.
use mathlib.Core.Bool.{true}
use mathlib.Core.Path.{◌≡◌, sym, subst}
use Prim.Native.Nat.{ℕ, ◌*◌, ◌/◌, ◌%◌, ◌<◌, ◌≤◌}
use lib.Dec.{lit<}
use Rattle.format.specs.declared.Pixel.{Pixel}
use Rattle.format.specs.Byte.{add, sub}
use Rattle.format.specs.Pixel.{each}
use Rattle.format.specs.Picture.{Picture}
use Rattle.format.specs.Predictor.{predicted, residuals, from_residuals}
use Rattle.format.specs.Color.{transform_color, inverse_color, color_stored, color_rebuilt}
use Rattle.format.specs.SubtractGreen.{green_stored, green_rebuilt}
use Rattle.format.specs.ColorTable.{per_pixel, range, packed_width, have_entries, index_at, packed_at, packed}
use Rattle.format.proofs.Byte.{add_byte, sub_byte}
use Rattle.format.proofs.Pixels.{Bytes}
use Rattle.format.proofs.Predictor.{rebuilt_at}
use Rattle.format.proofs.ColorTable.{packed_small, rows_byte}

-- the first n pixels are of bytes
abbrev pub BytesIn : ℕ → Picture → Type 0
BytesIn n f = (q : ℕ) → q < n → Bytes (f q)

-- sums and differences are bytes
sub_bytes : (u v : Pixel) → Bytes (each sub u v)
unfolding each
sub_bytes u v = record { red = sub_byte _ _; green = sub_byte _ _; blue = sub_byte _ _; alpha = sub_byte _ _ }

add_bytes : (u v : Pixel) → Bytes (each add u v)
unfolding each
add_bytes u v = record { red = add_byte _ _; green = add_byte _ _; blue = add_byte _ _; alpha = add_byte _ _ }

-- predictor

pub residuals_bytes : (w bits : ℕ) (d f : Picture) (n : ℕ) → BytesIn n (residuals w bits d f)
unfolding residuals
residuals_bytes w bits d f n q l = sub_bytes (f q) (predicted w bits d f (q % w) (q / w))

pub from_residuals_bytes : (w bits : ℕ) (d : Picture) → 0 < w → (n : ℕ) (g : Picture) → BytesIn n (from_residuals w bits d n g)
from_residuals_bytes w bits d pos n g q l = subst Bytes (sym (rebuilt_at w bits d pos n g q l)) (add_bytes (g q) (predicted w bits d (from_residuals w bits d n g) (q % w) (q / w)))

-- color and green: two channels stay

module _ (n : ℕ) (f : Picture) (bytes : BytesIn n f) where
  pub color_stored_bytes : (w bits : ℕ) (d : Picture) → BytesIn n (color_stored w bits d f)
  unfolding color_stored transform_color
  color_stored_bytes w bits d q l = record { red = sub_byte _ _; green = (bytes q l).green; blue = sub_byte _ _; alpha = (bytes q l).alpha }

  pub color_rebuilt_bytes : (w bits : ℕ) (d : Picture) → BytesIn n (color_rebuilt w bits d f)
  unfolding color_rebuilt inverse_color
  color_rebuilt_bytes w bits d q l = record { red = add_byte _ _; green = (bytes q l).green; blue = add_byte _ _; alpha = (bytes q l).alpha }

  pub green_stored_bytes : BytesIn n (green_stored f)
  unfolding green_stored
  green_stored_bytes q l = record { red = sub_byte _ _; green = (bytes q l).green; blue = sub_byte _ _; alpha = (bytes q l).alpha }

  pub green_rebuilt_bytes : BytesIn n (green_rebuilt f)
  unfolding green_rebuilt
  green_rebuilt_bytes q l = record { red = add_byte _ _; green = (bytes q l).green; blue = add_byte _ _; alpha = (bytes q l).alpha }

-- color table

-- records of any indices
pub rows_bytes : (w h size : ℕ) → 0 < w → size ≤ 256 → (i : ℕ → ℕ → ℕ) → ((y : ℕ) → y < h → (x : ℕ) → i y x < range (per_pixel size))
    → BytesIn (h * packed_width size w) (λ r. packed_at size (i (r / packed_width size w)) (r % packed_width size w))
rows_bytes w h size pos least i small r l = record { red = lit< tt; green = rows_byte w h size pos least i small r l; blue = lit< tt; alpha = lit< tt }

pub packed_bytes : (w h size : ℕ) (e f : Picture) → 0 < w → size ≤ 256 → have_entries size e (h * w) f ≡ true → BytesIn (h * packed_width size w) (packed w size e f)
unfolding packed
packed_bytes w h size e f pos least taken = rows_bytes w h size pos least (index_at w size e f) (packed_small w h size e f pos least taken)
