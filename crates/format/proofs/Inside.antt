-- Transforms stay inside the picture: what they make of h rows of w pixels depends on those pixels alone.
use mathlib.Core.Path.{◌≡◌, ap}
use Prim.Native.Nat.{ℕ, zero, suc, ◌+◌, ◌*◌, ◌/◌, ◌%◌, ◌<◌, ◌≤◌}
use native.Mathlib.Nat.{mod-lt, div-lt_iff_lt-mul}
use native.Mathlib.Omega.{arith}
use lib.Arith.{digits_lt}
use lib.Dec.{eqb}
use Rattle.format.specs.declared.Pixel.{Pixel}
use Rattle.format.specs.Picture.{Picture, block, in_order}
use Rattle.format.specs.Predictor.{residuals, gained, from_residuals}
use Rattle.format.specs.Color.{transform_color, inverse_color, color_stored, color_rebuilt}
use Rattle.format.specs.SubtractGreen.{subtract_green, add_green, green_stored, green_rebuilt}
use Rattle.format.specs.ColorTable.{per_pixel, range, packed_width, index_in, unpacked, index_of, column_at, index_at, packed}
use Rattle.format.specs.Pixel.{pixel}
use Rattle.format.proofs.Choice.{if_same}
use Rattle.format.proofs.Predictor.{predicted_earlier}
use Rattle.format.proofs.ColorTable.{per_pixel_pos, digits_same, column_packed, ceiling_pos, column_inside, unpacked_used}

-- the first n pixels are the same
abbrev pub Alike : ℕ → Picture → Picture → Type 0
Alike n f g = (q : ℕ) → q < n → f q ≡ g q

-- predictor

module _ (w bits : ℕ) (d : Picture) (pos : 0 < w) where
  gained_same : (f g : Picture) (q : ℕ) → Alike (suc q) f g → gained w bits d f q ≡ gained w bits d g q
  unfolding gained
  gained_same f g q h = cc (h q (omega arith), predicted_earlier w bits d pos f g q (λ p l. h p (omega arith)))

  pub residuals_same : (n : ℕ) (f g : Picture) → Alike n f g → Alike n (residuals w bits d f) (residuals w bits d g)
  unfolding residuals
  residuals_same n f g h q l = cc (h q l, predicted_earlier w bits d pos f g q (λ p m. h p (omega arith)))

  pub from_residuals_same : (n : ℕ) (f g : Picture) → Alike n f g → (k : ℕ) → k ≤ n → Alike n (from_residuals w bits d k f) (from_residuals w bits d k g)
  unfolding in_order
  from_residuals_same n f g h zero b q l = h q l
  from_residuals_same n f g h (suc k) b q l =
      if_same (eqb q k)
      (λ e. gained_same (from_residuals w bits d k f) (from_residuals w bits d k g) k (λ p m. from_residuals_same n f g h k (omega arith) p (omega arith)))
      (λ e. from_residuals_same n f g h k (omega arith) q l)

-- color and green, pixel by pixel

module _ (n : ℕ) (f g : Picture) (same : Alike n f g) where
  pub color_stored_same : (w bits : ℕ) (d : Picture) → Alike n (color_stored w bits d f) (color_stored w bits d g)
  unfolding color_stored
  color_stored_same w bits d q l = ap (transform_color (block w bits d (q % w) (q / w))) (same q l)

  pub color_rebuilt_same : (w bits : ℕ) (d : Picture) → Alike n (color_rebuilt w bits d f) (color_rebuilt w bits d g)
  unfolding color_rebuilt
  color_rebuilt_same w bits d q l = ap (inverse_color (block w bits d (q % w) (q / w))) (same q l)

  pub green_stored_same : Alike n (green_stored f) (green_stored g)
  unfolding green_stored
  green_stored_same q l = ap subtract_green (same q l)

  pub green_rebuilt_same : Alike n (green_rebuilt f) (green_rebuilt g)
  unfolding green_rebuilt
  green_rebuilt_same q l = ap add_green (same q l)

-- color table

module _ (w h size : ℕ) (e : Picture) (pos : 0 < w) (f g : Picture) where
  pub unpacked_same : Alike (h * packed_width size w) f g → Alike (h * w) (unpacked w size e f) (unpacked w size e g)
  unpacked_same same q l =
      let n = per_pixel size in
      let x = q % w in
      let column = column_packed w n x (per_pixel_pos size) (mod-lt q pos) in
      unpacked_used w size e f g q (ap (λ (v : Pixel). index_in n v.green (x % n)) (same (q / w * packed_width size w + x / n) (digits_lt ((div-lt_iff_lt-mul pos).1 l) column)))

  pub packed_same : Alike (h * w) f g → Alike (h * packed_width size w) (packed w size e f) (packed w size e g)
  unfolding packed
  packed_same same r l = ap (λ (b : ℕ). pixel 0 b 0 255) (digits_same (range n) n (index f) (index g) (λ k l. index_same (r % packed_width size w * n + k)))
    where
      n : ℕ
      n = per_pixel size

      y : ℕ
      y = r / packed_width size w

      index : Picture → ℕ → ℕ
      index p k = index_at w size e p y (r % packed_width size w * n + k)

      below : y < h
      below = (div-lt_iff_lt-mul (ceiling_pos w n pos (per_pixel_pos size))).1 l

      index_same : (x : ℕ) → index_at w size e f y x ≡ index_at w size e g y x
      index_same x = ap (index_of size e) (same (y * w + column_at w x) (digits_lt below (column_inside w x pos)))
