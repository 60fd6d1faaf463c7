-- Storing and rebuilding undo each other, transform by transform: for pictures f of h rows of w pixels whose channels
-- are bytes.
use mathlib.Core.Bool.{true}
use mathlib.Core.List.{List}
use mathlib.Core.Path.{◌≡◌}
use Prim.Native.Nat.{ℕ, ◌*◌, ◌<◌, ◌≤◌}
use native.Mathlib.Nat.{le_refl}
use Rattle.format.specs.Picture.{Picture, byte_at}
use Rattle.format.specs.Predictor.{residuals, from_residuals}
use Rattle.format.specs.Color.{color_stored, color_rebuilt}
use Rattle.format.specs.SubtractGreen.{green_stored, green_rebuilt}
use Rattle.format.specs.ColorTable.{packed, unpacked, have_entries}
use Rattle.format.specs.ColorMap.{adjust_color_map, unadjust_color_map}
use Rattle.format.proofs.Pixels.{Bytes}
use Rattle.format.proofs.Predictor.{rebuilt_residuals, residuals_rebuilt}
use Rattle.format.proofs.Color.{color_rebuilt_stored, color_stored_rebuilt}
use Rattle.format.proofs.SubtractGreen.{green_rebuilt_stored, green_stored_rebuilt}
use Rattle.format.proofs.ColorTable.{unpacked_packed}
use Rattle.format.proofs.ColorMap.{unadjust_adjust, adjust_unadjust}

module _ (w h : ℕ) (pos : 0 < w) (f : Picture) (bytes : (q : ℕ) → q < h * w → Bytes (f q)) where
  -- rebuilding what was stored gives the picture
  pub predictor_stored : (bits : ℕ) (d : Picture) (q : ℕ) → q < h * w → from_residuals w bits d (h * w) (residuals w bits d f) q ≡ f q
  predictor_stored bits d q l = rebuilt_residuals w bits d pos (h * w) f bytes (h * w) (le_refl (h * w)) q l

  pub color-stored : (bits : ℕ) (d : Picture) (q : ℕ) → q < h * w → color_rebuilt w bits d (color_stored w bits d f) q ≡ f q
  color-stored bits d q l = color_rebuilt_stored w bits d f q (bytes q l)

  pub green-stored : (q : ℕ) → q < h * w → green_rebuilt (green_stored f) q ≡ f q
  green-stored q l = green_rebuilt_stored f q (bytes q l)

  pub table_stored : (size : ℕ) (e : Picture) → size ≤ 256 → have_entries size e (h * w) f ≡ true → (q : ℕ) → q < h * w → unpacked w size e (packed w size e f) q ≡ f q
  table_stored size e least taken q l = unpacked_packed w h size e f pos least taken q l

  -- without a table, storing what was rebuilt gives the residuals
  pub predictor_rebuilt : (bits : ℕ) (d : Picture) (q : ℕ) → q < h * w → residuals w bits d (from_residuals w bits d (h * w) f) q ≡ f q
  predictor_rebuilt bits d q l = residuals_rebuilt w bits d pos (h * w) f bytes q l

  pub color-rebuilt : (bits : ℕ) (d : Picture) (q : ℕ) → q < h * w → color_stored w bits d (color_rebuilt w bits d f) q ≡ f q
  color-rebuilt bits d q l = color_stored_rebuilt w bits d f q (bytes q l)

  pub green-rebuilt : (q : ℕ) → q < h * w → green_stored (green_rebuilt f) q ≡ f q
  green-rebuilt q l = green_stored_rebuilt f q (bytes q l)

-- a color map adjusted and unadjusted, by the two calls' definitions, on every list of bytes
module _ (xs : List ℕ) (small : (i : ℕ) → byte_at xs i < 256) where
  pub map_adjusted : unadjust_color_map (adjust_color_map xs) ≡ xs
  map_adjusted = unadjust_adjust xs small

  pub map_unadjusted : adjust_color_map (unadjust_color_map xs) ≡ xs
  map_unadjusted = adjust_unadjust xs small
