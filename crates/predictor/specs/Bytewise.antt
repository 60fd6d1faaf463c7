-- Predictions byte by byte: what loops over bytes compute.
use Rattle.std.specs.Prelude.{◌≡◌, ℕ, ◌+◌, ◌-◌, [], ◌∷◌, slice_index_or}
use Rattle.format.specs.Byte.{add, sub, avg, clamp_full, clamp_half}
use Rattle.pixel.specs.Cells.{Rule}

-- the mode goes channel by channel; it is a const parameter, so that no type holds this
pub record Channelwise (m : ℕ) : Type 0 where
  pub not_black : m ≡ 0 → ⊥
  pub not_select : m ≡ 11 → ⊥

-- what a mode predicts in each channel; modes 0 and 11 do not go channel by channel and stand here as 0
unfoldable pub predict_byte : ℕ → ℕ → ℕ → ℕ → ℕ → ℕ
predict_byte m l t tr tl =
    slice_index_or
    (0
    ∷ l
    ∷ t
    ∷ tr
    ∷ tl
    ∷ avg (avg l tr) t
    ∷ avg l tl
    ∷ avg l t
    ∷ avg tl t
    ∷ avg t tr
    ∷ avg (avg l tl) (avg t tr)
    ∷ 0
    ∷ clamp_full l t tl
    ∷ clamp_half l t tl
    ∷ [])
    m 0

-- the prediction of byte i from its neighbors, in rows of s bytes
unfoldable pub byte_around : ℕ → ℕ → Rule ℕ
byte_around m s p i = predict_byte m (p (i - 4)) (p (i - s)) (p (i - s + 4)) (p (i - s - 4))

-- rebuilding: a byte gains it
unfoldable pub byte_gains : ℕ → ℕ → Rule ℕ
byte_gains m s p i = add (p i) (byte_around m s p i)

-- storing: byte i of a row loses it, where r holds the row above and then the row
unfoldable pub byte_residual : ℕ → ℕ → (ℕ → ℕ) → ℕ → ℕ
byte_residual m s r i = sub (r (s + i)) (byte_around m s r (s + i))
