-- A pixel: four bytes R, G, B, A.
use Rattle.std.specs.Prelude.{Bool, ◌&&◌, ℕ, eqb}
use Rattle.format.specs.declared.Pixel.{Pixel}

abbrev pub pixel : ℕ → ℕ → ℕ → ℕ → Pixel
pixel r g b a = record { red = r; green = g; blue = b; alpha = a }

-- 0xff000000 in ARGB: opaque black
abbrev pub black : Pixel
black = pixel 0 0 0 255

abbrev pub clear : Pixel
clear = pixel 0 0 0 0

-- channel by channel
unfoldable pub each : (ℕ → ℕ → ℕ) → Pixel → Pixel → Pixel
each h u v = pixel (h u.red v.red) (h u.green v.green) (h u.blue v.blue) (h u.alpha v.alpha)

unfoldable pub each3 : (ℕ → ℕ → ℕ → ℕ) → Pixel → Pixel → Pixel → Pixel
each3 h u v t =
    pixel (h u.red v.red t.red) (h u.green v.green t.green) (h u.blue v.blue t.blue)
    (h u.alpha v.alpha t.alpha)

-- alike in all four bytes
abbrev pub equal : Pixel → Pixel → Bool
equal u v =
    (eqb u.red v.red && eqb u.green v.green) && (eqb u.blue v.blue && eqb u.alpha v.alpha)
