-- The distance of two pixels, by which code decides what the definition decides by the estimate.
use Rattle.std.specs.Prelude.{ℕ, ◌+◌}
use Rattle.format.specs.declared.Pixel.{Pixel}
use Rattle.format.specs.Byte.{distance}

-- the sum over four channels of |u - v|
abbrev pub between : Pixel → Pixel → ℕ
between u v =
    distance u.red v.red + distance u.green v.green + distance u.blue v.blue
    + distance u.alpha v.alpha
