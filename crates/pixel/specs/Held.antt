-- What a row's buffer holds.
use Rattle.std.specs.Prelude.{◌≡◌, ℕ, ◌+◌, ◌*◌, ◌<◌, List}
use Rattle.format.specs.Picture.{Picture, pixels}

-- the buffer's front holds row y of the picture f, whose rows have w pixels
abbrev pub HoldsRow : Picture → ℕ → ℕ → List ℕ → Type 0
HoldsRow f y w xs = (x : ℕ) → x < w → pixels xs x ≡ f (y * w + x)
