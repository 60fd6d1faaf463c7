-- Pixels that are one of two.
use Rattle.std.specs.Prelude.{Bool, true, ◌||◌, ◌≡◌, ℕ, ◌+◌, ◌<◌}
use Rattle.format.specs.declared.Pixel.{Pixel}
use Rattle.format.specs.Pixel.{equal}
use Rattle.format.specs.Picture.{Picture}

abbrev pub one_of : Pixel → Pixel → Pixel → Bool
one_of u v p = equal p u || equal p v

-- the n pixels of f from i on are u or v each
abbrev pub EachOf : Pixel → Pixel → Picture → ℕ → ℕ → Type 0
EachOf u v f i n = (k : ℕ) → k < n → one_of u v (f (i + k)) ≡ true
