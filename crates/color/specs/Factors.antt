-- The bytes of a data pixel as three factors hold them.
use Rattle.std.specs.Prelude.{◌≡◌}
use Rattle.format.specs.declared.Pixel.{Pixel}
use Rattle.format.specs.Color.{red_to_blue, green_to_blue, green_to_red}
use Rattle.color.specs.declared.factor.Factors.{Factors}

abbrev pub factors : Pixel → Factors
factors e = record { green_to_red = green_to_red e; green_to_blue = green_to_blue e; red_to_blue = red_to_blue e }

-- w is pixel v by f and the data pixel whose factors are m
abbrev pub PixelBy : (Pixel → Pixel → Pixel) → Factors → Pixel → Pixel → Type 0
PixelBy f m v w = (e : Pixel) → m ≡ factors e → w ≡ f e v
