-- The subtract green transform (RFC 9649, "Subtract Green Transform"; document 01, module 3).
use Rattle.format.specs.declared.Pixel.{Pixel}
use Rattle.format.specs.Byte.{add, sub}
use Rattle.format.specs.Pixel.{pixel}
use Rattle.format.specs.Picture.{Picture}

-- storing: red and blue lose green
abbrev pub subtract_green : Pixel → Pixel
subtract_green v = pixel (sub v.red v.green) v.green (sub v.blue v.green) v.alpha

-- rebuilding: they gain it
abbrev pub add_green : Pixel → Pixel
add_green v = pixel (add v.red v.green) v.green (add v.blue v.green) v.alpha

unfoldable pub green_stored : Picture → Picture
green_stored f q = subtract_green (f q)

unfoldable pub green_rebuilt : Picture → Picture
green_rebuilt g q = add_green (g q)
