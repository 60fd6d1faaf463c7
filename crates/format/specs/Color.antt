-- The color transform (RFC 9649, "Color Transform"; document 01, module 3).
use Rattle.std.specs.Prelude.{ℕ, ◌/◌, ◌%◌}
use Rattle.format.specs.declared.Pixel.{Pixel}
use Rattle.format.specs.Byte.{add, sub, delta}
use Rattle.format.specs.Pixel.{pixel}
use Rattle.format.specs.Picture.{Picture, block}

-- bytes 0, 1 and 2 of the block's data pixel
abbrev pub red_to_blue : Pixel → ℕ
red_to_blue e = e.red

abbrev pub green_to_blue : Pixel → ℕ
green_to_blue e = e.green

abbrev pub green_to_red : Pixel → ℕ
green_to_red e = e.blue

-- red and blue, given the green byte g: storing subtracts the deltas, blue's from the unreduced red
abbrev pub stored_red : Pixel → ℕ → ℕ → ℕ
stored_red e g r = sub r (delta (green_to_red e) g)

abbrev pub stored_blue : Pixel → ℕ → ℕ → ℕ → ℕ
stored_blue e g r b = sub (sub b (delta (green_to_blue e) g)) (delta (red_to_blue e) r)

unfoldable pub transform_color : Pixel → Pixel → Pixel
transform_color e v =
    pixel (stored_red e v.green v.red) v.green (stored_blue e v.green v.red v.blue) v.alpha

-- rebuilding adds the same deltas, blue's from the new red
abbrev pub rebuilt_red : Pixel → ℕ → ℕ → ℕ
rebuilt_red e g r = add r (delta (green_to_red e) g)

abbrev pub rebuilt_blue : Pixel → ℕ → ℕ → ℕ → ℕ
rebuilt_blue e g new_red b = add (add b (delta (green_to_blue e) g)) (delta (red_to_blue e) new_red)

unfoldable pub inverse_color : Pixel → Pixel → Pixel
inverse_color e v =
    let new_red = rebuilt_red e v.green v.red in
    pixel new_red v.green (rebuilt_blue e v.green new_red v.blue) v.alpha

-- a picture of w columns, each pixel by its block's data pixel
unfoldable pub color_stored : ℕ → ℕ → Picture → Picture → Picture
color_stored w bits d f q = transform_color (block w bits d (q % w) (q / w)) (f q)

unfoldable pub color_rebuilt : ℕ → ℕ → Picture → Picture → Picture
color_rebuilt w bits d g q = inverse_color (block w bits d (q % w) (q / w)) (g q)
