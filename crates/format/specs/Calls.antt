-- What the calls on chains return and leave: the number, and every byte of each buffer that is lent to be written. A
-- refusal changes no byte.
use Rattle.std.specs.Prelude.{Bool, ◌&&◌, List, [], ◌∷◌, ℕ, ◌+◌, ◌*◌, leb, ltb, length, if◌then◌else◌}
use Rattle.format.specs.declared.Pixel.{Pixel}
use Rattle.format.specs.declared.Refusal.TheVariants.{ShortBuffer, Outside, NoEntry}
use Rattle.format.specs.Picture.{Picture, pixels, written, paint}
use Rattle.format.specs.Chain.{count, width_at, step_at}
use Rattle.format.specs.Refusals.{number, input_refusal, accepted, ◌before◌, ◌unless◌}
use Rattle.format.specs.Stages.{stored, rebuilt, accepts}
use Rattle.format.specs.Retouch.{spot_records, new_strip, point_answer}

-- a buffer has room for n pixels
abbrev pub holds : List ℕ → ℕ → Bool
holds xs n = leb (4 * n) (length xs)

-- how many records the strip has
abbrev pub records : ℕ → ℕ → List ℕ → ℕ
records w h cs = h * width_at cs w (count cs)

-- the point at column x of row y is inside
abbrev pub inside : ℕ → ℕ → ℕ → ℕ → Bool
inside w h x y = ltb x w && ltb y h

-- the picture f with that point painted
abbrev pub painted : ℕ → Picture → ℕ → ℕ → Pixel → Picture
painted w f x y v = paint f (y * w + x) v

-- the records that its spots belong to
abbrev pub touched : ℕ → List ℕ → ℕ → ℕ → List ℕ
touched w cs x y = spot_records (step_at cs w) (count cs) ((y * w + x) ∷ [])

module _ (w h : ℕ) (cs ds : List ℕ) where
  -- the whole chain: the strip of a picture, the picture of a strip, and whether storing accepts a picture
  abbrev pub strip_of : Picture → Picture
  strip_of f = stored (step_at cs w) ds (count cs) f

  abbrev pub picture_of : Picture → Picture
  picture_of g = rebuilt (step_at cs w) h ds (count cs) g

  abbrev pub storable : Picture → Bool
  storable f = accepts (step_at cs w) h ds (count cs) f

  -- refusals 1 to 8 where a picture and its strip are lent
  unfoldable pub pair_refusal : List ℕ → List ℕ → ℕ
  pair_refusal picture strip =
      input_refusal w h cs ds before (number ShortBuffer unless (holds picture (h * w) && holds strip (records w h cs)))

  -- rebuilding, in one buffer whose front holds the strip
  unfoldable pub rebuild_answer : List ℕ → ℕ
  rebuild_answer image = input_refusal w h cs ds before (number ShortBuffer unless holds image (h * w))

  unfoldable pub rebuild_image : List ℕ → List ℕ
  rebuild_image image =
      if accepted (rebuild_answer image) then written (h * w) (picture_of (pixels image)) image else image

  -- storing, from the picture into the strip
  unfoldable pub store_answer : List ℕ → List ℕ → ℕ
  store_answer picture strip = pair_refusal picture strip before (number NoEntry unless storable (pixels picture))

  unfoldable pub store_strip : List ℕ → List ℕ → List ℕ
  store_strip picture strip =
      if accepted (store_answer picture strip) then written (records w h cs) (strip_of (pixels picture)) strip else strip

  -- retouching: column x of row y painted with the color v
  module _ (picture strip : List ℕ) (x y : ℕ) (v : Pixel) where
    abbrev pub retouched : Picture
    retouched = painted w (pixels picture) x y v

    abbrev pub retouch_records : Picture
    retouch_records = new_strip (step_at cs w) ds (count cs) retouched ((y * w + x) ∷ []) (pixels strip)

    unfoldable pub retouch_answer : ℕ
    retouch_answer =
        pair_refusal picture strip
        before (number Outside unless inside w h x y)
        before point_answer (step_at cs w) ds (count cs) (records w h cs) retouched (y * w + x) (pixels strip)

    unfoldable pub retouch_picture : List ℕ
    retouch_picture = if accepted retouch_answer then written (h * w) retouched picture else picture

    unfoldable pub retouch_strip : List ℕ
    retouch_strip = if accepted retouch_answer then written (records w h cs) retouch_records strip else strip
