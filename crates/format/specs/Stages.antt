-- What the records of a chain make of a picture: a stage for each record. ds is the data, h the picture's height.
use Rattle.std.specs.Prelude.{Bool, true, ◌&&◌, List, ℕ, zero, suc, ◌*◌, eqb, take, drop, if◌then◌else◌}
use Rattle.format.specs.declared.Step.{Step}
use Rattle.format.specs.Picture.{Picture, pixels}
use Rattle.format.specs.Predictor.{residuals, from_residuals}
use Rattle.format.specs.Color.{color_stored, color_rebuilt}
use Rattle.format.specs.SubtractGreen.{green_stored, green_rebuilt}
use Rattle.format.specs.ColorTable.{packed, unpacked, have_entries}
use Rattle.format.specs.Chain.{by_kind}

-- the part of the data that a record names, and its pixels
abbrev pub data_of : Step → List ℕ → List ℕ
data_of s ds = take s.length (drop s.offset ds)

abbrev pub part_of : Step → List ℕ → Picture
part_of s ds = pixels (data_of s ds)

unfoldable pub forward : Step → List ℕ → Picture → Picture
forward s ds f =
    let d = part_of s ds in
    by_kind s.kind (residuals s.width s.bits d f) (color_stored s.width s.bits d f) (green_stored f)
    (packed s.width s.size d f)

unfoldable pub backward : Step → ℕ → List ℕ → Picture → Picture
backward s h ds g =
    let d = part_of s ds in
    by_kind s.kind (from_residuals s.width s.bits d (h * s.width) g) (color_rebuilt s.width s.bits d g)
    (green_rebuilt g) (unpacked s.width s.size d g)

-- a record takes a picture: every pixel that reaches a table has an entry
unfoldable pub takes : Step → ℕ → List ℕ → Picture → Bool
takes s h ds f = if eqb s.kind 3 then have_entries s.size (part_of s ds) (h * s.width) f else true

-- the records of a chain, by their numbers
module _ (steps : ℕ → Step) where
  -- storing: the first k records, first record first
  unfoldable pub stored : List ℕ → ℕ → Picture → Picture
  stored ds zero f = f
  stored ds (suc k) f = forward (steps k) ds (stored ds k f)

  -- rebuilding: the first k records, last record first
  unfoldable pub rebuilt : ℕ → List ℕ → ℕ → Picture → Picture
  rebuilt h ds zero g = g
  rebuilt h ds (suc k) g = rebuilt h ds k (backward (steps k) h ds g)

  -- storing by the first k records accepts a picture
  unfoldable pub accepts : ℕ → List ℕ → ℕ → Picture → Bool
  accepts h ds zero f = true
  accepts h ds (suc k) f = accepts h ds k f && takes (steps k) h ds (stored ds k f)
