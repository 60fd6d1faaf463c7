-- Retouching (document 01, module 6): the records of a point's spots, and the mask of those that changed.
use Rattle.std.specs.Prelude.{Bool, not, ◌&&◌, List, [], ◌∷◌, ℕ, zero, suc, ◌+◌, ◌-◌, ◌*◌, ◌/◌, ◌%◌, eqb, ltb, if◌then◌else◌}
use Rattle.format.specs.Choice.{bit}
use Rattle.format.specs.Indices.{some, among, union}
use Rattle.format.specs.declared.Step.{Step}
use Rattle.format.specs.declared.Refusal.TheVariants.{NoRecord}
use Rattle.format.specs.Pixel.{equal}
use Rattle.format.specs.Picture.{Picture}
use Rattle.format.specs.ColorTable.{per_pixel, packed_width}
use Rattle.format.specs.Refusals.{number, ◌before◌, ◌unless◌}
use Rattle.format.specs.Stages.{stored}
use Rattle.format.specs.Made.{missing}

-- the five spots of item p in a stage of w columns, in order
abbrev pub five_spots : ℕ → ℕ → List ℕ
five_spots w p = p ∷ (p + 1) ∷ (p + w - 1) ∷ (p + w) ∷ (p + w + 1) ∷ []

-- the packed pixel that holds item q of w columns
abbrev pub packed_over : ℕ → ℕ → ℕ → ℕ
packed_over w size q = q / w * packed_width size w + q % w / per_pixel size

-- the item that holds item q after a record that is not the predictor's: a table packs it, the other kinds leave it
-- where it is
abbrev pub place_of : Step → ℕ → ℕ
place_of s q = if eqb s.kind 3 then packed_over s.width s.size q else q

-- where item q goes: the predictor has five spots for it, the other kinds one place
unfoldable pub spots_of : Step → ℕ → List ℕ
spots_of s q = if eqb s.kind 0 then five_spots s.width q else (place_of s q ∷ [])

-- the records, after the first k of a chain, that the spots of the pixels ps belong to. Of one pixel: up to the
-- predictor one item holds it, its five spots are made there, and each is in one record; without a predictor it is the
-- only spot. A spot is outside its stage exactly if its record is past the strip's last (proofs/Spots.antt)
unfoldable pub spot_records : (ℕ → Step) → ℕ → List ℕ → List ℕ
spot_records steps zero ps = ps
spot_records steps (suc k) ps = union (spots_of (steps k)) (spot_records steps k ps)

-- record r is one of the first n, and a and b differ in it
abbrev pub differ : ℕ → Picture → Picture → ℕ → Bool
differ n a b r = ltb r n && not (equal (a r) (b r))

-- for each of the records in turn: it changed, and is none of those seen before
abbrev pub marks : (ℕ → Bool) → List ℕ → List ℕ → List Bool
marks changed seen [] = []
marks changed seen (r ∷ rs) = (changed r && not (among r seen)) ∷ marks changed (r ∷ seen) rs

-- bit k is mark k
abbrev pub mask_of : List Bool → ℕ
mask_of [] = 0
mask_of (b ∷ bs) = bit b + 2 * mask_of bs

abbrev pub ones : List Bool → ℕ
ones [] = 0
ones (b ∷ bs) = bit b + ones bs

abbrev pub answer : ℕ → ℕ → ℕ
answer count mask = 256 + 32 * count + mask

-- a chain of k records
module _ (steps : ℕ → Step) (ds : List ℕ) (k : ℕ) where
  -- one of the records rs is of the first n and cannot be made of the picture f
  unfoldable pub unmade : ℕ → Picture → List ℕ → Bool
  unmade n f rs = some (λ r. ltb r n && missing steps ds k f r) rs

  -- the strip with the records rs made afresh of the picture f
  unfoldable pub remade : Picture → List ℕ → Picture → Picture
  remade f rs strip r = if among r rs then stored steps ds k f r else strip r

  -- the pixels ps were painted, which gave the picture f
  unfoldable pub new_strip : Picture → List ℕ → Picture → Picture
  new_strip f ps strip = remade f (spot_records steps k ps) strip

  -- the strip has n records
  module _ (n : ℕ) (f : Picture) where
    -- which records changed, spot by spot
    unfoldable pub changes : List ℕ → Picture → List Bool
    changes ps strip = marks (differ n strip (new_strip f ps strip)) [] (spot_records steps k ps)

    -- of one pixel p: 22, or which records changed and how many
    unfoldable pub point_answer : ℕ → Picture → ℕ
    point_answer p strip =
        (number NoRecord unless not (unmade n f (spot_records steps k (p ∷ []))))
        before answer (ones (changes (p ∷ []) strip)) (mask_of (changes (p ∷ []) strip))
