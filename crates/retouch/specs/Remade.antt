-- Records made afresh, in an array with a place for each: what making, marking and writing them does. n is the
-- number of the strip's records.
use Rattle.std.specs.Prelude.{Option, is_none, IfSome, Bool, not, ◌&&◌, List, [], ◌≡◌, ℕ, ◌<◌, ltb, length, get_or, if◌then◌else◌}
use Rattle.format.specs.Indices.{among}
use Rattle.format.specs.declared.Pixel.{Pixel}
use Rattle.format.specs.Pixel.{clear, equal}
use Rattle.format.specs.Picture.{Picture, pixels, written}
use Rattle.format.specs.Retouch.{differ, marks, mask_of, unmade}
use Rattle.chain.specs.declared.record.ValidChain.{ValidChain}
use Rattle.chain.specs.Valid.{steps_of, records_in, stored_by}

-- of each of the first m records rs that is one of the first n, vs has it of the strip g
pub record MadeTo (m : ℕ) (g : Picture) (n : ℕ) (rs : List ℕ) (vs : List Pixel) : Type 0 where
  pub at : (k : ℕ) → k < m → get_or rs k 0 < n → get_or vs k clear ≡ g (get_or rs k 0)

-- the records rs of g, the others of f
unfoldable pub over : Picture → List ℕ → Picture → Picture
over g rs f r = if among r rs then g r else f r

-- a spot is marked, where its record r is made as v: it is one of the first n, the strip f has another there, and no
-- earlier spot has it
abbrev pub marked : ℕ → Picture → List ℕ → ℕ → Pixel → Bool
marked n f earlier r v = (ltb r n && not (equal (f r) v)) && not (among r earlier)

-- the strip of a picture f
abbrev pub strip_of : ValidChain → Picture → Picture
strip_of v f = stored_by v.chain v.«data».now v.chain.count f

-- one of the records rs cannot be made of the picture f
abbrev pub cannot : ValidChain → Picture → List ℕ → Bool
cannot v f rs = unmade (steps_of v.chain) v.«data».now v.chain.count (records_in v.chain) f rs

-- the records rs made of the picture f
abbrev pub RemadeAll : ValidChain → Picture → List ℕ → List Pixel → Type 0
RemadeAll v f rs vs = MadeTo (length rs) (strip_of v f) (records_in v.chain) rs vs

-- the same, unless one cannot
pub record RemadeBy (v : ValidChain) (f : Picture) (rs : List ℕ) (r : Option (List Pixel)) : Type 0 where
  pub missing : is_none r ≡ cannot v f rs
  pub records : IfSome r (RemadeAll v f rs)

-- a mask marks the records that change, whichever strip g has those that were made
abbrev pub MasksMade : ℕ → List ℕ → List Pixel → Picture → ℕ → Type 0
MasksMade n rs vs strip mask =
    (g : Picture) → MadeTo (length rs) g n rs vs → mask ≡ mask_of (marks (differ n strip g) [] rs)

-- a strip is left with the records that were made, whichever strip g has them
abbrev pub WritesMade : ℕ → List ℕ → List Pixel → List ℕ → List ℕ → Type 0
WritesMade n rs vs strip left =
    (g : Picture) → MadeTo (length rs) g n rs vs → left ≡ written n (over g rs (pixels strip)) strip
