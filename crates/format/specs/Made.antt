-- What the items of a stage are made of, and when one cannot be made (document 01, refusal 22). An item is a pixel of a
-- picture or a record of a strip.
use Rattle.std.specs.Prelude.{Option, Some, None, Bool, true, false, not, ◌||◌, List, [], ◌∷◌, ℕ, zero, suc, ◌+◌, ◌*◌, ◌/◌, ◌%◌, eqb, ltb, get_or, if◌then◌else◌}
use Rattle.format.specs.Indices.{some}
use Rattle.format.specs.declared.Pixel.{Pixel}
use Rattle.format.specs.declared.Step.{Step}
use Rattle.format.specs.Picture.{Picture}
use Rattle.format.specs.Predictor.{index, left, top, top_right, top_left, mode}
use Rattle.format.specs.ColorTable.{per_pixel, packed_width, has_entry}
use Rattle.format.specs.Chain.{by_kind}
use Rattle.format.specs.Stages.{part_of, stored}

-- which of L, T, TR and TL modes 0 to 13 name, in the order of the table in the RFC
abbrev pub mode_names : ℕ → ℕ → ℕ → ℕ → List (List ℕ)
mode_names l t tr tl =
    []
    ∷ (l ∷ [])
    ∷ (t ∷ [])
    ∷ (tr ∷ [])
    ∷ (tl ∷ [])
    ∷ (l ∷ tr ∷ t ∷ [])
    ∷ (l ∷ tl ∷ [])
    ∷ (l ∷ t ∷ [])
    ∷ (tl ∷ t ∷ [])
    ∷ (t ∷ tr ∷ [])
    ∷ (l ∷ tl ∷ t ∷ tr ∷ [])
    ∷ (l ∷ t ∷ tl ∷ [])
    ∷ (l ∷ t ∷ tl ∷ [])
    ∷ (l ∷ t ∷ tl ∷ [])
    ∷ []

-- modes 14 to 255 name none
unfoldable pub named_by : ℕ → ℕ → ℕ → ℕ → ℕ → List ℕ
named_by mode l t tr tl = get_or (mode_names l t tr tl) mode []

-- the items that the prediction of column x of row y names: by the border rule, or by the mode
unfoldable pub named : ℕ → ℕ → Picture → ℕ → ℕ → List ℕ
named w bits d x y =
    if eqb y 0 then (if eqb x 0 then [] else left w index x y ∷ [])
    else (if eqb x 0 then top w index x y ∷ []
    else named_by (mode w bits d x y) (left w index x y) (top w index x y) (top_right w index x y) (top_left w index x y))

-- the items that a packed pixel holds: of row y, up to n columns from x on
unfoldable pub columns : ℕ → ℕ → ℕ → ℕ → List ℕ
columns w y zero x = []
columns w y (suc n) x = if ltb x w then (y * w + x) ∷ columns w y n (suc x) else []

-- the items that a record looks at to make item r
unfoldable pub made_of : Step → List ℕ → ℕ → List ℕ
made_of s ds r =
    let w = s.width in
    let v = packed_width s.size w in
    let n = per_pixel s.size in
    by_kind s.kind (r ∷ named w s.bits (part_of s ds) (r % w) (r / w)) (r ∷ []) (r ∷ [])
    (columns w (r / v) n (r % v * n))

-- a record takes an item: a table those that have an entry
unfoldable pub takes_item : Step → List ℕ → Pixel → Bool
takes_item s ds v = if eqb s.kind 3 then has_entry s.size (part_of s ds) v else true

-- item r after the first k records cannot be made of the picture f: an item that it is made of cannot, or is not taken
unfoldable pub missing : (ℕ → Step) → List ℕ → ℕ → Picture → ℕ → Bool
missing steps ds zero f r = false
missing steps ds (suc k) f r =
    some (λ q. missing steps ds k f q || not (takes_item (steps k) ds (stored steps ds k f q))) (made_of (steps k) ds r)

-- record k makes nothing of item q: it cannot be made, or is not taken
abbrev pub lost : (ℕ → Step) → List ℕ → ℕ → Picture → ℕ → Bool
lost steps ds k f q = missing steps ds k f q || not (takes_item (steps k) ds (stored steps ds k f q))

-- the item v, unless it is missing
unfoldable pub made : Bool → Pixel → Option Pixel
made true v = None
made false v = Some v

-- what making item r after the first k records of the picture f gives
abbrev pub made_item : (ℕ → Step) → List ℕ → ℕ → Picture → ℕ → Option Pixel
made_item steps ds k f r = made (missing steps ds k f r) (stored steps ds k f r)
