-- A point's spots on their way through a chain.
use Rattle.std.specs.Prelude.{List, [], ◌∷◌, ℕ, get_or, take}
use Rattle.format.specs.Retouch.{packed_over, spot_records}
use Rattle.chain.specs.declared.record.ValidChain.{ValidChain}
use Rattle.chain.specs.Valid.{steps_of}
use Rattle.item.specs.declared.painted.Point.{Point}
use Rattle.retouch.specs.declared.records.Records.{Records}

-- the records that the spots belong to
abbrev pub records_of : Records → List ℕ
records_of s = take s.count s.places

abbrev pub first_of : Records → ℕ
first_of s = get_or s.places 0 0

-- those of a point's spots
abbrev pub touched_by : ValidChain → Point → List ℕ
touched_by v point = spot_records (steps_of v.chain) v.chain.count (point.index ∷ [])

-- the packed pixels that hold five items of a table's stage
abbrev pub packs : ℕ → ℕ → List ℕ → List ℕ
packs w size xs =
    packed_over w size (get_or xs 0 0)
    ∷ packed_over w size (get_or xs 1 0)
    ∷ packed_over w size (get_or xs 2 0)
    ∷ packed_over w size (get_or xs 3 0)
    ∷ packed_over w size (get_or xs 4 0)
    ∷ []
