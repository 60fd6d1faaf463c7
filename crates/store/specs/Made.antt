-- A row on its way through the first records of a chain, which accept the picture: a is these with the picture. y is
-- the row's number.
use Rattle.std.specs.Prelude.{List, ℕ, ◌*◌}
use Rattle.format.specs.Picture.{Picture, pixels, written}
use Rattle.format.specs.Sizes.{Holds}
use Rattle.pixel.specs.Held.{HoldsRow}
use Rattle.chain.specs.declared.record.ValidChain.{ValidChain}
use Rattle.chain.specs.Valid.{stored_by}
use Rattle.store.specs.declared.row.Accepted.{Accepted}
use Rattle.store.specs.Stage.{RowOf, Started, Above}

abbrev pub chain_of : Accepted → ValidChain
chain_of a = a.storing.now.opened

abbrev pub height_of : Accepted → ℕ
height_of a = (chain_of a).chain.height

abbrev pub picture_of : Accepted → Picture
picture_of a = pixels a.storing.now.picture.now

-- the stage after k records
abbrev pub stage : Accepted → ℕ → Picture
stage a k = stored_by (chain_of a).chain (chain_of a).«data».now k (picture_of a)

-- row y of it, row y at hand after r of them, and the row above at hand after k
abbrev pub RowIn : Accepted → ℕ → ℕ → List ℕ → Type 0
RowIn a k y row = RowOf (chain_of a) k (picture_of a) y row

abbrev pub StartedIn : Accepted → ℕ → ℕ → List ℕ → Type 0
StartedIn a y r row = Started (chain_of a) a.count (picture_of a) y r row

abbrev pub AboveIn : Accepted → ℕ → ℕ → List ℕ → Type 0
AboveIn a k y rows = Above (chain_of a) (picture_of a) a.count k y rows

-- row y after all of them
abbrev pub RowMade : Accepted → ℕ → List ℕ → Type 0
RowMade a y row = HoldsRow (stage a a.count) y a.width row

-- room in a buffer for what they make, and the buffer once it is there
abbrev pub HoldsMade : Accepted → List ℕ → Type 0
HoldsMade a xs = Holds a.width (height_of a) xs

abbrev pub made_in : Accepted → List ℕ → List ℕ
made_in a xs = written (height_of a * a.width) (stage a a.count) xs
