-- A row on its way through the stages of a chain. y is its number, v the chain with its data.
use Rattle.std.specs.Prelude.{Option, Some, None, true, List, ◌≡◌, ℕ, ◌-◌, ◌<◌, ◌≤◌}
use Rattle.std.specs.Option.{MatchOption}
use Rattle.format.specs.declared.Step.{Step}
use Rattle.format.specs.Picture.{Picture, pixels}
use Rattle.format.specs.Predictor.{residuals}
use Rattle.format.specs.ColorTable.{packed_width, packed, have_entries}
use Rattle.format.specs.Chain.{narrowed}
use Rattle.format.specs.Stages.{part_of, data_of, forward}
use Rattle.pixel.specs.declared.block.Blocks.{Blocks}
use Rattle.pixel.specs.Held.{HoldsRow}
use Rattle.color_table.specs.declared.lookup.Lookup.{Lookup}
use Rattle.chain.specs.declared.record.ValidChain.{ValidChain}
use Rattle.store.specs.declared.table.Table.{Table}
use Rattle.chain.specs.Valid.{steps_of, width_after, stored_by}

-- record k of v
abbrev pub step_of : ValidChain → ℕ → Step
step_of v k = steps_of v.chain k

-- one record

-- what a table asks of a row: an entry for each pixel
abbrev pub Takes : ValidChain → ℕ → List ℕ → Type 0
Takes v k row =
    let s = step_of v k in
    s.kind ≡ 3 → have_entries s.size (part_of s v.«data».now) s.width (pixels row) ≡ true

-- row' begins with the records of row, of w pixels, by a table of `size` entries e
abbrev pub PackedBy : ℕ → Picture → ℕ → List ℕ → List ℕ → Type 0
PackedBy size e w row row' = (x : ℕ) → x < packed_width size w → pixels row' x ≡ packed w size e (pixels row) x

-- row' begins with the residuals of row by the modes of blocks b, where rows begins with the row above
abbrev pub PredictedRow : Blocks → ℕ → List ℕ → List ℕ → List ℕ → Type 0
PredictedRow b y row rows row' =
    (f : Picture) → HoldsRow f y b.width row → (1 ≤ y → HoldsRow f (y - 1) b.width rows)
    → HoldsRow (residuals b.width b.bits (pixels b.bytes.now) f) y b.width row'

-- ys begins with the same w pixels as xs
abbrev pub Same : ℕ → List ℕ → List ℕ → Type 0
Same w xs ys = (x : ℕ) → x < w → pixels ys x ≡ pixels xs x

-- record k has made row' of row, and rows' of rows: the predictor finds the row above in rows, and leaves the row
-- there; other records leave rows
pub record Advanced (v : ValidChain) (k y : ℕ) (row rows row' rows' : List ℕ) : Type 0 where
  pub made : (f : Picture) → HoldsRow f y (step_of v k).width row
      → ((step_of v k).kind ≡ 0 → 1 ≤ y → HoldsRow f (y - 1) (step_of v k).width rows)
      → HoldsRow (forward (step_of v k) v.«data».now f) y (narrowed (step_of v k)) row'
  pub left : (f : Picture) → HoldsRow f y (step_of v k).width row → (step_of v k).kind ≡ 0
      → HoldsRow f y (step_of v k).width rows'
  pub kept : ((step_of v k).kind ≡ 0 → ⊥) → Same 16384 rows rows'

-- the first records, whatever the picture f

-- row begins with row y of the stage after k records
abbrev pub RowOf : ValidChain → ℕ → Picture → ℕ → List ℕ → Type 0
RowOf v k f y row = HoldsRow (stored_by v.chain v.«data».now k f) y (width_after v.chain k) row

-- row y is at hand after r of m records: none, or the first, which is then a table
pub record Started (v : ValidChain) (m : ℕ) (f : Picture) (y r : ℕ) (row : List ℕ) : Type 0 where
  pub few : r ≤ m
  pub first : r ≤ 1
  pub table : 1 ≤ r → (step_of v 0).kind ≡ 3
  pub held : RowOf v r f y row

-- rows holds, for a predictor among the first k of m records, row y of its stage, and for one that is to come the row
-- above
pub record Above (v : ValidChain) (f : Picture) (m k y : ℕ) (rows : List ℕ) : Type 0 where
  pub done : (j : ℕ) → j < k → (step_of v j).kind ≡ 0
      → HoldsRow (stored_by v.chain v.«data».now j f) y (step_of v j).width rows
  pub wait : (j : ℕ) → k ≤ j → j < m → (step_of v j).kind ≡ 0 → 1 ≤ y
      → HoldsRow (stored_by v.chain v.«data».now j f) (y - 1) (step_of v j).width rows

-- the table of a chain

-- record t is a table
pub record IsTable (v : ValidChain) (t : ℕ) : Type 0 where
  pub below : t < v.chain.count
  pub kind : (step_of v t).kind ≡ 3

abbrev pub NoTable : ValidChain → Type 0
NoTable v = (j : ℕ) → j < v.chain.count → (step_of v j).kind ≡ 3 → ⊥

-- t is the number of the record that is a table
abbrev pub TableAt : ValidChain → Option ℕ → Type 0
TableAt v t = MatchOption t (NoTable v) (IsTable v)

-- l finds the entries of record k
pub record Looks (v : ValidChain) (k : ℕ) (l : Lookup) : Type 0 where
  pub size : l.entries.size ≡ (step_of v k).size
  pub entries : l.entries.bytes.now ≡ data_of (step_of v k) v.«data».now

-- t is the record that is a table, and finds its entries
pub record TableFor (v : ValidChain) (t : Option Table) : Type 0 where
  pub at : (b : Table) → t ≡ Some b → IsTable v b.at
  pub looks : (b : Table) → t ≡ Some b → Looks v b.at b.lookup
  pub none : t ≡ None → NoTable v
