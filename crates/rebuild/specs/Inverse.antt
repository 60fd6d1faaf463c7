-- What a record's rows are rebuilt by.
use Rattle.std.specs.Prelude.{List, ◌≡◌, ℕ}
use Rattle.format.specs.ColorTable.{per_pixel, entry}
use Rattle.format.specs.Stages.{part_of, data_of}
use Rattle.pixel.specs.declared.block.Blocks.{Blocks}
use Rattle.color_table.specs.Table.{ColumnsOf}
use Rattle.chain.specs.declared.record.Record.{Record}
use Rattle.rebuild.specs.declared.row.Inverse.{Inverse}
use Rattle.rebuild.specs.declared.row.Inverse.TheVariants.{Predictor, Color, SubtractGreen, ColorTable}

-- b are the record's blocks
abbrev pub BlocksOf : Record → Blocks → Type 0
BlocksOf r b =
    (b.width ≡ r.step.width) × (b.height ≡ r.height) × (b.bits ≡ r.step.bits)
    × (b.bytes.now ≡ data_of r.step r.«data».now)

-- the inverse is that of the record's kind, with its blocks or the columns of its entries
pub record Inverts (r : Record) (i : Inverse) : Type 0 where
  pub predictor : (b : Blocks) → i ≡ Predictor b → (r.step.kind ≡ 0) × BlocksOf r b
  pub color : (b : Blocks) → i ≡ Color b → (r.step.kind ≡ 1) × BlocksOf r b
  pub green : i ≡ SubtractGreen → r.step.kind ≡ 2
  pub table : (xs : List ℕ) → i ≡ ColorTable xs
      → (r.step.kind ≡ 3) × ColumnsOf (per_pixel r.step.size) (entry r.step.size (part_of r.step r.«data».now)) xs
