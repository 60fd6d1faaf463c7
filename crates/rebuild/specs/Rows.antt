-- One record undone row by row. r is the record, with its data.
use Rattle.std.specs.Prelude.{List, ℕ, ◌-◌, ◌*◌}
use Rattle.format.specs.declared.Pixel.{Pixel}
use Rattle.format.specs.Picture.{Picture, pixels, written}
use Rattle.format.specs.Sizes.{Holds}
use Rattle.format.specs.Predictor.{gained}
use Rattle.format.specs.Color.{inverse_color}
use Rattle.format.specs.SubtractGreen.{add_green}
use Rattle.format.specs.ColorTable.{unpacked}
use Rattle.format.specs.Chain.{by_kind}
use Rattle.format.specs.Stages.{part_of, backward}
use Rattle.pixel.specs.Cells.{Rule, pixel_cells, run, given}
use Rattle.color.specs.Row.{pointwise, everywhere, in_picture}
use Rattle.chain.specs.declared.record.Record.{Record}

-- room for its picture in a buffer
abbrev pub HasRoom : Record → List ℕ → Type 0
HasRoom r xs = Holds r.step.width r.height xs

-- how a row's pixels are rebuilt in order, where f is the buffer before the row: a table's row is given by its packed
-- pixels there
unfoldable pub row_rule : Record → Picture → Rule Pixel
row_rule r f =
    let s = r.step in
    let d = part_of s r.«data».now in
    by_kind s.kind (gained s.width s.bits d) (pointwise (in_picture inverse_color s.width s.bits d))
    (pointwise (everywhere add_green)) (given (unpacked s.width s.size d f))

-- the rows from a up to b rebuilt
abbrev pub rows_rebuilt : Record → ℕ → ℕ → List ℕ → List ℕ
rows_rebuilt r a b xs =
    let w = r.step.width in
    run pixel_cells (row_rule r (pixels xs)) (a * w) (b * w - a * w) xs

-- row y rebuilt
abbrev pub row_rebuilt : Record → ℕ → List ℕ → List ℕ
row_rebuilt r y xs = run pixel_cells (row_rule r (pixels xs)) (y * r.step.width) r.step.width xs

-- the whole record undone
abbrev pub undone : Record → List ℕ → List ℕ
undone r xs = written (r.height * r.step.width) (backward r.step r.height r.«data».now (pixels xs)) xs
