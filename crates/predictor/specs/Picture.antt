-- Rows of a picture rebuilt and stored.
use Rattle.std.specs.Prelude.{◌≡◌, ℕ, ◌+◌, ◌-◌, ◌*◌, ◌<◌, ◌≤◌, List}
use Rattle.format.specs.Picture.{Picture, pixels}
use Rattle.format.specs.Predictor.{gained, residuals}
use Rattle.pixel.specs.Cells.{pixel_cells, run}
use Rattle.pixel.specs.Held.{HoldsRow}

-- row y rebuilt, in the picture's buffer
abbrev pub predictor_row : ℕ → ℕ → List ℕ → ℕ → List ℕ → List ℕ
predictor_row w bits blocks y xs = run pixel_cells (gained w bits (pixels blocks)) (y * w) w xs

-- row 0 rebuilt, whatever the blocks
abbrev pub FirstRebuilt : ℕ → List ℕ → List ℕ → Type 0
FirstRebuilt w xs ys = (bits : ℕ) (d : Picture) → ys ≡ run pixel_cells (gained w bits d) 0 w xs

-- row 0 stored, whatever the blocks
abbrev pub FirstStored : ℕ → List ℕ → List ℕ → Type 0
FirstStored w row out = (bits : ℕ) (d f : Picture) → HoldsRow f 0 w row → HoldsRow (residuals w bits d f) 0 w out

-- row y stored: `rows` holds the row above, where there is one, and then the row
abbrev pub RowStored : ℕ → ℕ → List ℕ → ℕ → List ℕ → List ℕ → Type 0
RowStored w bits blocks y rows out =
    (f : Picture) → (1 ≤ y → HoldsRow f (y - 1) w rows)
    → ((x : ℕ) → x < w → pixels rows (w + x) ≡ f (y * w + x))
    → HoldsRow (residuals w bits (pixels blocks) f) y w out
