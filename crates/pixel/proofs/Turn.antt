-- A turn of a loop that replaces a pixel.
use Rattle.std.proofs.Common.{◌≡◌, ℕ, ◌+◌, ◌-◌, ◌*◌, ◌≤◌, List, length, sym, ◌∙◌, arith}
use Rattle.format.specs.declared.Pixel.{Pixel}
use Rattle.format.specs.Picture.{pixels}
use Rattle.format.proofs.Written.{pixels_same}
use Rattle.pixel.specs.Cells.{pixel_cells, put_pixel, Rule, run}
use Rattle.pixel.proofs.Cells.{pixel_same, run_more}

-- the pixel that was put
pub put_read : (xs ys : List ℕ) (i : ℕ) (v : Pixel) → ys ≡ put_pixel xs i v → 4 * i + 4 ≤ length xs → v ≡ pixels ys i
put_read xs ys i v e h = sym (pixels_same e i ∙ pixel_same xs i v h)

-- it is the left neighbor of the next
pub left_next : (xs ys : List ℕ) (i : ℕ) (v : Pixel) → ys ≡ put_pixel xs i v → 4 * i + 4 ≤ length xs → v ≡ pixels ys (i + 1 - 1)
left_next xs ys i v e h = let k : i + 1 - 1 ≡ i = omega arith in rw k (put_read xs ys i v e h)

-- the buffer after it
pub run_turn : (h : Rule Pixel) (a i : ℕ) (xs₀ xs ys : List ℕ) (v : Pixel) → xs ≡ run pixel_cells h a (i - a) xs₀ → v ≡ h (pixels xs) i → ys ≡ put_pixel xs i v → a ≤ i
    → ys ≡ run pixel_cells h a (i + 1 - a) xs₀
run_turn h a i xs₀ xs ys v e q p l = p ∙ run_more pixel_cells h a i xs₀ xs v l e q
