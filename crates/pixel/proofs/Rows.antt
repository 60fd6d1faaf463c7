-- A loop from the front, by rows or by other parts.
use Rattle.std.proofs.Common.{◌≡◌, ℕ, ◌+◌, ◌*◌, List, sym, refl, ◌∙◌, add-mul, one-mul, zero-add, zero-mul}
use Rattle.format.specs.declared.Pixel.{Pixel}
use Rattle.pixel.specs.Cells.{pixel_cells, Rule, run}
use Rattle.pixel.proofs.Cells.{run_append}

-- before the first turn, and after the last
pub run_zero : (h : Rule Pixel) (xs : List ℕ) → xs ≡ run pixel_cells h 0 0 xs
unfolding run
run_zero h xs = refl

pub no_rows : (h : Rule Pixel) (w : ℕ) (xs : List ℕ) → xs ≡ run pixel_cells h 0 (0 * w) xs
no_rows h w xs = rw zero-mul (run_zero h xs)

-- one part after another
pub run_then : (h : Rule Pixel) (n m k : ℕ) (xs ys zs : List ℕ) → ys ≡ run pixel_cells h 0 n xs → zs ≡ run pixel_cells h n m ys → n + m ≡ k → zs ≡ run pixel_cells h 0 k xs
run_then h n m k xs ys zs e q j = q ∙ rw e (rw (zero-add, j) at (run_append pixel_cells h 0 xs n m))

-- one row more
pub row_more : (h : Rule Pixel) (y w : ℕ) (xs ys zs : List ℕ) → ys ≡ run pixel_cells h 0 (y * w) xs → zs ≡ run pixel_cells h (y * w) w ys
    → zs ≡ run pixel_cells h 0 ((y + 1) * w) xs
row_more h y w xs ys zs e q = run_then h (y * w) w ((y + 1) * w) xs ys zs e q (sym (rw (add-mul, one-mul) refl))
