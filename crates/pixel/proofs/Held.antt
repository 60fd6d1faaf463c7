-- How a row's buffer comes to hold a row, and how the row goes back into a picture.
use Rattle.std.proofs.Common.{◌≡◌, ℕ, ◌+◌, ◌-◌, ◌*◌, ◌<◌, ◌≤◌, List, length, sym, ◌∙◌, arith}
use Rattle.format.specs.declared.Pixel.{Pixel}
use Rattle.format.specs.Picture.{Picture, pixels}
use Rattle.format.proofs.Written.{pixels_same}
use Rattle.pixel.specs.Cells.{pixel_cells, Rule, run, given}
use Rattle.pixel.specs.Held.{HoldsRow}
use Rattle.pixel.proofs.Cells.{pixel_lawful, run_at, run_after}
use Rattle.pixel.proofs.Part.{back, part, part_back}

-- by a rule that reads no pixel of the buffer but the one that it replaces
pub held_run : (h : Rule Pixel) (g : Picture) (y w : ℕ) (xs ys : List ℕ) → ys ≡ run pixel_cells h 0 w xs → ((p : Picture) (x : ℕ) → x < w → p x ≡ pixels xs x → h p x ≡ g (y * w + x))
    → 4 * w ≤ length xs → HoldsRow g y w ys
held_run h g y w xs ys e s l x u =
    let r = run_at pixel_cells pixel_lawful h 0 xs w x (omega arith) (omega arith) (omega arith) in
    let k = run_after pixel_cells pixel_lawful h 0 xs (x - 0) x (omega arith) in
    pixels_same e x ∙ r ∙ s (pixels (run pixel_cells h 0 (x - 0) xs)) x u k

-- a row copied into its part of a picture, which comes back as ys
pub held_back : (g : Picture) (y w : ℕ) (zs xs ys : List ℕ) → ys ≡ run pixel_cells (given (pixels zs)) 0 w (part (y * w) w xs) → HoldsRow g y w zs → 4 * (y * w) + 4 * w ≤ length xs
    → back (4 * (y * w)) (4 * (y * w) + 4 * w - 4 * (y * w)) xs ys ≡ run pixel_cells (given g) (y * w) w xs
unfolding given
held_back g y w zs xs ys e h fits = part_back (given g) (given (pixels zs)) (y * w) w xs ys e (λ p q x l u agree. sym (h x (omega arith))) fits
