-- Rows stored: a row's residuals in its buffer are the picture's.
use Rattle.std.proofs.Common.{◌≡◌, ℕ, ◌+◌, ◌-◌, ◌*◌, ◌/◌, ◌^◌, ◌<◌, ◌≤◌, List, length, take, drop, sym, ap, ◌∙◌, zero-add, zero-mul, arith}
use native.Mathlib.Decide.{dec_lt}
use Rattle.format.specs.declared.Pixel.{Pixel}
use Rattle.format.specs.Byte.{sub}
use Rattle.format.specs.Pixel.{each, black}
use Rattle.format.specs.Picture.{Picture, byte_at, pixels, ceiling}
use Rattle.format.specs.Predictor.{residuals}
use Rattle.format.proofs.Predictor.{row_above}
use Rattle.pixel.specs.Cells.{byte_cells, pixel_cells, put_pixel, run, given}
use Rattle.pixel.specs.Held.{HoldsRow}
use Rattle.pixel.proofs.Channels.{Channels, pixels_bytes}
use Rattle.pixel.proofs.Held.{held_run}
use Rattle.pixel.proofs.Part.{pixels_part}
use Rattle.pixel.proofs.Rows.{run_then}
use Rattle.predictor.specs.Row.{residual, row_predicted}
use Rattle.predictor.proofs.Rows.{predicted_first, predicted_left, row-predicted}

-- row 0

-- the second of two rows, as it is lent from byte a up to byte b
pub second_row : (w a b : ℕ) (rows : List ℕ) → a ≡ 4 * (1 * w) → b ≡ 4 * (1 * w) + 4 * w → length rows ≡ 8 * w → (x : ℕ) → x < w
    → pixels (take (b - a) (drop a rows)) x ≡ pixels rows (w + x)
second_row w a b rows start end two x u =
    let s : a ≡ 4 * w = omega arith in
    let e : b ≡ 4 * w + 4 * w = omega arith in
    rw (e, s) (pixels_part w w rows (omega arith) x u)

-- what byte i loses off the first pixel
abbrev pub left_lost : List ℕ → ℕ → ℕ
left_lost row i = sub (byte_at row i) (byte_at row (i - 4))

left-channels : (row : List ℕ) (x : ℕ) → 1 ≤ x → (zs : List ℕ) → Channels (given (left_lost row)) zs x (each sub (pixels row x) (pixels row (x - 1)))
unfolding given each pixels
left-channels row x l zs =
    let r : 4 * x - 4 ≡ 4 * (x - 1) = omega arith in
    let g : 4 * x + 1 - 4 ≡ 4 * (x - 1) + 1 = omega arith in
    let b : 4 * x + 2 - 4 ≡ 4 * (x - 1) + 2 = omega arith in
    let a : 4 * x + 3 - 4 ≡ 4 * (x - 1) + 3 = omega arith in
    record { red = rw r; green = λ ys before after. rw g; blue = λ ys before after. rw b; alpha = λ ys before after. rw a }

module _ (w bits : ℕ) (D f : Picture) (row : List ℕ) (wide : 1 ≤ w) (holds : HoldsRow f 0 w row) where
  at : (x : ℕ) → x < w → pixels row x ≡ f x
  at x u = holds x u ∙ rw (zero-mul, zero-add)

  pub lost_left : (x : ℕ) → 1 ≤ x → x < w → each sub (pixels row x) (pixels row (x - 1)) ≡ residuals w bits D f x
  unfolding residuals
  lost_left x l u = cc (at x u, at (x - 1) (omega arith), predicted_left w bits D f x l u)

  pub lost_bytes : (xs ys : List ℕ) → ys ≡ run byte_cells (given (left_lost row)) 4 (4 * w - 4) xs → ys ≡ run pixel_cells (given (residuals w bits D f)) 1 (w - 1) xs
  unfolding given
  lost_bytes xs ys e =
      let k : 4 * w - 4 ≡ 4 * (w - 1) = omega arith in
      e ∙ rw k (pixels_bytes (given (left_lost row)) (given (residuals w bits D f)) 1 xs (w - 1) (λ x l u zs n. rw (← lost_left x l (omega arith)) (left-channels row x l zs)))

  pub stored_first_row : (xs ys zs : List ℕ) (v : Pixel) → ys ≡ put_pixel xs 0 v → v ≡ each sub (pixels row 0) black → zs ≡ run pixel_cells (given (residuals w bits D f)) 1 (w - 1) ys
      → 4 * w ≤ length xs → HoldsRow (residuals w bits D f) 0 w zs
  unfolding run given residuals
  stored_first_row xs ys zs v e q r l =
      let b : v ≡ residuals w bits D f 0 = q ∙ cc (at 0 wide, predicted_first w bits D f wide) in
      held_run (given (residuals w bits D f)) (residuals w bits D f) 0 w xs zs (run_then (given (residuals w bits D f)) 1 (w - 1) w xs ys zs (e ∙ ap (put_pixel xs 0) b) r (omega arith))
      (λ p x u m. rw (zero-mul, zero-add))
      l

-- row y off the first: `rows` holds the row above and then the row

module _ (w bits y : ℕ) (D d f : Picture) (rows : List ℕ) (off : 1 ≤ y) (blocks : (j : ℕ) → j < ceiling w (2 ^ bits) → d j ≡ D (y / 2 ^ bits * ceiling w (2 ^ bits) + j))
    (above : HoldsRow f (y - 1) w rows) (row : (x : ℕ) → x < w → pixels rows (w + x) ≡ f (y * w + x)) where
  up : (y - 1) * w + w ≡ y * w
  up = row_above w y (λ z. omega arith)

  agree : (j : ℕ) → j < w + w → f ((y - 1) * w + j) ≡ pixels rows j
  agree j l = go (dec_lt j w)
    where
      go : Dec (j < w) → f ((y - 1) * w + j) ≡ pixels rows j
      go (yes a) = sym (above j a)
      go (no b) =
          let u = up in
          let k : w + (j - w) ≡ j = omega arith in
          let m : y * w + (j - w) ≡ (y - 1) * w + j = omega arith in
          sym (rw (k, m) at (row (j - w) (omega arith)))

  column : (x : ℕ) → x < w → residual (row_predicted w bits d) w (pixels rows) x ≡ residuals w bits D f (y * w + x)
  unfolding residuals
  column x l =
      let u = up in
      let e : (y - 1) * w + (w + x) ≡ y * w + x = omega arith in
      cc (row x l, rw e at (row-predicted w bits y D d off blocks f (pixels rows) agree (w + x) (omega arith) (omega arith)))

  pub stored_row : (xs ys : List ℕ) → ys ≡ run pixel_cells (given (residual (row_predicted w bits d) w (pixels rows))) 0 w xs → 4 * w ≤ length xs → HoldsRow (residuals w bits D f) y w ys
  unfolding given
  stored_row xs ys e l = held_run (given (residual (row_predicted w bits d) w (pixels rows))) (residuals w bits D f) y w xs ys e (λ p x u m. column x u) l
