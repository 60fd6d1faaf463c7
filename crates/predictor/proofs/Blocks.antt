-- The blocks of a row: within one the row's rule is that of the block's mode.
use Rattle.std.proofs.Common.{◌≡◌, ℕ, ◌+◌, ◌-◌, ◌<◌, ◌≤◌, List, sym, refl, ap, ◌∙◌, add-zero, arith, eq-eqb, ne_eqb}
use Rattle.format.specs.declared.Pixel.{Pixel}
use Rattle.format.specs.Byte.{add, sub}
use Rattle.format.specs.Pixel.{each}
use Rattle.format.specs.Picture.{Picture, pixels}
use Rattle.pixel.specs.Blocks.{block_start}
use Rattle.pixel.specs.Cells.{pixel_cells, put_pixel, run, given}
use Rattle.pixel.proofs.Blocks.{same_block}
use Rattle.pixel.proofs.Given.{given_same}
use Rattle.pixel.proofs.Cells.{pixel_lawful, run_append, run_same}
use Rattle.pixel.proofs.Rows.{run_then}
use Rattle.predictor.specs.Row.{around, gains, residual, row_predicted, front_gained, front_lost, segment_gained, segment_lost, OneMode}

module _ (w bits : ℕ) (d : Picture) where
  -- column 0
  pub row_first : (p : ℕ → Pixel) → row_predicted w bits d p w ≡ p 0
  unfolding row_predicted
  row_first p = let e : w - w ≡ 0 = omega arith in rw (eq-eqb w w refl, e)

  -- a column of block k off the first
  pub row_block : (p : ℕ → Pixel) (k i : ℕ) → w + 1 ≤ i → w + block_start w bits k ≤ i → i < w + block_start w bits (k + 1)
      → row_predicted w bits d p i ≡ around (d k).green w p i
  unfolding row_predicted
  row_block p k i off l u = rw (ne_eqb i w (λ z. omega arith), same_block w bits k (i - w) (omega arith) (omega arith))

-- the first column put, and a block's columns after those before them: rebuilt, and stored

module _ (w bits : ℕ) (bs xs₀ xs ys : List ℕ) where
  pub gained_one : (v : Pixel) → ys ≡ put_pixel xs w v → v ≡ each add (pixels xs w) (pixels xs 0) → ys ≡ front_gained w bits bs 1 xs
  unfolding run
  gained_one v p q =
      let z = add-zero w in
      let f = row_first w bits (pixels bs) (pixels xs) in
      p ∙ cc

  pub lost_one : (rows : List ℕ) (v : Pixel) → ys ≡ put_pixel xs 0 v → v ≡ each sub (pixels rows w) (pixels rows 0) → ys ≡ front_lost w bits bs 1 rows xs
  unfolding run given
  lost_one rows v p q =
      let z = add-zero w in
      let f = row_first w bits (pixels bs) (pixels rows) in
      p ∙ rw z (cc)

  module _ (a b m : ℕ) (one : OneMode w bits bs a b m) (up : a ≤ b) where
    pub gained_more : xs ≡ front_gained w bits bs a xs₀ → ys ≡ segment_gained m w a b xs → ys ≡ front_gained w bits bs b xs₀
    gained_more before turn =
        let h = gains (row_predicted w bits (pixels bs)) in
        let n : a + (w + b - (w + a)) ≡ b = omega arith in
        turn
        ∙ run_same pixel_cells pixel_lawful (gains (around m w)) h (w + a) xs (w + b - (w + a)) (λ i l u zs y z. ap (each add (pixels zs i)) (sym (one (pixels zs) i l (omega arith))))
        ∙ ap (run pixel_cells h (w + a) (w + b - (w + a))) before
        ∙ rw n at (run_append pixel_cells h w xs₀ a (w + b - (w + a)))

    pub lost_more : (rows : List ℕ) → xs ≡ front_lost w bits bs a rows xs₀ → ys ≡ segment_lost m w a b rows xs → ys ≡ front_lost w bits bs b rows xs₀
    lost_more rows before turn =
        run_then _ a (b - a) b xs₀ xs ys before
        (turn
        ∙ given_same (residual (around m w) w (pixels rows)) (residual (row_predicted w bits (pixels bs)) w (pixels rows)) a xs (b - a)
        (λ i l u. ap (each sub (pixels rows (w + i))) (sym (one (pixels rows) (w + i) (omega arith) (omega arith)))))
        (omega arith)
