-- The blocks of a row and of a picture.
use Rattle.std.proofs.Common.{◌≡◌, ℕ, ◌+◌, ◌-◌, ◌*◌, ◌/◌, ◌%◌, ◌^◌, ◌<◌, List, ◌∙◌, arith}
use lib.Arith.{digits_div, digits_mod}
use Rattle.format.specs.declared.Pixel.{Pixel}
use Rattle.format.specs.Picture.{pixels, ceiling, block}
use Rattle.pixel.specs.Cells.{pixel_cells}
use Rattle.pixel.specs.Blocks.{block_start}
use Rattle.pixel.specs.Held.{HoldsRow}
use Rattle.pixel.proofs.Blocks.{start_up, same_block, block_there}
use Rattle.pixel.proofs.Cells.{pixel_lawful, run_same}
use Rattle.pixel.proofs.Rows.{run_then}
use Rattle.color.specs.Row.{pointwise, everywhere, in_row, in_picture, made_by, row_made}

-- after the columns of the first k blocks, those of block k, whose data pixel is v
module _ (t : Pixel → Pixel → Pixel) (w bits k : ℕ) (bs : List ℕ) (v : Pixel) (q : v ≡ pixels bs k) where
  abbrev a : ℕ
  a = block_start w bits k

  abbrev b : ℕ
  b = block_start w bits (k + 1)

  pub block_more : (xs ys zs : List ℕ) → ys ≡ row_made t a bits bs xs → zs ≡ made_by (t v) a b ys → zs ≡ row_made t b bits bs xs
  unfolding pointwise
  block_more xs ys zs h m =
      let d = in_row t bits (pixels bs) in
      let up = start_up w bits k in
      let more =
      run_same pixel_cells pixel_lawful (pointwise (everywhere (t v))) (pointwise d) a ys (b - a)
      (λ i l u zs before after. rw (same_block w bits k i l (omega arith), q)) in
      run_then (pointwise d) a (b - a) b xs ys zs h (m ∙ more) (omega arith)

-- row y of a picture, by what holds the data of its row of blocks
pub row_blocks : (t : Pixel → Pixel → Pixel) (w bits y : ℕ) (bs part : List ℕ) → HoldsRow (pixels bs) (y / 2 ^ bits) (ceiling w (2 ^ bits)) part
    → (i : ℕ) → i < w → (v : Pixel) → in_picture t w bits (pixels bs) (y * w + i) v ≡ in_row t bits (pixels part) i v
unfolding block
row_blocks t w bits y bs part holds i l v =
    let d : (y * w + i) / w ≡ y = digits_div y l in
    let r : (y * w + i) % w ≡ i = digits_mod y l in
    rw (d, r, holds (i / 2 ^ bits) (block_there w bits i l))
