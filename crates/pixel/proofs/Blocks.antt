-- Where the rows of a picture, and the data pixels of its blocks, stand.
use Rattle.std.proofs.Common.{◌≡◌, ℕ, ◌+◌, ◌-◌, ◌*◌, ◌/◌, ◌^◌, ◌<◌, ◌≤◌, List, length, refl, ap, ◌∙◌, mul-le-mul_right, add-mul, one-mul, arith, pow_pos}
use native.Mathlib.Nat.{div-eq_of_lt-le, lt-div-mul-add}
use Rattle.format.specs.Picture.{pixels, ceiling}
use Rattle.format.proofs.ColorTable.{column_packed}
use Rattle.format.specs.Sizes.{Blocked}
use Rattle.pixel.specs.Blocks.{block_start}
use Rattle.pixel.proofs.Part.{part, pixels_part}

-- row y of h rows of w
pub row_there : (w h y : ℕ) → y < h → y * w + w ≤ h * w
row_there w h y l = rw (add-mul, one-mul) at (mul-le-mul_right {m = y + 1} {n = h} w (omega arith))

-- a column, or a row, has its block
pub block_there : (w bits x : ℕ) → x < w → x / 2 ^ bits < ceiling w (2 ^ bits)
block_there w bits x l = column_packed w (2 ^ bits) x (pow_pos bits) l

-- blocks cover a row, one after the other
pub start_none : (w bits : ℕ) → block_start w bits 0 ≡ 0
start_none w bits = omega arith

pub start_up : (w bits k : ℕ) → block_start w bits k ≤ block_start w bits (k + 1)
start_up w bits k = let e : (k + 1) * 2 ^ bits ≡ k * 2 ^ bits + 2 ^ bits = rw (add-mul, one-mul) refl in omega arith

pub start_last : (w bits : ℕ) → block_start w bits (ceiling w (2 ^ bits)) ≡ w
start_last w bits = omega (arith, pow_pos bits, lt-div-mul-add {a = w + 2 ^ bits - 1} (pow_pos bits))

-- a column of block k
pub same_block : (w bits k i : ℕ) → block_start w bits k ≤ i → i < block_start w bits (k + 1) → i / 2 ^ bits ≡ k
same_block w bits k i l u = div-eq_of_lt-le (2 ^ bits) (omega arith) (omega arith)

-- the blocks of row y
pub blocks_there : (w h bits y : ℕ) → y < h → y / 2 ^ bits * ceiling w (2 ^ bits) + ceiling w (2 ^ bits) ≤ ceiling h (2 ^ bits) * ceiling w (2 ^ bits)
blocks_there w h bits y l = row_there (ceiling w (2 ^ bits)) (ceiling h (2 ^ bits)) (y / 2 ^ bits) (block_there h bits y l)

-- and their data
pub data_there : (w h bits y : ℕ) (bs : List ℕ) → Blocked w h bits bs → y < h → (bx : ℕ) → bx ≡ ceiling w (2 ^ bits) → 4 * (y / 2 ^ bits * bx) + 4 * bx ≤ length bs
data_there w h bits y bs blocked below bx e = rw e (omega (arith, blocks_there w h bits y below, blocked.there))

-- in the part that is lent
pub data-part : (w h bits y : ℕ) (bs : List ℕ) → Blocked w h bits bs → y < h → (bx : ℕ) → bx ≡ ceiling w (2 ^ bits) → (j : ℕ) → j < ceiling w (2 ^ bits)
    → pixels (part (y / 2 ^ bits * bx) bx bs) j ≡ pixels bs (y / 2 ^ bits * ceiling w (2 ^ bits) + j)
data-part w h bits y bs blocked below bx e j l =
    pixels_part (y / 2 ^ bits * bx) bx bs (data_there w h bits y bs blocked below bx e) j (omega arith) ∙ ap (λ (n : ℕ). pixels bs (y / 2 ^ bits * n + j)) e
