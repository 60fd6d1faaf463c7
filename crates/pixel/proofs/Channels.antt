-- Bytes replaced one by one are pixels replaced one by one, where the rule of a byte is the rule of its pixel's
-- channel.
use Rattle.std.proofs.Common.{◌≡◌, ℕ, zero, suc, ◌+◌, ◌*◌, ◌<◌, ◌≤◌, List, length, sym, refl, ap, ◌∙◌, add-zero, arith}
use Rattle.format.specs.declared.Pixel.{Pixel}
use Rattle.format.specs.Picture.{byte_at, pixels}
use Rattle.pixel.specs.Cells.{byte_cells, pixel_cells, put_pixel, Rule, run}
use Rattle.pixel.proofs.Cells.{byte_lawful, pixel_lawful, length_run, run_before, run_after, run_append}

-- the byte rule g gives the channels of v to pixel q, also where earlier bytes of that pixel have been replaced
pub record Channels (g : Rule ℕ) (xs : List ℕ) (q : ℕ) (v : Pixel) : Type 0 where
  pub red : g (byte_at xs) (4 * q) ≡ v.red
  pub green : (ys : List ℕ) → ((j : ℕ) → j < 4 * q → byte_at ys j ≡ byte_at xs j) → ((j : ℕ) → 4 * q + 1 ≤ j → byte_at ys j ≡ byte_at xs j) → g (byte_at ys) (4 * q + 1) ≡ v.green
  pub blue : (ys : List ℕ) → ((j : ℕ) → j < 4 * q → byte_at ys j ≡ byte_at xs j) → ((j : ℕ) → 4 * q + 2 ≤ j → byte_at ys j ≡ byte_at xs j) → g (byte_at ys) (4 * q + 2) ≡ v.blue
  pub alpha : (ys : List ℕ) → ((j : ℕ) → j < 4 * q → byte_at ys j ≡ byte_at xs j) → ((j : ℕ) → 4 * q + 3 ≤ j → byte_at ys j ≡ byte_at xs j) → g (byte_at ys) (4 * q + 3) ≡ v.alpha

-- one pixel
pub pixel_bytes : (g : Rule ℕ) (xs : List ℕ) (q : ℕ) (v : Pixel) → Channels g xs q v → run byte_cells g (4 * q) 4 xs ≡ put_pixel xs q v
unfolding run put_pixel
pixel_bytes g xs q v c =
    let before = run_before byte_cells byte_lawful g (4 * q) xs in
    let after = run_after byte_cells byte_lawful g (4 * q) xs in
    let r : g (byte_at xs) (4 * q + 0) ≡ v.red = rw add-zero c.red in
    let g1 = c.green (run byte_cells g (4 * q) 1 xs) (before 1) (after 1) in
    let b2 = c.blue (run byte_cells g (4 * q) 2 xs) (before 2) (after 2) in
    let a3 = c.alpha (run byte_cells g (4 * q) 3 xs) (before 3) (after 3) in
    let z = add-zero (4 * q) in
    cc

-- n pixels from pixel a
pub pixels_bytes : (g : Rule ℕ) (h : Rule Pixel) (a : ℕ) (xs : List ℕ) (n : ℕ)
    → ((q : ℕ) → a ≤ q → q < a + n → (ys : List ℕ) → length ys ≡ length xs → Channels g ys q (h (pixels ys) q))
    → run byte_cells g (4 * a) (4 * n) xs ≡ run pixel_cells h a n xs
unfolding run
pixels_bytes g h a xs zero s = refl
pixels_bytes g h a xs (suc n) s =
    let r = pixels_bytes g h a xs n (λ q l u. s q l (omega arith)) in
    let ys = run pixel_cells h a n xs in
    let m : 4 * n + 4 ≡ 4 * suc n = omega arith in
    let k : 4 * a + 4 * n ≡ 4 * (a + n) = omega arith in
    let l : length ys ≡ length xs = length_run pixel_cells pixel_lawful h a xs n in
    let t = pixel_bytes g ys (a + n) (h (pixels ys) (a + n)) (s (a + n) (omega arith) (omega arith) ys l) in
    ap (λ (j : ℕ). run byte_cells g (4 * a) j xs) (sym m) ∙ sym (run_append byte_cells g (4 * a) xs (4 * n) 4) ∙ rw (r, k) t
