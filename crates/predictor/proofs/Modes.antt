-- Modes 14 to 255: they predict zero, which leaves every byte as it is.
use Rattle.std.proofs.Common.{◌≡◌, ℕ, zero, suc, ◌+◌, ◌-◌, ◌<◌, ◌≤◌, List, sym, refl, ap, ◌∙◌, arith}
use Rattle.format.specs.Byte.{add, sub}
use Rattle.format.specs.Pixel.{clear, each}
use Rattle.format.specs.Picture.{byte_at, pixels}
use Rattle.format.proofs.Modes.{mode_over_13}
use Rattle.pixel.specs.Cells.{pixel_cells, put_pixel, run}
use Rattle.pixel.proofs.Cells.{put_same}
use Rattle.pixel.proofs.Given.{given_same}
use Rattle.predictor.specs.Row.{around, gains, residual, segment_lost}

zero_added : (x : ℕ) → x < 256 → add x 0 ≡ x
zero_added x h = omega arith

-- nothing is gained
clear_added : (xs : List ℕ) (i : ℕ) → ((j : ℕ) → byte_at xs j < 256) → each add (pixels xs i) clear ≡ pixels xs i
unfolding each pixels
clear_added xs i small =
    cc (zero_added (pixels xs i).red (small _), zero_added (pixels xs i).green (small _), zero_added (pixels xs i).blue (small _), zero_added (pixels xs i).alpha (small _))

pub run_over_13 : (m w a : ℕ) (xs : List ℕ) (n : ℕ) → 14 ≤ m → ((j : ℕ) → byte_at xs j < 256) → xs ≡ run pixel_cells (gains (around m w)) a n xs
unfolding run
run_over_13 m w a xs zero h small = refl
run_over_13 m w a xs (suc n) h small =
    let r = run_over_13 m w a xs n h small in
    let p = mode_over_13 m (pixels xs (a + n - 1)) (pixels xs (a + n - w)) (pixels xs (a + n - w + 1)) (pixels xs (a + n - w - 1)) h in
    let v : gains (around m w) (pixels xs) (a + n) ≡ pixels xs (a + n) = ap (each add (pixels xs (a + n))) p ∙ clear_added xs (a + n) small in
    sym (put_same xs (a + n)) ∙ ap (put_pixel xs (a + n)) (sym v) ∙ ap (λ (ys : List ℕ). put_pixel ys (a + n) (gains (around m w) (pixels ys) (a + n))) r

-- and storing by one is storing by another
pub lost_over_13 : (m w : ℕ) (rows : List ℕ) (a b : ℕ) (xs : List ℕ) → 14 ≤ m → segment_lost 14 w a b rows xs ≡ segment_lost m w a b rows xs
lost_over_13 m w rows a b xs h =
    given_same (residual (around 14 w) w (pixels rows)) (residual (around m w) w (pixels rows)) a xs (b - a)
    (λ x l u. ap (each sub (pixels rows (w + x))) (mode_over_13 14 _ _ _ _ (omega arith) ∙ sym (mode_over_13 m _ _ _ _ h)))
