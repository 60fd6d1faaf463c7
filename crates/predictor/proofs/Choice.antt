-- Mode 11: the choice between two neighbors, carried from pixel to pixel.
use Rattle.std.specs.Prelude.{if◌then◌else◌}
use Rattle.std.proofs.Common.{◌≡◌, ℕ, ◌+◌, ◌-◌, ◌*◌, ◌≤◌, Bool, ltb, List, length, ap, ◌∙◌, arith}
use Rattle.format.specs.declared.Pixel.{Pixel}
use Rattle.format.specs.Picture.{pixels}
use Rattle.format.specs.Predictor.{predict}
use Rattle.pixel.specs.Distance.{between}
use Rattle.pixel.proofs.Distance.{select_between}
use Rattle.pixel.specs.Cells.{put_pixel}
use Rattle.pixel.proofs.Cells.{pixel_same, pixel_other}
use Rattle.predictor.specs.Row.{around, left_nearer}

pub around_11 : (w : ℕ) (p : ℕ → Pixel) (i : ℕ) → around 11 w p i ≡ (if left_nearer w p i then p (i - 1) else p (i - w))
unfolding predict
around_11 w p i = select_between (p (i - 1)) (p (i - w)) (p (i - w - 1))

-- the choice for the next pixel, once pixel i is put
pub nearer_next : (w i : ℕ) (xs ys : List ℕ) (v : Pixel) (n : Bool) → ys ≡ put_pixel xs i v
    → n ≡ ltb (between (pixels xs (i - w + 1)) (pixels xs (i - w))) (between v (pixels xs (i - w))) → 2 ≤ w → w + 1 ≤ i → 4 * i + 4 ≤ length xs → n ≡ left_nearer w (pixels ys) (i + 1)
nearer_next w i xs ys v n e q h l m =
    let a : i + 1 - w ≡ i - w + 1 = omega arith in
    let b : i - w + 1 - 1 ≡ i - w = omega arith in
    let c : i + 1 - 1 ≡ i = omega arith in
    let t : pixels ys (i - w + 1) ≡ pixels xs (i - w + 1) = ap (λ (zs : List ℕ). pixels zs (i - w + 1)) e ∙ pixel_other xs i v (i - w + 1) (λ z. omega arith) in
    let tl : pixels ys (i - w) ≡ pixels xs (i - w) = ap (λ (zs : List ℕ). pixels zs (i - w)) e ∙ pixel_other xs i v (i - w) (λ z. omega arith) in
    let o : pixels ys i ≡ v = ap (λ (zs : List ℕ). pixels zs i) e ∙ pixel_same xs i v m in
    q ∙ rw (a, b, c, t, tl, o)
