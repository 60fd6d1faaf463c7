-- Pixels of the second of two rows, moved to the first.
use mathlib.Core.List.{List, ◌++◌}
use mathlib.Core.Path.{◌≡◌, ap, ◌∙◌}
use Prim.Native.Nat.{ℕ, ◌+◌, ◌*◌, ◌<◌, ◌≤◌}
use native.Mathlib.Omega.{arith}
use lib.ListN.{length, take, drop, length-drop}
use lib.Seq.{length-take-le}
use Rattle.format.specs.Picture.{pixels}
use Rattle.format.proofs.Written.{pixels_same}
use Rattle.pixel.proofs.Part.{pixel_part}
use Rattle.store.proofs.Lent.{pixel_first}

-- the second of two rows of w pixels in the place of the first, where these were lent apart
pub moved : (w : ℕ) (xs first second : List ℕ) → second ≡ drop (4 * w) xs → first ≡ take (4 * w) second → 8 * w ≤ length xs
    → (x : ℕ) → x < w → pixels (first ++ second) x ≡ pixels xs (w + x)
moved w xs first second p q fits x l =
    let e = q ∙ ap (take (4 * w)) p in
    let long : length first ≡ 4 * w = ap (λ (ys : List ℕ). length ys) e ∙ length-take-le (4 * w) (drop (4 * w) xs) (omega (arith, length-drop (4 * w) xs)) in
    pixel_first first second x (omega arith) ∙ pixels_same e x ∙ pixel_part w (4 * w) xs (omega arith) x (omega arith)
