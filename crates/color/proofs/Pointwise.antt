-- Pixels made each from the pixel that stands in its place.
use Rattle.std.proofs.Common.{◌≡◌, ℕ, refl, ◌+◌, ◌-◌, ◌*◌, ◌<◌, ◌≤◌, List, length, take, drop, ap, ◌∙◌, le_refl, arith}
use Rattle.format.specs.declared.Pixel.{Pixel}
use Rattle.format.specs.Picture.{Picture, pixels, written, in_order}
use Rattle.format.proofs.Picture.{written_same, in_order_at, in_order_ahead}
use Rattle.pixel.specs.Cells.{pixel_cells, run, of_its_own}
use Rattle.pixel.specs.Held.{HoldsRow}
use Rattle.pixel.proofs.Front.{pixels_run}
use Rattle.pixel.proofs.Held.{held_run}
use Rattle.pixel.proofs.Part.{back, part_back}
use Rattle.color.specs.Row.{pointwise, everywhere}

-- each pixel made of itself, at every index
pub everywhere_own : (t : Pixel → Pixel) → of_its_own t ≡ pointwise (everywhere t)
unfolding of_its_own pointwise
everywhere_own t = refl

-- from the front: the rule in order is the rule at each index, since a pixel is read before it is replaced
pub pointwise_written : (k : ℕ → Pixel → Pixel) (n : ℕ) (xs : List ℕ) → 4 * n ≤ length xs
    → run pixel_cells (pointwise k) 0 n xs ≡ written n (λ q. k q (pixels xs q)) xs
unfolding pointwise
pointwise_written k n xs l =
    pixels_run (pointwise k) xs n l
    ∙ written_same n (in_order (pointwise k) n (pixels xs)) (λ i. k i (pixels xs i)) xs
    (λ i u. in_order_at (pointwise k) (pixels xs) n i u ∙ ap (k i) (in_order_ahead (pointwise k) (pixels xs) i i (le_refl i)))

-- the loop from the front
pub from_front : (k : ℕ → Pixel → Pixel) (n : ℕ) (xs ys : List ℕ) → ys ≡ run pixel_cells (pointwise k) 0 (n - 0) xs → ys ≡ run pixel_cells (pointwise k) 0 n xs
from_front k n xs ys e = let z : n - 0 ≡ n = omega arith in rw z at e

-- row y of the picture by k' is the row by k
module _ (k' k : ℕ → Pixel → Pixel) (y w : ℕ) (xs ys : List ℕ) where
  abbrev SameRow : Type 0
  SameRow = (i : ℕ) → i < w → (v : Pixel) → k' (y * w + i) v ≡ k i v

  -- in a buffer of its own
  pub held : ys ≡ run pixel_cells (pointwise k) 0 w xs → SameRow → 4 * w ≤ length xs → (f : Picture) → HoldsRow f y w xs → HoldsRow (λ q. k' q (f q)) y w ys
  unfolding pointwise
  held e same l f h = held_run (pointwise k) (λ q. k' q (f q)) y w xs ys e (λ p x u r. rw (same x u (f (y * w + x))) (ap (k x) (r ∙ h x u))) l

  -- in its part of the picture, from byte a up to byte b, which comes back as ys
  module _ (a b : ℕ) (start : a ≡ 4 * (y * w)) (end : b ≡ 4 * (y * w) + 4 * w) where
    pub lent : ys ≡ run pixel_cells (pointwise k) 0 w (take (b - a) (drop a xs)) → SameRow → b ≤ length xs → back a (b - a) xs ys ≡ run pixel_cells (pointwise k') (y * w) w xs
    unfolding pointwise
    lent e same fits =
        rw (end, start) (part_back (pointwise k') (pointwise k) (y * w) w xs ys (rw (end, start) at e)
        (λ p q i l u agree. let o : i < w = omega arith in same i o (p (y * w + i)) ∙ ap (k i) (agree i o))
        (omega arith))
