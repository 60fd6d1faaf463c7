-- The indices that an item is made of are inside its stage.
use Rattle.std.specs.Prelude.{if◌then◌else◌}
use mathlib.Core.Bool.{Bool, true, false}
use mathlib.Core.Path.{◌≡◌, refl}
use Prim.Native.Nat.{ℕ, ◌+◌, ◌-◌, ◌*◌, ◌/◌, ◌%◌, ◌<◌, ◌≤◌}
use native.Mathlib.Nat.{mod-lt, div-lt_iff_lt-mul}
use native.Mathlib.Omega.{arith}
use lib.Dec.{eqb}
use borrow.Author.Tests.{eqb-false}
use Rattle.pixel.proofs.Blocks.{row_there}
use Rattle.item.specs.declared.around.Neighbor.{Neighbor}
use Rattle.item.specs.declared.around.Neighbor.TheVariants.{Left, Top, TopRight, TopLeft}
use Rattle.item.specs.Neighbors.{neighbor_at}

-- the column and the row of item q
module _ (w q : ℕ) (pos : 1 ≤ w) where
  pub column_inside : q % w < w
  column_inside = mod-lt q pos

  pub row_inside : (h : ℕ) → q < h * w → q / w < h
  row_inside h l = (div-lt_iff_lt-mul pos).1 l

module _ (w x y h : ℕ) (column : x < w) (row : y < h) where
  here : y * w + w ≤ h * w
  here = row_there w h y row

  above : (y - 1) * w + w ≤ h * w
  above = row_there w h (y - 1) (omega arith)

  wraps : (b : Bool) → eqb (x + 1) w ≡ b → (if b then y * w else (y - 1) * w + (x + 1)) < h * w
  wraps true e = omega (arith, here)
  wraps false e = go (eqb-false (x + 1) w e)
    where
      go : (x + 1 ≡ w → ⊥) → (y - 1) * w + (x + 1) < h * w
      go n = omega (arith, above)

  pub neighbor_inside : (n : Neighbor) → neighbor_at w x y n < h * w
  unfolding neighbor_at
  neighbor_inside Left = omega (arith, here)
  neighbor_inside Top = omega (arith, above)
  neighbor_inside TopRight = wraps (eqb (x + 1) w) refl
  neighbor_inside TopLeft = omega (arith, above)
