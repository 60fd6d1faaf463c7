-- What an item after record k asks of the stage before it.
use mathlib.Core.List.{List}
use mathlib.Core.Path.{◌≡◌, sym, ◌∙◌}
use Prim.Native.Nat.{ℕ, suc, ◌*◌, ◌/◌, ◌%◌, ◌<◌, ◌≤◌}
use native.Mathlib.Nat.{mod-lt}
use native.Mathlib.Omega.{arith}
use Rattle.format.specs.declared.Step.{Step}
use Rattle.format.specs.Picture.{pixels}
use Rattle.format.specs.Sizes.{Sized}
use Rattle.format.specs.ColorTable.{per_pixel, packed_width}
use Rattle.format.proofs.Picture.{paint_at, paint_other}
use Rattle.format.proofs.ColorTable.{per_pixel_pos, first_inside}
use Rattle.format.proofs.ByKind.{narrowed_table, narrowed_other}
use Rattle.format.proofs.Stages.{narrowed_pos}
use Rattle.chain.proofs.Valid.{step_sized}
use Rattle.item.specs.declared.around.Neighbor.{Neighbor}
use Rattle.item.specs.Neighbors.{neighbor_at}
use Rattle.item.specs.declared.painted.Painted.{Painted}
use Rattle.item.specs.declared.painted.Point.{Point}
use Rattle.item.specs.declared.place.Place.{Place}
use Rattle.item.specs.Source.{shown, step_of, items_after, Stands}
use Rattle.item.proofs.Inside.{column_inside, row_inside, neighbor_inside}

-- the point's pixel is its color, and the others are as they were
pub shown_here : (picture : List ℕ) (p : Point) (q : ℕ) → q ≡ p.index → p.color ≡ shown picture p q
shown_here picture p q e = rw e (sym (paint_at (pixels picture) p.index p.color))

pub shown_off : (picture : List ℕ) (p : Point) (q : ℕ) → (q ≡ p.index → ⊥) → pixels picture q ≡ shown picture p q
shown_off picture p q d = sym (paint_other (pixels picture) p.index p.color q d)

module _ (p : Painted) (k : ℕ) (u : k < p.opened.chain.count) where
  abbrev s : Step
  s = step_of p k

  pub sized_here : Sized s.width p.opened.chain.height
  sized_here = step_sized p.opened.chain _ p.opened.valid k u

  pub inside_before : (q : ℕ) → q < p.opened.chain.height * s.width → q < items_after p k
  inside_before q l = rw (p.opened.valid.width k u) at l

  -- a record that is no table keeps the width
  pub inside_other : (q n : ℕ) (r : Step) → q < items_after p (suc k) → r ≡ s → r.kind ≡ n → n ≤ 2 → q < items_after p k
  inside_other q n r l e z m =
      let other : s.kind ≡ 3 → ⊥ = λ b. let g : n ≡ 3 = sym z ∙ rw e b in omega arith in
      inside_before q (rw (narrowed_other s other) at l)

  pub stands_there : (q : ℕ) → q < items_after p k → (at : Place) → at.x ≡ q % s.width → at.y ≡ q / s.width → Stands p k at
  stands_there q l at a b = record {
    step = u;
    column = rw a (column_inside s.width q sized_here.wide);
    row = rw b (row_inside s.width q sized_here.wide p.opened.chain.height (rw (p.opened.valid.width k u) l));
  }

  -- a table's row of r records
  module _ (r : ℕ) (table : s.kind ≡ 3) (row : r ≡ packed_width s.size s.width) where
    pub records_some : 1 ≤ r
    records_some = rw (row, ← narrowed_table s table) (narrowed_pos s sized_here.wide)

    -- a record's first position is a column
    pub stands_first : (q x y n : ℕ) → q < items_after p (suc k) → x ≡ q % r → y ≡ q / r → n ≡ per_pixel s.size → Stands p k (record { x = x * n; y = y })
    stands_first q x y n l a b e = record {
      step = u;
      column = rw e (first_inside s.width (per_pixel s.size) x (per_pixel_pos s.size) (omega (arith, mod-lt q records_some, row)));
      row = rw b (row_inside r q records_some p.opened.chain.height (rw (row, ← narrowed_table s table) l));
    }

-- a neighbor is an item before record k
pub neighbor_before : (p : Painted) (k : ℕ) (n : Neighbor) (at : Place) → Stands p k at → neighbor_at (step_of p k).width at.x at.y n < items_after p k
neighbor_before p k n at s = inside_before p k s.step _ (neighbor_inside _ _ _ _ s.column s.row n)
