-- Laws of the mask: its bits from the first spot to the last.
use Rattle.std.specs.Int.{from_bool}
use mathlib.Core.Bool.{Bool, true, false, not, ◌&&◌, ◌||◌, or_assoc, or_comm, or-false}
use mathlib.Core.List.{List, [], ◌∷◌, ◌++◌}
use mathlib.Core.Path.{◌≡◌, refl, sym, ap, ◌∙◌}
use Prim.Native.Nat.{ℕ, ◌+◌, ◌*◌, ◌/◌, ◌%◌, ◌^◌, ◌<◌, ◌≤◌}
use native.Mathlib.Nat.{pow-zero, pow-suc, mul-le-mul_right, mod-eq_of_lt}
use native.Mathlib.Numerals.{add-one}
use native.Mathlib.Omega.{arith}
use lib.Pow.{pow_mono}
use borrow.Author.Tests.{ltb-true}
use lib.Dec.{eqb, ltb}
use lib.ListN.{length, get_or, take}
use lib.Seq.{take-suc, length-take-le}
use Rattle.format.specs.Choice.{bit}
use Rattle.format.specs.Indices.{among}
use Rattle.format.specs.declared.Pixel.{Pixel}
use Rattle.format.specs.Pixel.{clear, equal}
use Rattle.format.specs.Picture.{Picture, pixels}
use Rattle.format.proofs.Marks.{marks_same}
use Rattle.format.specs.Retouch.{differ, marks, mask_of}
use Rattle.color_table.proofs.Fronts.{pixels_front}
use Rattle.retouch.specs.Remade.{MadeTo, marked, MasksMade}

-- a test as a bit

from_bit : (t : Bool) → from_bool t ≡ bit t
from_bit true = refl
from_bit false = refl

from_small : (t : Bool) → from_bool t ≤ 1
from_small true = omega arith
from_small false = omega arith

-- one spot more, by a test of its record

module _ (t : ℕ → Bool) where
  -- the records seen after those of xs, the last of them first
  abbrev after : List ℕ → List ℕ → List ℕ
  after seen [] = seen
  after seen (x ∷ xs) = after (x ∷ seen) xs

  among_after : (r : ℕ) (seen xs : List ℕ) → among r (after seen xs) ≡ (among r xs || among r seen)
  among_after r seen [] = refl
  among_after r seen (x ∷ xs) = among_after r (x ∷ seen) xs ∙ rw (or_comm (eqb r x) (among r xs)) (sym (or_assoc (among r xs) (eqb r x) (among r seen)))

  mask_last : (seen xs : List ℕ) (r : ℕ) → mask_of (marks t seen (xs ++ (r ∷ []))) ≡ mask_of (marks t seen xs) + 2 ^ length xs * bit (t r && not (among r (after seen xs)))
  mask_last seen [] r = rw pow-zero (omega arith)
  mask_last seen (x ∷ xs) r = rw (mask_last (x ∷ seen) xs r, pow-suc) (omega arith)

made_differ : (n r : ℕ) (f g : Picture) (v : Pixel) → (r < n → v ≡ g r) → (ltb r n && not (equal (f r) v)) ≡ differ n f g r
made_differ n r f g v e = go (ltb r n) refl
  where
    go : (b : Bool) → ltb r n ≡ b → (b && not (equal (f r) v)) ≡ (b && not (equal (f r) (g r)))
    go true q = rw (e (ltb-true r n q)) refl
    go false q = refl

-- a mask says which of the first k spots change the strip f, where vs has the records of the strip g
pub record MaskTo (xs : List ℕ) (n : ℕ) (f : Picture) (vs : List Pixel) (k mask : ℕ) : Type 0 where
  pub is : (g : Picture) → MadeTo (length xs) g n xs vs → mask ≡ mask_of (marks (differ n f g) [] (take k xs))
  pub small : mask < 2 ^ k

module _ (xs : List ℕ) (n : ℕ) (f : Picture) (vs : List Pixel) where
  -- the next spot too
  pub mask_more : (k r mask b : ℕ) (v : Pixel) (m : Bool) → MaskTo xs n f vs k mask → k < length xs → r ≡ get_or xs k 0 → v ≡ get_or vs k clear
      → m ≡ marked n f (take k xs) r v → b ≡ from_bool m * 2 ^ k
      → MaskTo xs n f vs (k + 1) (mask + b)
  mask_more k r mask b v m to u p q e j = record {
    is = λ g made.
        let rule = differ n f g in
        let seen : among r (after rule [] (take k xs)) ≡ among r (take k xs) = among_after rule r [] (take k xs) ∙ or-false (among r (take k xs)) in
        let d = made_differ n r f g v (λ i. q ∙ rw (← p) at (made.at k u (rw p at i))) in
        let c : m ≡ (rule r && not (among r (take k xs))) = e ∙ rw d refl in
        let l = length-take-le k xs (omega arith) in
        rw (j, add-one k, take-suc xs k 0 u, ← p, mask_last rule [] (take k xs) r, seen, l, ← c, ← to.is g made, from_bit m) (omega arith);
    small = rw (j, add-one k, pow-suc) (omega (arith, to.small, from_small m, mul-le-mul_right {m = from_bool m} {n = 1} (2 ^ k) (from_small m)));
  }

pub mask_small : (k mask : ℕ) → mask < 2 ^ k → k ≤ 5 → mask < 32
mask_small k mask l u = let s : 2 ^ k ≤ 2 ^ 5 = pow_mono {j = 5} u in omega arith

-- a bit below the fifth fits
pub bit_fits : (k b : ℕ) (m : Bool) → b ≡ from_bool m → k < 5 → b * 2 ^ k % 4294967296 ≡ from_bool m * 2 ^ k
bit_fits k b m e l =
    let s : 2 ^ k ≤ 2 ^ 5 = pow_mono {j = 5} (omega arith) in
    rw e (mod-eq_of_lt (omega (arith, mul-le-mul_right {m = from_bool m} {n = 1} (2 ^ k) (from_small m))))

-- the mask of a strip by its records alone: k bytes, which are lent
pub mask_lent : (n k : ℕ) (rs : List ℕ) (vs : List Pixel) (strip : List ℕ) (mask : ℕ) → k ≡ 4 * n → 4 * n ≤ length strip
    → MasksMade (length (take k strip) / 4) rs vs (pixels (take k strip)) mask → MasksMade n rs vs (pixels strip) mask
mask_lent n k rs vs strip mask e fits m =
    let c : length (take k strip) / 4 ≡ n = omega (arith, length-take-le k strip (omega arith)) in
    λ g made. (rw c at m) g made ∙ ap mask_of (marks_same [] _ _ rs (λ r. go g r (ltb r n) refl))
  where
    go : (g : Picture) (r : ℕ) (b : Bool) → ltb r n ≡ b → differ n (pixels (take k strip)) g r ≡ differ n (pixels strip) g r
    go g r true q = let l = ltb-true r n q in rw (pixels_front k strip r (omega arith)) refl
    go g r false q = rw q refl
