-- Laws of a strip's records replaced one after another, spot by spot.
use Rattle.std.specs.Prelude.{if◌then◌else◌}
use mathlib.Core.Bool.{Bool, true, false, ◌||◌, or_assoc, or-true, or-false}
use mathlib.Core.List.{List, [], ◌∷◌, ◌++◌}
use mathlib.Core.Path.{◌≡◌, refl, sym, ap, ◌∙◌}
use Prim.Native.Nat.{ℕ, zero, suc, ◌+◌, ◌*◌, ◌/◌, ◌<◌, ◌≤◌}
use native.Mathlib.Numerals.{add-one}
use native.Mathlib.Omega.{arith}
use borrow.Author.Tests.{eqb-true, ne_eqb}
use lib.Dec.{eqb}
use lib.ListN.{length, get_or, take, drop}
use lib.Seq.{take-suc, length-take-le}
use Rattle.std.proofs.lemmas.List.{drop-take, drop-drop}
use Rattle.format.specs.Indices.{among}
use Rattle.format.specs.declared.Pixel.{Pixel}
use Rattle.format.specs.Pixel.{clear}
use Rattle.format.specs.Picture.{Picture, pixels, written, paint}
use Rattle.format.proofs.Picture.{written_same}
use Rattle.format.proofs.Written.{written_self}
use Rattle.pixel.specs.Cells.{put_pixel}
use Rattle.pixel.proofs.Front.{put_written}
use Rattle.color_table.proofs.Fronts.{pixels_front}
use Rattle.retouch.specs.Remade.{MadeTo, over, WritesMade}

-- one record more of g

among_last : (i r : ℕ) (rs : List ℕ) → among i (rs ++ (r ∷ [])) ≡ (among i rs || eqb i r)
among_last i r [] = or-false (eqb i r)
among_last i r (q ∷ rs) = rw (among_last i r rs) (sym (or_assoc (eqb i q) (among i rs) (eqb i r)))

over_paint : (g f : Picture) (rs : List ℕ) (r : ℕ) (v : Pixel) → v ≡ g r → (i : ℕ) → paint (over g rs f) r v i ≡ over g (rs ++ (r ∷ [])) f i
unfolding over
over_paint g f rs r v e i = rw (among_last i r rs) (go (eqb i r) refl)
  where
    go : (b : Bool) → eqb i r ≡ b → (if b then v else (if among i rs then g i else f i)) ≡ (if (among i rs || b) then g i else f i)
    go true q = rw (or-true (among i rs)) (e ∙ ap g (sym (eqb-true i r q)))
    go false q = rw (or-false (among i rs)) refl

over_outside : (g f : Picture) (rs : List ℕ) (r i : ℕ) → (i ≡ r → ⊥) → over g rs f i ≡ over g (rs ++ (r ∷ [])) f i
unfolding over
over_outside g f rs r i d = rw (among_last i r rs, ne_eqb i r d, or-false (among i rs)) refl

-- a strip is the old one with the records of the first k spots, where vs has those of g
pub record WrittenTo (xs : List ℕ) (n : ℕ) (vs : List Pixel) (old : List ℕ) (k : ℕ) (strip : List ℕ) : Type 0 where
  pub is : (g : Picture) → MadeTo (length xs) g n xs vs → strip ≡ written n (over g (take k xs) (pixels old)) old

module _ (xs : List ℕ) (n : ℕ) (vs : List Pixel) (old : List ℕ) where
  pub to_none : 4 * n ≤ length old → WrittenTo xs n vs old 0 old
  unfolding over
  to_none fits = record { is = λ g made. sym (written_self n old fits) }

  -- record r is one of the first n, and written
  pub to_written : (k r : ℕ) (v : Pixel) (strip ys : List ℕ) → WrittenTo xs n vs old k strip → k < length xs → r ≡ get_or xs k 0 → v ≡ get_or vs k clear → r < n → ys ≡ put_pixel strip r v
      → WrittenTo xs n vs old (k + 1) ys
  to_written k r v strip ys to u p q i e = record {
    is = λ g made.
        let f = over g (take k xs) (pixels old) in
        rw (add-one k, take-suc xs k 0 u, ← p) (e ∙ rw (to.is g made, put_written n f old r v i) (written_same n (paint f r v) (over g (take k xs ++ (r ∷ [])) (pixels old)) old (λ j h. over_paint g (pixels old) (take k xs) r v (q ∙ rw (← p) at (made.at k u (rw p at i))) j)));
  }

  -- or it is past them
  pub to_past : (k r : ℕ) (strip : List ℕ) → WrittenTo xs n vs old k strip → k < length xs → r ≡ get_or xs k 0 → n ≤ r → WrittenTo xs n vs old (k + 1) strip
  to_past k r strip to u p i = record {
    is = λ g made.
        rw (add-one k, take-suc xs k 0 u, ← p) (to.is g made ∙ written_same n (over g (take k xs) (pixels old)) (over g (take k xs ++ (r ∷ [])) (pixels old)) old (λ j h. over_outside g (pixels old) (take k xs) r j (λ z. omega arith)));
  }

-- a front that came back, written
written_back : (n : ℕ) (f : Picture) (xs : List ℕ) → written n f (take (4 * n) xs) ++ drop (4 * n) xs ≡ written n f xs
unfolding written
written_back zero f xs = refl
written_back (suc n) f xs =
    let e : 4 * suc n ≡ 4 + 4 * n = omega arith in
    rw (e, drop-take 4 (4 * n) xs, ← drop-drop (4 * n) 4 xs, written_back n (λ i. f (suc i)) (drop 4 xs)) refl

-- a strip whose records were lent alone: k bytes
pub written_lent : (n k : ℕ) (rs : List ℕ) (vs : List Pixel) (strip ys zs : List ℕ) → k ≡ 4 * n → 4 * n ≤ length strip
    → WritesMade (length (take k strip) / 4) rs vs (take k strip) ys → zs ≡ ys ++ drop k strip → WritesMade n rs vs strip zs
unfolding over
written_lent n k rs vs strip ys zs e fits w z =
    let c : length (take k strip) / 4 ≡ n = omega (arith, length-take-le k strip (omega arith)) in
    λ g made. z ∙ rw ((rw c at w) g made, e) (written_back n (over g rs (pixels (take (4 * n) strip))) strip)
    ∙ written_same n (over g rs (pixels (take k strip))) (over g rs (pixels strip)) strip (λ i l. rw (pixels_front k strip i (omega arith)) refl)
