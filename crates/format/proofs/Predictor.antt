-- Laws of the predictor transform: a prediction reads earlier pixels alone, so storing and rebuilding undo each other.
use Rattle.std.specs.Prelude.{if◌then◌else◌}
use mathlib.Core.Path.{◌≡◌, refl, sym, ap, ◌∙◌}
use Prim.Native.Nat.{ℕ, zero, suc, ◌+◌, ◌-◌, ◌*◌, ◌/◌, ◌%◌, ◌<◌, ◌≤◌}
use native.Mathlib.Nat.{div-add-mod', mod-lt, not-suc-le-zero, suc-mul, le_refl, mod-one, div-one}
use native.Mathlib.Decide.{ℕ_discrete}
use native.Mathlib.Omega.{arith}
use borrow.Author.Tests.{eqb-false}
use lib.Dec.{eqb}
use Rattle.format.specs.declared.Pixel.{Pixel}
use Rattle.format.specs.Byte.{add, sub}
use Rattle.format.specs.Pixel.{black, each}
use Rattle.format.specs.Picture.{Picture, in_order}
use Rattle.format.specs.Predictor.{top_right, predicted, residuals, gained, from_residuals}
use Rattle.format.proofs.Choice.{if_same}
use Rattle.format.proofs.Pixels.{Bytes, each_add_sub, each_sub_add}
use Rattle.format.proofs.Picture.{paint_at, paint_other, in_order_ahead, in_order_at, in_order_kept}

-- widths 1 and 2

pub top_right_width_2 : (f : Picture) (y : ℕ) → top_right 2 f 1 y ≡ f (y * 2)
top_right_width_2 f y = refl

-- whatever the modes are: the first pixel as mode 0, the others as T
pub predicted_width_1 : (bits : ℕ) (d f : Picture) (q : ℕ) → predicted 1 bits d f (q % 1) (q / 1) ≡ (if eqb q 0 then black else f (q - 1))
unfolding predicted
predicted_width_1 bits d f q =
    let o : (q - 1) * 1 + 0 ≡ q - 1 = omega arith in
    rw (mod-one q, div-one q, o)

-- earlier pixels

-- the row above, by its first index
pub row_above : (w y : ℕ) → (y ≡ 0 → ⊥) → (y - 1) * w + w ≡ y * w
row_above w zero n = absurd (n refl)
row_above w (suc y) n = let e : suc y - 1 ≡ y = omega arith in rw e (sym (suc-mul y w))

module _ (w bits : ℕ) (d : Picture) (pos : 0 < w) where
  pub predicted_earlier : (f g : Picture) (q : ℕ) → ((p : ℕ) → p < q → f p ≡ g p) → predicted w bits d f (q % w) (q / w) ≡ predicted w bits d g (q % w) (q / w)
  unfolding predicted
  predicted_earlier f g q h =
      let x = q % w in
      let y = q / w in
      let e : y * w + x ≡ q = div-add-mod' q w in
      let l : x < w = mod-lt q pos in
      if_same (eqb y 0)
      (λ y0. if_same (eqb x 0) (λ x0. refl) (λ x1. let n = eqb-false x 0 x1 in h (y * w + (x - 1)) (omega arith)))
      (λ y1.
      let u = row_above w y (eqb-false y 0 y1) in
      if_same (eqb x 0) (λ x0. h ((y - 1) * w + x) (omega arith))
      (λ x1.
      let n = eqb-false x 0 x1 in
      cc (
        h (y * w + (x - 1)) (omega arith),
        h ((y - 1) * w + x) (omega arith),
        h ((y - 1) * w + (x - 1)) (omega arith),
        if_same (eqb (x + 1) w) {x = f (y * w)} {y = f ((y - 1) * w + (x + 1))} {x' = g (y * w)} {y' = g ((y - 1) * w + (x + 1))}
            (λ last. h (y * w) (omega arith)) (λ inner. let m = eqb-false (x + 1) w inner in h ((y - 1) * w + (x + 1)) (omega arith)),
      )))

  -- rebuilding gives each residual its prediction from the rebuilt picture
  pub rebuilt_at : (n : ℕ) (g : Picture) (q : ℕ) → q < n
      → from_residuals w bits d n g q ≡ each add (g q) (predicted w bits d (from_residuals w bits d n g) (q % w) (q / w))
  unfolding gained
  rebuilt_at n g q l =
      let e = predicted_earlier (in_order (gained w bits d) n g) (in_order (gained w bits d) q g) q (λ p k. in_order_kept (gained w bits d) g q n p (omega arith) k) in
      in_order_at (gained w bits d) g n q l ∙ cc (in_order_ahead (gained w bits d) g q q (le_refl q), e)

  -- storing undoes rebuilding
  pub residuals_rebuilt : (n : ℕ) (g : Picture) → ((q : ℕ) → q < n → Bytes (g q)) → (q : ℕ) → q < n → residuals w bits d (from_residuals w bits d n g) q ≡ g q
  unfolding residuals
  residuals_rebuilt n g b q l =
      let f = from_residuals w bits d n g in
      ap (λ (v : Pixel). each sub v (predicted w bits d f (q % w) (q / w))) (rebuilt_at n g q l)
      ∙ each_sub_add (g q) (predicted w bits d f (q % w) (q / w)) (b q l)

  -- rebuilding undoes storing: below k by induction, at k from the pixels below
  pub rebuilt_residuals : (n : ℕ) (f : Picture) → ((q : ℕ) → q < n → Bytes (f q)) → (k : ℕ) → k ≤ n → (q : ℕ) → q < k → from_residuals w bits d k (residuals w bits d f) q ≡ f q
  unfolding residuals gained in_order
  rebuilt_residuals n f b zero kn q l = absurd (not-suc-le-zero l)
  rebuilt_residuals n f b (suc k) kn q l = go (ℕ_discrete q k) (rebuilt_residuals n f b k (omega arith))
    where
      s : Picture
      s = residuals w bits d f

      u : Picture
      u = from_residuals w bits d k s

      go : Dec (q ≡ k) → ((p : ℕ) → p < k → u p ≡ f p) → from_residuals w bits d (suc k) s q ≡ f q
      go (no m) ih = paint_other u k (gained w bits d u k) q m ∙ ih q (omega arith)
      go (yes e) ih =
          rw e
          (paint_at u k (gained w bits d u k)
          ∙ cc (in_order_ahead (gained w bits d) s k k (le_refl k), predicted_earlier u f k ih)
          ∙ each_add_sub (f k) (predicted w bits d f (k % w) (k / w)) (b k kn))
