-- A picture's rows: the rule of a row in its part, and of row 0, is the rule of the picture.
use Rattle.std.proofs.Common.{◌≡◌, ℕ, ◌+◌, ◌-◌, ◌*◌, ◌/◌, ◌%◌, ◌^◌, ◌<◌, ◌≤◌, List, length, take, drop, sym, ap, ◌∙◌, mod-eq_of_lt, zero-add, zero-mul, arith, eq-eqb, ne_eqb}
use native.Mathlib.Nat.{div-eq_of_lt}
use native.Mathlib.Decide.{ℕ_discrete}
use lib.Arith.{digits_div, digits_mod}
use Rattle.format.specs.declared.Pixel.{Pixel}
use Rattle.format.specs.Byte.{add}
use Rattle.format.specs.Pixel.{black, each}
use Rattle.format.specs.Picture.{Picture, pixels, block, ceiling}
use Rattle.format.specs.Predictor.{gained, predict, predicted, mode, left, top, top_right, top_left}
use Rattle.format.proofs.Predictor.{row_above}
use Rattle.pixel.specs.Cells.{pixel_cells, put_pixel, run}
use Rattle.pixel.specs.Held.{HoldsRow}
use Rattle.format.specs.Sizes.{Holds}
use Rattle.pixel.proofs.Blocks.{row_there, block_there}
use Rattle.pixel.proofs.Rows.{run_then}
use Rattle.pixel.proofs.Part.{back, part_run}
use Rattle.predictor.specs.Row.{gains, row_predicted}
use Rattle.predictor.proofs.Blocks.{row_first}

-- row 0: the first pixel is predicted as black, the others as L

module _ (w bits : ℕ) (D : Picture) (p : ℕ → Pixel) where
  pub predicted_first : 0 < w → predicted w bits D p (0 % w) (0 / w) ≡ black
  unfolding predicted
  predicted_first h = rw (div-eq_of_lt h, mod-eq_of_lt h)

  pub predicted_left : (i : ℕ) → 1 ≤ i → i < w → predicted w bits D p (i % w) (i / w) ≡ p (i - 1)
  unfolding predicted
  predicted_left i l u =
      let n : i ≡ 0 → ⊥ = λ z. omega arith in
      let z : 0 * w + (i - 1) ≡ i - 1 = omega arith in
      rw (div-eq_of_lt u, mod-eq_of_lt u, ne_eqb i 0 n, z)

-- row y off the first, whose part starts at row y - 1

module _ (w bits : ℕ) (D : Picture) (p : ℕ → Pixel) (y : ℕ) (off : y ≡ 0 → ⊥) where
  predicted_column_0 : predicted w bits D p 0 y ≡ p ((y - 1) * w + 0)
  unfolding predicted
  predicted_column_0 = rw (ne_eqb y 0 off)

  predicted_inner : (x : ℕ) → (x ≡ 0 → ⊥) → predicted w bits D p x y ≡ predict (mode w bits D x y) (left w p x y) (top w p x y) (top_right w p x y) (top_left w p x y)
  unfolding predicted
  predicted_inner x n = rw (ne_eqb y 0 off, ne_eqb x 0 n)

module _ (w bits y : ℕ) (D d : Picture) (off : 1 ≤ y) (blocks : (j : ℕ) → j < ceiling w (2 ^ bits) → d j ≡ D (y / 2 ^ bits * ceiling w (2 ^ bits) + j))
    (p q : ℕ → Pixel) (agree : (j : ℕ) → j < w + w → p ((y - 1) * w + j) ≡ q j) where
  not_first : y ≡ 0 → ⊥
  not_first z = omega arith

  up : (y - 1) * w + w ≡ y * w
  up = row_above w y not_first

  -- pixel k of the picture is pixel j of the part
  at : (k j : ℕ) → k ≡ (y - 1) * w + j → j < w + w → p k ≡ q j
  at k j e l = ap p e ∙ agree j l

  column_0 : 1 ≤ w → predicted w bits D p 0 y ≡ row_predicted w bits d q w
  column_0 pos = predicted_column_0 w bits D p y not_first ∙ agree 0 (omega arith) ∙ sym (row_first w bits d q)

  corner : (x : ℕ) → x < w → top_right w p x y ≡ q (w + x - w + 1)
  corner x l = go (ℕ_discrete (x + 1) w)
    where
      go : Dec (x + 1 ≡ w) → top_right w p x y ≡ q (w + x - w + 1)
      go (yes e) = let u = up in rw (eq-eqb (x + 1) w e) (at (y * w) (w + x - w + 1) (omega arith) (omega arith))
      go (no n) = rw (ne_eqb (x + 1) w n) (at ((y - 1) * w + (x + 1)) (w + x - w + 1) (omega arith) (omega arith))

  off_column_0 : (x : ℕ) → (x ≡ 0 → ⊥) → x < w → predicted w bits D p x y ≡ row_predicted w bits d q (w + x)
  unfolding row_predicted block
  off_column_0 x n l =
      let u = up in
      let k : w + x - w ≡ x = omega arith in
      let m = blocks (x / 2 ^ bits) (block_there w bits x l) in
      predicted_inner w bits D p y not_first x n
      ∙ rw (ne_eqb (w + x) w (λ z. n (omega arith)))
      (cc (
        at (y * w + (x - 1)) (w + x - 1) (omega arith) (omega arith),
        at ((y - 1) * w + x) (w + x - w) (omega arith) (omega arith),
        at ((y - 1) * w + (x - 1)) (w + x - w - 1) (omega arith) (omega arith),
        corner x l,
      ))

  pub row-predicted : (i : ℕ) → w ≤ i → i < w + w → predicted w bits D p (((y - 1) * w + i) % w) (((y - 1) * w + i) / w) ≡ row_predicted w bits d q i
  row-predicted i l r =
      let u = up in
      let x = i - w in
      let less : x < w = omega arith in
      let e : (y - 1) * w + i ≡ y * w + x = omega arith in
      let f : w + x ≡ i = omega arith in
      rw (e, digits_div y less, digits_mod y less) (go (ℕ_discrete x 0) less f)
    where
      go : Dec (i - w ≡ 0) → i - w < w → w + (i - w) ≡ i → predicted w bits D p (i - w) y ≡ row_predicted w bits d q i
      go (yes z) less f = let k : i ≡ w = omega arith in rw z (column_0 (omega arith) ∙ ap (row_predicted w bits d q) (sym k))
      go (no n) less f = off_column_0 (i - w) n less ∙ ap (row_predicted w bits d q) f

-- the whole picture, once a row's part is back

-- rows y - 1 and y
pub pair_there : (w h y : ℕ) → 1 ≤ y → y < h → (y - 1) * w + 2 * w ≤ h * w
pair_there w h y off below = omega (arith, row_there w h y below, row_above w y (λ z. omega arith))

-- row y, by blocks whose data is the part rs, once the bytes from the start a of row y - 1 up to the end b of row y are back
pub row_back : (w h bits y a b : ℕ) (bs rs xs : List ℕ) → a ≡ 4 * ((y - 1) * w) → b ≡ 4 * (y * w) + 4 * w → Holds w h xs → 1 ≤ y → y < h
    → HoldsRow (pixels bs) (y / 2 ^ bits) (ceiling w (2 ^ bits)) rs
    → back a (b - a) xs (run pixel_cells (gains (row_predicted w bits (pixels rs))) w w (take (b - a) (drop a xs))) ≡ run pixel_cells (gained w bits (pixels bs)) (y * w) w xs
unfolding gained
row_back w h bits y a b bs rs xs start end room off below blocks =
    let up = row_above w y (λ z. omega arith) in
    let k : b - 4 * ((y - 1) * w) ≡ 4 * (w + w) = omega arith in
    rw (start, k, ← up)
    (part_run (gained w bits (pixels bs)) (gains (row_predicted w bits (pixels rs))) ((y - 1) * w) (w + w) w xs (omega (arith, pair_there w h y off below)) w (omega arith)
    (λ p q i l u agree. cc (agree i u, row-predicted w bits y (pixels bs) (pixels rs) off blocks p q agree i l u)))

-- row 0

module _ (w bits : ℕ) (D : Picture) where
  -- a pixel off the first
  pub gained_left : (p : ℕ → Pixel) (i : ℕ) → 1 ≤ i → i < w → each add (p i) (p (i - 1)) ≡ gained w bits D p i
  unfolding gained
  gained_left p i l u = ap (each add (p i)) (sym (predicted_left w bits D p i l u))

  -- the first pixel, then the others
  pub first_row : (xs ys zs : List ℕ) (v : Pixel) → ys ≡ put_pixel xs 0 v → v ≡ each add (pixels xs 0) black → zs ≡ run pixel_cells (gained w bits D) 1 (w - 1) ys → 1 ≤ w
      → zs ≡ run pixel_cells (gained w bits D) 0 w xs
  unfolding run gained
  first_row xs ys zs v e q r h =
      let b : v ≡ gained w bits D (pixels xs) 0 = q ∙ ap (each add (pixels xs 0)) (sym (predicted_first w bits D (pixels xs) h)) in
      run_then (gained w bits D) 1 (w - 1) w xs ys zs (e ∙ ap (put_pixel xs 0) b) r (omega arith)

  -- its part of the picture, from byte a up to byte b, comes back as ys
  gained_first : (p q : ℕ → Pixel) (i : ℕ) → i < w → ((j : ℕ) → j < w → p j ≡ q j) → gained w bits D p i ≡ gained w bits D q i
  unfolding gained
  gained_first p q i l agree = go (ℕ_discrete i 0)
    where
      go : Dec (i ≡ 0) → each add (p i) (predicted w bits D p (i % w) (i / w)) ≡ each add (q i) (predicted w bits D q (i % w) (i / w))
      go (yes z) = rw z (cc (agree 0 (omega arith), predicted_first w bits D p (omega arith), predicted_first w bits D q (omega arith)))
      go (no n) =
          cc (agree i l, agree (i - 1) (omega arith), predicted_left w bits D p i (omega arith) l, predicted_left w bits D q i (omega arith) l)

  pub first_back : (y a b : ℕ) (xs ys : List ℕ) → a ≡ 4 * (0 * w) → b ≡ 4 * (0 * w) + 4 * w → ys ≡ run pixel_cells (gained w bits D) 0 w (take (b - a) (drop a xs)) → y ≡ 0 → 4 * w ≤ length xs
      → back a (b - a) xs ys ≡ run pixel_cells (gained w bits D) (y * w) w xs
  first_back y a b xs ys start end e z fits =
      let s : a ≡ 0 = omega arith in
      let k : b - 0 ≡ 4 * w = omega arith in
      rw (e, s, k, z, zero-mul)
      (part_run (gained w bits D) (gained w bits D) 0 w 0 xs (omega arith) w (omega arith)
      (λ p q i l u agree. rw zero-add (gained_first p q i (omega arith) (λ j o. rw zero-add at (agree j o)))))
