-- A change stays in its spots: pictures that agree away from some pixels make stages that agree away from the spots of
-- those pixels.
use mathlib.Core.List.Memᴰ
use mathlib.Core.List.{List, [], ◌∷◌}
use mathlib.Core.Path.{◌≡◌, refl, sym, ap}
use Prim.Native.Nat.{ℕ, zero, suc, ◌+◌, ◌-◌, ◌*◌, ◌/◌, ◌%◌, ◌<◌, ◌≤◌}
use native.Mathlib.Nat.{div-add-mod', mod-lt}
use native.Mathlib.Omega.{arith}
use native.Mathlib.Decide.{dec_lt}
use borrow.Author.Tests.{eqb-true, eqb-false, ne_eqb}
use lib.Arith.{digits_div, digits_mod}
use lib.Dec.{eqb}
use Rattle.format.specs.Indices.{union}
use Rattle.format.specs.declared.Pixel.{Pixel}
use Rattle.format.specs.declared.Step.{Step}
use Rattle.format.specs.Pixel.{pixel}
use Rattle.format.specs.Picture.{Picture, block, paint}
use Rattle.format.specs.Predictor.{predicted, residuals}
use Rattle.format.specs.Color.{transform_color, color_stored}
use Rattle.format.specs.SubtractGreen.{subtract_green, green_stored}
use Rattle.format.specs.ColorTable.{per_pixel, range, packed_width, index_of, column_at, index_at, packed}
use Rattle.format.specs.Stages.{part_of, forward, stored}
use Rattle.format.specs.Retouch.{five_spots, packed_over, place_of, spots_of, spot_records}
use Rattle.format.proofs.Choice.{if_same}
use Rattle.format.proofs.Indices.{In, in_union}
use Rattle.format.proofs.Picture.{paint_other}
use Rattle.format.proofs.Predictor.{row_above}
use Rattle.format.proofs.ColorTable.{per_pixel_pos, digits_same, ceiling_pos, first_inside, column_own, column_last}
use Rattle.format.proofs.ByKind.{kinds, forward_0, forward_1, forward_2, forward_3}

-- f and g agree away from ps
abbrev pub Off : List ℕ → Picture → Picture → Type 0
Off ps f g = (q : ℕ) → (In q ps → ⊥) → f q ≡ g q

-- painting a pixel changes that pixel alone
pub paint_off : (f : Picture) (p : ℕ) (v : Pixel) → Off (p ∷ []) f (paint f p v)
paint_off f p v q n = sym (paint_other f p v q (λ e. n (Memᴰ.head e)))

-- the spots of a record of each kind

module _ (s : Step) (q : ℕ) where
  pub spots_predictor : s.kind ≡ 0 → spots_of s q ≡ five_spots s.width q
  unfolding spots_of
  spots_predictor e = rw e

  pub spots_place : (s.kind ≡ 0 → ⊥) → spots_of s q ≡ place_of s q ∷ []
  unfolding spots_of
  spots_place n = rw (ne_eqb s.kind 0 n)

  pub spots_table : s.kind ≡ 3 → spots_of s q ≡ packed_over s.width s.size q ∷ []
  unfolding spots_of
  spots_table e = rw e

  pub spots_other : (s.kind ≡ 0 → ⊥) → (s.kind ≡ 3 → ⊥) → spots_of s q ≡ q ∷ []
  unfolding spots_of
  spots_other m n = rw (ne_eqb s.kind 0 m, ne_eqb s.kind 3 n)

-- predictor: f and g agree at the items that have r for a spot

module _ (w r : ℕ) (f g : Picture) (h : (q : ℕ) → In r (five_spots w q) → f q ≡ g q) where
  at_left : (q : ℕ) → r ≡ q + 1 → f q ≡ g q
  at_left q e = h q (Memᴰ.tail (Memᴰ.head e))

  at_top_right : (q : ℕ) → r ≡ q + w - 1 → f q ≡ g q
  at_top_right q e = h q (Memᴰ.tail (Memᴰ.tail (Memᴰ.head e)))

  at_top : (q : ℕ) → r ≡ q + w → f q ≡ g q
  at_top q e = h q (Memᴰ.tail (Memᴰ.tail (Memᴰ.tail (Memᴰ.head e))))

  at_top_left : (q : ℕ) → r ≡ q + w + 1 → f q ≡ g q
  at_top_left q e = h q (Memᴰ.tail (Memᴰ.tail (Memᴰ.tail (Memᴰ.tail (Memᴰ.head e)))))

  predicted_local : (bits : ℕ) (d : Picture) → 0 < w → predicted w bits d f (r % w) (r / w) ≡ predicted w bits d g (r % w) (r / w)
  unfolding predicted
  predicted_local bits d pos =
      let x = r % w in
      let y = r / w in
      let e : y * w + x ≡ r = div-add-mod' r w in
      let l : x < w = mod-lt r pos in
      if_same (eqb y 0)
      (λ y0. if_same (eqb x 0) (λ x0. refl) (λ x1. let n = eqb-false x 0 x1 in at_left (y * w + (x - 1)) (omega arith)))
      (λ y1.
      let u = row_above w y (eqb-false y 0 y1) in
      if_same (eqb x 0) (λ x0. at_top ((y - 1) * w + x) (omega arith))
      (λ x1.
      let n = eqb-false x 0 x1 in
      cc (
        at_left (y * w + (x - 1)) (omega arith),
        at_top ((y - 1) * w + x) (omega arith),
        at_top_left ((y - 1) * w + (x - 1)) (omega arith),
        if_same (eqb (x + 1) w) {x = f (y * w)} {y = f ((y - 1) * w + (x + 1))} {x' = g (y * w)} {y' = g ((y - 1) * w + (x + 1))}
            (λ last. let m = eqb-true (x + 1) w last in at_top_right (y * w) (omega arith)) (λ inner. at_top_right ((y - 1) * w + (x + 1)) (omega arith)),
      )))

  residuals_local : (bits : ℕ) (d : Picture) → 0 < w → residuals w bits d f r ≡ residuals w bits d g r
  unfolding residuals
  residuals_local bits d pos = cc (h r (Memᴰ.head refl), predicted_local bits d pos)

-- color and green

module _ (f g : Picture) (r : ℕ) (e : f r ≡ g r) where
  color_local : (w bits : ℕ) (d : Picture) → color_stored w bits d f r ≡ color_stored w bits d g r
  unfolding color_stored
  color_local w bits d = ap (transform_color (block w bits d (r % w) (r / w))) e

  green_local : green_stored f r ≡ green_stored g r
  unfolding green_stored
  green_local = ap subtract_green e

-- color table

-- an item that a packed pixel holds is packed into it
pub packed_back : (w size r k : ℕ) → k < per_pixel size → r % packed_width size w * per_pixel size + k < w
    → r ≡ packed_over w size (r / packed_width size w * w + (r % packed_width size w * per_pixel size + k))
packed_back w size r k small inside =
    let v = packed_width size w in
    rw (digits_div (r / v) inside, digits_mod (r / v) inside, digits_div (r % v) small) (sym (div-add-mod' r v))

-- so is the column of any position, used or not
column_back : (w size r k : ℕ) → 0 < w → k < per_pixel size
    → r ≡ packed_over w size (r / packed_width size w * w + column_at w (r % packed_width size w * per_pixel size + k))
column_back w size r k pos small = go (dec_lt (first + k) w)
  where
    n : ℕ
    n = per_pixel size

    first : ℕ
    first = r % packed_width size w * n

    here : first < w
    here = first_inside w n (r % packed_width size w) (per_pixel_pos size) (mod-lt r (ceiling_pos w n pos (per_pixel_pos size)))

    go : Dec (first + k < w) → r ≡ packed_over w size (r / packed_width size w * w + column_at w (first + k))
    go (yes l) = rw (column_own w (first + k) l) (packed_back w size r k small l)
    go (no past) =
        let l = here in
        let m : first + (w - 1 - first) ≡ w - 1 = omega arith in
        rw (column_last w (first + k) (omega arith)) (rw m at (packed_back w size r (w - 1 - first) (omega arith) (omega arith)))

packed_local : (w size : ℕ) (e f g : Picture) (r : ℕ) → 0 < w → ((q : ℕ) → In r (packed_over w size q ∷ []) → f q ≡ g q) → packed w size e f r ≡ packed w size e g r
unfolding packed
packed_local w size e f g r pos h =
    ap (λ (b : ℕ). pixel 0 b 0 255) (digits_same (range n) n (λ k. index_at w size e f y (x k)) (λ k. index_at w size e g y (x k)) same)
  where
    n : ℕ
    n = per_pixel size

    y : ℕ
    y = r / packed_width size w

    x : ℕ → ℕ
    x k = r % packed_width size w * n + k

    same : (k : ℕ) → k < n → index_at w size e f y (x k) ≡ index_at w size e g y (x k)
    same k l = ap (index_of size e) (h (y * w + column_at w (x k)) (Memᴰ.head (column_back w size r k pos l)))

-- one record, and chains

-- item r after a record depends on the items that have it for a spot
forward_local : (s : Step) (ds : List ℕ) → 1 ≤ s.width → s.kind ≤ 3 → (f g : Picture) (r : ℕ) → ((q : ℕ) → In r (spots_of s q) → f q ≡ g q) → forward s ds f r ≡ forward s ds g r
forward_local s ds pos known f g r h =
    kinds s.kind known
    (λ e. cc (forward_0 s ds f e, forward_0 s ds g e, residuals_local w r f g (λ q i. h q (rw (spots_predictor s q e) i)) s.bits d pos))
    (λ e. cc (forward_1 s ds f e, forward_1 s ds g e, color_local f g r (own (λ z. omega arith) (λ z. omega arith)) w s.bits d))
    (λ e. cc (forward_2 s ds f e, forward_2 s ds g e, green_local f g r (own (λ z. omega arith) (λ z. omega arith))))
    (λ e. cc (forward_3 s ds f e, forward_3 s ds g e, packed_local w s.size d f g r pos (λ q i. h q (rw (spots_table s q e) i))))
  where
    w : ℕ
    w = s.width

    d : Picture
    d = part_of s ds

    own : (s.kind ≡ 0 → ⊥) → (s.kind ≡ 3 → ⊥) → f r ≡ g r
    own m n = h r (rw (spots_other s r m n) (Memᴰ.head refl))

-- one record: a change stays in the spots
pub forward_off : (s : Step) (ds : List ℕ) → 1 ≤ s.width → s.kind ≤ 3 → (ps : List ℕ) (f g : Picture) → Off ps f g → Off (union (spots_of s) ps) (forward s ds f) (forward s ds g)
forward_off s ds pos known ps f g h r n = forward_local s ds pos known f g r (λ q i. h q (λ m. n (in_union (spots_of s) ps m i)))

-- the first k records
pub stored_off : (steps : ℕ → Step) (ds : List ℕ) (k : ℕ) → ((j : ℕ) → j < k → 1 ≤ (steps j).width) → ((j : ℕ) → j < k → (steps j).kind ≤ 3)
    → (ps : List ℕ) (f g : Picture) → Off ps f g → Off (spot_records steps k ps) (stored steps ds k f) (stored steps ds k g)
unfolding stored spot_records
stored_off steps ds zero pos known ps f g h = h
stored_off steps ds (suc k) pos known ps f g h =
    forward_off (steps k) ds (pos k (omega arith)) (known k (omega arith)) (spot_records steps k ps) (stored steps ds k f) (stored steps ds k g)
    (stored_off steps ds k (λ j l. pos j (omega arith)) (λ j l. known j (omega arith)) ps f g h)
