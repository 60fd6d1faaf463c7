-- Records of a row: one by one, and in groups of sixteen pixels.
use mathlib.Core.Bool.{true}
use mathlib.Core.List.{List, [], ◌∷◌, map}
use mathlib.Core.Path.{◌≡◌, refl, sym, ap, ◌∙◌}
use Prim.Native.Nat.{ℕ, suc, ◌+◌, ◌-◌, ◌*◌, ◌/◌, ◌<◌, ◌≤◌}
use native.Mathlib.Nat.{add-zero, mul_assoc, mul_comm, one-mul, mod-eq_of_lt, div-eq_of_lt, mul-le-mul_right, suc-mul, add-mul, le-div_iff_mul-le, mul-le-mul_left, div-le_self, div-mul-le_self}
use native.Mathlib.Decide.{ℕ_discrete}
use native.Mathlib.Omega.{arith}
use lib.ListN.{get_or, get_or-map}
use Rattle.format.specs.declared.Pixel.{Pixel}
use Rattle.format.specs.Pixel.{pixel}
use Rattle.format.specs.Picture.{Picture, pixels, ceiling}
use Rattle.format.specs.ColorTable.{per_pixel, range, packed_width, index_of, has_entry, index_at, digits, packed}
use borrow.Author.Tests.{ltb-true}
use Rattle.format.proofs.Choice.{every_at}
use Rattle.format.proofs.ColorTable.{digits_same, index_inside, index_last}
use Rattle.pixel.specs.Cells.{pixel_cells, Cells, Rule, run, given}
use Rattle.pixel.proofs.Cells.{run_none, run_next}
use Rattle.pixel.proofs.Rows.{run_then}
use Rattle.color_table.specs.declared.each.Packing.{Packing}
use Rattle.color_table.specs.Four.{four_of}
use Rattle.color_table.specs.Packed.{width_of, table_of, record_count, index_in_row, record_of}
use Rattle.color_table.specs.Pack.{uniform, plain}
use Rattle.color_table.proofs.Digits.{base_in}
use Rattle.color_table.proofs.Index.{at_column}

-- record j of a row, by its indices
pub record_row : (w size : ℕ) (e f : Picture) (n j : ℕ) (v : Pixel) → v ≡ pixel 0 (digits (range n) n (λ k. index_at w size e f 0 (j * n + k))) 0 255 → n ≡ per_pixel size → j < packed_width size w
    → v ≡ packed w size e f j
unfolding packed
record_row w size e f n j v q p l = q ∙ rw (p, mod-eq_of_lt l, div-eq_of_lt l)

-- a pixel of the row p has an entry, and its index is that of its column
module _ {n : ℕ} (p : Packing n) (x : ℕ) (v : Pixel) (at : v ≡ pixels p.row.now x) (inside : x < (width_of p)) where
  pub entry_there : has_entry p.lookup.now.entries.size (table_of p) v ≡ true
  entry_there =
      rw at (every_at (width_of p) (λ j. has_entry p.lookup.now.entries.size (table_of p) (pixels p.row.now j)) x inside p.packs.taken)

  pub index_there : index_of p.lookup.now.entries.size (table_of p) v < p.lookup.now.entries.size
  index_there = ltb-true (index_of p.lookup.now.entries.size (table_of p) v) p.lookup.now.entries.size entry_there

  pub index_is : (r : ℕ) → r ≡ index_of p.lookup.now.entries.size (table_of p) v → (r ≡ index_in_row p x) × (r < range n)
  index_is r q =
      let f = (base_in p).fits in
      let l = index_there in
      (at_column p.lookup.now.entries.size (table_of p) (pixels p.row.now) (width_of p) x r v q at inside, omega arith)

-- from its last column on, past its end too, the row p has the index of its last column
pub index_past : {n : ℕ} (p : Packing n) (last x : ℕ) → last < width_of p → width_of p ≤ last + 1 → last ≤ x → index_in_row p last ≡ index_in_row p x
index_past p last x l u o = go (ℕ_discrete x last)
  where
    go : Dec (x ≡ last) → index_in_row p last ≡ index_in_row p x
    go (yes e) = rw e refl
    go (no m) =
        let w = width_of p in
        let t = table_of p in
        let f = pixels p.row.now in
        let q : last ≡ w - 1 = omega arith in
        index_inside w p.lookup.now.entries.size t f 0 last l ∙ rw q (sym (index_last w p.lookup.now.entries.size t f 0 x (omega arith)))

-- records of whole columns, over any width
pub whole_records : (w n size j : ℕ) → n ≡ per_pixel size → 1 ≤ n → j * n ≤ w → j ≤ packed_width size w
whole_records w n size j e s l = rw (← e) ((le-div_iff_mul-le {x = j} s).1 (omega arith))

-- the records of the row p
module _ {n : ℕ} (p : Packing n) where
  pub record_is : (j : ℕ) (v : Pixel) → v ≡ pixel 0 (digits (range n) n (λ k. index_in_row p (j * n + k))) 0 255 → j < record_count p → v ≡ record_of p j
  record_is j v q l = record_row (width_of p) p.lookup.now.entries.size (table_of p) (pixels p.row.now) n j v q p.packs.places l

  -- records whose columns are there
  pub columns_count : (j : ℕ) → j * n ≤ width_of p → j ≤ record_count p
  columns_count j l = whole_records (width_of p) n p.lookup.now.entries.size j p.packs.places (base_in p).places.some l

  -- a record inside the row
  pub inside_count : (j : ℕ) → (j + 1) * n ≤ width_of p → j < record_count p
  inside_count j l = let c = columns_count (j + 1) l in omega arith

-- the records of four at a time
pub fours_inside : (w n j : ℕ) → j ≤ w / (4 * n) * 4 → j * n ≤ w
fours_inside w n j l =
    let a : j * n ≤ w / (4 * n) * 4 * n = mul-le-mul_right n l in
    let b = mul_assoc (w / (4 * n)) 4 n in
    let c = div-mul-le_self w (4 * n) in
    omega arith

-- four cells replaced

pub four_given : {P : Type 0} (c : Cells P) (f : ℕ → P) (j : ℕ) (xs₀ xs₁ xs₂ xs₃ xs₄ : List ℕ) (a b d e : P) → xs₁ ≡ c.put xs₀ j a → xs₂ ≡ c.put xs₁ (j + 1) b → xs₃ ≡ c.put xs₂ (j + 2) d → xs₄ ≡ c.put xs₃ (j + 3) e
    → a ≡ f j → b ≡ f (j + 1) → d ≡ f (j + 2) → e ≡ f (j + 3) → xs₄ ≡ run c (given f) j 4 xs₀
unfolding run given
four_given c f j xs₀ xs₁ xs₂ xs₃ xs₄ a b d e p q r s w x y z = let o = add-zero j in cc

-- four values as a list, and each by its place in it

pub four_is : {P : Type 0} (f : ℕ → P) (j : ℕ) (a b d e : P) → a ≡ f j → b ≡ f (j + 1) → d ≡ f (j + 2) → e ≡ f (j + 3) → ◌≡◌ {A = List P} (a ∷ b ∷ d ∷ e ∷ []) (four_of f j)
four_is f j a b d e p q r s = rw (p, q, r, s) refl

module _ {C P : Type 0} (value : C → P) (cells : List C) (f : ℕ → P) (j : ℕ) (h : map value cells ≡ four_of f j) where
  pub four_at : (k : ℕ) (d : C) → value (get_or cells k d) ≡ get_or (four_of f j) k (value d)
  four_at k d = sym (get_or-map value cells k d) ∙ ap (λ (l : List P). get_or l k (value d)) h

  -- the same of an element that stands there
  pub four_value : (k : ℕ) (a : C) → a ≡ get_or cells k a → value a ≡ get_or (four_of f j) k (value a)
  four_value k a p = ap value p ∙ four_at k a

-- the same record again

pub uniform_of : (n size : ℕ) (e : Picture) (v p : Pixel) (i : ℕ) → p ≡ pixel 0 (digits (range n) n (λ k. i)) 0 255 → i ≡ index_of size e v → p ≡ uniform (range n) n size e v
unfolding uniform
uniform_of n size e v p i q s = q ∙ ap (λ (j : ℕ). pixel 0 (digits (range n) n (λ k. j)) 0 255) s

-- groups of sixteen pixels, m records each

module _ (n m : ℕ) (group : m * n ≡ 16) where
  pub groups_columns : (g : ℕ) → g * m * n ≡ 16 * g
  groups_columns g = mul_assoc g m n ∙ ap (λ (z : ℕ). g * z) group ∙ mul_comm g 16

  -- they are inside the row
  pub groups_inside : (w size g : ℕ) → n ≡ per_pixel size → 1 ≤ n → 16 * g ≤ w → g * m ≤ packed_width size w
  groups_inside w size g places pos l = let c = groups_columns g in rw (← places) ((le-div_iff_mul-le {x = g * m} pos).1 (omega arith))

  -- record q of the groups from g up to r: its first column, and the column after its last
  record_columns : (g r q : ℕ) → g * m ≤ q → q < r * m → (16 * g ≤ q * n) × (q * n + n ≤ 16 * r)
  record_columns g r q l u =
      let c = groups_columns g in
      let d = groups_columns r in
      let a : g * m * n ≤ q * n = mul-le-mul_right n l in
      let b : suc q * n ≤ r * m * n = mul-le-mul_right n u in
      let s = suc-mul q n in
      (omega arith, omega arith)

  -- it is that of n pixels v, where the groups are all v
  pub record_again : (w size g r q : ℕ) (e f : Picture) (v p : Pixel) → ((x : ℕ) → 16 * g ≤ x → x < 16 * r → f x ≡ v) → p ≡ uniform (range n) n size e v → n ≡ per_pixel size → 1 ≤ n → 16 * r ≤ w
      → g * m ≤ q → q < r * m → plain p q ≡ packed w size e f q
  unfolding plain uniform
  record_again w size g r q e f v p h t places pos l a b =
      let c = record_columns g r q a b in
      let s = suc-mul q n in
      let inside : q < ceiling w n = (le-div_iff_mul-le {x = suc q} pos).1 (omega arith) in
      record_row w size e f n q p (t ∙ ap (λ (d : ℕ). pixel 0 d 0 255) (digits_same (range n) n (λ k. index_of size e v) (λ k. index_at w size e f 0 (q * n + k)) digit)) places (rw (← places) inside)
    where
      digit : (k : ℕ) → k < n → index_of size e v ≡ index_at w size e f 0 (q * n + k)
      digit k i =
          let c = record_columns g r q a b in
          at_column size e f w (q * n + k) _ _ refl (sym (h (q * n + k) (omega arith) (omega arith))) (omega arith)

pub group_columns : (g n : ℕ) → ((g + 1) * (16 / n) ≡ g * (16 / n) + 16 / n) × (g * (16 / n) ≤ 16 * g)
group_columns g n = (add-mul g 1 (16 / n) ∙ ap (λ (z : ℕ). g * (16 / n) + z) (one-mul (16 / n)), omega (arith, mul-le-mul_left g (div-le_self 16 n)))

-- groups more

pub groups_whole : (m a b : ℕ) → a ≤ b → a * m + (b * m - a * m) ≡ b * m
groups_whole m a b l = let p : a * m ≤ b * m = mul-le-mul_right m l in omega arith

module _ (h : Rule Pixel) (m : ℕ) where
  pub groups_none : (g : ℕ) (xs : List ℕ) → xs ≡ run pixel_cells h (g * m) (g * m - g * m) xs
  groups_none g xs = run_none pixel_cells h (g * m) xs

  groups_next : (a b c : ℕ) (xs ys zs : List ℕ) → ys ≡ run pixel_cells h (a * m) (b * m - a * m) xs → zs ≡ run pixel_cells h (b * m) (c * m - b * m) ys → a ≤ b → b ≤ c
      → zs ≡ run pixel_cells h (a * m) (c * m - a * m) xs
  groups_next a b c xs ys zs p q l u = run_next pixel_cells h (a * m) (b * m) (c * m) xs ys zs (mul-le-mul_right m l) (mul-le-mul_right m u) p q

  -- from the front
  pub groups_then : (a b : ℕ) (xs ys zs : List ℕ) → ys ≡ run pixel_cells h 0 (a * m) xs → zs ≡ run pixel_cells h (a * m) (b * m - a * m) ys → a ≤ b → zs ≡ run pixel_cells h 0 (b * m) xs
  groups_then a b xs ys zs p q l = run_then h (a * m) (b * m - a * m) (b * m) xs ys zs p q (groups_whole m a b l)

  pub group_next : (a b : ℕ) (xs ys zs : List ℕ) → ys ≡ run pixel_cells h (a * m) (b * m - a * m) xs → zs ≡ run pixel_cells h (b * m) m ys → a ≤ b
      → zs ≡ run pixel_cells h (a * m) ((b + 1) * m - a * m) xs
  group_next a b xs ys zs p q l =
      let s : (b + 1) * m - b * m ≡ m = omega (arith, add-mul b 1 m, one-mul m) in
      groups_next a b (b + 1) xs ys zs p (rw s q) l (omega arith)
