-- Rows: columns from the right, a row in its part of the picture, rows from the bottom.
use mathlib.Core.List.{List}
use mathlib.Core.Path.{◌≡◌, refl, sym, ap, ◌∙◌}
use Prim.Native.Nat.{ℕ, suc, ◌+◌, ◌-◌, ◌*◌, ◌/◌, ◌%◌, ◌<◌, ◌≤◌}
use native.Mathlib.Nat.{mod-lt, mul-le-mul_left, mul-le-mul_right, mul-one, suc-mul, div-le_self, div-le_of_le-mul}
use native.Mathlib.Omega.{arith}
use lib.Arith.{digits_div, digits_mod}
use lib.ListN.{length, take, drop}
use Rattle.format.specs.declared.Pixel.{Pixel}
use Rattle.format.specs.Picture.{Picture, pixels, ceiling}
use Rattle.format.specs.ColorTable.{per_pixel, packed_width, index_in, entry, unpacked}
use Rattle.format.proofs.ColorTable.{per_pixel_pos, column_packed}
use Rattle.pixel.specs.Cells.{pixel_cells, run, given}
use Rattle.pixel.proofs.Cells.{pixel_lawful, run_before}
use Rattle.pixel.proofs.Part.{back, part_run, pixel_part}
use Rattle.pixel.proofs.Given.{given_same, given_before, given_join}
use Rattle.color_table.specs.Table.{ColumnsOf}
use Rattle.color_table.specs.Unpack.{row_of, Columns}

-- columns of a row

-- column x is that of its packed pixel's byte
pub column_is : (n : ℕ) (e g : Picture) (first x b j : ℕ) (c : List ℕ) (v : Pixel) → ColumnsOf n e c → v ≡ pixels c j → b ≡ (g (x / n)).green → j ≡ b * n + x % n → b < 256 → 0 < n
    → v ≡ row_of n e g first (first + x)
unfolding row_of
column_is n e g first x b j c v h t p q l pos =
    let d : first + x - first ≡ x = omega arith in
    t ∙ rw (q, d, ← p) (h.at b (x % n) l (mod-lt x pos))

-- column y at its index, and the same where a packed pixel holds one index

pub column_in : (n : ℕ) (e g : Picture) (first y i : ℕ) (v : Pixel) → v ≡ row_of n e g first (first + y) → i ≡ first + y → v ≡ row_of n e g first i
column_in n e g first y i v p q = rw q p

pub column_looked : (n : ℕ) (e g : Picture) (first y i p : ℕ) (c : List ℕ) (v : Pixel) → n ≡ 1 → ColumnsOf n e c → (p ≡ (g y).green) × (p < 256) → v ≡ pixels c p → i ≡ first + y → v ≡ row_of n e g first i
column_looked n e g first y i p c v one h b q m =
    let d : y / 1 ≡ y = omega arith in
    let a : p ≡ p * 1 + y % 1 = omega arith in
    rw (m, one) (column_is 1 e g first y p p c v (rw one at h) q (rw d b.0) a b.1 (omega arith))

-- column a of the eight of packed pixel k
pub column_of_eight : (e g : Picture) (first k a b i j : ℕ) (c : List ℕ) → ColumnsOf 8 e c → b ≡ (g k).green → b < 256 → a < 8 → j ≡ b * 8 + a → i ≡ first + (k * 8 + a) → pixels c j ≡ row_of 8 e g first i
column_of_eight e g first k a b i j c h t l m u y =
    rw (u, y) (column_is 8 e g first (k * 8 + a) b (b * 8 + a) c (pixels c (b * 8 + a)) h refl (rw (digits_div k m) t) (rw (digits_mod k m) refl) l (omega arith))

-- a row's columns over two buffers that agree on its packed pixels
pub row_same : (n : ℕ) (e g h : Picture) (first i : ℕ) → g ((i - first) / n) ≡ h ((i - first) / n) → row_of n e g first i ≡ row_of n e h first i
unfolding row_of
row_same n e g h first i q = ap (λ (v : Pixel). e (index_in n v.green ((i - first) % n))) q

module _ (n : ℕ) (c : List ℕ) (first : ℕ) where
  -- columns before those that are there
  pub columns_before : (x m y l k : ℕ) (xs₀ xs ys : List ℕ) → Columns n c first y l xs₀ xs → Columns n c first x m xs ys → y ≡ x + m → k ≡ m + l → Columns n c first x k xs₀ ys
  columns_before x m y l k xs₀ xs ys r q s t e h =
      let Row = row_of n e (pixels xs₀) first in
      let kept : (j : ℕ) → j < y → pixels xs j ≡ pixels xs₀ j =
      λ j u. ap (λ (zs : List ℕ). pixels zs j) (r e h) ∙ run_before pixel_cells pixel_lawful (given Row) (first + y) xs₀ l j (omega arith) in
      let same : ys ≡ run pixel_cells (given Row) (first + x) m xs =
      q e h ∙ given_same (row_of n e (pixels xs) first) Row (first + x) xs m (λ i a b. row_same n e (pixels xs) (pixels xs₀) first i (kept ((i - first) / n) (omega (arith, div-le_self (i - first) n)))) in
      let z : first + y ≡ first + x + m = omega arith in
      same ∙ rw (r e h, z, t) (given_before Row m (first + x) l xs₀)

  -- none is there yet
  pub columns_none : (x m : ℕ) (xs : List ℕ) → Columns n c first x (m - m) xs xs
  unfolding run
  columns_none x m xs e h = let z : m - m ≡ 0 = omega arith in rw z

-- packed columns

-- there are no more of them than expanded ones
pub packed_fewer : (w n : ℕ) → 1 ≤ w → 1 ≤ n → ceiling w n ≤ w
packed_fewer w n some pos =
    let s : suc (n - 1) ≡ n = omega arith in
    let a : n * w ≡ (n - 1) * w + w = ap (λ (z : ℕ). z * w) (sym s) ∙ suc-mul (n - 1) w in
    let b : (n - 1) * 1 ≤ (n - 1) * w = mul-le-mul_left (n - 1) some in
    let c = mul-one (n - 1) in
    div-le_of_le-mul n (omega arith)

-- a row in the picture

pub rows_fewer : (w size y : ℕ) → 1 ≤ w → y * packed_width size w ≤ y * w
rows_fewer w size y some = mul-le-mul_left y (packed_fewer w (per_pixel size) some (per_pixel_pos size))

-- the same of c packed columns
pub rows_before : (y c w size : ℕ) → c ≡ packed_width size w → 1 ≤ w → y * c ≤ y * w
rows_before y c w size p some = rw p (rows_fewer w size y some)

module _ (w size y : ℕ) (e : Picture) (xs : List ℕ) (some : 1 ≤ w) (fits : 4 * (y * w + w) ≤ length xs) where
  abbrev n : ℕ
  n = per_pixel size

  -- column i of the part, in the whole
  column : (c i : ℕ) → c ≡ packed_width size w → y * c ≤ y * w → y * w - y * c ≤ i → i < y * w - y * c + w → 4 * (y * c) + 4 * (y * w + w - y * c) ≤ length xs
      → unpacked w size e (pixels xs) (y * c + i) ≡ row_of n (entry size e) (pixels (take (4 * (y * w + w - y * c)) (drop (4 * (y * c)) xs))) (y * w - y * c) i
  unfolding unpacked row_of
  column c i p less l u room =
      let x = i - (y * w - y * c) in
      let inside : x < w = omega arith in
      let place : y * c + i ≡ y * w + x = omega arith in
      let packed : x / n < c = omega (arith, column_packed w n x (per_pixel_pos size) inside) in
      let fewer : c ≤ w = omega (arith, packed_fewer w n some (per_pixel_pos size)) in
      let same = pixel_part (y * c) (4 * (y * w + w - y * c)) xs room (x / n) (omega arith) in
      rw (place, digits_div y inside, digits_mod y inside, ← p)
      (sym (ap (λ (v : Pixel). entry size e (index_in n v.green (x % n))) same))

  pub row_lent : (c k : ℕ) (ys : List ℕ) → c ≡ packed_width size w → k ≡ 4 * (y * w + w) - 4 * (y * c)
      → ys ≡ run pixel_cells (given (row_of n (entry size e) (pixels (take k (drop (4 * (y * c)) xs))) (y * w - y * c))) (y * w - y * c) w (take k (drop (4 * (y * c)) xs))
      → back (4 * (y * c)) k xs ys ≡ run pixel_cells (given (unpacked w size e (pixels xs))) (y * w) w xs
  unfolding given
  row_lent c k ys p q r =
      let m = y * w + w - y * c in
      let first = y * w - y * c in
      let less : y * c ≤ y * w = rw p (rows_fewer w size y some) in
      let bytes : k ≡ 4 * m = omega arith in
      let from : y * c + first ≡ y * w = omega arith in
      let room : 4 * (y * c) + 4 * m ≤ length xs = omega arith in
      let G = row_of n (entry size e) (pixels (take (4 * m) (drop (4 * (y * c)) xs))) first in
      let t : ys ≡ run pixel_cells (given G) first w (take (4 * m) (drop (4 * (y * c)) xs)) = rw bytes at r in
      rw (bytes, t) (rw from at (part_run (given (unpacked w size e (pixels xs))) (given G) (y * c) m first xs room w (omega arith) (λ f g i l u h. column c i p less l (omega arith) room)))

-- the rows of the picture

module _ (w size h : ℕ) (e : Picture) (some : 1 ≤ w) where
  abbrev Whole : List ℕ → Picture
  Whole xs = unpacked w size e (pixels xs)

  -- row j over two buffers that agree before the row after it
  whole_same : (j : ℕ) (f g : Picture) (i : ℕ) → ((q : ℕ) → q < j * w + w → f q ≡ g q) → j * w ≤ i → i < j * w + w → unpacked w size e f i ≡ unpacked w size e g i
  unfolding unpacked
  whole_same j f g i same l u =
      let m = per_pixel size in
      let x = i - j * w in
      let inside : x < w = omega arith in
      let place : i ≡ j * w + x = omega arith in
      let a = rows_fewer w size j some in
      let b = column_packed w m x (per_pixel_pos size) inside in
      let c = packed_fewer w m some (per_pixel_pos size) in
      let q = same (j * packed_width size w + x / m) (omega arith) in
      rw (place, digits_div j inside, digits_mod j inside) (ap (λ (v : Pixel). entry size e (index_in m v.green (x % m))) q)

  -- a row more, from the bottom
  pub rows_turn : (y j : ℕ) (xs₀ xs ys : List ℕ) → xs ≡ run pixel_cells (given (Whole xs₀)) (y * w) (h * w - y * w) xs₀ → ys ≡ run pixel_cells (given (Whole xs)) (j * w) w xs → y ≡ suc j → y ≤ h
      → ys ≡ run pixel_cells (given (Whole xs₀)) (j * w) (h * w - j * w) xs₀
  rows_turn y j xs₀ xs ys r q s l =
      let a : y * w ≡ j * w + w = ap (λ (z : ℕ). z * w) s ∙ suc-mul j w in
      let b : y * w ≤ h * w = mul-le-mul_right w l in
      let k : y * w - j * w ≡ w = omega arith in
      let kept : (p : ℕ) → p < j * w + w → pixels xs p ≡ pixels xs₀ p =
      λ p u. ap (λ (zs : List ℕ). pixels zs p) r ∙ run_before pixel_cells pixel_lawful (given (Whole xs₀)) (y * w) xs₀ (h * w - y * w) p (omega arith) in
      let f : ys ≡ run pixel_cells (given (Whole xs₀)) (j * w) w xs = q ∙ given_same (Whole xs) (Whole xs₀) (j * w) xs w (λ i t u. whole_same j (pixels xs) (pixels xs₀) i kept t u) in
      given_join (Whole xs₀) (j * w) (y * w) (h * w) xs₀ xs ys r (rw k f) (omega arith) (omega arith)
