-- Laws of the color table: what was packed is found again, digit by digit, and the entry at a pixel's index is that
-- pixel.
use Rattle.std.proofs.lemmas.Bool.{cond_both}
use Rattle.std.specs.Prelude.{if◌then◌else◌}
use mathlib.Core.Bool.{Bool, true, false}
use mathlib.Core.Path.{◌≡◌, refl, sym, ap, ◌∙◌}
use Prim.Native.Nat.{ℕ, zero, suc, ◌+◌, ◌-◌, ◌*◌, ◌/◌, ◌%◌, ◌^◌, ◌<◌, ◌≤◌}
use native.Mathlib.Nat.{not-suc-le-zero, le_of_suc-le-suc, zero-add, pow-zero, pow-succ', div-one, mod-eq_of_lt, div-eq_of_lt, add-mul-mod_self_left, add-mul-div_left, div-div-eq-div-mul, mod-lt, div-add-mod', div-lt_iff_lt-mul, le-div_iff_mul-le, suc-mul, div-mul-le_self, one-mul, lt_of_lt_of_le}
use lib.Pow.{pow-add}
use native.Mathlib.Decide.{dec_lt}
use native.Mathlib.Omega.{arith}
use borrow.Author.Tests.{ltb-true, leb-true, leb-false, lt-ltb, le-ltb}
use lib.Arith.{digits_lt, digits_div, digits_mod}
use lib.Dec.{ltb, leb, lit<}
use Rattle.format.specs.declared.Pixel.{Pixel}
use Rattle.format.specs.Pixel.{equal}
use Rattle.format.specs.Picture.{Picture, ceiling}
use Rattle.format.specs.ColorTable.{per_pixel, range, packed_width, index_in, entry, unpacked, lowest, index_of, has_entry, have_entries, digits, column_at, index_at, packed_at, packed}
use Rattle.format.proofs.Choice.{every_at}
use Rattle.format.proofs.Pixels.{equal_true, equal_refl}

-- the lowest index

pub lowest_hit : (e : Picture) (v : Pixel) (k i : ℕ) → lowest e v k i < i + k → e (lowest e v k i) ≡ v
unfolding lowest
lowest_hit e v zero i l = absurd (no l)
  where
    no : i < i + 0 → ⊥
    no l = omega arith
lowest_hit e v (suc k) i l = go (equal (e i) v) refl l (lowest_hit e v k (suc i))
  where
    go : (b : Bool) → equal (e i) v ≡ b → (if b then i else lowest e v k (suc i)) < i + suc k → (lowest e v k (suc i) < suc i + k → e (lowest e v k (suc i)) ≡ v)
        → e (if b then i else lowest e v k (suc i)) ≡ v
    go true q m ih = equal_true (e i) v q
    go false q m ih = ih (omega arith)

-- an entry that equals v is not below it
pub lowest_least : (e : Picture) (v : Pixel) (k i j : ℕ) → i ≤ j → e j ≡ v → j < i + k → lowest e v k i ≤ j
unfolding lowest
lowest_least e v zero i j a q l = omega arith
lowest_least e v (suc k) i j a q l = go (equal (e i) v) refl (lowest_least e v k (suc i) j)
  where
    other : equal (e i) v ≡ false → i ≡ j → ⊥
    other r p =
        let t : equal (e i) v ≡ true = rw p (rw q (equal_refl v)) in
        let z : ◌≡◌ {A = Bool} true false = sym t ∙ r in
        let n : ◌≡◌ {A = ℕ} 0 1 = cc in
        omega arith

    go : (b : Bool) → equal (e i) v ≡ b → (suc i ≤ j → e j ≡ v → j < suc i + k → lowest e v k (suc i) ≤ j) → (if b then i else lowest e v k (suc i)) ≤ j
    go true r ih = a
    go false r ih = let n = other r in ih (omega arith) q (omega arith)

pub lowest_most : (e : Picture) (v : Pixel) (k i : ℕ) → lowest e v k i ≤ i + k
unfolding lowest
lowest_most e v zero i = omega arith
lowest_most e v (suc k) i = go (equal (e i) v) (lowest_most e v k (suc i))
  where
    go : (b : Bool) → lowest e v k (suc i) ≤ suc i + k → (if b then i else lowest e v k (suc i)) ≤ i + suc k
    go true h = omega arith
    go false h = omega arith

-- the same among all entries
module _ (size : ℕ) (e : Picture) (v : Pixel) where
  pub index_most : index_of size e v ≤ size
  index_most = rw (zero-add size) at (lowest_most e v size 0)

  pub index_hit : index_of size e v < size → e (index_of size e v) ≡ v
  index_hit l = lowest_hit e v size 0 (rw (zero-add size) l)

  pub index_least : (k : ℕ) → k < size → e k ≡ v → index_of size e v ≤ k
  index_least k l q = lowest_least e v size 0 k (omega arith) q (rw (zero-add size) l)

  -- where entry k is v and none before it is
  pub index_is : (k : ℕ) → k < size → e k ≡ v → ((j : ℕ) → j < size → e j ≡ v → k ≤ j) → k ≡ index_of size e v
  index_is k l q first =
      let a = index_least k l q in
      let b = first (index_of size e v) (omega arith) (index_hit (omega arith)) in
      omega arith

  -- where no entry is v
  pub index_none : ((j : ℕ) → j < size → e j ≡ v → ⊥) → size ≡ index_of size e v
  index_none none = go (dec_lt (index_of size e v) size) index_most
    where
      go : Dec (index_of size e v < size) → index_of size e v ≤ size → size ≡ index_of size e v
      go (yes l) m = absurd (none (index_of size e v) l (index_hit l))
      go (no l) m = omega arith

-- an index by shifts is a digit to the base `range n`

pub pow_times : (a k : ℕ) → 2 ^ (a * k) ≡ (2 ^ a) ^ k
pow_times a zero = let e : a * 0 ≡ 0 = omega arith in rw (e, pow-zero (2 ^ a), pow-zero 2) refl
pow_times a (suc k) =
    let e : a * suc k ≡ a + a * k = omega arith in
    rw (e, pow-add 2 a (a * k), pow_times a k) (sym (pow-succ' (2 ^ a) k))

pub index_digit : (n b k : ℕ) → index_in n b k ≡ b / range n ^ k % range n
unfolding index_in
index_digit n b k = rw (pow_times (8 / n) k) refl

-- how many indices go into a byte, by the table's size
pub by_size : (P : ℕ → Type 0) (size : ℕ) → (size ≤ 2 → P 8) → (2 < size → size ≤ 4 → P 4) → (4 < size → size ≤ 16 → P 2) → (16 < size → P 1) → P (per_pixel size)
unfolding per_pixel
by_size P size p8 p4 p2 p1 =
    cond_both (leb size 2) _ _ P (λ a. p8 (leb-true size 2 a))
    (λ a. cond_both (leb size 4) _ _ P (λ b. p4 (leb-false size 2 a) (leb-true size 4 b))
    (λ b. cond_both (leb size 16) _ _ P (λ c. p2 (leb-false size 4 b) (leb-true size 16 c)) (λ c. p1 (leb-false size 16 c))))

pub record Bundled (size n : ℕ) : Type 0 where
  pub fits : size ≤ range n
  pub whole : range n ^ n ≡ 256
  pub some : 0 < range n

pub bundled : (size : ℕ) → size ≤ 256 → Bundled size (per_pixel size)
bundled size l =
    by_size (Bundled size) size (λ a. record { fits = a; whole = refl; some = lit< tt }) (λ a b. record { fits = b; whole = refl; some = lit< tt })
    (λ a b. record { fits = b; whole = refl; some = lit< tt }) (λ a. record { fits = l; whole = refl; some = lit< tt })

pub per_pixel_pos : (size : ℕ) → 0 < per_pixel size
per_pixel_pos size = by_size (λ n. 0 < n) size (λ a. lit< tt) (λ a b. lit< tt) (λ a b. lit< tt) (λ a. lit< tt)

-- digits

-- they depend on the first n numbers alone
pub digits_same : (u n : ℕ) (g h : ℕ → ℕ) → ((k : ℕ) → k < n → g k ≡ h k) → digits u n g ≡ digits u n h
unfolding digits
digits_same u zero g h q = refl
digits_same u (suc n) g h q = cc (q 0 (omega arith), digits_same u n (λ k. g (suc k)) (λ k. h (suc k)) (λ k l. q (suc k) (omega arith)))

module _ (u : ℕ) (pos : 0 < u) where
  pub digit : (n : ℕ) (g : ℕ → ℕ) (j : ℕ) → ((k : ℕ) → k < n → g k < u) → j < n → digits u n g / u ^ j % u ≡ g j
  unfolding digits
  digit zero g j h l = absurd (not-suc-le-zero l)
  digit (suc n) g zero h l =
      let P = digits u n (λ k. g (suc k)) in
      rw (pow-zero u, div-one (g 0 + u * P)) (add-mul-mod_self_left (g 0) u P ∙ mod-eq_of_lt (h 0 (omega arith)))
  digit (suc n) g (suc j) h l =
      let P = digits u n (λ k. g (suc k)) in
      let whole : (g 0 + u * P) / u ≡ P = add-mul-div_left (g 0) P pos ∙ ap (λ (z : ℕ). z + P) (div-eq_of_lt (h 0 (omega arith))) ∙ zero-add P in
      ap (λ (z : ℕ). (g 0 + u * P) / z % u) (pow-succ' u j)
      ∙ ap (λ (z : ℕ). z % u) (sym (div-div-eq-div-mul (g 0 + u * P) u (u ^ j)))
      ∙ ap (λ (z : ℕ). z / u ^ j % u) whole
      ∙ digit n (λ k. g (suc k)) j (λ k m. h (suc k) (omega arith)) (le_of_suc-le-suc l)

-- columns

-- column x is packed inside the row
pub column_packed : (w n x : ℕ) → 0 < n → x < w → x / n < ceiling w n
column_packed w n x pos l = (le-div_iff_mul-le pos).1 (omega (arith, suc-mul (x / n) n, div-mul-le_self x n))

pub ceiling_pos : (w n : ℕ) → 0 < w → 0 < n → 0 < ceiling w n
ceiling_pos w n p q = (le-div_iff_mul-le q).1 (omega (arith, one-mul n))

-- a record's first position is a column
pub first_inside : (w n j : ℕ) → 0 < n → j < ceiling w n → j * n < w
first_inside w n j pos l = let m : suc j * n ≤ w + n - 1 = (le-div_iff_mul-le pos).0 l in omega (arith, suc-mul j n)

-- the column of a position: its own, or the row's last
pub column_own : (w x : ℕ) → x < w → column_at w x ≡ x
column_own w x l = rw (lt-ltb x w l)

pub column_last : (w x : ℕ) → w ≤ x → column_at w x ≡ w - 1
column_last w x l = rw (le-ltb x w l)

pub column_inside : (w x : ℕ) → 0 < w → column_at w x < w
column_inside w x pos = go (ltb x w) (ltb-true x w)
  where
    go : (b : Bool) → (b ≡ true → x < w) → (if b then x else w - 1) < w
    go true t = t refl
    go false t = omega arith

-- so that a position has its column's index; an unused one has that of the row's last pixel
module _ (w size : ℕ) (e f : Picture) (y x : ℕ) where
  pub index_inside : x < w → index_at w size e f y x ≡ index_of size e (f (y * w + x))
  index_inside l = rw (lt-ltb x w l)

  pub index_last : w ≤ x → index_at w size e f y x ≡ index_of size e (f (y * w + (w - 1)))
  index_last l = rw (le-ltb x w l)

-- unpacking looks at the used indices alone: packed pixels that agree in them unpack alike

-- the index of pixel q in the packed pixels g
abbrev pub used_index : ℕ → ℕ → Picture → ℕ → ℕ
used_index w size g q =
    let n = per_pixel size in
    index_in n (g (q / w * packed_width size w + q % w / n)).green (q % w % n)

pub unpacked_used : (w size : ℕ) (e f g : Picture) (q : ℕ) → used_index w size f q ≡ used_index w size g q → unpacked w size e f q ≡ unpacked w size e g q
unfolding unpacked
unpacked_used w size e f g q same = ap (entry size e) same

-- records of any indices

module _ (u : ℕ) (pos : 0 < u) where
  pub digits_below : (n : ℕ) (g : ℕ → ℕ) → ((k : ℕ) → k < n → g k < u) → digits u n g < u ^ n
  unfolding digits
  digits_below zero g h = rw (pow-zero u) (lit< tt)
  digits_below (suc n) g h =
      let P = digits u n (λ k. g (suc k)) in
      let below : P * u + g 0 < u ^ n * u = digits_lt (digits_below n (λ k. g (suc k)) (λ k m. h (suc k) (omega arith))) (h 0 (omega arith)) in
      omega (arith, pow-succ' u n)

-- index i y x at position x of row y
module _ (w h size : ℕ) (pos : 0 < w) (least : size ≤ 256) (i : ℕ → ℕ → ℕ) (small : (y : ℕ) → y < h → (x : ℕ) → i y x < range (per_pixel size)) where
  abbrev n : ℕ
  n = per_pixel size

  abbrev rows : Picture
  rows r = packed_at size (i (r / packed_width size w)) (r % packed_width size w)

  -- what was packed for a pixel is found again
  pub used_packed : (q : ℕ) → q < h * w → used_index w size rows q ≡ i (q / w) (q % w)
  used_packed q l =
      index_digit n (rows (y * packed_width size w + x / n)).green (x % n)
      ∙ rw (digits_div y column, digits_mod y column)
      (digit (range n) (bundled size least).some n (λ k. i y (x / n * n + k)) (x % n) (λ k m. small y below (x / n * n + k)) (mod-lt x (per_pixel_pos size))
      ∙ ap (i y) (div-add-mod' x n))
    where
      x : ℕ
      x = q % w

      y : ℕ
      y = q / w

      below : y < h
      below = (div-lt_iff_lt-mul pos).1 l

      column : x / n < packed_width size w
      column = column_packed w n x (per_pixel_pos size) (mod-lt q pos)

  -- its own index, where a column's position has that
  pub used_own : (e f : Picture) → ((y x : ℕ) → x < w → i y x ≡ index_of size e (f (y * w + x)))
      → (q : ℕ) → q < h * w → used_index w size rows q ≡ index_of size e (f q)
  used_own e f own q l =
      used_packed q l ∙ own (q / w) (q % w) (mod-lt q pos) ∙ ap (λ (z : ℕ). index_of size e (f z)) (div-add-mod' q w)

  -- a packed byte is a byte
  pub rows_byte : (r : ℕ) → r < h * packed_width size w → (rows r).green < 256
  rows_byte r l =
      let y = r / packed_width size w in
      let below : y < h = (div-lt_iff_lt-mul (ceiling_pos w n pos (per_pixel_pos size))).1 l in
      let b = digits_below (range n) (bundled size least).some n (λ k. i y (r % packed_width size w * n + k)) (λ k m. small y below (r % packed_width size w * n + k)) in
      rw (bundled size least).whole at b

-- rebuilding undoes storing

module _ (w h size : ℕ) (e f : Picture) (pos : 0 < w) (least : size ≤ 256) (taken : have_entries size e (h * w) f ≡ true) where
  index_below : (q : ℕ) → q < h * w → index_of size e (f q) < size
  index_below q l = ltb-true (index_of size e (f q)) size (every_at (h * w) (λ p. has_entry size e (f p)) q l taken)

  pub index_small : (y : ℕ) → y < h → (x : ℕ) → x < w → index_of size e (f (y * w + x)) < range (per_pixel size)
  index_small y l x m = lt_of_lt_of_le (index_below (y * w + x) (digits_lt l m)) (bundled size least).fits

  pub packed_small : (y : ℕ) → y < h → (x : ℕ) → index_at w size e f y x < range (per_pixel size)
  packed_small y l x = index_small y l (column_at w x) (column_inside w x pos)

  entry_at_index : (q : ℕ) → q < h * w → entry size e (index_of size e (f q)) ≡ f q
  entry_at_index q l = rw (lt-ltb (index_of size e (f q)) size (index_below q l)) (lowest_hit e (f q) size 0 (rw (zero-add size) (index_below q l)))

  pub used_stored : (q : ℕ) → q < h * w → used_index w size (packed w size e f) q ≡ index_of size e (f q)
  unfolding packed
  used_stored =
      used_own w h size pos least (index_at w size e f) packed_small e f (index_inside w size e f)

  pub unpacked_packed : (q : ℕ) → q < h * w → unpacked w size e (packed w size e f) q ≡ f q
  unfolding unpacked
  unpacked_packed q l = ap (entry size e) (used_stored q l) ∙ entry_at_index q l
