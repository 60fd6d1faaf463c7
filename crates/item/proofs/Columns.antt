-- A record of indices, position by position.
use Rattle.std.specs.Prelude.{Option, Some, None, option_and_then, option_map, if◌then◌else◌}
use mathlib.Core.Bool.{Bool, true, false, not, ◌||◌, or-false}
use mathlib.Core.List.{List, [], ◌∷◌}
use mathlib.Core.Path.{◌≡◌, refl, sym, ap, ◌∙◌}
use Prim.Native.Nat.{ℕ, zero, suc, ◌+◌, ◌-◌, ◌*◌, ◌/◌, ◌^◌, ◌<◌, ◌≤◌}
use native.Mathlib.Nat.{add-zero, one-le-pow, pow-succ', pow-le-pow_right}
use native.Mathlib.Decide.{dec_lt}
use native.Mathlib.Omega.{arith}
use borrow.Author.Tests.{lt-ltb, le-ltb, ltb-true}
use Rattle.std.proofs.lemmas.Bool.{or_parts, not-false}
use Rattle.format.specs.declared.Pixel.{Pixel}
use Rattle.format.specs.Indices.{some}
use Rattle.format.specs.Pixel.{pixel}
use lib.ListN.{length, take}
use lib.Seq.{length-take-le}
use Rattle.format.specs.Picture.{Picture, pixels}
use Rattle.format.specs.ColorTable.{per_pixel, range, index_of, has_entry, index_at, digits}
use Rattle.format.specs.Made.{columns, made}
use Rattle.format.proofs.ColorTable.{digits_same, digits_below, index_inside, index_last}
use Rattle.color_table.proofs.Digits.{base_of, small_more, weight_small}
use Rattle.color_table.specs.Found.{found}
use Rattle.color_table.proofs.Fronts.{found_front}
use Rattle.color_table.proofs.Index.{has_found}
use Rattle.item.specs.Table.{record_from, joined_made, repeated_made, Room}
use Rattle.item.proofs.Items.{made-item}

-- a column and those after it
joined-made : (size : ℕ) (e : Picture) (a b : Bool) (v p : Pixel)
    → joined_made size e (made a v) (made b p) ≡ made ((a || not (has_entry size e v)) || b) (pixel 0 (index_of size e v + range (per_pixel size) * p.green) 0 255)
unfolding joined_made found made
joined-made size e true b v p = refl
joined-made size e false b v p = go b (has_entry size e v)
  where
    go : (b h : Bool) → option_and_then (λ p. option_map (λ i. pixel 0 (i + range (per_pixel size) * p.green) 0 255) (if h then Some (index_of size e v) else None)) (made b p) ≡ made (not h || b) (pixel 0 (index_of size e v + range (per_pixel size) * p.green) 0 255)
    go true true = refl
    go true false = refl
    go false true = refl
    go false false = refl

-- one item's index in every position
repeated-made : (size : ℕ) (e : Picture) (n : ℕ) (a : Bool) (v : Pixel)
    → repeated_made size e n (made a v) ≡ made (a || not (has_entry size e v)) (pixel 0 (digits (range (per_pixel size)) n (λ k. index_of size e v)) 0 255)
unfolding repeated_made found made
repeated-made size e n true v = refl
repeated-made size e n false v = go (has_entry size e v)
  where
    go : (h : Bool) → option_map (λ i. pixel 0 (digits (range (per_pixel size)) n (λ k. i)) 0 255) (if h then Some (index_of size e v) else None) ≡ made (not h) (pixel 0 (digits (range (per_pixel size)) n (λ k. index_of size e v)) 0 255)
    go true = refl
    go false = refl

pub repeated_item : (size : ℕ) (e : Picture) (n : ℕ) (m : Option Pixel) (v r : Pixel) (i b w : ℕ) → m ≡ Some v → Some i ≡ found size e v → r ≡ pixel 0 b 0 255
    → b ≡ digits w n (λ k. i) → w ≡ range (per_pixel size) → Some r ≡ repeated_made size e n m
unfolding repeated_made
repeated_item size e n m v r i b w a q c z d = rw (a, ← q, c, z, d) refl

-- fewer indices fit as well
pub fewer_fit : (u n m : ℕ) → 1 ≤ u → n ≤ m → u ^ m ≤ 256 → u ^ n ≤ 256
fewer_fit u n m p l f = omega (arith, pow-le-pow_right p l)

-- looking among the entries' bytes alone
pub found_entries : (size : ℕ) (xs : List ℕ) (v : Pixel) (r : Option ℕ) → 4 * size ≤ length xs → r ≡ found (length (take (4 * size) xs) / 4) (pixels (take (4 * size) xs)) v → r ≡ found size (pixels xs) v
found_entries size xs v r fits e =
    let n : length (take (4 * size) xs) / 4 ≡ size = omega (arith, length-take-le (4 * size) xs fits) in
    e ∙ rw n (found_front size (4 * size) xs v (omega arith))

-- an index that is found is that of an entry
pub found_inside : (size : ℕ) (e : Picture) (v : Pixel) (i : ℕ) → Some i ≡ found size e v → i < size
found_inside size e v i q =
    let h = has_found size e v i q in
    rw h.0 (ltb-true (index_of size e v) size h.1)

-- the same index once more
pub again_more : (u i k b : ℕ) → b ≡ digits u k (λ j. i) → i + u * b ≡ digits u (k + 1) (λ j. i)
unfolding digits
again_more u i k b q = let s : k + 1 ≡ suc k = omega arith in rw (s, q)

pub again_small : (u i k b : ℕ) → i < u → b < u ^ k → i + u * b < u ^ (k + 1)
again_small u i k b l m =
    let s : k + 1 ≡ suc k = omega arith in
    rw (s, pow-succ' u k) (small_more (u ^ k) i u b l m)

pub again_fits : (u i k n b : ℕ) → i < u → b < u ^ k → k < n → u ^ n ≤ 256 → i + u * b < 256
again_fits u i k n b l m h t =
    let p : u ^ (k + 1) ≤ u ^ n = pow-le-pow_right (omega arith) (omega arith) in
    omega (arith, again_small u i k b l m)

-- one index more fits a byte
pub byte_fits : (size u w i g : ℕ) → u * g + u ≤ 256 → w ≡ u → i < size → size ≤ w → i + w * g < 256
byte_fits size u w i g r d l f = rw d (omega arith)

module _ (w size : ℕ) (e f : Picture) (y : ℕ) where
  abbrev u : ℕ
  u = range (per_pixel size)

  -- the byte of n columns from x on
  abbrev byte : ℕ → ℕ → ℕ
  byte n x = digits u n (λ k. index_at w size e f y (x + k))

  byte_more : (n x : ℕ) → byte (suc n) x ≡ index_at w size e f y x + u * byte n (x + 1)
  unfolding digits
  byte_more n x =
      let s = digits_same u n (λ k. index_at w size e f y (x + suc k)) (λ k. index_at w size e f y (x + 1 + k)) (λ k l. let a : x + suc k ≡ x + 1 + k = omega arith in ap (index_at w size e f y) a) in
      let z = ap (index_at w size e f y) (add-zero x) in
      cc (s, z)

  -- from the row's last column on every position has that column's index
  byte_last : (n x : ℕ) → w ≡ x + 1 → byte n x ≡ digits u n (λ k. index_of size e (f (y * w + x)))
  byte_last n x l = digits_same u n (λ k. index_at w size e f y (x + k)) (λ k. index_of size e (f (y * w + x))) (λ k i. last k)
    where
      last : (k : ℕ) → index_at w size e f y (x + k) ≡ index_of size e (f (y * w + x))
      last zero = rw (add-zero x) (index_inside w size e f y x (omega arith))
      last (suc k) =
          let z : w - 1 ≡ x = omega arith in
          index_last w size e f y (x + suc k) (omega arith) ∙ ap (λ (c : ℕ). index_of size e (f (y * w + c))) z

  columns_past : (n x : ℕ) → w ≤ x → columns w y n x ≡ []
  unfolding columns
  columns_past zero x l = refl
  columns_past (suc n) x l = rw (le-ltb x w l)

  columns_here : (n x : ℕ) → x < w → columns w y (suc n) x ≡ (y * w + x) ∷ columns w y n (x + 1)
  unfolding columns
  columns_here n x l = let s : suc x ≡ x + 1 = omega arith in rw (lt-ltb x w l, s)

  module _ (t : ℕ → Bool) where
    -- no position
    pub no_columns : (n x : ℕ) (p : Pixel) → n ≡ 0 → p ≡ pixel 0 0 0 255 → Some p ≡ made (some t (columns w y n x)) (record_from w size e f y n x)
    unfolding made record_from columns digits
    no_columns n x p z q = rw (z, q)

    module _ (was : ℕ → Bool) (lacking : (q : ℕ) → t q ≡ (was q || not (has_entry size e (f q)))) where
      -- one column more
      pub columns_more : (n m x : ℕ) (r first rest : Option Pixel) → n ≡ suc m → x < w → r ≡ joined_made size e first rest → first ≡ made (was (y * w + x)) (f (y * w + x))
          → rest ≡ made (some t (columns w y m (x + 1))) (record_from w size e f y m (x + 1)) → r ≡ made (some t (columns w y n x)) (record_from w size e f y n x)
      unfolding record_from
      columns_more n m x r first rest z l a b c =
          a
          ∙ rw (b, c)
          (joined-made size e (was (y * w + x)) (some t (columns w y m (x + 1))) (f (y * w + x)) (record_from w size e f y m (x + 1))
          ∙ rw (z, columns_here m x l, byte_more m x, index_inside w size e f y x l, lacking (y * w + x)))

      -- the row's last column
      pub columns_last : (n m x : ℕ) (r first : Option Pixel) → n ≡ suc m → w ≡ x + 1 → r ≡ repeated_made size e n first → first ≡ made (was (y * w + x)) (f (y * w + x))
          → r ≡ made (some t (columns w y n x)) (record_from w size e f y n x)
      unfolding record_from
      columns_last n m x r first z l a b =
          a
          ∙ rw b (repeated-made size e n (was (y * w + x)) (f (y * w + x)) ∙ rw (z, columns_here m x (omega arith), columns_past m (x + 1) (omega arith), byte_last (suc m) x l, lacking (y * w + x), or-false))

      has : (q : ℕ) → t q ≡ false → index_of size e (f q) < size
      has q z = ltb-true (index_of size e (f q)) size (not-false (has_entry size e (f q)) (or_parts (was q) (not (has_entry size e (f q))) (sym (lacking q) ∙ z)).1)

      -- indices that were found are digits
      byte_small : size ≤ u → 1 ≤ u → (n x : ℕ) → x < w → some t (columns w y n x) ≡ false → byte n x < u ^ n
      unfolding digits
      byte_small fits pos zero x l z = one-le-pow 0 u pos
      byte_small fits pos (suc n) x l z = go (dec_lt (x + 1) w) (byte_small fits pos n (x + 1))
        where
          c : (t (y * w + x) ≡ false) × (some t (columns w y n (x + 1)) ≡ false)
          c = or_parts (t (y * w + x)) (some t (columns w y n (x + 1))) (ap (some t) (sym (columns_here n x l)) ∙ z)

          i : index_of size e (f (y * w + x)) < size
          i = has (y * w + x) c.0

          go : Dec (x + 1 < w) → (x + 1 < w → some t (columns w y n (x + 1)) ≡ false → byte n (x + 1) < u ^ n) → byte (suc n) x < u ^ suc n
          go (yes m) ih =
              let r = ih m c.1 in
              rw (byte_more n x, index_inside w size e f y x l, pow-succ' u n) (small_more (u ^ n) (index_of size e (f (y * w + x))) u (byte n (x + 1)) (omega (arith, i)) r)
          go (no m) ih = rw (byte_last (suc n) x (omega arith)) (digits_below u pos (suc n) (λ k. index_of size e (f (y * w + x))) (λ k j. omega (arith, i)))

      pub columns_room : size ≤ 256 → (n x : ℕ) → n < per_pixel size → x < w → Room size (made (some t (columns w y n x)) (record_from w size e f y n x))
      unfolding record_from
      columns_room small n x l inside p q =
          let b = base_of size (per_pixel size) u small refl refl in
          let m = made-item (some t (columns w y n x)) (record_from w size e f y n x) p (sym q) in
          let two = b.two in
          let r = byte_small b.fits (omega arith) n x inside m.0 in
          let z = small_more (u ^ n) (u - 1) u (byte n x) (omega arith) r in
          let k = weight_small u (suc n) (per_pixel size) (u ^ suc n) refl b.whole two l in
          rw m.1 (omega (arith, pow-succ' u n))
