-- A front of a buffer and the rest of it, as code lends them: what their pixels say of the buffer's.
use mathlib.Core.Bool.{◌&&◌}
use mathlib.Core.List.{List}
use mathlib.Core.Path.{◌≡◌, refl, sym, ap, ◌∙◌}
use Prim.Native.Nat.{ℕ, zero, suc, ◌+◌, ◌-◌, ◌*◌, ◌/◌, ◌%◌, ◌<◌, ◌≤◌}
use native.Mathlib.Omega.{arith}
use lib.ListN.{length, take, drop, length-drop}
use lib.Seq.{length-take-le}
use Rattle.std.proofs.Common.{get_or-take}
use Rattle.format.specs.declared.Pixel.{Pixel}
use Rattle.format.specs.Pixel.{pixel}
use Rattle.format.specs.Picture.{Picture, pixels}
use Rattle.format.specs.ColorTable.{per_pixel, range, packed_width, lowest, index_of, has_entry, have_entries, digits, column_at, index_at, packed}
use Rattle.format.proofs.Choice.{every_same}
use Rattle.format.proofs.ColorTable.{digits_same, column_inside}
use Rattle.pixel.proofs.Part.{pixel_part}
use Rattle.color_table.specs.Found.{found}
use Rattle.color_table.proofs.Index.{accepted_join}
use Rattle.color_table.proofs.Records.{record_row}

pub pixels_front : (k : ℕ) (xs : List ℕ) (j : ℕ) → 4 * j + 4 ≤ k → pixels (take k xs) j ≡ pixels xs j
unfolding pixels
pixels_front k xs j l =
    cc (
      get_or-take k xs (4 * j) 0 (omega arith),
      get_or-take k xs (4 * j + 1) 0 (omega arith),
      get_or-take k xs (4 * j + 2) 0 (omega arith),
      get_or-take k xs (4 * j + 3) 0 (omega arith),
    )

pixels_lent : (n a b : ℕ) (xs : List ℕ) → a ≡ 4 * n → b ≤ length xs → (j : ℕ) → a + 4 * j + 4 ≤ b → pixels (take (b - a) (drop a xs)) j ≡ pixels xs (n + j)
pixels_lent n a b xs q fits j l = rw q (pixel_part n (b - 4 * n) xs (omega arith) j (omega arith))

-- a table that is a front

lowest_same : (e g : Picture) (v : Pixel) (k i : ℕ) → ((j : ℕ) → i ≤ j → j < i + k → e j ≡ g j) → lowest e v k i ≡ lowest g v k i
unfolding lowest
lowest_same e g v zero i same = refl
lowest_same e g v (suc k) i same = rw (same i (omega arith) (omega arith), lowest_same e g v k (suc i) (λ j l m. same j (omega arith) (omega arith)))

pub found_front : (size k : ℕ) (xs : List ℕ) (v : Pixel) → 4 * size ≤ k → found size (pixels (take k xs)) v ≡ found size (pixels xs) v
unfolding found
found_front size k xs v l =
    let q : index_of size (pixels (take k xs)) v ≡ index_of size (pixels xs) v = lowest_same (pixels (take k xs)) (pixels xs) v size 0 (λ j a m. pixels_front k xs j (omega arith)) in
    rw q

-- pixels that have entries

pub entries_front : (size : ℕ) (e : Picture) (n k : ℕ) (xs : List ℕ) → 4 * n ≤ k → have_entries size e n (pixels (take k xs)) ≡ have_entries size e n (pixels xs)
entries_front size e n k xs l =
    every_same n (λ q. has_entry size e (pixels (take k xs) q)) (λ q. has_entry size e (pixels xs q)) (λ q m. ap (has_entry size e) (pixels_front k xs q (omega arith)))

-- those of the first n, and of m pixels after them
pub entries_more : (size : ℕ) (e : Picture) (n m a b : ℕ) (xs : List ℕ) → a ≡ 4 * n → a + 4 * m ≤ b → b ≤ length xs
    → have_entries size e (n + m) (pixels xs) ≡ (have_entries size e n (pixels xs) && have_entries size e m (pixels (take (b - a) (drop a xs))))
entries_more size e n m a b xs q l fits =
    accepted_join size e (pixels xs) n m (pixels (take (b - a) (drop a xs))) (λ j i. pixels_lent n a b xs q fits j (omega arith))

-- those of all, of the first k bytes and of the rest
pub entries_parts : (size : ℕ) (e : Picture) (k : ℕ) (xs : List ℕ) → k % 4 ≡ 0 → k ≤ length xs
    → let rest = take (length xs - k) (drop k xs) in
    have_entries size e (length xs / 4) (pixels xs) ≡ (have_entries size e (length (take k xs) / 4) (pixels (take k xs)) && have_entries size e (length rest / 4) (pixels rest))
entries_parts size e k xs q l =
    let rest = take (length xs - k) (drop k xs) in
    let r : length rest ≡ length xs - k = length-take-le (length xs - k) (drop k xs) (rw (length-drop k xs) (omega arith)) in
    let t : length (take k xs) / 4 ≡ k / 4 = rw (length-take-le k xs l) refl in
    let n : length xs / 4 ≡ k / 4 + length rest / 4 = omega arith in
    rw (t, entries_front size e (k / 4) k xs (omega arith), n)
    (entries_more size e (k / 4) (length rest / 4) k (length xs) xs (omega arith) (omega arith) (omega arith))

-- the records of a row that is a front
pub packed_front : (w size : ℕ) (e : Picture) (k : ℕ) (xs : List ℕ) → 1 ≤ w → 4 * w ≤ k → (j : ℕ) → j < packed_width size w → packed w size e (pixels (take k xs)) j ≡ packed w size e (pixels xs) j
packed_front w size e k xs some l j m =
    record_row w size e (pixels xs) (per_pixel size) j _ (sym (record_row w size e (pixels (take k xs)) (per_pixel size) j _ refl refl m) ∙ ap (λ (d : ℕ). pixel 0 d 0 255) digits_front) refl m
  where
    digits_front : digits (range (per_pixel size)) (per_pixel size) (λ i. index_at w size e (pixels (take k xs)) 0 (j * per_pixel size + i))
        ≡ digits (range (per_pixel size)) (per_pixel size) (λ i. index_at w size e (pixels xs) 0 (j * per_pixel size + i))
    digits_front =
        digits_same (range (per_pixel size)) (per_pixel size) _ _ (λ i a.
        let x = j * per_pixel size + i in
        let c = column_inside w x some in
        ap (index_of size e) (pixels_front k xs (0 * w + column_at w x) (omega arith)))
