-- A row by itself, and the same row in its picture: its records, and its acceptance.
use mathlib.Core.Bool.{true}
use mathlib.Core.List.{List}
use mathlib.Core.Path.{◌≡◌, ap, ◌∙◌}
use Prim.Native.Nat.{ℕ, ◌+◌, ◌*◌, ◌<◌, ◌≤◌}
use native.Mathlib.Nat.{mod-eq_of_lt, div-eq_of_lt}
use native.Mathlib.Omega.{arith}
use lib.Arith.{digits_lt, digits_div, digits_mod}
use Rattle.format.specs.Pixel.{pixel}
use Rattle.format.specs.Picture.{Picture, pixels, written}
use Rattle.format.specs.ColorTable.{per_pixel, range, packed_width, index_of, has_entry, have_entries, column_at, index_at, packed}
use Rattle.format.proofs.Choice.{every_at, every_all}
use Rattle.format.proofs.ColorTable.{per_pixel_pos, digits_same, first_inside, column_inside}
use Rattle.color_table.proofs.Rows.{packed_fewer}
use Rattle.format.proofs.Written.{written_read}
use Rattle.store.specs.Stage.{PackedBy}
use Rattle.pixel.specs.Held.{HoldsRow}

pub packed_in : (w size y : ℕ) (e f g : Picture) (j : ℕ) → j < packed_width size w → ((x : ℕ) → x < w → f x ≡ g (y * w + x)) → packed w size e f j ≡ packed w size e g (y * packed_width size w + j)
unfolding packed
packed_in w size y e f g j l h =
    let n = per_pixel size in
    let here = first_inside w n j (per_pixel_pos size) l in
    let z : (x : ℕ) → 0 * w + x ≡ x = λ x. omega arith in
    rw (mod-eq_of_lt l, div-eq_of_lt l, digits_div y l, digits_mod y l)
    (ap (λ (d : ℕ). pixel 0 d 0 255)
    (digits_same (range n) n (λ k. index_at w size e f 0 (j * n + k)) (λ k. index_at w size e g y (j * n + k))
    (λ k m. ap (λ (x : ℕ). index_of size e (f x)) (z (column_at w (j * n + k))) ∙ ap (index_of size e) (h (column_at w (j * n + k)) (column_inside w (j * n + k) (omega arith))))))

-- a row that was packed
pub packed_row : (size : ℕ) (e : Picture) (w : ℕ) (row xs ys : List ℕ) → ys ≡ written (packed_width size w) (packed w size e (pixels row)) xs → PackedBy size e w row ys
packed_row size e w row xs ys q = written_read (packed_width size w) (packed w size e (pixels row)) xs ys q

-- a row of an accepted picture
pub row_entries : (w h size y : ℕ) (e f : Picture) (xs : List ℕ) → have_entries size e (h * w) f ≡ true → HoldsRow f y w xs → y < h → have_entries size e w (pixels xs) ≡ true
row_entries w h size y e f xs a r l =
    every_all w (λ q. has_entry size e (pixels xs q)) (λ x u. rw (r x u) (every_at (h * w) (λ q. has_entry size e (f q)) (y * w + x) (digits_lt l u) a))

-- a row has no more records than pixels
pub packed_few : (size w : ℕ) → 1 ≤ w → w ≤ 16384 → packed_width size w ≤ 16384
packed_few size w some l = let f = packed_fewer w (per_pixel size) some (per_pixel_pos size) in omega arith
