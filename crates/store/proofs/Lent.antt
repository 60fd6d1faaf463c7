-- Rows in parts of the scratch that were lent.
use mathlib.Core.List.{List, ◌++◌}
use mathlib.Core.Path.{◌≡◌, sym, ap, ◌∙◌}
use Prim.Native.Nat.{ℕ, ◌+◌, ◌*◌, ◌/◌, ◌<◌, ◌≤◌}
use native.Mathlib.Omega.{arith}
use borrow.Rule.Slice.PartMut.{same_len_mid}
use lib.ListN.{length, take, drop, length-drop, get_or-append}
use Rattle.std.proofs.Common.{get_or-append-add}
use lib.Seq.{length-take-le}
use Rattle.format.specs.Picture.{Picture, byte_at, pixels, written}
use Rattle.format.proofs.Written.{length_written, pixels_same, written_read}
use Rattle.pixel.proofs.Part.{back}
use Rattle.color_table.proofs.Fronts.{pixels_front}

-- a part that came back at its length
pub back_length : (a k : ℕ) (xs z : List ℕ) → a + k ≤ length xs → length z ≡ k → length (back a k xs z) ≡ length xs
back_length a k xs z fits full = same_len_mid a k xs z (full ∙ sym (length-take-le k (drop a xs) (rw (length-drop a xs) (omega arith))))

-- a front of n pixels is lent
pub front_count : (n : ℕ) (xs : List ℕ) → 4 * n ≤ length xs → length (take (4 * n) xs) / 4 ≡ n
front_count n xs l = omega (arith, length-take-le (4 * n) xs l)

-- a front that came back, or that stands before another part
pub pixel_first : (xs ys : List ℕ) (x : ℕ) → 4 * x + 4 ≤ length xs → pixels (xs ++ ys) x ≡ pixels xs x
unfolding pixels
pixel_first xs ys x l =
    cc (
      get_or-append xs ys 0 (4 * x) (omega arith),
      get_or-append xs ys 0 (4 * x + 1) (omega arith),
      get_or-append xs ys 0 (4 * x + 2) (omega arith),
      get_or-append xs ys 0 (4 * x + 3) (omega arith),
    )

-- the part behind a front of w pixels
pub pixel_second : (w : ℕ) (xs ys : List ℕ) (x : ℕ) → length xs ≡ 4 * w → pixels (xs ++ ys) (w + x) ≡ pixels ys x
unfolding pixels
pixel_second w xs ys x full =
    let at : (k j : ℕ) → k ≡ length xs + j → byte_at (xs ++ ys) k ≡ byte_at ys j = λ k j e. ap (byte_at (xs ++ ys)) e ∙ get_or-append-add xs ys j 0 in
    cc (
      at (4 * (w + x)) (4 * x) (omega arith),
      at (4 * (w + x) + 1) (4 * x + 1) (omega arith),
      at (4 * (w + x) + 2) (4 * x + 2) (omega arith),
      at (4 * (w + x) + 3) (4 * x + 3) (omega arith),
    )

-- n pixels of f written to `free`, and copied to the front of the row from there
pub copied_back : (n b : ℕ) (f : Picture) (free out row z : List ℕ) → out ≡ written n f free → z ≡ take b out → b ≡ 4 * n → 4 * n ≤ length free
    → (x : ℕ) → x < n → pixels (z ++ drop b row) x ≡ f x
copied_back n b f free out row z e q m room x l =
    let long : length out ≡ length free = ap (λ (ys : List ℕ). length ys) e ∙ length_written n f free room in
    let full : length z ≡ b = ap (λ (ys : List ℕ). length ys) q ∙ length-take-le b out (omega arith) in
    pixel_first z (drop b row) x (omega arith)
    ∙ pixels_same q x
    ∙ pixels_front b out x (omega arith)
    ∙ written_read n f free out e x l
