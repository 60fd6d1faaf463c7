-- A part of a buffer that is lent and comes back: pixels replaced in order in the part are pixels replaced in order in
-- the whole.
use Rattle.std.proofs.Common.{◌≡◌, ℕ, zero, suc, ◌+◌, ◌-◌, ◌*◌, ◌<◌, ◌≤◌, List, ◌++◌, length, take, drop, set, sym, refl, ap, ◌∙◌, add-zero, add_assoc, arith, length-drop, length-set, take-append-drop, length-take-le, get_or-drop, get_or-take, get_or-append-add}
use lib.ListN.{get_or-append}
use Rattle.std.proofs.lemmas.List.{set-append_left, set-append_right}
use Rattle.format.specs.declared.Pixel.{Pixel}
use Rattle.format.specs.Picture.{Picture, byte_at, pixels}
use Rattle.pixel.specs.Cells.{pixel_cells, put_pixel, Rule, run, given}
use Rattle.pixel.proofs.Cells.{pixel_lawful, length_run}
-- the whole, once the part of k bytes from a is back as z
pub use borrow.Rule.Slice.PartMut.{put_mid as back}

module _ (a k : ℕ) (xs z : List ℕ) (fits : a + k ≤ length xs) (full : length z ≡ k) where
  byte-back : (i j : ℕ) → i ≡ a + j → j < k → byte_at (back a k xs z) i ≡ byte_at z j
  byte-back i j e h =
      let l : length (take a xs) ≡ a = length-take-le a xs (omega arith) in
      let n : i ≡ length (take a xs) + j = omega arith in
      let w : j < length z = omega arith in
      ap (byte_at (back a k xs z)) n ∙ get_or-append-add (take a xs) (z ++ drop k (drop a xs)) j 0 ∙ get_or-append z (drop k (drop a xs)) 0 j w

  set_back : (i j v : ℕ) → i ≡ a + j → j < k → set (back a k xs z) i v ≡ back a k xs (set z j v)
  set_back i j v e h =
      let l : length (take a xs) ≡ a = length-take-le a xs (omega arith) in
      let n : i - a ≡ j = omega arith in
      let w : j < length z = omega arith in
      set-append_right (take a xs) (z ++ drop k (drop a xs)) a i v l (omega arith) ∙ rw (n, set-append_left z (drop k (drop a xs)) j v w) refl

-- bytes before the part
byte_before : (a k : ℕ) (xs z : List ℕ) → a ≤ length xs → (i : ℕ) → i < a → byte_at (back a k xs z) i ≡ byte_at xs i
byte_before a k xs z fits i h =
    let l : length (take a xs) ≡ a = length-take-le a xs fits in
    let w : i < length (take a xs) = omega arith in
    get_or-append (take a xs) (z ++ drop k (drop a xs)) 0 i w ∙ get_or-take a xs i 0 h

pub pixel_before : (a k : ℕ) (xs z : List ℕ) → 4 * a ≤ length xs → (j : ℕ) → j < a → pixels (back (4 * a) k xs z) j ≡ pixels xs j
unfolding pixels
pixel_before a k xs z fits j h =
    cc (
      byte_before (4 * a) k xs z fits (4 * j) (omega arith),
      byte_before (4 * a) k xs z fits (4 * j + 1) (omega arith),
      byte_before (4 * a) k xs z fits (4 * j + 2) (omega arith),
      byte_before (4 * a) k xs z fits (4 * j + 3) (omega arith),
    )

-- the part starts at pixel a
module _ (a k : ℕ) (xs : List ℕ) (fits : 4 * a + k ≤ length xs) where
  pub pixel_back : (z : List ℕ) → length z ≡ k → (j : ℕ) → 4 * j + 4 ≤ k → pixels (back (4 * a) k xs z) (a + j) ≡ pixels z j
  unfolding pixels
  pixel_back z full j h =
      cc (
        byte-back (4 * a) k xs z fits full (4 * (a + j)) (4 * j) (omega arith) (omega arith),
        byte-back (4 * a) k xs z fits full (4 * (a + j) + 1) (4 * j + 1) (omega arith) (omega arith),
        byte-back (4 * a) k xs z fits full (4 * (a + j) + 2) (4 * j + 2) (omega arith) (omega arith),
        byte-back (4 * a) k xs z fits full (4 * (a + j) + 3) (4 * j + 3) (omega arith) (omega arith),
      )

  put_back : (z : List ℕ) → length z ≡ k → (j : ℕ) (v : Pixel) → 4 * j + 4 ≤ k → put_pixel (back (4 * a) k xs z) (a + j) v ≡ back (4 * a) k xs (put_pixel z j v)
  unfolding put_pixel
  put_back z full j v h =
      let z1 = set z (4 * j) v.red in
      let z2 = set z1 (4 * j + 1) v.green in
      let z3 = set z2 (4 * j + 2) v.blue in
      let l1 : length z1 ≡ length z = length-set z (4 * j) v.red in
      let l2 : length z2 ≡ length z1 = length-set z1 (4 * j + 1) v.green in
      let l3 : length z3 ≡ length z2 = length-set z2 (4 * j + 2) v.blue in
      let s0 = set_back (4 * a) k xs z fits full (4 * (a + j)) (4 * j) v.red (omega arith) (omega arith) in
      let s1 = set_back (4 * a) k xs z1 fits (l1 ∙ full) (4 * (a + j) + 1) (4 * j + 1) v.green (omega arith) (omega arith) in
      let s2 = set_back (4 * a) k xs z2 fits (l2 ∙ l1 ∙ full) (4 * (a + j) + 2) (4 * j + 2) v.blue (omega arith) (omega arith) in
      let s3 = set_back (4 * a) k xs z3 fits (l3 ∙ l2 ∙ l1 ∙ full) (4 * (a + j) + 3) (4 * j + 3) v.alpha (omega arith) (omega arith) in
      rw (s0, s1, s2, s3)

  -- the part as it is lent
  pub pixel_part : (j : ℕ) → 4 * j + 4 ≤ k → pixels (take k (drop (4 * a) xs)) j ≡ pixels xs (a + j)
  unfolding pixels
  pixel_part j h =
      let e0 : 4 * a + 4 * j ≡ 4 * (a + j) = omega arith in
      let e1 : 4 * a + (4 * j + 1) ≡ 4 * (a + j) + 1 = omega arith in
      let e2 : 4 * a + (4 * j + 2) ≡ 4 * (a + j) + 2 = omega arith in
      let e3 : 4 * a + (4 * j + 3) ≡ 4 * (a + j) + 3 = omega arith in
      cc (
        get_or-take k (drop (4 * a) xs) (4 * j) 0 (omega arith) ∙ get_or-drop (4 * a) xs (4 * j) 0,
        get_or-take k (drop (4 * a) xs) (4 * j + 1) 0 (omega arith) ∙ get_or-drop (4 * a) xs (4 * j + 1) 0,
        get_or-take k (drop (4 * a) xs) (4 * j + 2) 0 (omega arith) ∙ get_or-drop (4 * a) xs (4 * j + 2) 0,
        get_or-take k (drop (4 * a) xs) (4 * j + 3) 0 (omega arith) ∙ get_or-drop (4 * a) xs (4 * j + 3) 0,
      )

-- n pixels from pixel a on, as code lends them
abbrev pub part : ℕ → ℕ → List ℕ → List ℕ
part a n xs = take (4 * a + 4 * n - 4 * a) (drop (4 * a) xs)

pub pixels_part : (a n : ℕ) (xs : List ℕ) → 4 * a + 4 * n ≤ length xs → (j : ℕ) → j < n → pixels (part a n xs) j ≡ pixels xs (a + j)
pixels_part a n xs fits j l = pixel_part a (4 * a + 4 * n - 4 * a) xs (omega arith) j (omega arith)

-- rule f in the whole is rule g in the part that starts at pixel a and has m pixels, for n of them from pixel b
abbrev pub Seen : Rule Pixel → Rule Pixel → ℕ → ℕ → ℕ → ℕ → Type 0
Seen f g a m b n =
    (p q : ℕ → Pixel) (i : ℕ) → b ≤ i → i < b + n → ((j : ℕ) → j < m → p (a + j) ≡ q j) → f p (a + i) ≡ g q i

module _ (f g : Rule Pixel) (a m b : ℕ) (xs : List ℕ) (fits : 4 * a + 4 * m ≤ length xs) where
  pub part_run : (n : ℕ) → b + n ≤ m → Seen f g a m b n → back (4 * a) (4 * m) xs (run pixel_cells g b n (take (4 * m) (drop (4 * a) xs))) ≡ run pixel_cells f (a + b) n xs
  unfolding run
  part_run zero h s = rw (take-append-drop, take-append-drop)
  part_run (suc n) h s =
      let z = run pixel_cells g b n (take (4 * m) (drop (4 * a) xs)) in
      let r : back (4 * a) (4 * m) xs z ≡ run pixel_cells f (a + b) n xs = part_run n (omega arith) (λ p q i l u. s p q i l (omega arith)) in
      let d : length (drop (4 * a) xs) ≡ length xs - 4 * a = length-drop (4 * a) xs in
      let t : length (take (4 * m) (drop (4 * a) xs)) ≡ 4 * m = length-take-le (4 * m) (drop (4 * a) xs) (omega arith) in
      let full : length z ≡ 4 * m = length_run pixel_cells pixel_lawful g b (take (4 * m) (drop (4 * a) xs)) n ∙ t in
      let e : f (pixels (back (4 * a) (4 * m) xs z)) (a + (b + n)) ≡ g (pixels z) (b + n) =
      s (pixels (back (4 * a) (4 * m) xs z)) (pixels z) (b + n) (omega arith) (omega arith) (λ j l. pixel_back a (4 * m) xs fits z full j (omega arith)) in
      let j = add_assoc a b n in
      sym (put_back a (4 * m) xs fits z full (b + n) (g (pixels z) (b + n)) (omega arith)) ∙ cc

-- the same of a part that code lends, all of it, and that comes back as ys
pub part_back : (f g : Rule Pixel) (a n : ℕ) (xs ys : List ℕ) → ys ≡ run pixel_cells g 0 n (part a n xs) → Seen f g a n 0 n → 4 * a + 4 * n ≤ length xs
    → back (4 * a) (4 * a + 4 * n - 4 * a) xs ys ≡ run pixel_cells f a n xs
part_back f g a n xs ys e s fits =
    let j : 4 * a + 4 * n - 4 * a ≡ 4 * n = omega arith in
    rw (e, j) (rw add-zero at (part_run f g a n 0 xs fits n (omega arith) s))

-- f from index a on
unfoldable pub shifted : Picture → ℕ → Picture
shifted f a i = f (a + i)

-- cells given by their index alone, in a part that is any list of its length
pub back_run : (f : Picture) (a k : ℕ) (xs z : List ℕ) → 4 * a + k ≤ length xs → length z ≡ k → (b n : ℕ) → 4 * (b + n) ≤ k
    → back (4 * a) k xs (run pixel_cells (given (shifted f a)) b n z) ≡ run pixel_cells (given f) (a + b) n (back (4 * a) k xs z)
unfolding run given shifted
back_run f a k xs z fits full b zero l = refl
back_run f a k xs z fits full b (suc n) l =
    let r = back_run f a k xs z fits full b n (omega arith) in
    let u = run pixel_cells (given (shifted f a)) b n z in
    let long : length u ≡ k = length_run pixel_cells pixel_lawful (given (shifted f a)) b z n ∙ full in
    let j = add_assoc a b n in
    sym (put_back a k xs fits u long (b + n) (f (a + (b + n))) (omega arith)) ∙ cc
