-- Laws of the pixels written at a buffer's front.
use mathlib.Core.Bool.{Bool, true, false}
use mathlib.Core.List.{List, [], ◌∷◌}
use mathlib.Core.Path.{◌≡◌, refl, sym, ap, ◌∙◌, fun_ext}
use Prim.Native.Nat.{ℕ, zero, suc, ◌+◌, ◌*◌, ◌<◌, ◌≤◌}
use native.Mathlib.Nat.{not-suc-le-zero, le_of_suc-le-suc}
use native.Mathlib.Omega.{arith}
use borrow.Author.Tests.{ltb-true, ltb-false}
use lib.Dec.{ltb}
use lib.ListN.{length, drop, length-drop}
use lib.Seq.{get_or-drop}
use Rattle.format.specs.Picture.{Picture, byte_at, pixels, written}
use Rattle.format.proofs.Pixels.{Bytes}
use Rattle.format.proofs.Picture.{written_same}

-- a buffer of bytes has pixels of bytes
pub bytes_pixels : (xs : List ℕ) → ((i : ℕ) → byte_at xs i < 256) → (q : ℕ) → Bytes (pixels xs q)
unfolding pixels
bytes_pixels xs h q = record { red = h (4 * q); green = h (4 * q + 1); blue = h (4 * q + 2); alpha = h (4 * q + 3) }

pub length_written : (n : ℕ) (f : Picture) (xs : List ℕ) → 4 * n ≤ length xs → length (written n f xs) ≡ length xs
unfolding written
length_written zero f xs l = refl
length_written (suc n) f xs l = omega (arith, length-drop 4 xs, length_written n (λ i. f (suc i)) (drop 4 xs) (rw (length-drop 4 xs) (omega arith)))

byte_cons : (a b c d : ℕ) (xs : List ℕ) (i j : ℕ) → j ≡ 4 + i → byte_at (a ∷ b ∷ c ∷ d ∷ xs) j ≡ byte_at xs i
byte_cons a b c d xs i j e =
    let f : j ≡ suc (suc (suc (suc i))) = omega arith in
    ap (λ (n : ℕ). byte_at (a ∷ b ∷ c ∷ d ∷ xs) n) f

-- the pixels after the first
pub pixels_cons : (a b c d : ℕ) (xs : List ℕ) (i : ℕ) → pixels (a ∷ b ∷ c ∷ d ∷ xs) (suc i) ≡ pixels xs i
unfolding pixels
pixels_cons a b c d xs i =
    cc (
      byte_cons a b c d xs (4 * i) (4 * suc i) (omega arith),
      byte_cons a b c d xs (4 * i + 1) (4 * suc i + 1) (omega arith),
      byte_cons a b c d xs (4 * i + 2) (4 * suc i + 2) (omega arith),
      byte_cons a b c d xs (4 * i + 3) (4 * suc i + 3) (omega arith),
    )

-- what is written is read back
pub pixels_written : (n : ℕ) (f : Picture) (xs : List ℕ) (i : ℕ) → i < n → pixels (written n f xs) i ≡ f i
unfolding written pixels
pixels_written zero f xs i l = absurd (not-suc-le-zero l)
pixels_written (suc n) f xs zero l = refl
pixels_written (suc n) f xs (suc i) l =
    pixels_cons (f 0).red (f 0).green (f 0).blue (f 0).alpha (written n (λ j. f (suc j)) (drop 4 xs)) i
    ∙ pixels_written n (λ j. f (suc j)) (drop 4 xs) i (le_of_suc-le-suc l)

-- buffers that are one hold one picture
pub pixels_same : {xs ys : List ℕ} → xs ≡ ys → (i : ℕ) → pixels xs i ≡ pixels ys i
pixels_same e i k = pixels (e k) i

pub written_read : (n : ℕ) (f : Picture) (xs ys : List ℕ) → ys ≡ written n f xs → (i : ℕ) → i < n → pixels ys i ≡ f i
written_read n f xs ys e i l = pixels_same e i ∙ pixels_written n f xs i l

-- a longer front covers a shorter
pub written_over : (n m : ℕ) (f g : Picture) (xs : List ℕ) → m ≤ n → written n f (written m g xs) ≡ written n f xs
unfolding written
written_over n zero f g xs l = refl
written_over zero (suc m) f g xs l = absurd (not-suc-le-zero l)
written_over (suc n) (suc m) f g xs l = cc (written_over n m (λ i. f (suc i)) (λ i. g (suc i)) (drop 4 xs) (le_of_suc-le-suc l))

short : {A : Type 0} (k n : ℕ) → k < 4 → 4 * suc n ≤ k → A
short k n l h = absurd (omega arith)

-- a buffer's own pixels change nothing
pub written_self : (n : ℕ) (xs : List ℕ) → 4 * n ≤ length xs → written n (pixels xs) xs ≡ xs
unfolding written pixels
written_self zero xs l = refl
written_self (suc n) [] l = short 0 n (omega arith) l
written_self (suc n) (a ∷ []) l = short 1 n (omega arith) l
written_self (suc n) (a ∷ b ∷ []) l = short 2 n (omega arith) l
written_self (suc n) (a ∷ b ∷ c ∷ []) l = short 3 n (omega arith) l
written_self (suc n) (a ∷ b ∷ c ∷ d ∷ xs) l =
    cc (written_same n (λ i. pixels (a ∷ b ∷ c ∷ d ∷ xs) (suc i)) (pixels xs) xs (λ i m. pixels_cons a b c d xs i), written_self n xs (omega arith))

byte_drop : (xs : List ℕ) (i j : ℕ) → j ≡ 4 + i → byte_at (drop 4 xs) i ≡ byte_at xs j
byte_drop xs i j e = get_or-drop 4 xs i 0 ∙ ap (byte_at xs) (sym e)

pixels_drop : (xs : List ℕ) (i : ℕ) → pixels (drop 4 xs) i ≡ pixels xs (suc i)
unfolding pixels
pixels_drop xs i =
    cc (
      byte_drop xs (4 * i) (4 * suc i) (omega arith),
      byte_drop xs (4 * i + 1) (4 * suc i + 1) (omega arith),
      byte_drop xs (4 * i + 2) (4 * suc i + 2) (omega arith),
      byte_drop xs (4 * i + 3) (4 * suc i + 3) (omega arith),
    )

-- what stands beyond is read as before
pub pixels_beyond : (n : ℕ) (f : Picture) (xs : List ℕ) (i : ℕ) → n ≤ i → pixels (written n f xs) i ≡ pixels xs i
unfolding written
pixels_beyond zero f xs i l = refl
pixels_beyond (suc n) f xs zero l = absurd (not-suc-le-zero l)
pixels_beyond (suc n) f xs (suc i) l =
    pixels_cons (f 0).red (f 0).green (f 0).blue (f 0).alpha (written n (λ j. f (suc j)) (drop 4 xs)) i
    ∙ pixels_beyond n (λ j. f (suc j)) (drop 4 xs) i (le_of_suc-le-suc l)
    ∙ pixels_drop xs i

-- a picture that is the buffer's own beyond n is read back whole
pub pixels_whole : (n : ℕ) (f : Picture) (xs : List ℕ) → ((i : ℕ) → n ≤ i → f i ≡ pixels xs i) → pixels (written n f xs) ≡ f
pixels_whole n f xs h = fun_ext (λ i. go i (ltb i n) refl)
  where
    go : (i : ℕ) (b : Bool) → ltb i n ≡ b → pixels (written n f xs) i ≡ f i
    go i true e = pixels_written n f xs i (ltb-true i n e)
    go i false e = let l = ltb-false i n e in pixels_beyond n f xs i l ∙ sym (h i l)
