-- A run from the front of a buffer, as the definitions of `format` write it: the front replaced, the bytes beyond kept.
use Rattle.std.specs.Prelude.{if◌then◌else◌}
use Rattle.std.proofs.Common.{◌≡◌, ℕ, zero, suc, ◌+◌, ◌*◌, ◌<◌, ◌≤◌, Bool, List, [], ◌∷◌, length, drop, sym, refl, ap, ◌∙◌, le_refl, le_of_suc-le-suc, not-suc-le-zero, zero-add, mul-suc, arith, length-drop, ext_get_or}
use lib.Dec.{eqb-suc-suc}
use Rattle.format.specs.declared.Pixel.{Pixel}
use Rattle.format.specs.Picture.{Picture, byte_at, pixels, written, written_bytes, paint, in_order}
use Rattle.format.proofs.Picture.{written_same, length_written_bytes, byte_at_written_bytes, in_order_kept, paint_at, paint_other}
use Rattle.format.proofs.Written.{written_self}
use Rattle.pixel.specs.Cells.{Cells, Lawful, pixel_cells, put_pixel, Rule, run}
use Rattle.pixel.proofs.Cells.{pixel_lawful, get_run}

-- how the front of a buffer is written, one cell more at a time
pub record Front {P : Type 0} (c : Cells P) (front : ℕ → (ℕ → P) → List ℕ → List ℕ) : Type 0 where
  pub none : (f : ℕ → P) (xs : List ℕ) → front 0 f xs ≡ xs
  pub same : (n : ℕ) (f g : ℕ → P) (xs : List ℕ) → ((i : ℕ) → i < n → f i ≡ g i) → front n f xs ≡ front n g xs
  pub last : (n : ℕ) (f : ℕ → P) (xs : List ℕ) → c.size * suc n ≤ length xs → c.put (front n f xs) n (f n) ≡ front (suc n) f xs

module _ {P : Type 0} (c : Cells P) (ok : Lawful c) (front : ℕ → (ℕ → P) → List ℕ → List ℕ) (fr : Front c front) (h : Rule P) (xs : List ℕ) where
  pub run_front : (n : ℕ) → c.size * n ≤ length xs → run c h 0 n xs ≡ front n (in_order h n (c.get xs)) xs
  unfolding run in_order
  run_front zero l = sym (fr.none (in_order h 0 (c.get xs)) xs)
  run_front (suc n) l =
      let less : c.size * n ≤ length xs = omega (arith, mul-suc c.size n) in
      let g = in_order h (suc n) (c.get xs) in
      let z = zero-add n in
      let r = run_front n less ∙ fr.same n (in_order h n (c.get xs)) g xs (λ i k. sym (in_order_kept h (c.get xs) n (suc n) i (omega arith) k)) in
      let v : h (c.get (run c h 0 n xs)) n ≡ g n = ap (λ (f : ℕ → P). h f n) (get_run c ok h xs n less) ∙ sym (paint_at (in_order h n (c.get xs)) n (h (in_order h n (c.get xs)) n)) in
      let s : c.put (run c h 0 n xs) (0 + n) (h (c.get (run c h 0 n xs)) (0 + n)) ≡ c.put (front n g xs) n (g n) = cc in
      s ∙ fr.last n g xs l

-- bytes that are known one by one
pub bytes_are : (xs ys : List ℕ) (f : ℕ → ℕ) → length ys ≡ length xs → ((i : ℕ) → i < length xs → byte_at ys i ≡ f i) → ys ≡ written_bytes (length xs) f xs
bytes_are xs ys f l h =
    let m = length_written_bytes (length xs) f xs (le_refl (length xs)) in
    ext_get_or 0 ys (written_bytes (length xs) f xs) (l ∙ sym m) (λ i k. h i (omega arith) ∙ sym (byte_at_written_bytes (length xs) f xs i (omega arith)))

-- pixels

put_pixel_cons : (a b c d : ℕ) (xs : List ℕ) (i : ℕ) (v : Pixel) → put_pixel (a ∷ b ∷ c ∷ d ∷ xs) (suc i) v ≡ a ∷ b ∷ c ∷ d ∷ put_pixel xs i v
unfolding put_pixel
put_pixel_cons a b c d xs i v =
    let e : 4 * suc i ≡ suc (suc (suc (suc (4 * i)))) = omega arith in
    let e1 : 4 * suc i + 1 ≡ suc (suc (suc (suc (4 * i + 1)))) = omega arith in
    let e2 : 4 * suc i + 2 ≡ suc (suc (suc (suc (4 * i + 2)))) = omega arith in
    let e3 : 4 * suc i + 3 ≡ suc (suc (suc (suc (4 * i + 3)))) = omega arith in
    rw (e3, e2, e1, e)

-- a buffer that is too short
short : {A : Type 0} (k : ℕ) → k < 4 → 4 * 1 ≤ k → A
short k l h = let z : ◌≡◌ {A = ℕ} 0 1 = omega arith in absurd (omega arith)

written_last : (n : ℕ) (f : Picture) (xs : List ℕ) → 4 * suc n ≤ length xs → put_pixel (written n f xs) n (f n) ≡ written (suc n) f xs
unfolding written put_pixel
written_last zero f [] l = short 0 (omega arith) l
written_last zero f (a ∷ []) l = short 1 (omega arith) l
written_last zero f (a ∷ b ∷ []) l = short 2 (omega arith) l
written_last zero f (a ∷ b ∷ c ∷ []) l = short 3 (omega arith) l
written_last zero f (a ∷ b ∷ c ∷ d ∷ xs) l = refl
written_last (suc n) f xs l =
    put_pixel_cons (f 0).red (f 0).green (f 0).blue (f 0).alpha (written n (λ j. f (suc j)) (drop 4 xs)) n (f (suc n))
    ∙ cc (written_last n (λ j. f (suc j)) (drop 4 xs) (rw (length-drop 4 xs) (omega arith)))

pub pixel_front : Front pixel_cells written
unfolding written
pixel_front = record {
  none = λ f xs. refl;
  same = λ n f g xs e. written_same n f g xs e;
  last = λ n f xs l. written_last n f xs l;
}

-- for code

pub pixels_run : (h : Rule Pixel) (xs : List ℕ) (n : ℕ) → 4 * n ≤ length xs → run pixel_cells h 0 n xs ≡ written n (in_order h n (pixels xs)) xs
pixels_run h xs n l = run_front pixel_cells pixel_lawful written pixel_front h xs n l

-- one pixel of the front replaced
pub put_written : (n : ℕ) (f : Picture) (xs : List ℕ) (i : ℕ) (v : Pixel) → i < n → put_pixel (written n f xs) i v ≡ written n (paint f i v) xs
unfolding written put_pixel
put_written zero f xs i v l = absurd (not-suc-le-zero l)
put_written (suc n) f xs zero v l =
    cc (written_same n (λ j. f (suc j)) (λ j. paint f 0 v (suc j)) (drop 4 xs) (λ j k. sym (paint_other f 0 v (suc j) (λ e. omega arith))))
put_written (suc n) f xs (suc i) v l =
    put_pixel_cons (f 0).red (f 0).green (f 0).blue (f 0).alpha (written n (λ j. f (suc j)) (drop 4 xs)) i v
    ∙ cc (
      put_written n (λ j. f (suc j)) (drop 4 xs) i v (le_of_suc-le-suc l),
      written_same n (paint (λ j. f (suc j)) i v) (λ j. paint f (suc i) v (suc j)) (drop 4 xs) (λ j k. ap (λ (b : Bool). if b then v else f (suc j)) (sym (eqb-suc-suc j i))),
      paint_other f (suc i) v 0 (λ e. omega arith),
    )

pub put_painted : (n : ℕ) (xs : List ℕ) (i : ℕ) (v : Pixel) → 4 * n ≤ length xs → i < n → put_pixel xs i v ≡ written n (paint (pixels xs) i v) xs
put_painted n xs i v l u = ap (λ (ys : List ℕ). put_pixel ys i v) (sym (written_self n xs l)) ∙ put_written n (pixels xs) xs i v u
