-- Pixels given by their index alone: they can be written in any order.
use Rattle.std.proofs.Common.{◌≡◌, ℕ, zero, suc, ◌+◌, ◌-◌, ◌*◌, ◌<◌, ◌≤◌, List, length, sym, refl, ap, ◌∙◌, add-zero, zero-add, arith}
use Rattle.format.specs.declared.Pixel.{Pixel}
use Rattle.format.specs.Picture.{Picture, pixels, written, in_order}
use Rattle.format.proofs.Picture.{written_same, in_order_at}
use Rattle.pixel.specs.Cells.{pixel_cells, put_pixel, run, given}
use Rattle.pixel.proofs.Cells.{pixel_lawful, run_prepend}
use Rattle.pixel.proofs.Front.{pixels_run}

pub given_same : (f g : Picture) (a : ℕ) (xs : List ℕ) (n : ℕ) → ((i : ℕ) → a ≤ i → i < a + n → f i ≡ g i) → run pixel_cells (given f) a n xs ≡ run pixel_cells (given g) a n xs
unfolding run given
given_same f g a xs zero h = refl
given_same f g a xs (suc n) h =
    let r = given_same f g a xs n (λ i l u. h i l (omega arith)) in
    let e = h (a + n) (omega arith) (omega arith) in
    cc

pub given_none : (f : Picture) (a : ℕ) (xs : List ℕ) → xs ≡ run pixel_cells (given f) a 0 xs
unfolding run
given_none f a xs = refl

-- a pixel behind those that are written may be written first
given_after : (f : Picture) (a n : ℕ) (xs : List ℕ) (i : ℕ) (v : Pixel) → a + n ≤ i → run pixel_cells (given f) a n (put_pixel xs i v) ≡ put_pixel (run pixel_cells (given f) a n xs) i v
unfolding run given
given_after f a zero xs i v l = refl
given_after f a (suc n) xs i v l =
    let r = given_after f a n xs i v (omega arith) in
    let c = pixel_lawful.put_comm (run pixel_cells (given f) a n xs) i (a + n) v (f (a + n)) (λ e. omega arith) in
    cc

-- n pixels before m that are there
pub given_before : (f : Picture) (n a m : ℕ) (xs : List ℕ) → run pixel_cells (given f) a n (run pixel_cells (given f) (a + n) m xs) ≡ run pixel_cells (given f) a (n + m) xs
unfolding run given
given_before f zero a m xs = let z = add-zero a in let y = zero-add m in cc
given_before f (suc n) a m xs =
    let s : a + suc n ≡ suc (a + n) = omega arith in
    let t : n + suc m ≡ suc n + m = omega arith in
    let ys = run pixel_cells (given f) (a + suc n) m xs in
    let b : put_pixel ys (a + n) (f (a + n)) ≡ run pixel_cells (given f) (a + n) (suc m) xs =
    ap (λ (k : ℕ). put_pixel (run pixel_cells (given f) k m xs) (a + n) (f (a + n))) s ∙ run_prepend pixel_cells pixel_lawful f (a + n) xs m in
    sym (given_after f a n ys (a + n) (f (a + n)) (omega arith))
    ∙ ap (run pixel_cells (given f) a n) b
    ∙ given_before f n a (suc m) xs
    ∙ ap (λ (k : ℕ). run pixel_cells (given f) a k xs) t

-- parts that lie apart, in either order
pub given_apart : (f : Picture) (a n b m : ℕ) (xs : List ℕ) → a + n ≤ b
    → run pixel_cells (given f) a n (run pixel_cells (given f) b m xs) ≡ run pixel_cells (given f) b m (run pixel_cells (given f) a n xs)
unfolding run given
given_apart f a n b zero xs l = refl
given_apart f a n b (suc m) xs l =
    given_after f a n (run pixel_cells (given f) b m xs) (b + m) (f (b + m)) (omega arith)
    ∙ ap (λ (ys : List ℕ). put_pixel ys (b + m) (f (b + m))) (given_apart f a n b m xs l)

-- rows joined: the part from a up to b before the part from b up to d
pub given_join : (f : Picture) (a b d : ℕ) (xs ys zs : List ℕ) → ys ≡ run pixel_cells (given f) b (d - b) xs → zs ≡ run pixel_cells (given f) a (b - a) ys → a ≤ b → b ≤ d
    → zs ≡ run pixel_cells (given f) a (d - a) xs
given_join f a b d xs ys zs e q l u =
    let i : a + (b - a) ≡ b = omega arith in
    let j : b - a + (d - b) ≡ d - a = omega arith in
    q ∙ rw e (rw (i, j) at (given_before f (b - a) a (d - b) xs))

-- all of a buffer's front
pub given_written : (f : Picture) (n : ℕ) (xs : List ℕ) → 4 * n ≤ length xs → run pixel_cells (given f) 0 n xs ≡ written n f xs
unfolding given
given_written f n xs l = pixels_run (given f) xs n l ∙ written_same n (in_order (given f) n (pixels xs)) f xs (λ i k. in_order_at (given f) (pixels xs) n i k)

pub front_done : (f : Picture) (k n : ℕ) (xs₀ xs : List ℕ) → xs ≡ run pixel_cells (given f) 0 k xs₀ → k ≡ n → 4 * n ≤ length xs₀ → xs ≡ written n f xs₀
front_done f k n xs₀ xs e q l = rw q at e ∙ given_written f n xs₀ l
