-- Laws of cells replaced in order, over bytes and pixels alike.
use Rattle.std.proofs.Common.{◌≡◌, ℕ, zero, suc, ◌+◌, ◌-◌, ◌*◌, ◌<◌, ◌≤◌, List, length, set, sym, refl, ap, ◌∙◌, add-zero, add_assoc, add-suc, zero-add, mul-suc, arith, length-set, get_or-set_other, get_or-set_same, eq-eqb, ne_eqb}
use mathlib.Core.Path.{fun_ext}
use native.Mathlib.Decide.{ℕ_discrete}
use lib.Seq.{set_comm, set-get_or}
use Rattle.format.specs.declared.Pixel.{Pixel}
use Rattle.format.specs.Pixel.{pixel}
use Rattle.format.specs.Picture.{byte_at, pixels, paint, in_order}
use Rattle.pixel.specs.Cells.{Cells, Lawful, byte_cells, pixel_cells, put_pixel, Rule, run}

-- one cell replaced

pub byte_lawful : Lawful byte_cells
byte_lawful = record {
  length_put = length-set;
  get_other = λ xs i j v n. get_or-set_other xs i j v 0 n;
  get_same = λ xs i v h. get_or-set_same xs i v 0 (omega arith);
  put_comm = λ xs i j u v n. set_comm xs i j u v n;
}

-- the stores of pixel i, one after another
module _ (xs : List ℕ) (i : ℕ) (v : Pixel) where
  abbrev one : List ℕ
  one = set xs (4 * i) v.red

  abbrev two : List ℕ
  two = set one (4 * i + 1) v.green

  abbrev three : List ℕ
  three = set two (4 * i + 2) v.blue

  pub length_put_pixel : length (put_pixel xs i v) ≡ length xs
  unfolding put_pixel
  length_put_pixel = simp length-set

  pub byte_other : (j : ℕ) → (j ≡ 4 * i → ⊥) → (j ≡ 4 * i + 1 → ⊥) → (j ≡ 4 * i + 2 → ⊥) → (j ≡ 4 * i + 3 → ⊥) → byte_at (put_pixel xs i v) j ≡ byte_at xs j
  unfolding put_pixel
  byte_other j a b c d =
      get_or-set_other three (4 * i + 3) j v.alpha 0 d ∙ get_or-set_other two (4 * i + 2) j v.blue 0 c
      ∙ get_or-set_other one (4 * i + 1) j v.green 0 b
      ∙ get_or-set_other xs (4 * i) j v.red 0 a

  apart : (j a b : ℕ) → (j ≡ i → ⊥) → a < 4 → b < 4 → 4 * j + a ≡ 4 * i + b → ⊥
  apart j a b n la lb e = n (omega arith)

  apart_0 : (j b : ℕ) → (j ≡ i → ⊥) → b < 4 → 4 * j ≡ 4 * i + b → ⊥
  apart_0 j b n lb e = n (omega arith)

  apart_to_0 : (j a : ℕ) → (j ≡ i → ⊥) → a < 4 → 4 * j + a ≡ 4 * i → ⊥
  apart_to_0 j a n la e = n (omega arith)

  apart_both : (j : ℕ) → (j ≡ i → ⊥) → 4 * j ≡ 4 * i → ⊥
  apart_both j n e = n (omega arith)

  byte_apart : (j a : ℕ) → (j ≡ i → ⊥) → a < 4 → byte_at (put_pixel xs i v) (4 * j + a) ≡ byte_at xs (4 * j + a)
  byte_apart j a n l =
      byte_other (4 * j + a) (apart_to_0 j a n l) (apart j a 1 n l (omega arith)) (apart j a 2 n l (omega arith)) (apart j a 3 n l (omega arith))

  pub pixel_other : (j : ℕ) → (j ≡ i → ⊥) → pixels (put_pixel xs i v) j ≡ pixels xs j
  unfolding pixels
  pixel_other j n =
      let a = byte_other (4 * j) (apart_both j n) (apart_0 j 1 n (omega arith)) (apart_0 j 2 n (omega arith)) (apart_0 j 3 n (omega arith)) in
      let b = byte_apart j 1 n (omega arith) in
      let c = byte_apart j 2 n (omega arith) in
      let d = byte_apart j 3 n (omega arith) in
      cc

  pub pixel_same : 4 * i + 4 ≤ length xs → pixels (put_pixel xs i v) i ≡ v
  unfolding pixels put_pixel
  pixel_same h =
      let l1 : length one ≡ length xs = length-set xs (4 * i) v.red in
      let l2 : length two ≡ length one = length-set one (4 * i + 1) v.green in
      let l3 : length three ≡ length two = length-set two (4 * i + 2) v.blue in
      let ne : (a b : ℕ) → a < b → 4 * i + a ≡ 4 * i + b → ⊥ = λ a b l e. omega arith in
      let n0 : (b : ℕ) → 0 < b → 4 * i ≡ 4 * i + b → ⊥ = λ b l e. omega arith in
      let r : byte_at (set three (4 * i + 3) v.alpha) (4 * i) ≡ v.red =
      get_or-set_other three (4 * i + 3) (4 * i) v.alpha 0 (n0 3 (omega arith)) ∙ get_or-set_other two (4 * i + 2) (4 * i) v.blue 0 (n0 2 (omega arith))
      ∙ get_or-set_other one (4 * i + 1) (4 * i) v.green 0 (n0 1 (omega arith))
      ∙ get_or-set_same xs (4 * i) v.red 0 (omega arith) in
      let g : byte_at (set three (4 * i + 3) v.alpha) (4 * i + 1) ≡ v.green =
      get_or-set_other three (4 * i + 3) (4 * i + 1) v.alpha 0 (ne 1 3 (omega arith)) ∙ get_or-set_other two (4 * i + 2) (4 * i + 1) v.blue 0 (ne 1 2 (omega arith))
      ∙ get_or-set_same one (4 * i + 1) v.green 0 (omega arith) in
      let b : byte_at (set three (4 * i + 3) v.alpha) (4 * i + 2) ≡ v.blue =
      get_or-set_other three (4 * i + 3) (4 * i + 2) v.alpha 0 (ne 2 3 (omega arith)) ∙ get_or-set_same two (4 * i + 2) v.blue 0 (omega arith) in
      let a : byte_at (set three (4 * i + 3) v.alpha) (4 * i + 3) ≡ v.alpha = get_or-set_same three (4 * i + 3) v.alpha 0 (omega arith) in
      λ k. pixel (r k) (g k) (b k) (a k)

-- a store outside pixel i, before or after the pixel's
set_put : (xs : List ℕ) (i : ℕ) (v : Pixel) (m x : ℕ) → (4 * i ≡ m → ⊥) → (4 * i + 1 ≡ m → ⊥) → (4 * i + 2 ≡ m → ⊥) → (4 * i + 3 ≡ m → ⊥)
    → set (put_pixel xs i v) m x ≡ put_pixel (set xs m x) i v
unfolding put_pixel
set_put xs i v m x a b c d =
    let s3 = set_comm (three xs i v) (4 * i + 3) m v.alpha x d in
    let s2 = set_comm (two xs i v) (4 * i + 2) m v.blue x c in
    let s1 = set_comm (one xs i v) (4 * i + 1) m v.green x b in
    let s0 = set_comm xs (4 * i) m v.red x a in
    s3 ∙ cc

put_comm_pixel : (xs : List ℕ) (i j : ℕ) (u v : Pixel) → (i ≡ j → ⊥) → put_pixel (put_pixel xs i u) j v ≡ put_pixel (put_pixel xs j v) i u
put_comm_pixel xs i j u v n =
    let x1 = set xs (4 * j) v.red in
    let x2 = set x1 (4 * j + 1) v.green in
    let x3 = set x2 (4 * j + 2) v.blue in
    let s0 = set_put xs i u (4 * j) v.red (λ e. n (omega arith)) (λ e. n (omega arith)) (λ e. n (omega arith)) (λ e. n (omega arith)) in
    let s1 = set_put x1 i u (4 * j + 1) v.green (λ e. n (omega arith)) (λ e. n (omega arith)) (λ e. n (omega arith)) (λ e. n (omega arith)) in
    let s2 = set_put x2 i u (4 * j + 2) v.blue (λ e. n (omega arith)) (λ e. n (omega arith)) (λ e. n (omega arith)) (λ e. n (omega arith)) in
    let s3 = set_put x3 i u (4 * j + 3) v.alpha (λ e. n (omega arith)) (λ e. n (omega arith)) (λ e. n (omega arith)) (λ e. n (omega arith)) in
    four (put_pixel xs i u) s0 s1 s2 s3
  where
    four : (ys : List ℕ) → set ys (4 * j) v.red ≡ put_pixel (set xs (4 * j) v.red) i u
        → set (put_pixel (set xs (4 * j) v.red) i u) (4 * j + 1) v.green ≡ put_pixel (set (set xs (4 * j) v.red) (4 * j + 1) v.green) i u
        → set (put_pixel (set (set xs (4 * j) v.red) (4 * j + 1) v.green) i u) (4 * j + 2) v.blue ≡ put_pixel (three xs j v) i u
        → set (put_pixel (three xs j v) i u) (4 * j + 3) v.alpha ≡ put_pixel (set (three xs j v) (4 * j + 3) v.alpha) i u
        → put_pixel ys j v ≡ put_pixel (put_pixel xs j v) i u
    four ys s0 s1 s2 s3 = unfold put_pixel in cc

-- a pixel put where it stands
pub put_same : (xs : List ℕ) (i : ℕ) → put_pixel xs i (pixels xs i) ≡ xs
unfolding put_pixel pixels
put_same xs i =
    let r = set-get_or xs (4 * i) 0 in
    let g = set-get_or xs (4 * i + 1) 0 in
    let b = set-get_or xs (4 * i + 2) 0 in
    let a = set-get_or xs (4 * i + 3) 0 in
    rw (r, g, b, a)

pub pixel_lawful : Lawful pixel_cells
pixel_lawful = record { length_put = length_put_pixel; get_other = λ xs i j v n. pixel_other xs i v j n; get_same = λ xs i v h. pixel_same xs i v h; put_comm = put_comm_pixel }

-- a loop over i from a up to b

module _ {P : Type 0} where
  pub run_none : (c : Cells P) (h : Rule P) (a : ℕ) (xs : List ℕ) → xs ≡ run c h a (a - a) xs
  unfolding run
  run_none c h a xs = let z : a - a ≡ 0 = omega arith in rw z

  pub run_more : (c : Cells P) (h : Rule P) (a i : ℕ) (xs₀ xs : List ℕ) (v : P) → a ≤ i → xs ≡ run c h a (i - a) xs₀ → v ≡ h (c.get xs) i
      → c.put xs i v ≡ run c h a (i + 1 - a) xs₀
  unfolding run
  run_more c h a i xs₀ xs v l e q =
      let k : suc (i - a) ≡ i + 1 - a = omega arith in
      let j : a + (i - a) ≡ i = omega arith in
      let s : c.put xs i v ≡ c.put (run c h a (i - a) xs₀) (a + (i - a)) (h (c.get (run c h a (i - a) xs₀)) (a + (i - a))) = cc in
      s ∙ ap (λ (m : ℕ). run c h a m xs₀) k

  pub run_done : (c : Cells P) (h : Rule P) (a i b : ℕ) (xs₀ xs : List ℕ) → i ≤ b → b ≤ i → xs ≡ run c h a (i - a) xs₀ → xs ≡ run c h a (b - a) xs₀
  run_done c h a i b xs₀ xs l k e = let q : i ≡ b = omega arith in rw q at e

  -- n cells, and m more
  pub run_append : (c : Cells P) (h : Rule P) (a : ℕ) (xs : List ℕ) (n m : ℕ) → run c h (a + n) m (run c h a n xs) ≡ run c h a (n + m) xs
  unfolding run
  run_append c h a xs n zero = rw add-zero
  run_append c h a xs n (suc m) =
      let r = run_append c h a xs n m in
      let j = add_assoc a n m in
      let s : c.put (run c h (a + n) m (run c h a n xs)) (a + n + m) (h (c.get (run c h (a + n) m (run c h a n xs))) (a + n + m))
      ≡ c.put (run c h a (n + m) xs) (a + (n + m)) (h (c.get (run c h a (n + m) xs)) (a + (n + m))) = cc in
      s ∙ ap (λ (k : ℕ). run c h a k xs) (sym (add-suc n m))

  -- one part after another
  pub run_next : (c : Cells P) (h : Rule P) (a b d : ℕ) (xs ys zs : List ℕ) → a ≤ b → b ≤ d → ys ≡ run c h a (b - a) xs → zs ≡ run c h b (d - b) ys
      → zs ≡ run c h a (d - a) xs
  run_next c h a b d xs ys zs l k e q =
      let i : a + (b - a) ≡ b = omega arith in
      let j : b - a + (d - b) ≡ d - a = omega arith in
      q ∙ rw e (rw (i, j) at (run_append c h a xs (b - a) (d - b)))

  -- what stays, and what is read

  module _ (c : Cells P) (ok : Lawful c) (h : Rule P) (a : ℕ) (xs : List ℕ) where
    pub length_run : (n : ℕ) → length (run c h a n xs) ≡ length xs
    unfolding run
    length_run zero = refl
    length_run (suc n) = ok.length_put (run c h a n xs) (a + n) (h (c.get (run c h a n xs)) (a + n)) ∙ length_run n

    pub run_before : (n i : ℕ) → i < a → c.get (run c h a n xs) i ≡ c.get xs i
    unfolding run
    run_before zero i l = refl
    run_before (suc n) i l = ok.get_other (run c h a n xs) (a + n) i (h (c.get (run c h a n xs)) (a + n)) (λ e. omega arith) ∙ run_before n i l

    pub run_after : (n i : ℕ) → a + n ≤ i → c.get (run c h a n xs) i ≡ c.get xs i
    unfolding run
    run_after zero i l = refl
    run_after (suc n) i l = ok.get_other (run c h a n xs) (a + n) i (h (c.get (run c h a n xs)) (a + n)) (λ e. omega arith) ∙ run_after n i (omega arith)

  -- a cell that was replaced is what the rule gave when its turn came
  pub run_at : (c : Cells P) → Lawful c → (h : Rule P) (a : ℕ) (xs : List ℕ) (n q : ℕ) → a ≤ q → q < a + n → c.size * q + c.size ≤ length xs
      → c.get (run c h a n xs) q ≡ h (c.get (run c h a (q - a) xs)) q
  unfolding run
  run_at c ok h a xs zero q l u f = absurd (no l u)
    where
      no : a ≤ q → q < a + 0 → ⊥
      no l u = omega arith
  run_at c ok h a xs (suc n) q l u f = go (ℕ_discrete q (a + n)) (λ k. run_at c ok h a xs n q l k f)
    where
      go : Dec (q ≡ a + n) → (q < a + n → c.get (run c h a n xs) q ≡ h (c.get (run c h a (q - a) xs)) q)
          → c.get (c.put (run c h a n xs) (a + n) (h (c.get (run c h a n xs)) (a + n))) q ≡ h (c.get (run c h a (q - a) xs)) q
      go (yes e) ih =
          let k : q - a ≡ n = omega arith in
          rw (k, e) (ok.get_same (run c h a n xs) (a + n) (h (c.get (run c h a n xs)) (a + n)) (rw (← e, length_run c ok h a xs n) f))
      go (no d) ih = ok.get_other (run c h a n xs) (a + n) q (h (c.get (run c h a n xs)) (a + n)) d ∙ ih (omega arith)

  -- the cells of the first m stay while the others are replaced
  pub run_kept : (c : Cells P) → Lawful c → (h : Rule P) (a : ℕ) (xs : List ℕ) (m n j : ℕ) → m ≤ n → j < a + m → c.get (run c h a n xs) j ≡ c.get (run c h a m xs) j
  run_kept c ok h a xs m n j l u =
      let e : m + (n - m) ≡ n = omega arith in
      ap (λ (k : ℕ). c.get (run c h a k xs) j) (sym e)
      ∙ ap (λ (ys : List ℕ). c.get ys j) (sym (run_append c h a xs m (n - m)))
      ∙ run_before c ok h (a + m) (run c h a m xs) (n - m) j u

  -- cells given by their index alone can be replaced back to front
  pub run_prepend : (c : Cells P) → Lawful c → (f : ℕ → P) (a : ℕ) (xs : List ℕ) (n : ℕ)
      → c.put (run c (λ p i. f i) (suc a) n xs) a (f a) ≡ run c (λ p i. f i) a (suc n) xs
  unfolding run
  run_prepend c ok f a xs zero = let z = add-zero a in cc
  run_prepend c ok f a xs (suc n) =
      let r = run_prepend c ok f a xs n in
      let e : suc a + n ≡ a + suc n = omega arith in
      ok.put_comm (run c (λ p i. f i) (suc a) n xs) (suc a + n) a (f (suc a + n)) (f a) (λ q. omega arith) ∙ cc

  -- two rules that agree on the cells from a, over every buffer that is the given one before a and from the cell on
  pub run_same : (c : Cells P) → Lawful c → (h k : Rule P) (a : ℕ) (xs : List ℕ) (n : ℕ)
      → ((i : ℕ) → a ≤ i → i < a + n → (ys : List ℕ) → ((j : ℕ) → j < a → c.get ys j ≡ c.get xs j) → ((j : ℕ) → i ≤ j → c.get ys j ≡ c.get xs j)
      → h (c.get ys) i ≡ k (c.get ys) i)
      → run c h a n xs ≡ run c k a n xs
  unfolding run
  run_same c ok h k a xs zero e = refl
  run_same c ok h k a xs (suc n) e =
      let r : run c h a n xs ≡ run c k a n xs = run_same c ok h k a xs n (λ i l u. e i l (omega arith)) in
      let q = e (a + n) (omega arith) (omega arith) (run c k a n xs) (run_before c ok k a xs n) (λ j. run_after c ok k a xs n j) in
      cc

  -- the cells of the buffer, in place of its bytes

  get_paint : (c : Cells P) → Lawful c → (xs : List ℕ) (i : ℕ) (v : P) → c.size * i + c.size ≤ length xs → c.get (c.put xs i v) ≡ paint (c.get xs) i v
  get_paint c ok xs i v h = fun_ext (λ q. go q (ℕ_discrete q i))
    where
      go : (q : ℕ) → Dec (q ≡ i) → c.get (c.put xs i v) q ≡ paint (c.get xs) i v q
      go q (yes e) = rw (eq-eqb q i e, e) (ok.get_same xs i v h)
      go q (no n) = rw (ne_eqb q i n) (ok.get_other xs i q v n)

  -- the cells after a run from the front: the rule in order
  pub get_run : (c : Cells P) → Lawful c → (h : Rule P) (xs : List ℕ) (n : ℕ) → c.size * n ≤ length xs → c.get (run c h 0 n xs) ≡ in_order h n (c.get xs)
  unfolding run in_order
  get_run c ok h xs zero l = refl
  get_run c ok h xs (suc n) l =
      let r = get_run c ok h xs n (omega (arith, mul-suc c.size n)) in
      let z = zero-add n in
      let p = get_paint c ok (run c h 0 n xs) (0 + n) (h (c.get (run c h 0 n xs)) (0 + n)) (rw (z, length_run c ok h 0 xs n) (omega (arith, mul-suc c.size n))) in
      p ∙ cc
