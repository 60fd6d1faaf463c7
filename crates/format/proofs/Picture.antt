-- Laws of the bytes at a buffer's front, and of items replaced in order.
use mathlib.Core.List.{List, [], ◌∷◌}
use mathlib.Core.Path.{◌≡◌, refl, ap, ◌∙◌}
use Prim.Native.Nat.{ℕ, zero, suc, ◌+◌, ◌-◌, ◌<◌, ◌≤◌}
use native.Mathlib.Nat.{not-suc-le-zero, le_of_suc-le-suc, zero-add}
use native.Mathlib.Omega.{arith}
use borrow.Author.Tests.{eq-eqb, ne_eqb}
use lib.ListN.{length, drop, set, length-drop}
use lib.Seq.{drop-drop}
use Rattle.format.specs.Picture.{Picture, byte_at, written, written_bytes, paint, in_order}

-- items replaced in order

pub paint_at : {P : Type 0} (f : ℕ → P) (p : ℕ) (v : P) → paint f p v p ≡ v
paint_at f p v = rw (eq-eqb p p refl)

pub paint_other : {P : Type 0} (f : ℕ → P) (p : ℕ) (v : P) (q : ℕ) → (q ≡ p → ⊥) → paint f p v q ≡ f q
paint_other f p v q n = rw (ne_eqb q p n)

module _ {P : Type 0} (rule : (ℕ → P) → ℕ → P) where
  -- items not yet reached
  pub in_order_ahead : (g : ℕ → P) (k q : ℕ) → k ≤ q → in_order rule k g q ≡ g q
  unfolding in_order
  in_order_ahead g zero q l = refl
  in_order_ahead g (suc k) q l = paint_other (in_order rule k g) k (rule (in_order rule k g) k) q (λ e. omega arith) ∙ in_order_ahead g k q (omega arith)

  -- items behind stay
  pub in_order_behind : (g : ℕ → P) (d k q : ℕ) → q < k → in_order rule (d + k) g q ≡ in_order rule k g q
  unfolding in_order
  in_order_behind g zero k q l = ap (λ (n : ℕ). in_order rule n g q) (zero-add k)
  in_order_behind g (suc d) k q l =
      let e : suc d + k ≡ suc (d + k) = omega arith in
      ap (λ (n : ℕ). in_order rule n g q) e
      ∙ paint_other (in_order rule (d + k) g) (d + k) (rule (in_order rule (d + k) g) (d + k)) q (λ z. omega arith)
      ∙ in_order_behind g d k q l

  pub in_order_kept : (g : ℕ → P) (k n q : ℕ) → k ≤ n → q < k → in_order rule n g q ≡ in_order rule k g q
  in_order_kept g k n q l m =
      let e : n ≡ (n - k) + k = omega arith in
      ap (λ (j : ℕ). in_order rule j g q) e ∙ in_order_behind g (n - k) k q m

  -- an item of the whole is what the rule gave when its turn came
  pub in_order_at : (g : ℕ → P) (n q : ℕ) → q < n → in_order rule n g q ≡ rule (in_order rule q g) q
  unfolding in_order
  in_order_at g n q l = in_order_kept g (suc q) n q l (omega arith) ∙ paint_at (in_order rule q g) q (rule (in_order rule q g) q)

-- the front of a buffer, byte by byte

pub length_written_bytes : (n : ℕ) (f : ℕ → ℕ) (xs : List ℕ) → n ≤ length xs → length (written_bytes n f xs) ≡ length xs
unfolding written_bytes
length_written_bytes zero f xs l = refl
length_written_bytes (suc n) f xs l =
    omega (arith, length-drop 1 xs, length_written_bytes n (λ i. f (suc i)) (drop 1 xs) (rw (length-drop 1 xs) (omega arith)))

pub byte_at_written_bytes : (n : ℕ) (f : ℕ → ℕ) (xs : List ℕ) (i : ℕ) → i < n → byte_at (written_bytes n f xs) i ≡ f i
unfolding written_bytes
byte_at_written_bytes zero f xs i l = absurd (not-suc-le-zero l)
byte_at_written_bytes (suc n) f xs zero l = refl
byte_at_written_bytes (suc n) f xs (suc i) l = byte_at_written_bytes n (λ j. f (suc j)) (drop 1 xs) i (le_of_suc-le-suc l)

pub drop_written_bytes : (n : ℕ) (f : ℕ → ℕ) (xs : List ℕ) → drop n (written_bytes n f xs) ≡ drop n xs
unfolding written_bytes
drop_written_bytes zero f xs = refl
drop_written_bytes (suc n) f xs =
    let s : 1 + n ≡ suc n = omega arith in
    drop_written_bytes n (λ i. f (suc i)) (drop 1 xs) ∙ drop-drop n 1 xs ∙ ap (λ (k : ℕ). drop k xs) s

pub written_bytes_same : (n : ℕ) (f g : ℕ → ℕ) (xs : List ℕ) → ((i : ℕ) → i < n → f i ≡ g i) → written_bytes n f xs ≡ written_bytes n g xs
unfolding written_bytes
written_bytes_same zero f g xs h = refl
written_bytes_same (suc n) f g xs h =
    cc (h 0 (omega arith), written_bytes_same n (λ i. f (suc i)) (λ i. g (suc i)) (drop 1 xs) (λ i l. h (suc i) (omega arith)))

-- one byte more
pub written_bytes_more : (n : ℕ) (f : ℕ → ℕ) (xs : List ℕ) → n < length xs → set (written_bytes n f xs) n (f n) ≡ written_bytes (suc n) f xs
unfolding written_bytes
written_bytes_more zero f [] l = absurd (not-suc-le-zero l)
written_bytes_more zero f (x ∷ xs) l = refl
written_bytes_more (suc n) f xs l =
    ap (λ (ys : List ℕ). f 0 ∷ ys) (written_bytes_more n (λ i. f (suc i)) (drop 1 xs) (rw (length-drop 1 xs) (omega arith)))

-- pixel by pixel

pub written_same : (n : ℕ) (f g : Picture) (xs : List ℕ) → ((i : ℕ) → i < n → f i ≡ g i) → written n f xs ≡ written n g xs
unfolding written
written_same zero f g xs h = refl
written_same (suc n) f g xs h =
    cc (h 0 (omega arith), written_same n (λ j. f (suc j)) (λ j. g (suc j)) (drop 4 xs) (λ i l. h (suc i) (omega arith)))
