-- Laws of the report: each pixel belongs to one counter, and counters that were written are read back.
use mathlib.Core.Bool.{Bool, true, false, not, true≢false}
use mathlib.Core.List.{List}
use mathlib.Core.Path.{◌≡◌, refl, sym, ap, ◌∙◌}
use Prim.Native.Nat.{ℕ, zero, suc, ◌+◌, ◌*◌, ◌/◌, ◌%◌, ◌^◌, ◌<◌, ◌≤◌}
use native.Mathlib.Nat.{zero-add, div-one, mul_comm, pow-succ', div-div-eq-div-mul}
use native.Mathlib.Decide.{ℕ_discrete, dec_lt}
use native.Mathlib.Omega.{arith}
use borrow.Author.Tests.{eq-eqb, ne_eqb, lt-ltb, le-ltb, not-true, not-false}
use lib.Dec.{eqb}
use lib.ListN.{length, drop}
use Rattle.format.specs.Choice.{bit, every}
use Rattle.format.specs.Indices.{how_many}
use Rattle.format.specs.declared.Pixel.{Pixel}
use Rattle.format.specs.Pixel.{equal}
use Rattle.format.specs.Picture.{Picture, byte_at}
use Rattle.format.specs.ColorTable.{index_of}
use Rattle.format.specs.Report.{pixels_of, pixels_of_none, added, distinct, counter, counter_byte, written_counters, sum}
use Rattle.format.proofs.Choice.{every_at, every_all, not_every}
use Rattle.format.proofs.Indices.{how_many_same}
use Rattle.format.proofs.Picture.{length_written_bytes, byte_at_written_bytes, drop_written_bytes, written_bytes_same}
use Rattle.format.proofs.Pixels.{equal_true, equal_refl}
use Rattle.format.proofs.ColorTable.{index_most, index_hit, index_least}

unequal : (u v : Pixel) → not (equal u v) ≡ true → u ≡ v → ⊥
unequal u v n q = true≢false (sym (rw q (equal_refl v)) ∙ not-true (equal u v) n)

module _ (m : ℕ) (e : Picture) where
  -- where no color is listed twice, the one at k is found at k
  pub index_own : distinct m e ≡ true → (k : ℕ) → k < m → index_of m e (e k) ≡ k
  unfolding distinct
  index_own d k l = go (ℕ_discrete (index_of m e (e k)) k) (index_least m e (e k) k l refl)
    where
      before : index_of m e (e k) < k → not (equal (e (index_of m e (e k))) (e k)) ≡ true
      before s = every_at k (λ j. not (equal (e j) (e k))) (index_of m e (e k)) s (every_at m (λ i. every i (λ j. not (equal (e j) (e i)))) k l d)

      go : Dec (index_of m e (e k) ≡ k) → index_of m e (e k) ≤ k → index_of m e (e k) ≡ k
      go (yes q) h = q
      go (no q) h = absurd (unequal (e (index_of m e (e k))) (e k) (before (omega arith)) (index_hit m e (e k) (omega arith)))

  -- and only then
  pub own_distinct : ((k : ℕ) → k < m → index_of m e (e k) ≡ k) → distinct m e ≡ true
  unfolding distinct
  own_distinct h = every_all m (λ k. every k (λ j. not (equal (e j) (e k)))) (λ k l. every_all k (λ j. not (equal (e j) (e k))) (λ j b. apart k l j b (equal (e j) (e k)) refl))
    where
      apart : (k : ℕ) → k < m → (j : ℕ) → j < k → (b : Bool) → equal (e j) (e k) ≡ b → not b ≡ true
      apart k l j b false q = refl
      apart k l j b true q =
          let a = index_least m e (e k) j (omega arith) (equal_true (e j) (e k) q) in
          let o = h k l in
          absurd (omega arith)

  -- a pixel is counted by counter k exactly if its color is found at k: at the color's own place, or past the last
  module _ (d : distinct m e ≡ true) (v : Pixel) where
    of-color : (k : ℕ) → k < m → equal v (e k) ≡ eqb (index_of m e v) k
    of-color k l = go (equal v (e k)) refl (ℕ_discrete (index_of m e v) k)
      where
        go : (b : Bool) → equal v (e k) ≡ b → Dec (index_of m e v ≡ k) → b ≡ eqb (index_of m e v) k
        go true q c = sym (eq-eqb (index_of m e v) k (ap (index_of m e) (equal_true v (e k) q) ∙ index_own d k l))
        go false q (no n) = sym (ne_eqb (index_of m e v) k n)
        go false q (yes p) =
            let u : e k ≡ v = rw p at (index_hit m e v (rw p l)) in
            absurd (true≢false (sym (rw u (equal_refl v)) ∙ q))

    of_none : every m (λ k. not (equal v (e k))) ≡ eqb (index_of m e v) m
    of_none = go (every m (λ k. not (equal v (e k)))) refl (ℕ_discrete (index_of m e v) m) (index_most m e v)
      where
        go : (b : Bool) → every m (λ k. not (equal v (e k))) ≡ b → Dec (index_of m e v ≡ m) → index_of m e v ≤ m → b ≡ eqb (index_of m e v) m
        go true q (yes p) l = sym (eq-eqb (index_of m e v) m p)
        go true q (no n) l =
            let s : index_of m e v < m = omega arith in
            absurd (unequal v (e (index_of m e v)) (every_at m (λ k. not (equal v (e k))) (index_of m e v) s q) (sym (index_hit m e v s)))
        go false q c l =
            let s = not_every m (λ k. not (equal v (e k))) q in
            let a = index_least m e v s.0 s.1 (sym (equal_true v (e s.0) (not-false (equal v (e s.0)) s.2))) in
            let b = s.1 in
            sym (ne_eqb (index_of m e v) m (λ p. omega arith))

  -- what a picture adds to counter k is how many of its pixels are found at k
  pub added_found : distinct m e ≡ true → (n : ℕ) (f : Picture) (k : ℕ) → k ≤ m → added m e n f k ≡ how_many n (λ q. eqb (index_of m e (f q)) k)
  unfolding added pixels_of pixels_of_none
  added_found d n f k l = go (dec_lt k m)
    where
      go : Dec (k < m) → added m e n f k ≡ how_many n (λ q. eqb (index_of m e (f q)) k)
      go (yes b) = rw (lt-ltb k m b) (how_many_same n _ _ (λ q i. of-color d (f q) k b))
      go (no b) =
          let p : k ≡ m = omega arith in
          rw (p, le-ltb m m (omega arith)) (how_many_same n _ _ (λ q i. of_none d (f q)))

-- sums

pub sum_same : (n : ℕ) (g h : ℕ → ℕ) → ((k : ℕ) → k < n → g k ≡ h k) → sum n g ≡ sum n h
sum_same zero g h s = refl
sum_same (suc n) g h s = cc (s n (omega arith), sum_same n g h (λ k l. s k (omega arith)))

pub sum_plus : (n : ℕ) (g h : ℕ → ℕ) → sum n (λ k. g k + h k) ≡ sum n g + sum n h
sum_plus zero g h = refl
sum_plus (suc n) g h = omega (arith, sum_plus n g h)

sum_zero : (n : ℕ) → sum n (λ k. 0) ≡ 0
sum_zero zero = refl
sum_zero (suc n) = omega (arith, sum_zero n)

-- one number below n is c
sum_one : (n c : ℕ) → c < n → sum n (λ k. bit (eqb c k)) ≡ 1
sum_one zero c l = absurd (omega arith)
sum_one (suc n) c l = go (ℕ_discrete c n) (sum_one n c)
  where
    go : Dec (c ≡ n) → (c < n → sum n (λ k. bit (eqb c k)) ≡ 1) → bit (eqb c n) + sum n (λ k. bit (eqb c k)) ≡ 1
    go (yes q) ih = rw (eq-eqb c n q, sum_same n (λ k. bit (eqb c k)) (λ k. 0) (λ k b. rw (ne_eqb c k (λ p. omega arith)) refl), sum_zero n) refl
    go (no q) ih = rw (ne_eqb c n q) (zero-add (sum n (λ k. bit (eqb c k))) ∙ ih (omega arith))

-- items that have each one of n places: over all places they are as many as there are
pub sum_found : (n i : ℕ) (place : ℕ → ℕ) → ((q : ℕ) → q < i → place q < n) → sum n (λ k. how_many i (λ q. eqb (place q) k)) ≡ i
sum_found n zero place h = sum_zero n
sum_found n (suc i) place h =
    sum_plus n (λ k. bit (eqb (place i) k)) (λ k. how_many i (λ q. eqb (place q) k))
    ∙ omega (arith, sum_one n (place i) (h i (omega arith)), sum_found n i place (λ q l. h q (omega arith)))

-- what a picture adds to all counters together is its pixels
pub added_together : (m : ℕ) (e : Picture) → distinct m e ≡ true → (n : ℕ) (f : Picture) → sum (m + 1) (added m e n f) ≡ n
added_together m e d n f =
    sum_same (m + 1) (added m e n f) (λ k. how_many n (λ q. eqb (index_of m e (f q)) k)) (λ k l. added_found m e d n f k (omega arith))
    ∙ sum_found (m + 1) n (λ q. index_of m e (f q)) (λ q l. omega (arith, index_most m e (f q)))

-- counters

-- a digit to the base 256, and the higher ones
digit : (x j : ℕ) → x / 256 ^ j ≡ 256 * (x / 256 ^ (j + 1)) + x / 256 ^ j % 256
digit x j =
    let s : j + 1 ≡ suc j = omega arith in
    let p : 256 ^ (j + 1) ≡ 256 ^ j * 256 = rw (s, pow-succ' 256 j) (mul_comm 256 (256 ^ j)) in
    let q : x / 256 ^ (j + 1) ≡ x / 256 ^ j / 256 = rw p (sym (div-div-eq-div-mul x (256 ^ j) 256)) in
    rw q (omega arith)

-- eight of them are the number
rejoined : (x₀ x₁ x₂ x₃ x₄ x₅ x₆ x₇ a b c d e f g h : ℕ) → x₀ ≡ 256 * x₁ + a → x₁ ≡ 256 * x₂ + b → x₂ ≡ 256 * x₃ + c → x₃ ≡ 256 * x₄ + d
    → x₄ ≡ 256 * x₅ + e → x₅ ≡ 256 * x₆ + f → x₆ ≡ 256 * x₇ + g → x₇ ≡ h
    → a + 256 * b + 65536 * (c + 256 * d) + 4294967296 * (e + 256 * f + 65536 * (g + 256 * h)) ≡ x₀
rejoined x₀ x₁ x₂ x₃ x₄ x₅ x₆ x₇ a b c d e f g h p q r s t u v w = omega arith

module _ (n : ℕ) (g : ℕ → ℕ) (xs : List ℕ) where
  byte_written : (k j i : ℕ) → k < n → j < 8 → i ≡ 8 * k + j → byte_at (written_counters n g xs) i ≡ g k / 256 ^ j % 256
  unfolding written_counters
  byte_written k j i l m q =
      let a : i / 8 ≡ k = omega arith in
      let b : i % 8 ≡ j = omega arith in
      byte_at_written_bytes (8 * n) (counter_byte g) xs i (omega arith) ∙ rw (a, b) refl

  -- what is written is read back
  pub counter_written : (k : ℕ) → k < n → g k < 2 ^ 64 → counter (written_counters n g xs) k ≡ g k
  unfolding counter
  counter_written k l m =
      rw (
        byte_written k 0 (8 * k) l (omega arith) (omega arith),
        byte_written k 1 (8 * k + 1) l (omega arith) refl,
        byte_written k 2 (8 * k + 2) l (omega arith) refl,
        byte_written k 3 (8 * k + 2 + 1) l (omega arith) (omega arith),
        byte_written k 4 (8 * k + 4) l (omega arith) refl,
        byte_written k 5 (8 * k + 4 + 1) l (omega arith) (omega arith),
        byte_written k 6 (8 * k + 4 + 2) l (omega arith) (omega arith),
        byte_written k 7 (8 * k + 4 + 2 + 1) l (omega arith) (omega arith),
      )
      (rejoined (g k / 256 ^ 0) (g k / 256 ^ 1) (g k / 256 ^ 2) (g k / 256 ^ 3) (g k / 256 ^ 4) (g k / 256 ^ 5) (g k / 256 ^ 6) (g k / 256 ^ 7)
      _ _ _ _ _ _ _ _ (digit (g k) 0) (digit (g k) 1) (digit (g k) 2) (digit (g k) 3) (digit (g k) 4) (digit (g k) 5) (digit (g k) 6) (omega arith)
      ∙ div-one (g k))

  -- the bytes beyond are those of the start
  pub beyond_written : drop (8 * n) (written_counters n g xs) ≡ drop (8 * n) xs
  unfolding written_counters
  beyond_written = drop_written_bytes (8 * n) (counter_byte g) xs

  pub length_counters : 8 * n ≤ length xs → length (written_counters n g xs) ≡ length xs
  unfolding written_counters
  length_counters l = length_written_bytes (8 * n) (counter_byte g) xs l

-- counters depend on their numbers alone
pub counters_same : (n : ℕ) (g h : ℕ → ℕ) (xs : List ℕ) → ((k : ℕ) → k < n → g k ≡ h k) → written_counters n g xs ≡ written_counters n h xs
unfolding written_counters
counters_same n g h xs e =
    written_bytes_same (8 * n) (counter_byte g) (counter_byte h) xs (λ i l. ap (λ (x : ℕ). x / 256 ^ (i % 8) % 256) (e (i / 8) (omega arith)))
