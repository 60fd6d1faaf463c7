-- Indices packed into a byte, lowest first.
use Rattle.std.specs.Prelude.{if◌then◌else◌}
use mathlib.Core.Bool.{Bool, true, false}
use mathlib.Core.Path.{◌≡◌, refl, ap, ◌∙◌}
use Prim.Native.Nat.{ℕ, suc, ◌+◌, ◌-◌, ◌*◌, ◌/◌, ◌%◌, ◌^◌, ◌<◌, ◌≤◌}
use native.Mathlib.Nat.{add-zero, zero-add, pow-zero, pow-suc, pow-le-pow_right, mul-le-mul_left, mul-le-mul_right, mul-suc, suc-mul, mul_comm}
use native.Mathlib.Omega.{arith}
use borrow.Author.Tests.{leb-true, leb-false}
use lib.Dec.{leb, lit<}
use Rattle.format.specs.ColorTable.{per_pixel, range, digits}
use Rattle.format.proofs.ColorTable.{digits_same}
use Rattle.pixel.specs.Stride.{Places}
use Rattle.color_table.specs.declared.each.Packing.{Packing}
use Rattle.pixel.proofs.Places.{by_places, places_1, places_2, places_4, places_8}

-- n indices to the base u go into a byte
pub record Base (size n u : ℕ) : Type 0 where
  pub fits : size ≤ u
  pub two : 2 ≤ u
  pub most : u ≤ 256
  pub whole : u ^ n ≡ 256
  pub group : 16 / n * n ≡ 16
  pub places : Places n
  pub pairs : 1 ≤ size → 4 ≤ n → u ≤ size + 1

pub base_of : (size n u : ℕ) → size ≤ 256 → n ≡ per_pixel size → u ≡ range n → Base size n u
unfolding per_pixel
base_of size n u l p q =
    rw (q, p) (go (leb size 2) (leb size 4) (leb size 16) (leb-true size 2) (leb-false size 2) (leb-true size 4) (leb-true size 16))
  where
    go : (a b c : Bool) → (a ≡ true → size ≤ 2) → (a ≡ false → 2 < size) → (b ≡ true → size ≤ 4) → (c ≡ true → size ≤ 16)
        → Base size (if a then 8 else (if b then 4 else (if c then 2 else 1))) (range (if a then 8 else (if b then 4 else (if c then 2 else 1))))
    go true b c x o y z = record { fits = x refl; two = lit< tt; most = lit< tt; whole = refl; group = refl; places = places_8; pairs = λ s q. omega arith }
    go false true c x o y z = record { fits = y refl; two = lit< tt; most = lit< tt; whole = refl; group = refl; places = places_4; pairs = λ s q. (let t = o refl in omega arith) }
    go false false true x o y z = record { fits = z refl; two = lit< tt; most = lit< tt; whole = refl; group = refl; places = places_2; pairs = λ s q. absurd (omega arith) }
    go false false false x o y z = record { fits = l; two = lit< tt; most = lit< tt; whole = refl; group = refl; places = places_1; pairs = λ s q. absurd (omega arith) }

-- a shift by an index
pub range_shift : (n : ℕ) → Places n → 1 * 2 ^ (8 / n) % 18446744073709551616 ≡ range n
range_shift n h = by_places (λ m. 1 * 2 ^ (8 / m) % 18446744073709551616 ≡ range m) refl refl refl refl n h

-- n digits x are x times n digits 1
pub ones : (n x : ℕ) → Places n → x < range n → (x * (255 / (range n - 1)) < 256) × (x * (255 / (range n - 1)) ≡ digits (range n) n (λ k. x))
unfolding digits
ones n x h l =
    by_places (λ m. x < range m → (x * (255 / (range m - 1)) < 256) × (x * (255 / (range m - 1)) ≡ digits (range m) m (λ k. x)))
    (λ l. (omega arith, omega arith))
    (λ l. (omega arith, omega arith))
    (λ l. (omega arith, omega arith))
    (λ l. (omega arith, omega arith))
    n h l

-- digits from the lowest on: none, and a sum with one more

pub digits_none : (u : ℕ) (g : ℕ → ℕ) → 0 ≡ digits u 0 g
unfolding digits
digits_none u g = refl

pub weight_small : (u k n w : ℕ) → w ≡ u ^ k → u ^ n ≡ 256 → 2 ≤ u → k ≤ n → w ≤ 256
weight_small u k n w q e t l = let p : u ^ k ≤ u ^ n = pow-le-pow_right (omega arith) l in omega arith

pub small_more : (u b w x : ℕ) → b < w → x < u → b + w * x < w * u
small_more u b w x l m =
    let s : w * suc x ≡ w * x + w = mul-suc w x in
    let p : w * suc x ≤ w * u = mul-le-mul_left w m in
    omega arith

-- digits from the highest on, b of which are there: at first, one more, and at last

pub digits_start : (u n : ℕ) (g : ℕ → ℕ) → 0 ≡ digits u (n - n) g
unfolding digits
digits_start u n g = let z : n - n ≡ 0 = omega arith in rw z

pub digits_more : (u n k j b x : ℕ) (g : ℕ → ℕ) → b ≡ digits u (n - k) (λ i. g (k + i)) → x ≡ g j → k ≡ suc j → k ≤ n → b * u + x ≡ digits u (n - j) (λ i. g (j + i))
unfolding digits
digits_more u n k j b x g p q s l =
    let m : n - j ≡ suc (n - k) = omega arith in
    let z : g (j + 0) ≡ g j = ap g (add-zero j) in
    let t : digits u (n - k) (λ i. g (k + i)) ≡ digits u (n - k) (λ i. g (j + suc i)) = digits_same u (n - k) (λ i. g (k + i)) (λ i. g (j + suc i)) (λ i i_small. ap g (omega arith)) in
    let c = mul_comm b u in
    rw m (rw (z, ← q, ← t, ← p) (omega arith))

pub digits_all : (u n k b : ℕ) (g : ℕ → ℕ) → b ≡ digits u (n - k) (λ i. g (k + i)) → k ≡ 0 → b ≡ digits u n g
digits_all u n k b g p z =
    let m : n - 0 ≡ n = omega arith in
    rw m at (rw z at p) ∙ digits_same u n (λ i. g (0 + i)) g (λ i l. ap g (zero-add i))

-- what is there is small
pub small_start : (u n : ℕ) → 0 < u ^ (n - n)
small_start u n = let z : n - n ≡ 0 = omega arith in rw (z, pow-zero u) (omega arith)

pub small_next : (u n k j b x : ℕ) → b < u ^ (n - k) → x < u → k ≡ suc j → k ≤ n → b * u + x < u ^ (n - j)
small_next u n k j b x h l s m =
    let d : n - j ≡ suc (n - k) = omega arith in
    let p : suc b * u ≤ u ^ (n - k) * u = mul-le-mul_right u h in
    rw (d, pow-suc u (n - k)) (omega (arith, suc-mul b u))

pub small_all : (u n k b : ℕ) → b < u ^ (n - k) → u ^ n ≡ 256 → 2 ≤ u → b < 256
small_all u n k b h e t = let p : u ^ (n - k) ≤ u ^ n = pow-le-pow_right (omega arith) (omega arith) in omega arith

-- a byte and an index more, by a shift
pub shifted : (n b : ℕ) → Places n → b < 256 → b * 2 ^ (8 / n) % 4294967296 ≡ b * range n
shifted n b h l = by_places (λ m. b * 2 ^ (8 / m) % 4294967296 ≡ b * range m) (omega arith) (omega arith) (omega arith) (omega arith) n h

-- what is known of a packing's N
pub base_in : {n : ℕ} → (p : Packing n) → Base p.lookup.now.entries.size n (range n)
base_in {n} p = base_of p.lookup.now.entries.size n (range n) p.lookup.now.entries.most p.packs.places refl

-- a range and its size
pub ranged : (size : ℕ) → size ≤ 256 → (range (per_pixel size) ≡ range (per_pixel size)) × (1 ≤ range (per_pixel size)) × (size ≤ range (per_pixel size)) × (range (per_pixel size) ≤ 256)
    × (range (per_pixel size) ^ per_pixel size ≡ 256) × (size ≤ 16 → range (per_pixel size) ≤ 16)
unfolding per_pixel
ranged size l = go (leb size 2) (leb size 4) (leb size 16) (leb-true size 2) (leb-true size 4) (leb-true size 16) (leb-false size 16)
  where
    N : Bool → Bool → Bool → ℕ
    N a b c = if a then 8 else (if b then 4 else (if c then 2 else 1))

    go : (a b c : Bool) → (a ≡ true → size ≤ 2) → (b ≡ true → size ≤ 4) → (c ≡ true → size ≤ 16) → (c ≡ false → 16 < size)
        → (range (N a b c) ≡ range (N a b c)) × (1 ≤ range (N a b c)) × (size ≤ range (N a b c)) × (range (N a b c) ≤ 256) × (range (N a b c) ^ N a b c ≡ 256) × (size ≤ 16 → range (N a b c) ≤ 16)
    go true b c x y z o = (refl, lit< tt, x refl, lit< tt, refl, λ h. lit< tt)
    go false true c x y z o = (refl, lit< tt, y refl, lit< tt, refl, λ h. lit< tt)
    go false false true x y z o = (refl, lit< tt, z refl, lit< tt, refl, λ h. lit< tt)
    go false false false x y z o = (refl, lit< tt, l, lit< tt, refl, λ h. (let k = o refl in absurd (omega arith)))

-- shifted, it leaves room for an index
pub shifted_small : (n b : ℕ) → Places n → b < 256 → b * 2 ^ (8 / n) % 4294967296 < 65536
shifted_small n b h l = by_places (λ m. b * 2 ^ (8 / m) % 4294967296 < 65536) (omega arith) (omega arith) (omega arith) (omega arith) n h
