-- The lowest index of a pixel, by looking at each entry; pixels that are one of two; acceptance.
use Rattle.std.proofs.lemmas.Bool.{and_from, and_parts}
use Rattle.std.specs.Prelude.{if◌then◌else◌, Option, Some, None}
use Rattle.std.specs.List.{range_with_len, list_all}
use Rattle.std.specs.Bool.{⊤}
use Rattle.std.specs.Option.{is_some, MatchOption, unwrap_or}
use Rattle.std.proofs.lemmas.Option.{none-some, same_Some}
use mathlib.Core.Bool.{Bool, true, false, not, ◌&&◌, ◌||◌, true≢false}
use Rattle.std.proofs.Math.Bool.{and-true, and_comm, and_assoc}
use mathlib.Core.Path.{◌≡◌, refl, sym, ap, ◌∙◌}
use Prim.Native.Nat.{ℕ, zero, suc, ◌+◌, ◌-◌, ◌*◌, ◌/◌, ◌%◌, ◌<◌, ◌≤◌, min}
use native.Mathlib.Nat.{zero-add, add-zero}
use native.Mathlib.Decide.{ℕ_discrete, dec_lt}
use native.Mathlib.Omega.{arith}
use borrow.Author.Tests.{lt-ltb, le-ltb}
use lib.Dec.{ltb}
use mir.Val.{bool_byte}
use Rattle.format.specs.declared.Pixel.{Pixel}
use Rattle.format.specs.Pixel.{equal}
use Rattle.format.specs.Picture.{Picture}
use Rattle.format.specs.ColorTable.{index_of, has_entry, have_entries, index_at}
use Rattle.format.proofs.Choice.{every_at, and_false_right}
use Rattle.format.proofs.Pixels.{equal_true, equal_refl}
use Rattle.format.proofs.ColorTable.{index_inside, lowest_hit, lowest_least, index_least, index_is, index_none}
use Rattle.color_table.specs.OneOf.{one_of, EachOf}
use Rattle.color_table.specs.Found.{found}

-- what a look-up finds

module _ (size : ℕ) (e : Picture) (v : Pixel) where
  pub found_is : has_entry size e v ≡ true → found size e v ≡ Some (index_of size e v)
  unfolding found
  found_is h = rw h

  pub found_none : has_entry size e v ≡ false → None ≡ found size e v
  unfolding found
  found_none h = rw h

  pub found_has : (r : Option ℕ) → r ≡ found size e v → is_some r ≡ has_entry size e v
  unfolding found
  found_has r q = rw q (go (has_entry size e v))
    where
      go : (b : Bool) → is_some (if b then Some (index_of size e v) else None) ≡ b
      go false = refl
      go true = refl

  -- the lowest index where v is
  pub found_at : (i : ℕ) → i ≡ index_of size e v → i < size → Some i ≡ found size e v
  found_at i q l = sym (found_is (lt-ltb (index_of size e v) size (rw q at l)) ∙ ap Some (sym q))

  pub has_found : (i : ℕ) → Some i ≡ found size e v → (i ≡ index_of size e v) × (has_entry size e v ≡ true)
  unfolding found
  has_found i h = go (has_entry size e v) refl
    where
      go : (b : Bool) → has_entry size e v ≡ b → (i ≡ index_of size e v) × (b ≡ true)
      go true q = (same_Some i (index_of size e v) (rw q at h), refl)
      go false q = absurd (none-some _ (sym (rw q at h)))

-- looking at each entry: those before the first that is v are not v
module _ (size : ℕ) (e : Picture) (v : Pixel) where
  apart : (j : ℕ) → equal (e j) v ≡ false → e j ≡ v → ⊥
  apart j n q = true≢false (sym (equal_refl v) ∙ ap (λ (u : Pixel). equal u v) (sym q) ∙ n)

  pub scanned : (r : Option ℕ) → MatchOption r ((j : ℕ) → 0 ≤ j → j < size → equal (e j) v ≡ false)
      (λ i. (0 ≤ i) × (i < size) × (equal (e i) v ≡ true) × ((j : ℕ) → 0 ≤ j → j < i → equal (e j) v ≡ false)) → r ≡ found size e v
  scanned None others =
      found_none size e v (le-ltb (index_of size e v) size (omega (arith, index_none size e v (λ j l q. apart j (others j (omega arith) l) q))))
  scanned (Some i) (_, l, q, others) =
      found_at size e v i (index_is size e v i l (equal_true (e i) v q) (λ j m p. least j p (dec_lt j i))) l
    where
      least : (j : ℕ) → e j ≡ v → Dec (j < i) → i ≤ j
      least j p (yes m) = absurd (apart j (others j (omega arith) m) p)
      least j p (no m) = omega arith

-- comparing with each entry: whether one of the first j is v, and how many come before it

module _ (e : Picture) (v : Pixel) (size : ℕ) (has : index_of size e v < size) where
  pub found_more : (j : ℕ) (found s : Bool) (u : Pixel) → found ≡ ltb (index_of size e v) j → u ≡ e j → s ≡ equal u v → j < size → (found || s) ≡ ltb (index_of size e v) (j + 1)
  found_more j found s u h p q l = go (dec_lt (index_of size e v) j) (ℕ_discrete (index_of size e v) j)
    where
      other : (b : Bool) → equal (e j) v ≡ b → j < index_of size e v → b ≡ false
      other false r m = refl
      other true r m =
          let k : index_of size e v ≤ j = lowest_least e v size 0 j (omega arith) (equal_true (e j) v r) (omega arith) in
          absurd (omega arith)

      go : Dec (index_of size e v < j) → Dec (index_of size e v ≡ j) → (found || s) ≡ ltb (index_of size e v) (j + 1)
      go (yes m) d =
          let a : found ≡ true = h ∙ lt-ltb (index_of size e v) j m in
          let b : index_of size e v < j + 1 = omega arith in
          rw (a, lt-ltb (index_of size e v) (j + 1) b)
      go (no m) (yes r) =
          let a : found ≡ false = h ∙ le-ltb (index_of size e v) j (omega arith) in
          let b : index_of size e v < j + 1 = omega arith in
          let c : e (index_of size e v) ≡ v = lowest_hit e v size 0 (rw (zero-add size) has) in
          let t : s ≡ true = q ∙ ap (λ (x : Pixel). equal x v) (p ∙ ap e (sym r) ∙ c) ∙ equal_refl v in
          rw (a, t, lt-ltb (index_of size e v) (j + 1) b)
      go (no m) (no r) =
          let a : found ≡ false = h ∙ le-ltb (index_of size e v) j (omega arith) in
          let b : j + 1 ≤ index_of size e v = omega arith in
          let t : s ≡ false = q ∙ ap (λ (x : Pixel). equal x v) p ∙ other (equal (e j) v) refl (omega arith) in
          rw (a, t, le-ltb (index_of size e v) (j + 1) b)

-- how many of j + 1 entries come before index i
pub before_more : (i j r t : ℕ) (found : Bool) → r ≡ min i j → found ≡ ltb i (j + 1) → t ≡ bool_byte (not found) → r + t ≡ min i (j + 1)
before_more i j r t found h q s = go (dec_lt i (j + 1))
  where
    go : Dec (i < j + 1) → r + t ≡ min i (j + 1)
    go (yes l) = let z : t ≡ 0 = s ∙ rw (q, lt-ltb i (j + 1) l) refl in omega arith
    go (no l) = let z : t ≡ 1 = s ∙ rw (q, le-ltb i (j + 1) (omega arith)) refl in omega arith

-- pixels that have entries

-- the n pixels of f from i on have entries
abbrev EachHas : ℕ → Picture → Picture → ℕ → ℕ → Type 0
EachHas size e f i n = (k : ℕ) → k < n → has_entry size e (f (i + k)) ≡ true

module _ (size : ℕ) (e : Picture) where
  -- v where it was found, or is u, which has one
  pub known_entry : (u v : Pixel) (s t : Bool) → (s ≡ true → has_entry size e v ≡ true) → t ≡ equal v u → has_entry size e u ≡ true → (s || t) ≡ true → has_entry size e v ≡ true
  known_entry u v true t h q x r = h refl
  known_entry u v false t h q x r = rw (equal_true v u (sym q ∙ r)) x

  pub entry_accepted : (i : ℕ) (w : Pixel) → w ≡ e i → i < size → has_entry size e w ≡ true
  entry_accepted i w q l = lt-ltb (index_of size e w) size (omega (arith, index_least size e w i l (sym q)))

-- pixels that are one of two

module _ (u v : Pixel) (f : Picture) (i : ℕ) where
  pub each_more : (k : ℕ) (all s t : Bool) (p : Pixel) → (all ≡ true → EachOf u v f i k) → p ≡ f (i + k) → s ≡ equal p u → t ≡ equal p v → (all && (s || t)) ≡ true → EachOf u v f i (k + 1)
  each_more k all s t p h q a b r j l = go (ℕ_discrete j k)
    where
      go : Dec (j ≡ k) → one_of u v (f (i + j)) ≡ true
      go (yes e) = rw (e, ← q, ← a, ← b) (and_parts all (s || t) r).1
      go (no n) = h (and_parts all (s || t) r).0 j (omega arith)

  -- a test that both pass
  each_passes : (n : ℕ) (t : Pixel → Bool) → EachOf u v f i n → t u ≡ true → t v ≡ true → (k : ℕ) → k < n → t (f (i + k)) ≡ true
  each_passes n t h a b k l = go (equal (f (i + k)) u) refl (equal (f (i + k)) v) refl (h k l)
    where
      go : (x : Bool) → equal (f (i + k)) u ≡ x → (y : Bool) → equal (f (i + k)) v ≡ y → (x || y) ≡ true → t (f (i + k)) ≡ true
      go true q y r o = ap t (equal_true (f (i + k)) u q) ∙ a
      go false q true r o = ap t (equal_true (f (i + k)) v r) ∙ b
      go false q false r o = absurd (omega (arith, no o))
        where
          no : false ≡ true → ◌≡◌ {A = ℕ} 0 1
          no e = cc

-- eight pixels and eight more
pub each_both : (u v : Pixel) (f : Picture) (i : ℕ) (s t : Bool) → (s ≡ true → EachOf u v f i 8) → (t ≡ true → EachOf u v f (i + 8) 8) → (s && t) ≡ true → EachOf u v f i 16
each_both u v f i s t h d r k l = go (dec_lt k 8)
  where
    go : Dec (k < 8) → one_of u v (f (i + k)) ≡ true
    go (yes m) = h (and_parts s t r).0 k m
    go (no m) = let e : i + 8 + (k - 8) ≡ i + k = omega arith in rw e at (d (and_parts s t r).1 (k - 8) (omega arith))

-- groups of sixteen that are u or v each
pub each_groups : (u v : Pixel) (f : Picture) (from a b : ℕ) → from ≡ 16 * a → ((g : ℕ) → a ≤ g → g < b → EachOf u v f (16 * g) 16) → EachOf u v f from (16 * b - from)
each_groups u v f from a b e h k l =
    let x = from + k in
    let q : 16 * (x / 16) + x % 16 ≡ x = omega arith in
    rw q at (h (x / 16) (omega arith) (omega arith) (x % 16) (omega arith))

-- where the numbers before the first that is found, or all, have P
pub before_first : (P : ℕ → Type 0) (a b : ℕ) (r : Option ℕ) → a ≤ b → MatchOption r ((k : ℕ) → a ≤ k → k < b → P k) (λ i. (a ≤ i) × (i < b) × ⊤ × ((k : ℕ) → a ≤ k → k < i → P k))
    → (a ≤ unwrap_or r b) × (unwrap_or r b ≤ b) × ((k : ℕ) → a ≤ k → k < unwrap_or r b → P k)
before_first P a b None l h = (l, omega arith, h)
before_first P a b (Some i) l h = (h.0, omega arith, h.3)

-- pixels that are v or v
pub each_same : (v : Pixel) (f : Picture) (i n : ℕ) → EachOf v v f i n → (q : ℕ) → i ≤ q → q < i + n → f q ≡ v
each_same v f i n h q l u =
    let e : i + (q - i) ≡ q = omega arith in
    rw e at (equal_true (f (i + (q - i))) v (each_passes v v f i n (λ p. equal p v) h (equal_refl v) (equal_refl v) (q - i) (omega arith)))

-- a group more that is v
pub all_more : (v : Pixel) (f : Picture) (a g : ℕ) → ((q : ℕ) → a ≤ q → q < 16 * g → f q ≡ v) → EachOf v v f (16 * g) 16 → (q : ℕ) → a ≤ q → q < 16 * (g + 1) → f q ≡ v
all_more v f a g h d q l u = go (dec_lt q (16 * g))
  where
    go : Dec (q < 16 * g) → f q ≡ v
    go (yes k) = h q l k
    go (no k) = each_same v f (16 * g) 16 d q (omega arith) (omega arith)

-- acceptance

module _ (size : ℕ) (e f : Picture) where
  accepted_more : (i : ℕ) (u : Pixel) → have_entries size e i f ≡ true → u ≡ f i → has_entry size e u ≡ true → have_entries size e (i + 1) f ≡ true
  accepted_more i u h p t =
      let s : suc i ≡ i + 1 = omega arith in
      ap (λ (n : ℕ). have_entries size e n f) (sym s) ∙ and_from (has_entry size e (f i)) (have_entries size e i f) (rw p at t) h

  accepted_not : (m i : ℕ) (u : Pixel) → u ≡ f i → has_entry size e u ≡ false → i < m → false ≡ have_entries size e m f
  accepted_not m i u p h l = go (have_entries size e m f) refl
    where
      go : (b : Bool) → have_entries size e m f ≡ b → false ≡ b
      go false r = refl
      go true r = sym (rw p at h) ∙ every_at m (λ j. has_entry size e (f j)) i l r

  -- looking at n pixels more, and at the first n
  looked_more : (n i : ℕ) → have_entries size e i f ≡ true → list_all (λ j. has_entry size e (f j)) (range_with_len i n) ≡ have_entries size e (i + n) f
  looked_more zero i h = rw (add-zero i) (sym h)
  looked_more (suc n) i h = go (has_entry size e (f i)) refl (looked_more n (i + 1))
    where
      Left : Bool
      Left = list_all (λ j. has_entry size e (f j)) (range_with_len (i + 1) n)

      go : (b : Bool) → has_entry size e (f i) ≡ b → (have_entries size e (i + 1) f ≡ true → Left ≡ have_entries size e (i + 1 + n) f) → (b && Left) ≡ have_entries size e (i + suc n) f
      go true q ih = let s : i + 1 + n ≡ i + suc n = omega arith in rw s at (ih (accepted_more i (f i) h refl q))
      go false q ih = accepted_not (i + suc n) i (f i) refl q (omega arith)

  pub accepted_all : (n : ℕ) → list_all (λ j. has_entry size e (f j)) (range_with_len 0 n) ≡ have_entries size e n f
  accepted_all n = rw (zero-add n) at (looked_more n 0 refl)

  -- those of a front, and those of the rest, h
  pub accepted_join : (a m : ℕ) (h : Picture) → ((i : ℕ) → i < m → h i ≡ f (a + i)) → have_entries size e (a + m) f ≡ (have_entries size e a f && have_entries size e m h)
  accepted_join a zero h q = rw (add-zero a) (sym (and-true (have_entries size e a f)))
  accepted_join a (suc m) h q =
      let s : a + suc m ≡ suc (a + m) = omega arith in
      let x = has_entry size e (f (a + m)) in
      let y = have_entries size e a f in
      let z = have_entries size e m h in
      let swap : (x && (y && z)) ≡ (y && (x && z)) = sym (and_assoc x y z) ∙ ap (λ b. b && z) (and_comm x y) ∙ and_assoc y x z in
      rw (s, q m (omega arith), accepted_join a m h (λ i l. q i (omega arith))) swap

  -- n pixels more that have entries
  accepted_has : (i n : ℕ) → EachHas size e f i n → have_entries size e i f ≡ true → have_entries size e (i + n) f ≡ true
  accepted_has i zero h t = rw (add-zero i) t
  accepted_has i (suc n) h t =
      let s : i + suc n ≡ suc (i + n) = omega arith in
      let r = accepted_has i n (λ k l. h k (omega arith)) t in
      ap (λ (m : ℕ). have_entries size e m f) s ∙ and_from (has_entry size e (f (i + n))) (have_entries size e (i + n) f) (h n (omega arith)) r

  -- n pixels more that are one of two
  accepted_each : (u v : Pixel) (i n : ℕ) → EachOf u v f i n → have_entries size e i f ≡ true → has_entry size e u ≡ true → has_entry size e v ≡ true → have_entries size e (i + n) f ≡ true
  accepted_each u v i n h t a b = accepted_has i n (each_passes u v f i n (has_entry size e) h a b) t

  pub accepted_front : (u v : Pixel) (n : ℕ) → EachOf u v f 0 (n - 0) → has_entry size e u ≡ true → has_entry size e v ≡ true → have_entries size e n f ≡ true
  accepted_front u v n h x y =
      let z : n - 0 ≡ n = omega arith in
      rw (zero-add n) at (accepted_each u v 0 n (rw z at h) refl x y)

  -- what is refused early stays so
  pub accepted_fewer : (m n : ℕ) → have_entries size e m f ≡ false → m ≤ n → false ≡ have_entries size e n f
  accepted_fewer m zero h l = let z : m ≡ 0 = omega arith in sym (rw z at h)
  accepted_fewer m (suc n) h l = go (ℕ_discrete m (suc n)) (λ k. accepted_fewer m n h k)
    where
      go : Dec (m ≡ suc n) → (m ≤ n → false ≡ have_entries size e n f) → false ≡ have_entries size e (suc n) f
      go (yes q) ih = sym (rw q at h)
      go (no q) ih = sym (and_false_right (has_entry size e (f n)) (have_entries size e n f) (sym (ih (omega arith))))

  -- the index at a column
  pub at_column : (w x r : ℕ) (u : Pixel) → r ≡ index_of size e u → u ≡ f x → x < w → r ≡ index_at w size e f 0 x
  at_column w x r u q p l =
      let z : 0 * w + x ≡ x = omega arith in
      q ∙ ap (index_of size e) p ∙ sym (index_inside w size e f 0 x l ∙ ap (λ (y : ℕ). index_of size e (f y)) z)
