-- Laws of the color map: adjusting and its undoing are inverse, byte by byte and of whole maps.
use Rattle.std.specs.Prelude.{if◌then◌else◌}
use mathlib.Core.Bool.{Bool, true, false, not, ◌||◌}
use mathlib.Core.List.{List}
use mathlib.Core.Path.{◌≡◌, refl, ap, ◌∙◌}
use Prim.Native.Nat.{ℕ, zero, suc, ◌+◌, ◌-◌, ◌%◌, ◌<◌, ◌≤◌}
use native.Mathlib.Decide.{dec_lt}
use native.Mathlib.Nat.{le_refl}
use native.Mathlib.Omega.{arith}
use borrow.Author.Tests.{lt-ltb, le-ltb, ltb-false, eqb-true, eqb-false}
use lib.ListN.{length}
use lib.Seq.{ext_get_or}
use lib.Dec.{eqb, ltb}
use Rattle.format.specs.Byte.{add, sub}
use Rattle.format.specs.Picture.{byte_at, written_bytes}
use Rattle.format.specs.ColorMap.{adjusted, unadjusted, refused, adjust_color_map, unadjust_color_map}
use Rattle.format.proofs.Byte.{add_sub, sub_add}
use Rattle.format.proofs.Picture.{length_written_bytes, byte_at_written_bytes}

absurd_bool : {A : Type 0} → ◌≡◌ {A = Bool} true false → A
absurd_bool e = let z : ◌≡◌ {A = ℕ} 0 1 = cc in absurd (omega arith)

-- a byte from the fifth on, by its index
pub adjusted_at : (b : ℕ → ℕ) (i : ℕ) → 4 ≤ i → adjusted b i ≡ add (b i) (adjusted b (i - 4))
unfolding adjusted
adjusted_at b i l =
    let e : i ≡ suc (suc (suc (suc (i - 4)))) = omega arith in
    let f : 4 + (i - 4) ≡ i = omega arith in
    ap (adjusted b) e ∙ ap (λ (j : ℕ). add (b j) (adjusted b (i - 4))) f

pub adjusted_start : (b : ℕ → ℕ) (i : ℕ) → i < 4 → adjusted b i ≡ b i
unfolding adjusted
adjusted_start b zero l = refl
adjusted_start b (suc zero) l = refl
adjusted_start b (suc (suc zero)) l = refl
adjusted_start b (suc (suc (suc zero))) l = refl
adjusted_start b (suc (suc (suc (suc i)))) l = absurd (no l)
  where
    no : suc (suc (suc (suc i))) < 4 → ⊥
    no l = omega arith

pub unadjusted_start : (b : ℕ → ℕ) (i : ℕ) → i < 4 → unadjusted b i ≡ b i
unfolding unadjusted
unadjusted_start b i l = rw (lt-ltb i 4 l)

pub unadjusted_at : (b : ℕ → ℕ) (i : ℕ) → 4 ≤ i → unadjusted b i ≡ sub (b i) (b (i - 4))
unfolding unadjusted
unadjusted_at b i l = rw (le-ltb i 4 l)

-- on bytes each undoes the other
module _ (b : ℕ → ℕ) (small : (i : ℕ) → b i < 256) where
  pub unadjusted_adjusted : (i : ℕ) → unadjusted (adjusted b) i ≡ b i
  unadjusted_adjusted i = go (dec_lt i 4)
    where
      go : Dec (i < 4) → unadjusted (adjusted b) i ≡ b i
      go (yes l) = unadjusted_start (adjusted b) i l ∙ adjusted_start b i l
      go (no n) =
          let l : 4 ≤ i = omega arith in
          unadjusted_at (adjusted b) i l ∙ ap (λ (z : ℕ). sub z (adjusted b (i - 4))) (adjusted_at b i l) ∙ sub_add (b i) (adjusted b (i - 4)) (small i)

  -- by induction in steps of four
  pub adjusted_unadjusted : (i : ℕ) → adjusted (unadjusted b) i ≡ b i
  unfolding adjusted
  adjusted_unadjusted zero = unadjusted_start b 0 (omega arith)
  adjusted_unadjusted (suc zero) = unadjusted_start b 1 (omega arith)
  adjusted_unadjusted (suc (suc zero)) = unadjusted_start b 2 (omega arith)
  adjusted_unadjusted (suc (suc (suc zero))) = unadjusted_start b 3 (omega arith)
  adjusted_unadjusted (suc (suc (suc (suc i)))) =
      let e : 4 + i - 4 ≡ i = omega arith in
      let f : 4 + i ≡ suc (suc (suc (suc i))) = omega arith in
      let u : unadjusted b (4 + i) ≡ sub (b (4 + i)) (b i) = unadjusted_at b (4 + i) (omega arith) ∙ ap (λ (j : ℕ). sub (b (4 + i)) (b j)) e in
      cc (u, adjusted_unadjusted i) ∙ add_sub (b (4 + i)) (b i) (small (4 + i)) ∙ ap b f

-- a byte depends on the bytes up to it
adjusted_local : (b c : ℕ → ℕ) (i : ℕ) → ((j : ℕ) → j ≤ i → b j ≡ c j) → adjusted b i ≡ adjusted c i
unfolding adjusted
adjusted_local b c zero h = h 0 (omega arith)
adjusted_local b c (suc zero) h = h 1 (omega arith)
adjusted_local b c (suc (suc zero)) h = h 2 (omega arith)
adjusted_local b c (suc (suc (suc zero))) h = h 3 (omega arith)
adjusted_local b c (suc (suc (suc (suc i)))) h = cc (h (4 + i) (omega arith), adjusted_local b c i (λ j l. h j (omega arith)))

unadjusted_local : (b c : ℕ → ℕ) (i : ℕ) → ((j : ℕ) → j ≤ i → b j ≡ c j) → unadjusted b i ≡ unadjusted c i
unfolding unadjusted
unadjusted_local b c i h = cc (h i (le_refl i), h (i - 4) (omega arith))

-- whole maps

module _ (f g : (ℕ → ℕ) → ℕ → ℕ) (xs : List ℕ) (local : (b c : ℕ → ℕ) (i : ℕ) → ((j : ℕ) → j ≤ i → b j ≡ c j) → f b i ≡ f c i)
    (undo : (i : ℕ) → f (g (byte_at xs)) i ≡ byte_at xs i) where
  abbrev ys : List ℕ
  ys = written_bytes (length xs) (g (byte_at xs)) xs

  length_ys : length ys ≡ length xs
  length_ys = length_written_bytes (length xs) (g (byte_at xs)) xs (le_refl (length xs))

  undone : written_bytes (length ys) (f (byte_at ys)) ys ≡ xs
  undone =
      let l = length_ys in
      let m : length (written_bytes (length ys) (f (byte_at ys)) ys) ≡ length ys = length_written_bytes (length ys) (f (byte_at ys)) ys (le_refl (length ys)) in
      ext_get_or 0 (written_bytes (length ys) (f (byte_at ys)) ys) xs (m ∙ l)
      (λ i k.
      byte_at_written_bytes (length ys) (f (byte_at ys)) ys i (omega arith)
      ∙ local (byte_at ys) (g (byte_at xs)) i (λ j le. byte_at_written_bytes (length xs) (g (byte_at xs)) xs j (omega arith))
      ∙ undo i)

  -- by the refusal, which goes by the length alone
  undone_call : (b : Bool) → refused (length xs) ≡ b
      → (if refused (length (if b then xs else ys)) then (if b then xs else ys)
      else written_bytes (length (if b then xs else ys)) (f (byte_at (if b then xs else ys))) (if b then xs else ys))
      ≡ xs
  undone_call true r = rw r
  undone_call false r = let e : refused (length ys) ≡ false = ap refused length_ys ∙ r in rw e undone

module _ (xs : List ℕ) (small : (i : ℕ) → byte_at xs i < 256) where
  pub unadjust_adjust : unadjust_color_map (adjust_color_map xs) ≡ xs
  unfolding unadjust_color_map adjust_color_map
  unadjust_adjust = undone_call unadjusted adjusted xs unadjusted_local (unadjusted_adjusted (byte_at xs) small) (refused (length xs)) refl

  pub adjust_unadjust : adjust_color_map (unadjust_color_map xs) ≡ xs
  unfolding unadjust_color_map adjust_color_map
  adjust_unadjust = undone_call adjusted unadjusted xs adjusted_local (adjusted_unadjusted (byte_at xs) small) (refused (length xs)) refl

-- a map that is not refused has 1 to 256 entries
pub taken_long : (n : ℕ) → refused n ≡ false → (4 ≤ n) × (n ≤ 1024)
taken_long n r = go (eqb n 0) (ltb 1024 n) (eqb (n % 4) 0) r (eqb-false n 0) (ltb-false 1024 n) (eqb-true (n % 4) 0)
  where
    go : (a b d : Bool) → (a || (b || not d)) ≡ false → (a ≡ false → n ≡ 0 → ⊥) → (b ≡ false → n ≤ 1024) → (d ≡ true → n % 4 ≡ 0) → (4 ≤ n) × (n ≤ 1024)
    go false false true e x w y =
        let m = x refl in
        let z = y refl in
        (omega arith, w refl)
    go false false false e x w y = absurd_bool e
    go false true d e x w y = absurd_bool e
    go true b d e x w y = absurd_bool e
