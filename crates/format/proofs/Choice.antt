-- Laws of choices by a test.
use Rattle.std.proofs.lemmas.Bool.{and_parts, and_from}
use Rattle.std.proofs.lemmas.List.FromFn.{length-range_with_len, get_or-range_with_len}
use Rattle.std.specs.List.{range_with_len, HoldsAt, AllWithin}
use lib.ListN.{length, get_or}
use mathlib.Core.List.{List}
use Rattle.std.specs.Prelude.{if◌then◌else◌}
use mathlib.Core.Bool.{Bool, true, false, not, ◌&&◌, true≢false}
use mathlib.Core.Path.{◌≡◌, refl, sym, subst}
use Prim.Native.Nat.{ℕ, zero, suc, ◌<◌}
use native.Mathlib.Nat.{not-suc-le-zero}
use native.Mathlib.Decide.{ℕ_discrete}
use native.Mathlib.Omega.{arith}
use Rattle.format.specs.Choice.{every}

-- two choices by one test agree where their branches do
pub if_same : {A : Type 0} (b : Bool) {x y x' y' : A} → (b ≡ true → x ≡ x') → (b ≡ false → y ≡ y') → (if b then x else y) ≡ (if b then x' else y')
if_same true p q = p refl
if_same false p q = q refl

pub and_false_left : (a b : Bool) → a ≡ false → (a && b) ≡ false
and_false_left a b e = rw e refl

pub and_false_right : (a b : Bool) → b ≡ false → (a && b) ≡ false
and_false_right true b e = e
and_false_right false b e = refl

-- a number below n passes
pub every_at : (n : ℕ) (t : ℕ → Bool) (q : ℕ) → q < n → every n t ≡ true → t q ≡ true
every_at zero t q h e = absurd (not-suc-le-zero h)
every_at (suc n) t q h e = go (ℕ_discrete q n) (every_at n t q)
  where
    go : Dec (q ≡ n) → (q < n → every n t ≡ true → t q ≡ true) → t q ≡ true
    go (yes p) ih = subst (λ (k : ℕ). t k ≡ true) (sym p) (and_parts (t n) (every n t) e).0
    go (no p) ih = ih (omega arith) (and_parts (t n) (every n t) e).1

pub every_all : (n : ℕ) (t : ℕ → Bool) → ((q : ℕ) → q < n → t q ≡ true) → every n t ≡ true
every_all zero t h = refl
every_all (suc n) t h = and_from (t n) (every n t) (h n (omega arith)) (every_all n t (λ q l. h q (omega arith)))

pub every_same : (n : ℕ) (s t : ℕ → Bool) → ((q : ℕ) → q < n → s q ≡ t q) → every n s ≡ every n t
every_same zero s t h = refl
every_same (suc n) s t h = cc (h n (omega arith), every_same n s t (λ q l. h q (omega arith)))

-- where not every number passes, one does not
pub not_every : (n : ℕ) (t : ℕ → Bool) → every n t ≡ false → (q : ℕ) × (q < n) × (t q ≡ false)
not_every zero t e = absurd (true≢false e)
not_every (suc n) t e = go (t n) refl e (not_every n t)
  where
    go : (b : Bool) → t n ≡ b → (b && every n t) ≡ false → (every n t ≡ false → (q : ℕ) × (q < n) × (t q ≡ false)) → (q : ℕ) × (q < suc n) × (t q ≡ false)
    go true p k ih = let s = ih k in (s.0, omega (arith, s.1), s.2)
    go false p k ih = (n, omega arith, p)

pub every_true : (n : ℕ) → every n (λ q. true) ≡ true
every_true zero = refl
every_true (suc n) = every_true n

-- two tests that cannot both be true, nor both be false
pub opposite : (a b : Bool) → (a ≡ true → b ≡ true → ⊥) → (b ≡ false → a ≡ true) → a ≡ not b
opposite true true x y = absurd (x refl refl)
opposite true false x y = refl
opposite false true x y = refl
opposite false false x y = y refl

-- what `all` and `any` find of the numbers below n, as lists
module _ (P : ℕ → Type 0) (n : ℕ) where
  abbrev numbers : List ℕ
  numbers = range_with_len 0 n

  here : (j : ℕ) → j < n → get_or numbers j 0 ≡ j
  here j l = omega (arith, get_or-range_with_len 0 n j 0 l)

  pub each_below : AllWithin P numbers 0 (length numbers) → (j : ℕ) → j < n → P j
  each_below h j l = rw (here j l) at (h j 0 (omega arith) (rw (length-range_with_len 0 n) l))

  pub one_below : (i : ℕ) × (i < length numbers) × HoldsAt P numbers i → (j : ℕ) × (j < n) × P j
  one_below (i, l, h) = let low : i < n = rw (length-range_with_len 0 n) at l in (i, low, rw (here i low) at (h 0))
