-- That a packed pixel holds 1, 2, 4 or 8 indices is a fact: which of these excludes the others.
use Rattle.std.specs.Prelude.{◌≡◌, ℕ, ◌⊎◌}
use native.Mathlib.Nat.{ℕ_set}
use native.Mathlib.Omega.{arith}
use mathlib.Core.Path.{ap}
use mathlib.Core.Logic.{inl, inr}
use Rattle.std.proofs.Props.{props}
use Rattle.pixel.specs.Stride.{Places}

either : {A B : Type 0} → IsProp A → IsProp B → (A → B → ⊥) → IsProp (A ⊎ B)
either a b apart (inl x) (inl y) = ap inl (a x y)
either a b apart (inl x) (inr y) = absurd (apart x y)
either a b apart (inr x) (inl y) = absurd (apart y x)
either a b apart (inr x) (inr y) = ap inr (b x y)

only : (n : ℕ) → IsProp ((n ≡ 1) ⊎ ((n ≡ 2) ⊎ ((n ≡ 4) ⊎ (n ≡ 8))))
only n = either (ℕ_set n 1) (either (ℕ_set n 2) (either (ℕ_set n 4) (ℕ_set n 8) (λ x y. omega arith)) (λ x y. omega arith)) (λ x y. omega arith)

pub places-prop : (n : ℕ) → IsProp (Places n)
places-prop n = hlevel (props, only)
