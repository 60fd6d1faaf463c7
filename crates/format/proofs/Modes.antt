-- Modes 14 to 255: they predict zero.
use mathlib.Core.Path.{◌≡◌}
use Prim.Native.Nat.{ℕ, ◌+◌, ◌≤◌, zero-le}
use native.Mathlib.Omega.{arith}
use lib.ListN.{get_or-eq_default}
use Rattle.format.specs.declared.Pixel.{Pixel}
use Rattle.format.specs.Pixel.{clear}
use Rattle.format.specs.Predictor.{predict, predictions}

-- five numbers that m is not
five : (m k : ℕ) → k ≤ m → (m ≡ k → ⊥) → (m ≡ k + 1 → ⊥) → (m ≡ k + 2 → ⊥) → (m ≡ k + 3 → ⊥) → (m ≡ k + 4 → ⊥) → k + 5 ≤ m
five m k h a b c d e = omega arith

four : (m : ℕ) → 10 ≤ m → (m ≡ 10 → ⊥) → (m ≡ 11 → ⊥) → (m ≡ 12 → ⊥) → (m ≡ 13 → ⊥) → 14 ≤ m
four m h a b c d = omega arith

-- a number that is none of 0 to 13
pub past_13 : (m : ℕ) → (m ≡ 0 → ⊥) → (m ≡ 1 → ⊥) → (m ≡ 2 → ⊥) → (m ≡ 3 → ⊥) → (m ≡ 4 → ⊥) → (m ≡ 5 → ⊥) → (m ≡ 6 → ⊥) → (m ≡ 7 → ⊥) → (m ≡ 8 → ⊥) → (m ≡ 9 → ⊥)
    → (m ≡ 10 → ⊥) → (m ≡ 11 → ⊥) → (m ≡ 12 → ⊥) → (m ≡ 13 → ⊥) → 14 ≤ m
past_13 m a b c d e f g h i j k l n o =
    let five-on = five m 0 zero-le a b c d e in
    four m (five m 5 five-on f g h i j) k l n o

pub mode_over_13 : (m : ℕ) (l t tr tl : Pixel) → 14 ≤ m → predict m l t tr tl ≡ clear
unfolding predict
mode_over_13 m l t tr tl h = get_or-eq_default (predictions l t tr tl) clear h
