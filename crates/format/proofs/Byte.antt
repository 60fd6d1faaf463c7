-- Laws of byte arithmetic.
use mathlib.Core.Path.{◌≡◌}
use Prim.Native.Nat.{ℕ, ◌+◌, ◌%◌, ◌<◌}
use native.Mathlib.Omega.{arith}
use Rattle.format.specs.Byte.{add, sub}

pub add_sub : (a b : ℕ) → a < 256 → add (sub a b) b ≡ a
add_sub a b h = omega arith

pub sub_add : (a b : ℕ) → a < 256 → sub (add a b) b ≡ a
sub_add a b h = omega arith

pub add_byte : (a b : ℕ) → add a b < 256
add_byte a b = omega arith

pub sub_byte : (a b : ℕ) → sub a b < 256
sub_byte a b = omega arith

-- what wrapping subtraction gives
pub sub_wrapped : (a b r : ℕ) → (r + b) % 256 ≡ a → r < 256 → r ≡ sub a b
sub_wrapped a b r e l = omega arith
