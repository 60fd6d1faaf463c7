-- The mean by bits. A bit is shared where both numbers have it, and differs where one of them has it.
use Rattle.std.proofs.Common.{◌≡◌, ℕ, ◌+◌, ◌/◌, arith}
use lib.Bits.{bit_and, bit_or, bit_xor, or_add_and, xor_add_and}
use Rattle.format.specs.Byte.{avg}

-- In the sum of two numbers a shared bit counts twice, and a differing bit once.
pub mean_bits : (a b : ℕ) → bit_and a b + bit_xor a b / 2 ≡ avg a b
mean_bits a b = omega (arith, xor_add_and a b)

-- No bit is both.
pub either_bits : (a b : ℕ) → bit_and a b + bit_xor a b ≡ bit_or a b
either_bits a b = omega (arith, xor_add_and a b, or_add_and a b)
