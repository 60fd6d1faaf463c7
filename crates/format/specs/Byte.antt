-- Byte arithmetic (document 01, module 1). A byte is a number below 256. `-` on numbers stops at 0.
use Rattle.std.specs.Prelude.{ℕ, ◌+◌, ◌-◌, ◌/◌, ◌%◌, min, ltb, ℤ, pos, negsuc, ◌*ℤ◌, if◌then◌else◌}

-- sums and differences are taken modulo 256
abbrev pub add : ℕ → ℕ → ℕ
add a b = (a + b) % 256

abbrev pub sub : ℕ → ℕ → ℕ
sub a b = (a + (256 - b % 256)) % 256

-- the mean, rounded down: Average2
abbrev pub avg : ℕ → ℕ → ℕ
avg a b = (a + b) / 2

-- |a - b|: one of the two differences is 0
abbrev pub distance : ℕ → ℕ → ℕ
distance a b = (a - b) + (b - a)

-- l + t - tl, clamped to 0..255: ClampAddSubtractFull
abbrev pub clamp_full : ℕ → ℕ → ℕ → ℕ
clamp_full l t tl = min 255 (l + t - tl)

-- with m the mean of l and t: m + (m - tl) / 2, the division toward zero, clamped to 0..255: ClampAddSubtractHalf.
-- Of the two halves one is 0, the other is what is gained or lost.
abbrev pub clamp_half : ℕ → ℕ → ℕ → ℕ
clamp_half l t tl = min 255 (avg l t + (avg l t - tl) / 2 - (tl - avg l t) / 2)

-- a byte read as signed: 128..255 stand for -128..-1 (`negsuc n` is -(n + 1))
abbrev pub signed : ℕ → ℤ
signed x = if ltb x 128 then pos x else negsuc (255 - x)

-- divided by 32, rounded down: -(n + 1) is between -32 * (n / 32 + 1) and -32 * (n / 32) - 1
abbrev pub floor32 : ℤ → ℤ
floor32 (pos n) = pos (n / 32)
floor32 (negsuc n) = negsuc (n / 32)

-- modulo 256: -1 is 255
abbrev pub modulo256 : ℤ → ℕ
modulo256 (pos n) = n % 256
modulo256 (negsuc n) = 255 - n % 256

-- ColorTransformDelta: both bytes as signed, the product divided by 32 rounded down, modulo 256
unfoldable pub delta : ℕ → ℕ → ℕ
delta t c = modulo256 (floor32 (signed t *ℤ signed c))
