-- A pixel as one number: R + 256 G + 65536 B + 16777216 A.
use Rattle.std.specs.Prelude.{◌≡◌, ℕ, ◌+◌, ◌*◌, ◌/◌, ◌%◌, ◌^◌, ◌<◌}
use Rattle.std.specs.Cmp.{IsPartialEquivalence, partial_equiv_from_equiv, and_per, on_per, nat_eq_equiv}
use native.Mathlib.Omega.{arith}
use Rattle.format.specs.declared.Pixel.{Pixel}
use Rattle.format.specs.Pixel.{pixel, equal}

unfoldable pub unword : ℕ → Pixel
unword w = pixel (w % 256) (w / 256 % 256) (w / 65536 % 256) (w / 16777216 % 256)

abbrev pub number : Pixel → ℕ
number v = v.red + 256 * v.green + 65536 * v.blue + 16777216 * v.alpha

-- a number of 32 bits is that of its pixel

sum : (w x y z a b c d : ℕ) → w ≡ 256 * x + a → x ≡ 256 * y + b → y ≡ 256 * z + c → z ≡ d → a + 256 * b + 65536 * c + 16777216 * d ≡ w
sum w x y z a b c d p q r s = omega arith

pub number-unword : (w : ℕ) → w < 2 ^ 32 → number (unword w) ≡ w
unfolding unword
number-unword w h =
    sum w (w / 256) (w / 65536) (w / 16777216) (w % 256) (w / 256 % 256) (w / 65536 % 256) (w / 16777216 % 256) (omega arith) (omega arith) (omega arith) (omega arith)

-- pixels that are alike in all four bytes are one class each
pub equal-laws : IsPartialEquivalence equal
equal-laws =
    let one = partial_equiv_from_equiv nat_eq_equiv in
    and_per (and_per (on_per (λ (v : Pixel). v.red) one) (on_per (λ (v : Pixel). v.green) one))
    (and_per (on_per (λ (v : Pixel). v.blue) one) (on_per (λ (v : Pixel). v.alpha) one))
