-- Pixels as words: a word's bytes, and that words are equal where their pixels are.
use Rattle.std.proofs.Common.{◌≡◌, ℕ, ◌+◌, ◌*◌, ◌/◌, ◌%◌, ◌^◌, ◌<◌, Bool, true, false, refl, sym, ap, ◌∙◌, arith, eqb-true, eq-eqb}
use lib.Dec.{eqb}
use Rattle.format.specs.Pixel.{pixel, equal}
use Rattle.format.proofs.Pixels.{equal_true, equal_refl}
use Rattle.pixel.specs.Word.{unword, number, number-unword}

-- each byte is a digit of the sum to the base 256
pub joined : (r g b a : ℕ) → r < 256 → g < 256 → b < 256 → a < 256 → unword (r + g * 256 + b * 65536 + a * 16777216) ≡ pixel r g b a
unfolding unword
joined r g b a hr hg hb ha =
    let e0 : (r + g * 256 + b * 65536 + a * 16777216) % 256 ≡ r = omega arith in
    let q1 : (r + g * 256 + b * 65536 + a * 16777216) / 256 ≡ g + 256 * b + 65536 * a = omega arith in
    let e1 : (r + g * 256 + b * 65536 + a * 16777216) / 256 % 256 ≡ g = rw q1 (omega arith) in
    let q2 : (r + g * 256 + b * 65536 + a * 16777216) / 65536 ≡ b + 256 * a = omega arith in
    let e2 : (r + g * 256 + b * 65536 + a * 16777216) / 65536 % 256 ≡ b = rw q2 (omega arith) in
    let q3 : (r + g * 256 + b * 65536 + a * 16777216) / 16777216 ≡ a = omega arith in
    let e3 : (r + g * 256 + b * 65536 + a * 16777216) / 16777216 % 256 ≡ a = rw q3 (omega arith) in
    λ k. pixel (e0 k) (e1 k) (e2 k) (e3 k)

pub equal_words : (a b : ℕ) → a < 2 ^ 32 → b < 2 ^ 32 → eqb a b ≡ equal (unword a) (unword b)
equal_words a b h k = go (equal (unword a) (unword b)) refl
  where
    go : (t : Bool) → equal (unword a) (unword b) ≡ t → eqb a b ≡ t
    go true q = eq-eqb a b (sym (number-unword a h) ∙ ap number (equal_true (unword a) (unword b) q) ∙ number-unword b k)
    go false q = other (eqb a b) refl
      where
        other : (t : Bool) → eqb a b ≡ t → t ≡ false
        other false r = refl
        other true r = sym (equal_refl (unword b)) ∙ ap (λ (x : ℕ). equal (unword x) (unword b)) (sym (eqb-true a b r)) ∙ q
