-- Pixels by their block's factors.
use Rattle.std.proofs.Common.{◌≡◌, ℕ, ◌+◌, ◌-◌, ◌%◌, ◌<◌, ap, ◌∙◌, arith}
use Rattle.format.specs.Byte.{sub, delta}
use Rattle.format.specs.declared.Pixel.{Pixel}
use Rattle.color.specs.declared.factor.Factors.{Factors}
use Rattle.color.specs.Factors.{factors}

-- the data pixel's delta is its factor's
module _ (m : Factors) (e : Pixel) (q : m ≡ factors e) (c r : ℕ) where
  pub green_to_red : r ≡ delta m.green_to_red c → r ≡ delta e.blue c
  green_to_red p = p ∙ ap (λ (k : Factors). delta k.green_to_red c) q

  pub green_to_blue : r ≡ delta m.green_to_blue c → r ≡ delta e.green c
  green_to_blue p = p ∙ ap (λ (k : Factors). delta k.green_to_blue c) q

  pub red_to_blue : r ≡ delta m.red_to_blue c → r ≡ delta e.red c
  red_to_blue p = p ∙ ap (λ (k : Factors). delta k.red_to_blue c) q

-- a byte is its own remainder
pub taken : (a b : ℕ) → b < 256 → (a + (256 - b)) % 256 ≡ sub a b
taken a b l = omega arith
