-- The delta by an unsigned factor, as the code computes it.
use Rattle.std.proofs.Common.{◌≡◌, ℕ, ◌+◌, ◌-◌, ◌*◌, ◌/◌, ◌%◌, ◌<◌, true, eqb, refl, eqb-true}
use Rattle.format.specs.Choice.{every}
use Rattle.format.specs.Byte.{delta}
use Rattle.format.proofs.Choice.{every_at}
use Rattle.color.specs.Factor.{factor}

abbrev pub delta_by : ℕ → ℕ → ℕ
delta_by m c = (m * ((c + 128) % 256) + (1048576 - 128 * m)) / 32 % 256

all_deltas : every 256 (λ t. every 256 (λ c. eqb (delta_by (factor t) c) (delta t c))) ≡ true
unfolding delta
all_deltas = refl

-- tested for all pairs
pub delta-by : (t c : ℕ) → t < 256 → c < 256 → delta_by (factor t) c ≡ delta t c
delta-by t c f b =
    eqb-true (delta_by (factor t) c) (delta t c)
    (every_at 256 (λ y. eqb (delta_by (factor t) y) (delta t y)) c b
    (every_at 256 (λ x. every 256 (λ y. eqb (delta_by (factor x) y) (delta x y))) t f all_deltas))
