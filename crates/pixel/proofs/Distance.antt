-- Select by the distances of T and L from TL.
use Rattle.std.specs.Prelude.{if◌then◌else◌}
use Rattle.std.proofs.Common.{◌≡◌, ℕ, ◌+◌, ltb, arith}
use Rattle.format.specs.declared.Pixel.{Pixel}
use Rattle.format.specs.Byte.{distance}
use Rattle.format.specs.Predictor.{select, distance_to}
use Rattle.pixel.specs.Distance.{between}

shift_left : (l t tl : ℕ) → distance (l + t) (tl + l) ≡ distance t tl
shift_left l t tl = omega arith

shift_top : (l t tl : ℕ) → distance (l + t) (tl + t) ≡ distance l tl
shift_top l t tl = omega arith

to_left : (l t tl : Pixel) → distance_to l l t tl ≡ between t tl
to_left l t tl =
    cc (
      shift_left l.red t.red tl.red,
      shift_left l.green t.green tl.green,
      shift_left l.blue t.blue tl.blue,
      shift_left l.alpha t.alpha tl.alpha,
    )

to_top : (l t tl : Pixel) → distance_to t l t tl ≡ between l tl
to_top l t tl =
    cc (
      shift_top l.red t.red tl.red,
      shift_top l.green t.green tl.green,
      shift_top l.blue t.blue tl.blue,
      shift_top l.alpha t.alpha tl.alpha,
    )

-- |p - L| is |T - TL|, and |p - T| is |L - TL|, for p = L + T - TL
pub select_between : (l t tl : Pixel) → select l t tl ≡ (if ltb (between t tl) (between l tl) then l else t)
unfolding select
select_between l t tl = rw (to_left l t tl, to_top l t tl)
