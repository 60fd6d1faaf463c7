-- What the promises ask no more than, and admit no more than: a stored pair of more than one row, and numbers that
-- retouching and reporting do not answer.
use mathlib.Core.List.{◌++◌}
use mathlib.Core.Logic.{inl, inr}
use mathlib.Core.Path.{refl}
use Prim.Native.Nat.{◌≤◌}
use native.Mathlib.Omega.{arith}
use Rattle.format.specs.Byte.{delta}
use Rattle.format.specs.Pixel.{each, each3}
use Rattle.format.specs.Picture.{pixels, written, in_order, block, written_bytes}
use Rattle.format.specs.Predictor.{predict, select, predicted, residuals, gained}
use Rattle.format.specs.Color.{transform_color, inverse_color, color_stored, color_rebuilt}
use Rattle.format.specs.SubtractGreen.{green_stored, green_rebuilt}
use Rattle.format.specs.ColorTable.{per_pixel, index_in, unpacked, lowest, digits, packed}
use Rattle.format.specs.Chain.{record_at, by_kind, narrowed, width_at}
use Rattle.format.specs.Refusals.{tabled, tabled_length, checked, records_refusal, size_refusal, chain_refusal, input_refusal}
use Rattle.format.specs.Stages.{forward, backward, stored, rebuilt, takes, accepts}
use Rattle.format.specs.Calls.{pair_refusal, rebuild_answer, rebuild_image, store_answer, store_strip}
use Rattle.format.specs.Promises.{StoredPair, RetouchNumber, ReportNumber}
use Rattle.format.proofs.Worked.{blacks, zeros, mode, predictor, bytes}

-- two rows, a strip and a picture with bytes beyond
pub pair : StoredPair 3 2 predictor (mode 7) (record { picture = blacks 7; strip = zeros 6 ++ bytes 3 })
unfolding delta each each3 pixels written in_order block written_bytes predict select predicted residuals gained transform_color inverse_color color_stored color_rebuilt green_stored green_rebuilt per_pixel index_in unpacked lowest digits packed record_at by_kind narrowed width_at tabled tabled_length checked records_refusal size_refusal chain_refusal input_refusal forward backward stored rebuilt takes accepts pair_refusal rebuild_answer rebuild_image store_answer store_strip
pair = (refl, refl)

-- 10 is no answer of retouching
pub ten : RetouchNumber 10 → ⊥
ten (inl p) = let l : 10 ≤ 9 = p.1 in omega arith
ten (inr (inl e)) = omega arith
ten (inr (inr m)) = let e = m.2 in omega arith

-- 7 is no answer of reporting
pub seven : ReportNumber 7 → ⊥
seven (inl e) = omega arith
seven (inr (inl e)) = omega arith
seven (inr (inr (inl e))) = omega arith
seven (inr (inr (inr (inl e)))) = omega arith
seven (inr (inr (inr (inr e)))) = omega arith
