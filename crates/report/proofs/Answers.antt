-- The answer of a report that only its sums can refuse, and the counters that it leaves.
use Rattle.std.proofs.lemmas.Bool.{and_parts}
use Rattle.std.specs.Prelude.{⊤, Result}
use mathlib.Core.Bool.{true, ◌&&◌}
use mathlib.Core.List.{List}
use mathlib.Core.Path.{◌≡◌, refl, sym, ap, ◌∙◌}
use Prim.Native.Nat.{ℕ, ◌+◌, ◌*◌, ◌^◌, ◌<◌}
use native.Mathlib.Omega.{arith}
use lib.Dec.{ltb}
use Rattle.format.specs.Choice.{every}
use Rattle.format.specs.Picture.{pixels}
use Rattle.format.specs.declared.Refusal.{Refusal}
use Rattle.format.specs.Refusals.{returned, size_refusal}
use Rattle.format.specs.Calls.{holds}
use Rattle.format.specs.Report.{counter, color_count, counter_count, distinct, in_fours, color_list, holds_counters, grown, report_answer, report_counters}
use Rattle.format.proofs.Choice.{every_same}
use Rattle.format.proofs.Report.{added_found, counters_same}
use Rattle.report.specs.Counts.{Counted, sum_at, sums_fit, sums_answer, counters_left}

module _ (w h : ℕ) (picture colors counters : List ℕ) (list : color_list colors ≡ true)
    (counts : List ℕ) (c : Counted (color_count colors) (pixels colors) (h * w) (pixels picture) counts) where
  abbrev n : ℕ
  n = counter_count colors

  abbrev held : ℕ → ℕ
  held = sum_at (counter counters) counts

  abbrev grows : ℕ → ℕ
  grows = grown w h picture colors counters

  same : (k : ℕ) → k < n → held k ≡ grows k
  unfolding color_list
  same k l =
      let apart = (and_parts (in_fours colors) (distinct (color_count colors) (pixels colors)) list).1 in
      let f = added_found (color_count colors) (pixels colors) apart (h * w) (pixels picture) k (omega arith) in
      ap (λ (n : ℕ). counter counters k + n) (c.found k (omega arith) ∙ sym f)

  fits : sums_fit n (counter counters) counts ≡ every n (λ k. ltb (grows k) (2 ^ 64))
  fits = every_same n _ _ (λ k l. rw (same k l))

  pub counted : size_refusal w h ≡ 0 → (holds_counters counters n && holds picture (h * w)) ≡ true
      → (r : Result ⊤ Refusal) (ys : List ℕ) → returned r ≡ sums_answer n (counter counters) counts → ys ≡ counters_left n counts counters (returned r)
      → (returned r ≡ report_answer w h picture colors counters) × (ys ≡ report_counters w h picture colors counters)
  unfolding report_answer report_counters
  counted sized rooms r ys p q =
      let answer : returned r ≡ report_answer w h picture colors counters = p ∙ rw (fits, sized, list, rooms) refl in
      (answer, q ∙ rw (answer, counters_same n held grows counters same) refl)
