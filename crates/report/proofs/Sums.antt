-- Laws of sums: counts that are added to counters, and numbers written as counters.
use mathlib.Core.Bool.{Bool, true, false}
use mathlib.Core.List.{List}
use mathlib.Core.Path.{◌≡◌, refl, ap, ◌∙◌}
use Prim.Native.Nat.{ℕ, zero, suc, ◌*◌, ◌^◌, ◌<◌, ◌≤◌}
use native.Mathlib.Nat.{zero-add}
use native.Mathlib.Omega.{arith}
use borrow.Author.Tests.{lt-ltb, ltb-true}
use lib.Dec.{ltb}
use lib.ListN.{length, set}
use Rattle.format.specs.declared.Refusal.TheVariants.{FullCounter}
use Rattle.format.specs.Picture.{written_bytes}
use Rattle.format.specs.Refusals.{number}
use Rattle.format.specs.Report.{counter_byte, written_counters}
use Rattle.format.proofs.Choice.{every_at, every_all}
use Rattle.format.proofs.Picture.{written_bytes_more}
use Rattle.pixel.specs.Cells.{byte_cells, run, given}
use Rattle.report.specs.Counts.{sum_at, sums_fit, sums_answer}

module _ (n : ℕ) (g : ℕ → ℕ) (counts : List ℕ) where
  -- one sum does not fit
  pub sum_past : (k : ℕ) → k < n → (sum_at g counts k < 2 ^ 64 → ⊥) → number FullCounter ≡ sums_answer n g counts
  sum_past k l p = go (sums_fit n g counts) refl
    where
      go : (b : Bool) → sums_fit n g counts ≡ b → number FullCounter ≡ sums_answer n g counts
      go true e = absurd (p (ltb-true (sum_at g counts k) (2 ^ 64) (every_at n (λ j. ltb (sum_at g counts j) (2 ^ 64)) k l e)))
      go false e = rw e

  -- all do
  pub sums_made : ((k : ℕ) → k < n → sum_at g counts k < 2 ^ 64) → 0 ≡ sums_answer n g counts
  sums_made h =
      let e : sums_fit n g counts ≡ true = every_all n (λ j. ltb (sum_at g counts j) (2 ^ 64)) (λ j b. lt-ltb (sum_at g counts j) (2 ^ 64) (h j b)) in
      rw e

-- counters written byte by byte

bytes_run : (f : ℕ → ℕ) (n : ℕ) (xs : List ℕ) → n ≤ length xs → run byte_cells (given f) 0 n xs ≡ written_bytes n f xs
unfolding run given written_bytes
bytes_run f zero xs l = refl
bytes_run f (suc n) xs l =
    let z = zero-add n in
    rw z (ap (λ (ys : List ℕ). set ys n (f n)) (bytes_run f n xs (omega arith)) ∙ written_bytes_more n f xs (omega arith))

pub counters_run : (n : ℕ) (g : ℕ → ℕ) (xs ys : List ℕ) → ys ≡ run byte_cells (given (counter_byte g)) 0 (8 * n) xs → 8 * n ≤ length xs → ys ≡ written_counters n g xs
unfolding written_counters
counters_run n g xs ys e l = e ∙ bytes_run (counter_byte g) (8 * n) xs l
