-- `record` meets its contract: before each turn the byte holds the indices from k on.
use mathlib.Core.Path.{◌≡◌}
use Prim.Native.Nat.{ℕ, ◌+◌, ◌-◌, ◌<◌, ◌^◌}
use Rattle.format.specs.ColorTable.{range, digits}
use Rattle.color_table.proofs.each.Packing.record.Given as goal

abbrev pub invariant-loop-k : goal.invariant-loop-k
invariant-loop-k g l =
    let n = g.row.N in
    record {
      small : l.byte < range n ^ (n - l.k);
      holds : (h : ℕ → ℕ) → ((k r : ℕ) → k < n → goal.F-post g l.index k r → r ≡ h k) → l.byte ≡ digits (range n) (n - l.k) (λ i. h (l.k + i));
    }
