-- Tests 1 and 2: what the code's tests say of the definition's refusal.
use mathlib.Core.Bool.{true}
use mathlib.Core.List.{List}
use mathlib.Core.Path.{◌≡◌}
use Prim.Native.Nat.{ℕ, ◌%◌, ◌≤◌}
use borrow.Author.Tests.{eq-eqb, le-leb}
use lib.Dec.{leb, eqb}
use lib.ListN.{length}
use Rattle.std.proofs.lemmas.Bool.{and_from}
use Rattle.format.specs.Sizes.{Sized}
use Rattle.format.specs.Refusals.{in_range, records_refusal, input_refusal}
use Rattle.format.specs.Chain.{count}
use Rattle.format.proofs.Valid.{chain_records}

in-range : (x : ℕ) → 1 ≤ x → x ≤ 16384 → in_range x ≡ true
in-range x a b = and_from (leb 1 x) (leb x 16384) (le-leb 1 x a) (le-leb x 16384 b)

-- tests 1 and 2 passed
pub whole_chain : (w h : ℕ) (cs ds : List ℕ) → Sized w h → length cs % 16 ≡ 0 → length cs ≤ 64 → input_refusal w h cs ds ≡ records_refusal cs w h ds (count cs)
whole_chain w h cs ds s e l =
    chain_records w h cs ds (and_from (in_range w) (in_range h) (in-range w s.wide s.narrow) (in-range h s.tall s.low)) (and_from (eqb (length cs % 16) 0) (leb (length cs) 64) (eq-eqb (length cs % 16) 0 e) (le-leb (length cs) 64 l))
