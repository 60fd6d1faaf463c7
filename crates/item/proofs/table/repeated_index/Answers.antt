-- `repeated_index` meets its contract: k calls leave the byte of k indices.
use mathlib.Core.Path.{◌≡◌}
use Prim.Native.Nat.{ℕ, ◌+◌, ◌*◌, ◌^◌, ◌<◌}
use native.Mathlib.Nat.{pow-zero}
use Rattle.std.proofs.Common.{rules}
use native.Mathlib.Omega.{arith}
use Rattle.format.specs.ColorTable.{digits}
use Rattle.color_table.proofs.Digits.{digits_none}
use Rattle.item.proofs.Columns.{again_more, again_small, again_fits}
use Rattle.item.proofs.Fold.{fold_asks, fold_gives}
use Rattle.item.proofs.table.repeated_index.Goals as goal
use Rattle.item.proofs.table.repeated_index.Goals.{After-fold}

abbrev After : ℕ → ℕ → ℕ → ℕ → Type 0
After i u k byte = (byte ≡ digits u k (λ j. i)) × (byte < u ^ k)

none : (i u : ℕ) → After i u 0 0
none i u = (digits_none _ _, rw (pow-zero u) (omega arith))

more : (i u k byte next : ℕ) → i < u → After i u k byte → next ≡ i + u * byte → After i u (k + 1) next
more i u k byte next l a e = rw e (again_more _ _ _ _ a.0, again_small _ _ _ _ l a.1)

pub fold-requires-clause-callable : goal.fold-requires-clause-callable
fold-requires-clause-callable c =
    let i = c.args.i in
    let u = c.args.range in
    fold_asks (After i u) _ _ (λ k a b f' e. search rules) (λ k a b f' l j e. more i u k a b c.requires.0 j (search rules)) _ (none i u)
    (λ k a l j. let h = again_fits u i k c.args.n a c.requires.0 j.1 l c.requires.1 in search rules)

folded : (c : After-fold) → After c.args.i c.args.range c.args.n c.fold.result
folded c =
    let i = c.args.i in
    let u = c.args.range in
    fold_gives (After i u) _ _ (λ k a b f' e. search rules) (λ k a b f' l j e. more i u k a b c.requires.0 j (search rules)) _ _ (none i u) c.fold.ensures.ran

pub overflow_cast-result : goal.overflow_cast-result
overflow_cast-result c = omega (arith, (folded c).1, c.requires.1)

pub returns : goal.returns
returns c = (folded c).0
