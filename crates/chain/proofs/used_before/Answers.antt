-- `used_before` meets its contract.
use mathlib.Core.Path.{◌≡◌, refl}
use Prim.Native.Nat.{ℕ, ◌*◌}
use lib.Dec.{eqb}
use native.Mathlib.Omega.{arith}
use borrow.Author.Rules.{rules}
use Rattle.std.proofs.Common.{tests, Bool, true, false}
use Rattle.std.proofs.lemmas.Iterator.{cases_from_any, YieldsList-from_range}
use Rattle.format.specs.Picture.{byte_at}
use Rattle.chain.proofs.Tabled.{any_below}
use Rattle.chain.proofs.used_before.Goals as goal

pub returns : goal.returns
returns c =
    let cs = c.args.chain.now in
    let k = c.args.k in
    let same : ℕ → Bool = λ j. eqb (byte_at cs (16 * j)) (byte_at cs (16 * k)) in
    any_below k same _
    (cases_from_any _ _ _ (λ j. true ≡ same j) (λ j. false ≡ same j) c.any.ensures.ran (YieldsList-from_range 0 k k refl (omega arith)) (λ j q r. search (rules, tests)) (λ j q r. search (rules, tests)))
