-- `table_at` meets its contract.
use mathlib.Core.Path.{◌≡◌}
use borrow.Author.Rules.{rules}
use Rattle.std.proofs.Common.{tests}
use Rattle.std.proofs.lemmas.Iterator.{first_from_Range}
use Rattle.store.specs.Stage.{step_of}
use Rattle.store.proofs.Tables.{table_found}
use Rattle.store.proofs.storing.table_at.Goals as goal

pub returns : goal.returns
returns c =
    let v = c.args.opened.now in
    table_found v _
    (first_from_Range _ _ _ c.find.result (λ k. (step_of v k).kind ≡ 3) (λ k. (step_of v k).kind ≡ 3 → ⊥) c.find.ensures.ran (λ k q t. search (rules, tests)) (λ k q t. search (rules, tests)))
