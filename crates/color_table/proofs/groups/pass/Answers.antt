-- `pass` meets its contract: the groups before the first that has another pixel are a or b.
use Rattle.std.proofs.Common.{rules, tests, ℕ, ◌*◌, ◌/◌, ◌<◌, ◌≤◌, arith}
use Rattle.std.specs.Bool.{⊤}
use Rattle.std.proofs.lemmas.Iterator.{first_from_Range}
use Rattle.format.specs.Picture.{pixels}
use Rattle.color_table.specs.OneOf.{EachOf}
use Rattle.color_table.proofs.Index.{each_groups, before_first}
use Rattle.color_table.proofs.groups.pass.Goals as goal
use Rattle.color_table.proofs.groups.pass.Goals.{After-unwrap_or}

passed : (c : After-unwrap_or) → let a = c.args.from / 16 in (a ≤ c.unwrap_or.result) × (c.unwrap_or.result ≤ c.args.to / 16)
    × ((g : ℕ) → a ≤ g → g < c.unwrap_or.result → EachOf c.args.a c.args.b (pixels c.args.row.now) (16 * g) 16)
passed c =
    let Group = λ (g : ℕ). EachOf c.args.a c.args.b (pixels c.args.row.now) (16 * g) 16 in
    rw c.unwrap_or.ensures (before_first Group _ _ _ (omega arith)
    (first_from_Range _ _ _ _ (λ g. ⊤) Group c.find-other.ensures.ran (λ x q k. tt) (λ x q k. search (rules, tests))))

pub overflow_mul-result : goal.overflow_mul-result
overflow_mul-result c = omega (arith, (passed c).1)

pub returns : goal.returns
returns c =
    let p = passed c in
    (omega arith, omega arith, omega arith, each_groups _ _ (pixels c.args.row.now) _ (c.args.from / 16) _ (omega arith) p.2)
