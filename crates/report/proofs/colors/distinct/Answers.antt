-- `distinct` meets its contract: the test is made of every index.
use Rattle.std.proofs.Common.{refl, arith, rules, tests}
use Rattle.std.proofs.lemmas.Iterator.{cases_from_all, YieldsList-from_range}
use Rattle.format.specs.Picture.{pixels}
use Rattle.report.proofs.Own.{Own, all_own}
use Rattle.report.proofs.colors.distinct.Goals as goal

pub returns : goal.returns
returns c =
    let l = c.args.list.now in
    let own = Own l.entries.size (pixels l.entries.bytes.now) in
    all_own l.entries.size (pixels l.entries.bytes.now) _
    (cases_from_all _ _ _ own (λ k. own k → ⊥) c.all.ensures.ran (YieldsList-from_range 0 l.entries.size l.entries.size refl (omega arith)) (λ k q r. search (rules, tests)) (λ k q r. search (rules, tests)))
