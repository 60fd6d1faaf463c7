-- `scan` meets its contract: no entry before the first that equals w does.
use Rattle.std.proofs.Common.{rules, tests, ◌≡◌, true, false}
use Rattle.std.proofs.lemmas.Iterator.{first_from_Range}
use Rattle.format.specs.Pixel.{equal}
use Rattle.format.specs.Picture.{pixels}
use Rattle.color_table.proofs.Index.{scanned}
use Rattle.color_table.proofs.find.scan.Goals as goal

pub returns : goal.returns
returns c =
    let e = pixels c.args.entries.now in
    let w = c.args.w in
    scanned _ e w _
    (first_from_Range _ _ _ _ (λ i. equal (e i) w ≡ true) (λ i. equal (e i) w ≡ false) c.find.ensures.ran (λ x q k. search (rules, tests)) (λ x q k. search (rules, tests)))
