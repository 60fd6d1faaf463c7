-- `accept_each` meets its contract: each is looked at.
use Rattle.std.proofs.Common.{rules, tests, ◌≡◌, ◌-◌, ◌/◌, length, arith, refl, ◌∙◌}
use Rattle.std.proofs.lemmas.Iterator.{YieldsList-from_range}
use Rattle.std.proofs.lemmas.Iterator.Search.{all_from_yields_List}
use Rattle.format.specs.Picture.{pixels}
use Rattle.format.specs.ColorTable.{has_entry}
use Rattle.color_table.proofs.Index.{accepted_all}
use Rattle.color_table.proofs.lookup.Lookup.accept_each.Goals as goal

pub returns : goal.returns
returns c =
    let s = c.args.self.now.entries in
    let e = pixels s.bytes.now in
    let f = pixels c.args.part.now in
    let n = length c.args.part.now / 4 in
    let z : n - 0 ≡ n = omega arith in
    all_from_yields_List (λ j. has_entry s.size e (f j)) _ _ _ c.all.ensures.ran (YieldsList-from_range 0 n n refl z) (λ x b q k. search (rules, tests))
    ∙ accepted_all s.size e f n
