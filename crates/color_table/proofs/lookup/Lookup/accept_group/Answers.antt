-- `accept_group` meets its contract: pixels that are one of two entries have one; else each is looked up.
use mathlib.Core.Bool.{◌||◌}
use mathlib.Core.Path.{sym}
use Rattle.std.proofs.lemmas.Bool.{and_parts}
use Rattle.format.specs.Picture.{pixels}
use Rattle.color_table.proofs.Index.{accepted_front, known_entry}
use Rattle.color_table.proofs.lookup.Lookup.accept_group.Goals as goal

pub returns-then-known-group_of : goal.returns-then-known-group_of
returns-then-known-group_of c =
    let u = c.args.a in
    let v = c.at-c.result in
    let k = c.first_holds.result || c.eq.result in
    let b = c.group_of.ensures (and_parts k _ c.if-known-group_of.true).1 in
    let x = c.requires in
    sym (accepted_front _ _ (pixels c.args.group.now) _ _ 16 b x.has (known_entry _ _ u v _ _ c.first_holds.ensures c.eq.ensures x.has (and_parts k _ c.if-known-group_of.true).0))
