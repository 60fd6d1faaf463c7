-- `lookup` meets its contract: there is one table at most.
use borrow.Author.Rules.{rules}
use mathlib.Core.Path.{◌≡◌}
use Rattle.std.specs.Prelude.{Some}
use Rattle.store.proofs.Tables.{looks_only}
use Rattle.store.proofs.storing.Storing.lookup.Goals as goal

pub returns : goal.returns
returns c =
    let s = c.args.self.now in
    let b = c.unwrap.result.now in
    let e : s.table ≡ Some b = search rules in
    looks_only _ b (s.found.at b e) (s.found.looks b e) _ c.requires
