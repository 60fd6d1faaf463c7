-- `put_four` meets its contract: four cells are put.
use Rattle.std.proofs.Common.{rules}
use Rattle.color_table.proofs.Records.{four_given, four_value}
use Rattle.color_table.proofs.four.put_four.Goals as goal

pub returns : goal.returns
returns g c f h =
    let at = four_value g.C.Cell.value c.args.cells f c.args.j h in
    four_given _ f _ _ _ _ _ _ _ _ _ _ c.put.ensures c.put-2.ensures c.put-3.ensures c.put-4.ensures
    (at 0 _ (search rules)) (at 1 _ (search rules)) (at 2 _ (search rules)) (at 3 _ (search rules))
