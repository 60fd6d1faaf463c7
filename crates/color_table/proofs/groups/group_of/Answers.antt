-- `group_of` meets its contract.
use Rattle.format.specs.Picture.{pixels}
use Rattle.color_table.proofs.Index.{each_both}
use Rattle.color_table.proofs.groups.group_of.Goals as goal

pub returns : goal.returns
returns c =
    each_both c.args.a c.args.b (pixels c.args.row.now) c.args.i _ _ c.eight_of.ensures c.eight_of-2.ensures
