-- `eight_of` meets its contract: where `all` is true, the first k pixels are a or b.
use Rattle.format.specs.Picture.{pixels}
use Rattle.color_table.proofs.Index.{each_more}
use Rattle.color_table.proofs.groups.eight_of.Goals as goal

pub loop-k-preserved : goal.loop-k-preserved
loop-k-preserved c =
    each_more c.args.a c.args.b (pixels c.args.row.now) c.args.i c.loop-k.k _ _ _ _ c.loop-k.invariant c.at-w.ensures c.eq.ensures c.eq-in-loop-k.ensures
