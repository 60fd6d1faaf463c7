-- `select` meets its contract: the test is the definition's, with what both sides share taken off.
use Rattle.std.proofs.Common.{◌∙◌}
use Rattle.pixel.proofs.Distance.{select_between}
use Rattle.pixel.proofs.pixel.select.Goals as goal

pub returns : goal.returns
returns c = c.pick_pixel.ensures ∙ rw (c.pixel_distance.ensures, c.pixel_distance-2.ensures, select_between)
