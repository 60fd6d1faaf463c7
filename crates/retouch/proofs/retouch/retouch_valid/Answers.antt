-- `retouch_valid` meets its contract: what was decided is written, and nothing where that is a refusal.
use mathlib.Core.Path.{refl}
use native.Mathlib.Omega.{arith}
use Rattle.retouch.proofs.Writing.{written_lent}
use Rattle.retouch.proofs.Deciding.{left_picture, left_strip}
use Rattle.retouch.proofs.retouch.retouch_valid.Goals as goal

pub returns-clause-picture_after : goal.returns-clause-picture_after
returns-clause-picture_after c =
    left_picture c.args.opened.now _ _ _ _ c.in_ok-decision.ensures _ c.requires.held c.requires.inside c.put_pixel.ensures

pub returns-clause-strip_after : goal.returns-clause-strip_after
returns-clause-strip_after c =
    left_strip c.args.opened.now _ _ _ _ c.in_ok-decision.ensures _ (written_lent _ _ _ _ _ _ _ (omega (arith, c.records.ensures.0)) c.requires.room c.write.ensures refl)
