-- `per_pixel` meets its contract, test by test.
use Rattle.std.proofs.Common.{refl, le-leb}
use borrow.Author.Tests.{lt-leb}
use Rattle.format.specs.ColorTable.{per_pixel}
use Rattle.pixel.proofs.Places.{places_1, places_2, places_4, places_8}
use Rattle.pixel.proofs.stride.per_pixel.Goals as goal

pub returns-then-size-le2 : goal.returns-then-size-le2
unfolding per_pixel
returns-then-size-le2 c = rw (le-leb _ _ c.if-size-le2.true) (refl, places_8)

pub returns-then-size-le4 : goal.returns-then-size-le4
unfolding per_pixel
returns-then-size-le4 c = rw (lt-leb _ _ c.if-size-le2.false, le-leb _ _ c.if-size-le4.true) (refl, places_4)

pub returns-then-size-le16 : goal.returns-then-size-le16
unfolding per_pixel
returns-then-size-le16 c =
    rw (lt-leb _ _ c.if-size-le2.false, lt-leb _ _ c.if-size-le4.false, le-leb _ _ c.if-size-le16.true) (refl, places_2)

pub returns-else-size-le16 : goal.returns-else-size-le16
unfolding per_pixel
returns-else-size-le16 c =
    rw (lt-leb _ _ c.if-size-le2.false, lt-leb _ _ c.if-size-le4.false, lt-leb _ _ c.if-size-le16.false) (refl, places_1)
