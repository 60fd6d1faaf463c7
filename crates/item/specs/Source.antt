-- The picture that items are made of, and the chain that they are made by.
use Rattle.std.specs.Prelude.{List, Option, ℕ, ◌*◌, ◌<◌}
use Rattle.format.specs.declared.Pixel.{Pixel}
use Rattle.format.specs.declared.Step.{Step}
use Rattle.format.specs.Picture.{Picture, pixels, paint}
use Rattle.format.specs.Stages.{part_of, stored}
use Rattle.format.specs.Made.{made_item}
use Rattle.chain.specs.Valid.{steps_of, width_after}
use Rattle.item.specs.declared.painted.Painted.{Painted}
use Rattle.item.specs.declared.painted.Point.{Point}
use Rattle.item.specs.declared.place.Place.{Place}

-- the picture in a buffer with the point painted
abbrev pub shown : List ℕ → Point → Picture
shown picture point = paint (pixels picture) point.index point.color

abbrev pub picture_of : Painted → Picture
picture_of p = shown p.picture.now p.point

-- record k of the chain, the data pixels that it names, and the stage before it
abbrev pub step_of : Painted → ℕ → Step
step_of p = steps_of p.opened.chain

abbrev pub data_pixels : Painted → ℕ → Picture
data_pixels p k = part_of (step_of p k) p.opened.«data».now

abbrev pub stage_of : Painted → ℕ → Picture
stage_of p k = stored (step_of p) p.opened.«data».now k (picture_of p)

-- how many items there are after the first k records
abbrev pub items_after : Painted → ℕ → ℕ
items_after p k = p.opened.chain.height * width_after p.opened.chain k

-- what making item q after the first k records gives
abbrev pub item_of : Painted → ℕ → ℕ → Option Pixel
item_of p k q = made_item (step_of p) p.opened.«data».now k (picture_of p) q

-- a place is inside the stage before record k. No struct has this as its ghost field: of the three values two are what
-- a function is asked about, and a caller that has k would still have to say that the struct's k is this one
pub record Stands (p : Painted) (k : ℕ) (at : Place) : Type 0 where
  pub step : k < p.opened.chain.count
  pub column : at.x < (step_of p k).width
  pub row : at.y < p.opened.chain.height
