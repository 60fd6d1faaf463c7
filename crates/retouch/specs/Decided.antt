-- What a retouch decides and leaves, where the chain is a value.
use Rattle.std.specs.Prelude.{List, [], ◌∷◌, ◌≡◌, ℕ, ◌<◌, if◌then◌else◌}
use Rattle.std.specs.Int.Count.{ones}
use Rattle.format.specs.declared.Step.{Step}
use Rattle.format.specs.Picture.{Picture, pixels, written}
use Rattle.format.specs.Refusals.{accepted}
use Rattle.format.specs.Retouch.{answer, new_strip, point_answer}
use Rattle.chain.specs.declared.Chain.{Chain}
use Rattle.chain.specs.declared.record.ValidChain.{ValidChain}
use Rattle.chain.specs.Valid.{HoldsPicture, HoldsStrip, steps_of, pixels_in, records_in}
use Rattle.item.specs.declared.painted.Point.{Point}
use Rattle.item.specs.Source.{shown}
use Rattle.retouch.specs.declared.decide.Decision.{Decision}
use Rattle.retouch.specs.Spots.{records_of, touched_by}
use Rattle.retouch.specs.Remade.{RemadeAll}

-- a chain's picture and its strip in buffers, and a point inside
pub record Retouchable (c : Chain) (picture strip : List ℕ) (point : Point) : Type 0 where
  pub held : HoldsPicture c picture
  pub room : HoldsStrip c strip
  pub inside : point.index < pixels_in c

module _ (v : ValidChain) (picture : List ℕ) where
  abbrev steps : ℕ → Step
  steps = steps_of v.chain

  abbrev ds : List ℕ
  ds = v.«data».now

  -- the picture after the call, by the number that it answers
  abbrev pub picture_left : Point → ℕ → List ℕ
  picture_left point r = if accepted r then written (pixels_in v.chain) (shown picture point) picture else picture

  module _ (strip : List ℕ) (point : Point) where
    -- the strip with the records of the point's spots made afresh
    abbrev pub records_by : Picture
    records_by = new_strip steps ds v.chain.count (shown picture point) (point.index ∷ []) (pixels strip)

    -- the number
    abbrev pub answer_by : ℕ
    answer_by =
        point_answer steps ds v.chain.count (records_in v.chain) (shown picture point) point.index (pixels strip)

    -- the strip after the call, by the number that it answers
    abbrev pub strip_left : ℕ → List ℕ
    strip_left r = if accepted r then written (records_in v.chain) records_by strip else strip

    -- what is decided before a byte is written, where it is no refusal
    pub record Decided (d : Decision) : Type 0 where
      pub answer : answer (ones d.changes.mask) d.changes.mask ≡ answer_by
      pub records : records_of d.remade.spots ≡ touched_by v point
      pub made : RemadeAll v (shown picture point) (touched_by v point) d.remade.made
