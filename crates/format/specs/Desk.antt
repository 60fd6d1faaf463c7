-- The plain desk (document 01, module 6), and the call beside it, as machines that take lists of retouches.
use Rattle.std.specs.Prelude.{Bool, List, [], ℕ, if◌then◌else◌}
use Rattle.format.specs.Indices.{how_many}
use Rattle.format.specs.declared.Pixel.{Pixel}
use Rattle.format.specs.declared.Refusal.TheVariants.{Outside, NoRecord}
use Rattle.format.specs.Picture.{Picture}
use Rattle.format.specs.Refusals.{number, ◌before◌, ◌unless◌, accepted}
use Rattle.format.specs.Lists.{Machine}
use Rattle.format.specs.Retouch.{differ, marks, mask_of, answer}
use Rattle.format.specs.Calls.{records, strip_of, storable, inside, painted, touched, retouch_answer, retouch_picture, retouch_strip}

-- what the calls of a list differ in: the point and its color
pub record Retouch : Type 0 where
  pub x : ℕ
  pub y : ℕ
  pub color : Pixel

-- a picture of w columns with that point painted
abbrev pub painted_by : ℕ → Picture → Retouch → Picture
painted_by w f c = painted w f c.x c.y c.color

-- the buffers that the calls of a list share
pub record Buffers : Type 0 where
  pub picture : List ℕ
  pub strip : List ℕ

module _ (w h : ℕ) (cs ds : List ℕ) where
  -- the desk stores the picture f that it holds, and f with the point painted, and compares
  module _ (f : Picture) (c : Retouch) where
    abbrev pub differing : ℕ → Bool
    differing = differ (records w h cs) (strip_of w h cs ds f) (strip_of w h cs ds (painted_by w f c))

    unfoldable pub desk_answer : ℕ
    desk_answer =
        (number Outside unless inside w h c.x c.y)
        before (number NoRecord unless storable w h cs ds (painted_by w f c))
        before answer (how_many (records w h cs) differing) (mask_of (marks differing [] (touched w cs c.x c.y)))

    unfoldable pub desk_holds : Picture
    desk_holds = if accepted desk_answer then painted_by w f c else f

  abbrev pub desk : Machine Picture Retouch
  desk = record { answer = desk_answer; leave = desk_holds }

  -- the call
  unfoldable pub call_answer : Buffers → Retouch → ℕ
  call_answer b c = retouch_answer w h cs ds b.picture b.strip c.x c.y c.color

  unfoldable pub call_leaves : Buffers → Retouch → Buffers
  call_leaves b c = record {
    picture = retouch_picture w h cs ds b.picture b.strip c.x c.y c.color;
    strip = retouch_strip w h cs ds b.picture b.strip c.x c.y c.color;
  }

  abbrev pub call : Machine Buffers Retouch
  call = record { answer = call_answer; leave = call_leaves }
