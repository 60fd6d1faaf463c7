-- What is promised: the demands of document 00, and what document 02 asks of strips stored earlier (ii) and of reports
-- (i), on the bytes of the calls. It is proved in proofs/Demands.antt.
use Rattle.std.specs.Prelude.{true, false, ◌&&◌, List, ◌⊎◌, ◌↔◌, ◌≡◌, ℕ, ◌+◌, ◌*◌, ◌^◌, ◌<◌, ◌≤◌, length, drop}
use Rattle.std.specs.Int.Count as Count
use Rattle.format.specs.Indices.{how_many}
use Rattle.format.specs.declared.Pixel.{Pixel}
use Rattle.format.specs.Picture.{Picture, byte_at, pixels, written}
use Rattle.format.specs.ColorMap.{color_map_answer, adjust_color_map, unadjust_color_map}
use Rattle.format.specs.Chain.{count}
use Rattle.format.specs.Refusals.{accepted, size_refusal, ValidChain}
use Rattle.format.specs.Retouch.{differ, answer}
use Rattle.format.specs.Calls.{records, storable, rebuild_answer, rebuild_image, store_answer, store_strip, inside, retouch_answer, retouch_picture, retouch_strip}
use Rattle.format.specs.Earlier.{earlier_answer, earlier_strip}
use Rattle.format.specs.Lists.{in_turn, left_by, answers_to, accepted_calls, total}
use Rattle.format.specs.Desk.{Retouch, Buffers, painted_by, desk, call_answer, call_leaves, call}
use Rattle.format.specs.Report.{pixels_of, pixels_of_none, counter, color_count, counter_count, color_list, report_answer, report_counters, Map, map_answer, report, sum}

-- a buffer of bytes
abbrev pub AreBytes : List ℕ → Type 0
AreBytes xs = (i : ℕ) → byte_at xs i < 256

-- the buffers' first n pixels are the same
abbrev pub SameFront : ℕ → List ℕ → List ℕ → Type 0
SameFront n xs ys = (q : ℕ) → q < n → pixels xs q ≡ pixels ys q

-- no record of the chain is of kind 3
abbrev pub NoTable : List ℕ → Type 0
NoTable cs = (k : ℕ) → k < count cs → byte_at cs (16 * k) ≡ 3 → ⊥

-- what retouching answers: a refusal of 1 to 9, 22, or 256 + 32 × the mask's ones + a mask of five bits
abbrev pub RetouchNumber : ℕ → Type 0
RetouchNumber r = ((1 ≤ r) × (r ≤ 9)) ⊎ ((r ≡ 22) ⊎ ((mask : ℕ) × (mask < 32) × (r ≡ answer (Count.ones mask) mask)))

module _ (w h : ℕ) (cs ds : List ℕ) where
  -- demand 1: a call accepts its input or returns a number from document 01's lists
  abbrev pub RebuildingAnswers : Type 0
  RebuildingAnswers = (image : List ℕ) → rebuild_answer w h cs ds image ≤ 8

  abbrev pub StoringAnswers : Type 0
  StoringAnswers = (picture strip : List ℕ)
      → (store_answer w h cs ds picture strip ≤ 8) ⊎ (store_answer w h cs ds picture strip ≡ 21)

  abbrev pub RetouchingAnswers : Type 0
  RetouchingAnswers = (picture strip : List ℕ) (x y : ℕ) (v : Pixel)
      → RetouchNumber (retouch_answer w h cs ds picture strip x y v)

  -- demand 1: a refusal changes no byte
  abbrev pub RebuildingRefused : Type 0
  RebuildingRefused = (image : List ℕ)
      → accepted (rebuild_answer w h cs ds image) ≡ false
      → rebuild_image w h cs ds image ≡ image

  abbrev pub StoringRefused : Type 0
  StoringRefused = (picture strip : List ℕ)
      → accepted (store_answer w h cs ds picture strip) ≡ false
      → store_strip w h cs ds picture strip ≡ strip

  abbrev pub RetouchingRefused : Type 0
  RetouchingRefused = (picture strip : List ℕ) (x y : ℕ) (v : Pixel)
      → accepted (retouch_answer w h cs ds picture strip x y v) ≡ false
      → (retouch_picture w h cs ds picture strip x y v ≡ picture) × (retouch_strip w h cs ds picture strip x y v ≡ strip)

  -- what is accepted, exactly: 1 does not apply, the chain is valid, the buffers have room and, where storing, each
  -- pixel that reaches the table has an entry
  abbrev pub Admitted : Type 0
  Admitted = (size_refusal w h ≡ 0) × ValidChain w h cs ds

  abbrev pub RebuildingExactly : Type 0
  RebuildingExactly = (image : List ℕ)
      → (rebuild_answer w h cs ds image ≡ 0) ↔ (Admitted × (4 * (h * w) ≤ length image))

  abbrev pub StoringExactly : Type 0
  StoringExactly = (picture strip : List ℕ)
      → (store_answer w h cs ds picture strip ≡ 0)
      ↔ (Admitted
      × (4 * (h * w) ≤ length picture)
      × (4 * records w h cs ≤ length strip)
      × (storable w h cs ds (pixels picture) ≡ true))

  -- demand 2: rebuilding a stored picture gives that picture, every byte beyond kept
  abbrev pub RebuildsStored : Type 0
  RebuildsStored = (picture strip image : List ℕ) → AreBytes picture
      → store_answer w h cs ds picture strip ≡ 0
      → 4 * (h * w) ≤ length image
      → SameFront (records w h cs) image (store_strip w h cs ds picture strip)
      → (rebuild_answer w h cs ds image ≡ 0) × (rebuild_image w h cs ds image ≡ written (h * w) (pixels picture) image)

  -- document 02 (ii): rebuilding a strip that was stored earlier, with document 01's zero bits, gives its picture,
  -- every byte beyond kept
  abbrev pub RebuildsEarlier : Type 0
  RebuildsEarlier = (picture strip image : List ℕ) → AreBytes picture
      → earlier_answer w h cs ds picture strip ≡ 0
      → 4 * (h * w) ≤ length image
      → SameFront (records w h cs) image (earlier_strip w h cs ds picture strip)
      → (rebuild_answer w h cs ds image ≡ 0) × (rebuild_image w h cs ds image ≡ written (h * w) (pixels picture) image)

  -- and storing answers as it did by that rule
  abbrev pub AnswersAsEarlier : Type 0
  AnswersAsEarlier = (picture strip : List ℕ)
      → store_answer w h cs ds picture strip ≡ earlier_answer w h cs ds picture strip

  -- demand 2: without a color table storing a rebuilt strip gives that strip, every byte beyond kept
  abbrev pub StoresRebuilt : Type 0
  StoresRebuilt = (image picture strip : List ℕ) → AreBytes image → NoTable cs
      → rebuild_answer w h cs ds image ≡ 0
      → 4 * (h * w) ≤ length picture → 4 * (h * w) ≤ length strip
      → SameFront (h * w) picture (rebuild_image w h cs ds image)
      → (store_answer w h cs ds picture strip ≡ 0)
      × (store_strip w h cs ds picture strip ≡ written (h * w) (pixels image) strip)

  -- demand 3: a valid chain, a picture that storing accepts, and the strip that storing makes of it
  abbrev pub StoredPair : Buffers → Type 0
  StoredPair b =
      (store_answer w h cs ds b.picture b.strip ≡ 0)
      × (store_strip w h cs ds b.picture b.strip ≡ b.strip)

  -- document 02 (ii): an earlier strip is rebuilt, and its picture stored into `new`: retouching begins from these two
  abbrev pub converted : List ℕ → List ℕ → Buffers
  converted image new =
      let picture = rebuild_image w h cs ds image in
      record { picture = picture; strip = store_strip w h cs ds picture new }

  abbrev pub ConvertsEarlier : Type 0
  ConvertsEarlier = (picture strip image new : List ℕ) → AreBytes picture
      → earlier_answer w h cs ds picture strip ≡ 0
      → 4 * (h * w) ≤ length image → 4 * records w h cs ≤ length new
      → SameFront (records w h cs) image (earlier_strip w h cs ds picture strip)
      → StoredPair (converted image new)

  -- how many records of the strip differ before and after a call
  abbrev pub changed_by : Buffers → Retouch → ℕ
  changed_by b c =
      let n = records w h cs in
      how_many n (differ n (pixels b.strip) (pixels (call_leaves w h cs ds b c).strip))

  -- a call is accepted exactly when its point is inside and storing accepts the picture with it painted; it changes at
  -- most five records, and its count is how many
  pub record OneCall (b : Buffers) (c : Retouch) : Type 0 where
    pub exactly : accepted (call_answer w h cs ds b c)
        ≡ (inside w h c.x c.y && storable w h cs ds (painted_by w (pixels b.picture) c))
    pub few : changed_by b c ≤ 5
    pub counted : accepted (call_answer w h cs ds b c) ≡ true
        → (mask : ℕ) × (mask < 32) × (call_answer w h cs ds b c ≡ answer (changed_by b c) mask)

  module _ (b : Buffers) (calls : List Retouch) where
    abbrev pub answered : List ℕ
    answered = answers_to (call w h cs ds) b calls

    abbrev pub left : Buffers
    left = left_by (call w h cs ds) b calls

    abbrev pub painted_in_turn : Picture
    painted_in_turn = in_turn (painted_by w) (pixels b.picture) (accepted_calls answered calls)

    -- after a list of calls: every answer is the desk's; the picture is the first one with the accepted retouches
    -- painted in order, which is the desk's; the strip is that picture stored afresh; bytes beyond are those of the
    -- start; and what holds of one call holds of whichever is next
    pub record AfterRetouches : Type 0 where
      pub answers : answered ≡ answers_to (desk w h cs ds) (pixels b.picture) calls
      pub picture : left.picture ≡ written (h * w) painted_in_turn b.picture
      pub held : painted_in_turn ≡ left_by (desk w h cs ds) (pixels b.picture) calls
      pub stored : store_answer w h cs ds left.picture b.strip ≡ 0
      pub strip : left.strip ≡ store_strip w h cs ds left.picture b.strip
      pub next : (c : Retouch) → OneCall left c

  -- demand 3: for every list of calls
  abbrev pub RetouchesLikeDesk : Type 0
  RetouchesLikeDesk = (b : Buffers) → StoredPair b → (calls : List Retouch) → AfterRetouches b calls

-- demand 1, of the color map's calls
abbrev pub ColorMapAnswers : Type 0
ColorMapAnswers = (xs : List ℕ) → (color_map_answer xs ≡ 0) ⊎ (color_map_answer xs ≡ 10)

-- each of the two calls undoes the other, on every map of bytes
abbrev pub ColorMapUndone : Type 0
ColorMapUndone = (xs : List ℕ) → AreBytes xs
    → (unadjust_color_map (adjust_color_map xs) ≡ xs) × (adjust_color_map (unadjust_color_map xs) ≡ xs)

abbrev pub ColorMapRefused : Type 0
ColorMapRefused = (xs : List ℕ)
    → accepted (color_map_answer xs) ≡ false
    → (adjust_color_map xs ≡ xs) × (unadjust_color_map xs ≡ xs)

-- how many pixels a map has
abbrev pub all_pixels : Map → ℕ
all_pixels m = m.height * m.width

-- what reporting answers
abbrev pub ReportNumber : ℕ → Type 0
ReportNumber r = (r ≡ 0) ⊎ ((r ≡ 1) ⊎ ((r ≡ 8) ⊎ ((r ≡ 23) ⊎ (r ≡ 24))))

-- the report (document 02, i), under one list of colors
module _ (colors : List ℕ) where
  -- demand 1: a call accepts its input or returns a listed number; a refusal leaves every byte
  abbrev pub ReportingAnswers : Type 0
  ReportingAnswers = (w h : ℕ) (picture counters : List ℕ)
      → ReportNumber (report_answer w h picture colors counters)

  abbrev pub ReportingRefused : Type 0
  ReportingRefused = (w h : ℕ) (picture counters : List ℕ)
      → accepted (report_answer w h picture colors counters) ≡ false
      → report_counters w h picture colors counters ≡ counters

  -- a map's pixels of the color at k, and of none of the colors
  abbrev pub of_color : ℕ → Map → ℕ
  of_color k m = pixels_of (pixels colors k) (all_pixels m) (pixels m.picture)

  abbrev pub of_none : Map → ℕ
  of_none m = pixels_of_none (color_count colors) (pixels colors) (all_pixels m) (pixels m.picture)

  -- none of 1, 23, 8 and 24 applies: the sizes are in range, the list of colors is one, both buffers have room, and no
  -- counter would pass 2 ^ 64 - 1
  pub record Reportable (counters : List ℕ) (m : Map) : Type 0 where
    pub sized : size_refusal m.width m.height ≡ 0
    pub list : color_list colors ≡ true
    pub room : 8 * counter_count colors ≤ length counters
    pub there : 4 * all_pixels m ≤ length m.picture
    pub each_fits : (k : ℕ) → k < color_count colors → counter counters k + of_color k m < 2 ^ 64
    pub others_fit : counter counters (color_count colors) + of_none m < 2 ^ 64

  module _ (counters : List ℕ) (maps : List Map) where
    abbrev pub taken : List Map
    taken = accepted_calls (answers_to (report colors) counters maps) maps

    abbrev pub left_counters : List ℕ
    left_counters = left_by (report colors) counters maps

    -- after a list of calls: each color's counter has grown by its pixels in the accepted maps, the last one by the
    -- pixels of none of the colors, all together by all pixels; bytes beyond are those of the start; and whichever call
    -- is next is accepted exactly if no refusal applies
    pub record AfterReports : Type 0 where
      pub of_each : (k : ℕ) → k < color_count colors
          → counter left_counters k ≡ counter counters k + total (of_color k) taken
      pub of_others : counter left_counters (color_count colors)
          ≡ counter counters (color_count colors) + total of_none taken
      pub together : sum (counter_count colors) (counter left_counters)
          ≡ sum (counter_count colors) (counter counters) + total all_pixels taken
      pub beyond : drop (8 * counter_count colors) left_counters ≡ drop (8 * counter_count colors) counters
      pub long : length left_counters ≡ length counters
      pub next : (m : Map) → (map_answer colors left_counters m ≡ 0) ↔ Reportable left_counters m

  -- for every list of calls, from any counters
  abbrev pub ReportsAddUp : Type 0
  ReportsAddUp = (counters : List ℕ) (maps : List Map) → AfterReports counters maps
