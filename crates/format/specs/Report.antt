-- The report (document 02, i): how many pixels of each color the pictures of a shipment have. The list of colors has
-- four bytes for each; the counters are one number of eight bytes for each color, then one for all other colors.
use Rattle.std.specs.Prelude.{Bool, not, ◌&&◌, List, ℕ, zero, suc, ◌+◌, ◌*◌, ◌/◌, ◌%◌, ◌^◌, leb, ltb, length, if◌then◌else◌}
use Rattle.format.specs.declared.Refusal.TheVariants.{ShortBuffer, ColorList, FullCounter}
use Rattle.format.specs.Choice.{every}
use Rattle.format.specs.Indices.{how_many}
use Rattle.format.specs.declared.Pixel.{Pixel}
use Rattle.format.specs.Pixel.{equal}
use Rattle.format.specs.Picture.{Picture, pixels, written_bytes}
use Rattle.format.specs.ColorMap.{refused}
use Rattle.format.specs.Chain.{le32}
use Rattle.format.specs.Refusals.{number, size_refusal, accepted, ◌before◌, ◌unless◌}
use Rattle.format.specs.Calls.{holds}
use Rattle.format.specs.Lists.{Machine}

-- how many of the first n pixels of f are of the color v
unfoldable pub pixels_of : Pixel → ℕ → Picture → ℕ
pixels_of v n f = how_many n (λ q. equal (f q) v)

-- how many of them are of none of the colors e, of which there are m
unfoldable pub pixels_of_none : ℕ → Picture → ℕ → Picture → ℕ
pixels_of_none m e n f = how_many n (λ q. every m (λ k. not (equal (f q) (e k))))

-- what a picture adds to counter k
unfoldable pub added : ℕ → Picture → ℕ → Picture → ℕ → ℕ
added m e n f k = if ltb k m then pixels_of (e k) n f else pixels_of_none m e n f

-- the number in counter k: eight bytes, little-endian
unfoldable pub counter : List ℕ → ℕ → ℕ
counter xs k = le32 xs (8 * k) + 2 ^ 32 * le32 xs (8 * k + 4)

-- the buffer xs with the numbers g in its first n counters: byte i belongs to counter i / 8, and is its byte i % 8,
-- lowest first; the bytes beyond are those of xs
abbrev pub counter_byte : (ℕ → ℕ) → ℕ → ℕ
counter_byte g i = g (i / 8) / 256 ^ (i % 8) % 256

unfoldable pub written_counters : ℕ → (ℕ → ℕ) → List ℕ → List ℕ
written_counters n g xs = written_bytes (8 * n) (counter_byte g) xs

-- how many colors a list has, and how many counters go with it
abbrev pub color_count : List ℕ → ℕ
color_count colors = length colors / 4

abbrev pub counter_count : List ℕ → ℕ
counter_count colors = color_count colors + 1

-- no two of the first m colors are alike
unfoldable pub distinct : ℕ → Picture → Bool
distinct m e = every m (λ k. every k (λ j. not (equal (e j) (e k))))

-- 4 to 1024 bytes in fours, which is what refusal 10 admits of a color map
abbrev pub in_fours : List ℕ → Bool
in_fours colors = not (refused (length colors))

-- such a list, with no color listed twice
unfoldable pub color_list : List ℕ → Bool
color_list colors = in_fours colors && distinct (color_count colors) (pixels colors)

-- a buffer has room for n counters
abbrev pub holds_counters : List ℕ → ℕ → Bool
holds_counters xs n = leb (8 * n) (length xs)

-- what the call returns, and the bytes of the counters that it leaves
module _ (w h : ℕ) (picture colors counters : List ℕ) where
  -- counter k with what the picture adds to it
  abbrev pub grown : ℕ → ℕ
  grown k = counter counters k + added (color_count colors) (pixels colors) (h * w) (pixels picture) k

  unfoldable pub report_answer : ℕ
  report_answer =
      size_refusal w h
      before (number ColorList unless color_list colors)
      before (number ShortBuffer unless (holds_counters counters (counter_count colors) && holds picture (h * w)))
      before (number FullCounter unless every (counter_count colors) (λ k. ltb (grown k) (2 ^ 64)))

  unfoldable pub report_counters : List ℕ
  report_counters = if accepted report_answer then written_counters (counter_count colors) grown counters else counters

-- what the calls of a list differ in: a map with its sizes
pub record Map : Type 0 where
  pub width : ℕ
  pub height : ℕ
  pub picture : List ℕ

-- the calls of a list share the colors, and each finds the counters that the last one left
unfoldable pub map_answer : List ℕ → List ℕ → Map → ℕ
map_answer colors counters m = report_answer m.width m.height m.picture colors counters

unfoldable pub map_leaves : List ℕ → List ℕ → Map → List ℕ
map_leaves colors counters m = report_counters m.width m.height m.picture colors counters

abbrev pub report : List ℕ → Machine (List ℕ) Map
report colors = record { answer = map_answer colors; leave = map_leaves colors }

-- the sum of the first n numbers of g
abbrev pub sum : ℕ → (ℕ → ℕ) → ℕ
sum zero g = 0
sum (suc n) g = g n + sum n g
