-- Reports, worked out from document 02 (i): what is counted, how counters are read and written, each refusal at its
-- boundary and in its order, and lists of calls.
use mathlib.Core.List.{List, [], ◌∷◌, ◌++◌, map}
use mathlib.Core.Path.{◌≡◌, refl}
use Prim.Native.Nat.{ℕ}
use Rattle.format.specs.Choice.{bit}
use Rattle.format.specs.Indices.{union}
use Rattle.format.specs.Picture.{pixels, written, written_bytes}
use Rattle.format.specs.Refusals.{size_refusal}
use Rattle.format.specs.Lists.{in_turn, left_by, answers_to, accepted_calls, total}
use Rattle.format.specs.Report.{pixels_of, pixels_of_none, added, counter, written_counters, distinct, in_fours, color_list, report_answer, report_counters, Map, map_answer, map_leaves, report, sum}
use Rattle.format.specs.Promises.{of_color, of_none, all_pixels, taken}
use Rattle.format.proofs.Worked.{Line, ◌is◌, bytes, in_red, reds}

-- counters whose numbers are below 256; one with all eight bytes 255, and 2 ^ 64 - 2
abbrev counts : List ℕ → List ℕ
counts vs = union (λ v. v ∷ bytes 7) vs

abbrev full : List ℕ
full = written_bytes 8 (λ i. 255) []

abbrev nearly_full : List ℕ
nearly_full = 254 ∷ written_bytes 7 (λ i. 255) []

-- the reds 1 and 2, and a picture of 3 by 1 with the reds 1, 2 and 1
abbrev two : List ℕ
two = in_red (1 ∷ 2 ∷ [])

abbrev three : List ℕ
three = in_red (1 ∷ 2 ∷ 1 ∷ [])

abbrev in_three : List ℕ → List ℕ → List ℕ
in_three colors counters = report_counters 3 1 three colors counters

-- one pixel, of red 1
abbrev single : List ℕ → List ℕ
single counters = report_counters 1 1 (in_red (1 ∷ [])) (in_red (1 ∷ [])) counters

abbrev single_answer : List ℕ → List ℕ → List ℕ → ℕ
single_answer picture colors counters = report_answer 1 1 picture colors counters

-- what the list of colors gets where nothing else is refused
abbrev colors_answer : List ℕ → ℕ
colors_answer colors = report_answer 1 1 (in_red (1 ∷ [])) colors (bytes 40)

abbrev of : ℕ → ℕ → List ℕ → Map
of w h p = record { width = w; height = h; picture = p }

-- under the reds 1 and 2: accepted, too short, accepted, too wide, past the last counter
abbrev shipment : List Map
shipment =
    of 3 1 three
    ∷ of 3 1 (in_red (1 ∷ 2 ∷ []))
    ∷ of 1 3 (in_red (2 ∷ 2 ∷ []) ++ bytes 4)
    ∷ of 16385 1 three
    ∷ of 1 1 (in_red (8 ∷ []))
    ∷ []

abbrev start : List ℕ
start = counts (5 ∷ 255 ∷ []) ++ nearly_full ++ (6 ∷ [])

abbrev pub worked : List Line
worked =
    -- one counter for each color, in the list's order, then one for all others
    (in_three two (bytes 24) is counts (2 ∷ 1 ∷ 0 ∷ []))
    ∷ (in_three (in_red (2 ∷ 1 ∷ [])) (bytes 24) is counts (1 ∷ 2 ∷ 0 ∷ []))
    ∷ (in_three (in_red (2 ∷ [])) (bytes 16) is counts (1 ∷ 2 ∷ []))
    ∷ (in_three (in_red (9 ∷ 2 ∷ 8 ∷ [])) (bytes 32) is counts (0 ∷ 1 ∷ 0 ∷ 2 ∷ []))
    ∷ (in_three (in_red (9 ∷ [])) (bytes 16) is counts (0 ∷ 3 ∷ []))
    -- all rows are counted, and no pixel beyond them
    ∷ (report_counters 2 3 (in_red (1 ∷ 1 ∷ 2 ∷ 1 ∷ 1 ∷ 1 ∷ 1 ∷ 1 ∷ [])) (in_red (1 ∷ [])) (bytes 16) is counts (5 ∷ 1 ∷ []))
    ∷ (report_counters 1 1 (reds 3) (in_red (0 ∷ [])) (bytes 16) is counts (1 ∷ 0 ∷ []))
    -- all four bytes are compared: pixels that differ from the color in one of them are others
    ∷ (report_counters 5 1 (0 ∷ 2 ∷ 3 ∷ 4 ∷ 1 ∷ 0 ∷ 3 ∷ 4 ∷ 1 ∷ 2 ∷ 0 ∷ 4 ∷ 1 ∷ 2 ∷ 3 ∷ 0 ∷ 1 ∷ 2 ∷ 3 ∷ 4 ∷ [])
    (1 ∷ 2 ∷ 3 ∷ 4 ∷ []) (bytes 16)
    is counts (1 ∷ 4 ∷ []))
    -- a call adds; counters are little-endian, of eight bytes each
    ∷ (in_three two (counts (10 ∷ 20 ∷ 30 ∷ [])) is counts (12 ∷ 21 ∷ 30 ∷ []))
    ∷ (single (counts (255 ∷ 0 ∷ [])) is 0 ∷ 1 ∷ bytes 6 ++ bytes 8)
    ∷ (single (255 ∷ 255 ∷ 255 ∷ 255 ∷ 255 ∷ 255 ∷ 255 ∷ 7 ∷ bytes 8) is bytes 7 ++ 8 ∷ bytes 8)
    ∷ (single (1 ∷ 2 ∷ 3 ∷ 4 ∷ 5 ∷ 6 ∷ 7 ∷ 8 ∷ 11 ∷ 12 ∷ 13 ∷ 14 ∷ 15 ∷ 16 ∷ 17 ∷ 18 ∷ [])
    is 2 ∷ 2 ∷ 3 ∷ 4 ∷ 5 ∷ 6 ∷ 7 ∷ 8 ∷ 11 ∷ 12 ∷ 13 ∷ 14 ∷ 15 ∷ 16 ∷ 17 ∷ 18 ∷ [])
    -- bytes beyond the last counter stay
    ∷ (single (bytes 16 ++ 7 ∷ 8 ∷ 9 ∷ []) is counts (1 ∷ 0 ∷ []) ++ 7 ∷ 8 ∷ 9 ∷ [])
    ∷ (report_counters 1 1 (bytes 4) (in_red (1 ∷ [])) (bytes 16 ++ full) is counts (0 ∷ 1 ∷ []) ++ full)
    -- 1: width and height are 1 to 16384; it comes before 23
    ∷ (report_answer 0 1 [] [] [] ∷ report_answer 1 0 [] [] [] ∷ report_answer 16385 1 [] [] [] ∷ report_answer 1 16385 [] [] []
    ∷ []
    is 1 ∷ 1 ∷ 1 ∷ 1 ∷ [])
    ∷ (report_answer 16384 1 [] (in_red (1 ∷ [])) (bytes 16) ∷ report_answer 1 16384 [] (in_red (1 ∷ [])) (bytes 16) ∷ []
    is 8 ∷ 8 ∷ [])
    -- 23: a list of 4 to 1024 bytes in fours; it comes before 8
    ∷ (colors_answer [] ∷ colors_answer (bytes 1) ∷ colors_answer (bytes 3) ∷ colors_answer (bytes 4) ∷ colors_answer (bytes 5)
    ∷ colors_answer (bytes 6) ∷ colors_answer (bytes 7) ∷ []
    is 23 ∷ 23 ∷ 23 ∷ 0 ∷ 23 ∷ 23 ∷ 23 ∷ [])
    ∷ (bit (in_fours (bytes 1020)) ∷ bit (in_fours (bytes 1023)) ∷ bit (in_fours (bytes 1024)) ∷ bit (in_fours (bytes 1028)) ∷ []
    is 1 ∷ 0 ∷ 1 ∷ 0 ∷ [])
    ∷ (single_answer [] [] [] ∷ single_answer [] (bytes 8) [] ∷ [] is 23 ∷ 23 ∷ [])
    ∷ (report_counters 1 1 (bytes 4) (bytes 8) (counts (1 ∷ 2 ∷ 3 ∷ [])) is counts (1 ∷ 2 ∷ 3 ∷ []))
    -- a color listed twice, next to the first or far apart; one byte makes another color
    ∷ (colors_answer (in_red (1 ∷ 1 ∷ [])) ∷ colors_answer (in_red (1 ∷ 2 ∷ 3 ∷ 1 ∷ [])) ∷ colors_answer (in_red (3 ∷ 1 ∷ 2 ∷ 1 ∷ []))
    ∷ colors_answer (in_red (1 ∷ 2 ∷ 3 ∷ 3 ∷ [])) ∷ colors_answer (in_red (4 ∷ 1 ∷ 2 ∷ 3 ∷ [])) ∷ []
    is 23 ∷ 23 ∷ 23 ∷ 23 ∷ 0 ∷ [])
    ∷ (colors_answer (0 ∷ 0 ∷ 0 ∷ 0 ∷ 1 ∷ 0 ∷ 0 ∷ 0 ∷ []) ∷ colors_answer (0 ∷ 0 ∷ 0 ∷ 0 ∷ 0 ∷ 1 ∷ 0 ∷ 0 ∷ [])
    ∷ colors_answer (0 ∷ 0 ∷ 0 ∷ 0 ∷ 0 ∷ 0 ∷ 1 ∷ 0 ∷ []) ∷ colors_answer (0 ∷ 0 ∷ 0 ∷ 0 ∷ 0 ∷ 0 ∷ 0 ∷ 1 ∷ []) ∷ []
    is 0 ∷ 0 ∷ 0 ∷ 0 ∷ [])
    -- 8: eight bytes for each counter, the last one's too, and the picture's; it comes before 24
    ∷ (single_answer (bytes 4) (bytes 4) (bytes 16) ∷ single_answer (bytes 4) (bytes 4) (bytes 15)
    ∷ single_answer (bytes 3) (bytes 4) (bytes 16) ∷ []
    is 0 ∷ 8 ∷ 8 ∷ [])
    ∷ (report_answer 3 2 (bytes 24) (bytes 4) (bytes 16) ∷ report_answer 3 2 (bytes 23) (bytes 4) (bytes 16) ∷ [] is 0 ∷ 8 ∷ [])
    ∷ (single_answer (bytes 4) (bytes 4) (full ++ bytes 7) ∷ single_answer (bytes 3) (bytes 4) (full ++ bytes 8) ∷ []
    is 8 ∷ 8 ∷ [])
    -- 24: a counter reaches 2 ^ 64 - 1 and does not pass it, the first, one between and the last; a refusal leaves all
    ∷ (single (nearly_full ++ bytes 8) is full ++ bytes 8)
    ∷ (single (full ++ bytes 8) is full ++ bytes 8)
    ∷ (single_answer (bytes 4) (bytes 4) (nearly_full ++ full) ∷ single_answer (bytes 4) (bytes 4) (full ++ bytes 8)
    ∷ single_answer (in_red (1 ∷ [])) (bytes 4) (full ++ nearly_full)
    ∷ single_answer (in_red (1 ∷ [])) (bytes 4) (bytes 8 ++ full) ∷ []
    is 0 ∷ 24 ∷ 0 ∷ 24 ∷ [])
    ∷ (report_answer 3 1 three two (bytes 8 ++ full ++ bytes 8)
    ∷ report_answer 3 1 three two (nearly_full ++ bytes 16) ∷ []
    is 24 ∷ 24 ∷ [])
    ∷ (in_three two (bytes 8 ++ full ++ bytes 8) is bytes 8 ++ full ++ bytes 8)
    -- a list: refused calls between accepted ones
    ∷ (answers_to (report two) start shipment is 0 ∷ 8 ∷ 0 ∷ 1 ∷ 24 ∷ [])
    ∷ (answers_to (report (bytes 8)) start shipment is 23 ∷ 23 ∷ 23 ∷ 1 ∷ 23 ∷ [])
    ∷ (left_by (report two) start shipment is counts (7 ∷ []) ++ (2 ∷ 1 ∷ bytes 6) ++ full ++ (6 ∷ []))
    ∷ (total (of_color two 0) (taken two start shipment) ∷ total (of_color two 1) (taken two start shipment)
    ∷ total (of_none two) (taken two start shipment) ∷ total all_pixels (taken two start shipment) ∷ []
    is 2 ∷ 3 ∷ 1 ∷ 6 ∷ [])
    ∷ (sum 3 (counter (counts (1 ∷ 2 ∷ 4 ∷ 8 ∷ []))) ∷ sum 3 (counter (bytes 8 ++ (0 ∷ 1 ∷ bytes 6) ++ bytes 8)) ∷ []
    is 7 ∷ 256 ∷ [])
    ∷ []

pub known_reports : map (λ (l : Line). l.computed) worked ≡ map (λ (l : Line). l.expected) worked
unfolding pixels written written_bytes size_refusal in_turn answers_to accepted_calls pixels_of pixels_of_none added counter written_counters distinct color_list report_answer report_counters map_answer map_leaves
known_reports = refl
