-- The worked pictures of document 01 that are marked with a star, in one table: what the definitions compute, and what
-- the paper says. Pictures are rebuilt and stored by the calls' definitions, with the bytes of a chain.
use mathlib.Core.List.{List, [], ◌∷◌, ◌++◌, map}
use mathlib.Core.Path.{◌≡◌, refl}
use Prim.Native.Nat.{ℕ}
use Rattle.format.specs.Byte.{delta}
use Rattle.format.specs.Pixel.{pixel, clear, each, each3}
use Rattle.format.specs.Picture.{pixels, written, in_order, block, written_bytes}
use Rattle.format.specs.Predictor.{predict, select, predicted, residuals, gained}
use Rattle.format.specs.Color.{inverse_color, color_rebuilt}
use Rattle.format.specs.SubtractGreen.{green_rebuilt}
use Rattle.format.specs.ColorTable.{per_pixel, index_in, unpacked, lowest, digits, packed}
use Rattle.format.specs.ColorMap.{adjusted, adjust_color_map}
use Rattle.format.specs.Chain.{record_at, by_kind, narrowed, width_at}
use Rattle.format.specs.Refusals.{tabled, tabled_length, checked, records_refusal, size_refusal, chain_refusal, input_refusal}
use Rattle.format.specs.Stages.{forward, backward, stored, rebuilt, takes, accepts}
use Rattle.format.specs.Made.{named_by, named, columns, made_of, takes_item, missing}
use Rattle.format.specs.Retouch.{spots_of, spot_records, unmade, remade, new_strip, changes, point_answer}
use Rattle.format.specs.Calls.{pair_refusal, rebuild_answer, rebuild_image, store_answer, store_strip, retouch_answer, retouch_picture, retouch_strip}
use Rattle.format.proofs.Worked.{Line, ◌is◌, one, blacks, zeros, mode, chain_of, predictor}

-- red residuals 5, 1, 2, 0
abbrev reds : List ℕ
reds = 5 ∷ 0 ∷ 0 ∷ 0 ∷ 1 ∷ 0 ∷ 0 ∷ 0 ∷ 2 ∷ 0 ∷ 0 ∷ 0 ∷ 0 ∷ 0 ∷ 0 ∷ 0 ∷ []

-- a table of three entries, none of them clear
abbrev three : List ℕ
three = 1 ∷ 0 ∷ 0 ∷ 255 ∷ 2 ∷ 0 ∷ 0 ∷ 255 ∷ 3 ∷ 0 ∷ 0 ∷ 255 ∷ []

-- entries 0, 1, 2, clear, 2
abbrev spread : List ℕ
spread = three ++ (0 ∷ 0 ∷ 0 ∷ 0 ∷ 3 ∷ 0 ∷ 0 ∷ 255 ∷ [])

-- a strip of two records with the bytes 228 and 254, in a buffer of five pixels
abbrev strip : List ℕ
strip = 0 ∷ 228 ∷ 0 ∷ 255 ∷ 0 ∷ 254 ∷ 0 ∷ 255 ∷ 9 ∷ 9 ∷ 9 ∷ 9 ∷ 9 ∷ 9 ∷ 9 ∷ 9 ∷ 9 ∷ 9 ∷ 9 ∷ 9 ∷ []

-- the middle of three pixels painted, and the records of the new picture
abbrev middle : List ℕ
middle = 0 ∷ 0 ∷ 0 ∷ 255 ∷ 9 ∷ 0 ∷ 0 ∷ 255 ∷ 0 ∷ 0 ∷ 0 ∷ 255 ∷ []

abbrev middle_stored : List ℕ
middle_stored = 0 ∷ 0 ∷ 0 ∷ 0 ∷ 9 ∷ 0 ∷ 0 ∷ 0 ∷ 247 ∷ 0 ∷ 0 ∷ 0 ∷ []

abbrev pub worked : List Line
worked =
    -- 1 by 1, kind 0
    (rebuild_image 1 1 predictor (mode 7) (1 ∷ 2 ∷ 3 ∷ 4 ∷ []) is 1 ∷ 2 ∷ 3 ∷ 3 ∷ [])
    -- 2 by 1
    ∷ (rebuild_image 2 1 predictor (mode 7) (1 ∷ 2 ∷ 3 ∷ 0 ∷ 10 ∷ 20 ∷ 30 ∷ 0 ∷ []) is 1 ∷ 2 ∷ 3 ∷ 255 ∷ 11 ∷ 22 ∷ 33 ∷ 255 ∷ [])
    -- 2 by 2, mode 3: TR of the last column is column 0 of the same row
    ∷ (rebuild_image 2 2 predictor (mode 3) reds is 5 ∷ 0 ∷ 0 ∷ 255 ∷ 6 ∷ 0 ∷ 0 ∷ 255 ∷ 7 ∷ 0 ∷ 0 ∷ 255 ∷ 7 ∷ 0 ∷ 0 ∷ 255 ∷ [])
    -- the same, mode 14: the last pixel is (0, 0, 0, 0)
    ∷ (rebuild_image 2 2 predictor (mode 14) reds is 5 ∷ 0 ∷ 0 ∷ 255 ∷ 6 ∷ 0 ∷ 0 ∷ 255 ∷ 7 ∷ 0 ∷ 0 ∷ 255 ∷ 0 ∷ 0 ∷ 0 ∷ 0 ∷ [])
    -- storing what was rebuilt gives the strip
    ∷ (store_strip 2 2 predictor (mode 3) (5 ∷ 0 ∷ 0 ∷ 255 ∷ 6 ∷ 0 ∷ 0 ∷ 255 ∷ 7 ∷ 0 ∷ 0 ∷ 255 ∷ 7 ∷ 0 ∷ 0 ∷ 255 ∷ []) strip
    is reds ++ (9 ∷ 9 ∷ 9 ∷ 9 ∷ []))
    -- mode 11, select: a tie gives T
    ∷ (one (predict 11 (pixel 10 0 0 255) (pixel 0 10 0 255) clear (pixel 0 0 0 255)) is 0 ∷ 10 ∷ 0 ∷ 255 ∷ [])
    -- mode 12: 200, 200, 100 in red; 10, 20, 100 in green
    ∷ (one (predict 12 (pixel 200 10 0 0) (pixel 200 20 0 0) clear (pixel 100 100 0 0)) is 255 ∷ 0 ∷ 0 ∷ 0 ∷ [])
    -- mode 13, red
    ∷ (one (predict 13 (pixel 10 0 0 0) (pixel 10 0 0 0) clear (pixel 13 0 0 0)) is 9 ∷ 0 ∷ 0 ∷ 0 ∷ [])
    -- mode 10, red: L 1, TL 0, T 1, TR 2
    ∷ (one (predict 10 (pixel 1 0 0 0) (pixel 1 0 0 0) (pixel 2 0 0 0) (pixel 0 0 0 0)) is 0 ∷ 0 ∷ 0 ∷ 0 ∷ [])
    ∷ (delta 255 1 ∷ delta 127 127 ∷ delta 128 127 ∷ delta 128 128 ∷ [] is 255 ∷ 248 ∷ 4 ∷ 0 ∷ [])
    -- color data (32, 0, 32, 0)
    ∷ (rebuild_image 1 1 (chain_of 1 2 0 4) (32 ∷ 0 ∷ 32 ∷ 0 ∷ []) (10 ∷ 32 ∷ 5 ∷ 9 ∷ []) is 42 ∷ 32 ∷ 47 ∷ 9 ∷ [])
    -- kind 2
    ∷ (rebuild_image 1 1 (chain_of 2 0 0 0) [] (250 ∷ 10 ∷ 255 ∷ 7 ∷ []) is 4 ∷ 10 ∷ 9 ∷ 7 ∷ [])
    -- size 3, 5 by 1
    ∷ (rebuild_image 5 1 (chain_of 3 0 3 12) three strip is spread)
    -- storing this back is refused, since no entry is clear, and the strip stays
    ∷ (store_answer 5 1 (chain_of 3 0 3 12) three spread strip ∷ [] is 21 ∷ [])
    ∷ (store_strip 5 1 (chain_of 3 0 3 12) three spread strip is strip)
    -- the color map
    ∷ (adjust_color_map (250 ∷ 0 ∷ 0 ∷ 255 ∷ 10 ∷ 1 ∷ 0 ∷ 0 ∷ []) is 250 ∷ 0 ∷ 0 ∷ 255 ∷ 4 ∷ 1 ∷ 0 ∷ 255 ∷ [])
    -- kind 0, 3 by 1, the middle painted, and the same again
    ∷ (retouch_answer 3 1 predictor (mode 7) (blacks 3) (zeros 3) 1 0 (pixel 9 0 0 255) ∷ [] is 323 ∷ [])
    ∷ (retouch_picture 3 1 predictor (mode 7) (blacks 3) (zeros 3) 1 0 (pixel 9 0 0 255) is middle)
    ∷ (retouch_strip 3 1 predictor (mode 7) (blacks 3) (zeros 3) 1 0 (pixel 9 0 0 255) is middle_stored)
    ∷ (retouch_answer 3 1 predictor (mode 7) middle middle_stored 1 0 (pixel 9 0 0 255) ∷ [] is 256 ∷ [])
    -- 4 by 2, mode 10
    ∷ (retouch_answer 4 2 predictor (mode 10) (blacks 8) (zeros 8) 2 0 (pixel 128 0 0 255) ∷ [] is 447 ∷ [])
    ∷ []

pub known : map (λ (l : Line). l.computed) worked ≡ map (λ (l : Line). l.expected) worked
unfolding each each3 pixels written in_order residuals gained predicted block predict select delta inverse_color color_rebuilt green_rebuilt index_in unpacked per_pixel lowest digits packed adjust_color_map adjusted written_bytes record_at by_kind narrowed width_at tabled tabled_length checked records_refusal size_refusal chain_refusal input_refusal forward backward stored rebuilt takes accepts pair_refusal rebuild_answer rebuild_image store_answer store_strip named_by named columns made_of takes_item missing spots_of spot_records unmade remade new_strip changes point_answer retouch_answer retouch_picture retouch_strip
known = refl
