-- Further pictures, worked out from document 01: transforms and color map. A line shows a rule or its boundary.
use mathlib.Core.List.{List, [], ◌∷◌, ◌++◌, map}
use mathlib.Core.Path.{◌≡◌, refl}
use Prim.Native.Nat.{ℕ}
use Rattle.format.specs.declared.Pixel.{Pixel}
use Rattle.format.specs.Indices.{union}
use Rattle.format.specs.Byte.{add, sub, avg, delta}
use Rattle.format.specs.Pixel.{pixel, clear, each, each3}
use Rattle.format.specs.Picture.{pixels, written, in_order, block, written_bytes}
use Rattle.format.specs.Predictor.{predict, select, predicted, residuals, gained}
use Rattle.format.specs.Color.{transform_color, inverse_color, color_stored, color_rebuilt}
use Rattle.format.specs.SubtractGreen.{green_stored, green_rebuilt}
use Rattle.format.specs.ColorTable.{per_pixel, index_in, unpacked, lowest, digits, packed}
use Rattle.format.specs.ColorMap.{adjusted, unadjusted, color_map_answer, adjust_color_map, unadjust_color_map}
use Rattle.format.specs.Chain.{record_at, by_kind, narrowed, width_at}
use Rattle.format.specs.Refusals.{tabled, tabled_length, checked, records_refusal, size_refusal, chain_refusal, input_refusal}
use Rattle.format.specs.Stages.{forward, backward, stored, rebuilt, takes, accepts}
use Rattle.format.specs.Calls.{pair_refusal, rebuild_answer, rebuild_image, store_answer, store_strip}
use Rattle.format.proofs.Worked.{Line, ◌is◌, one, copies, blacks, zeros, nines, bytes, in_red, residues, reds, in_green, mode, record_of, predictor, color, green, table}

-- what modes 0 to 14, 16, 128 and 255 predict from L, T, TR and TL
abbrev all_modes : Pixel → Pixel → Pixel → Pixel → List ℕ
all_modes l t tr tl =
    union (λ m. one (predict m l t tr tl))
    (0 ∷ 1 ∷ 2 ∷ 3 ∷ 4 ∷ 5 ∷ 6 ∷ 7 ∷ 8 ∷ 9 ∷ 10 ∷ 11 ∷ 12 ∷ 13 ∷ 14 ∷ 16 ∷ 128 ∷ 255 ∷ [])

-- what mode 11 predicts in a channel where the others are 0, for each channel
abbrev selects : ℕ → ℕ → ℕ → List ℕ
selects l t tl =
    (predict 11 (pixel l 0 0 0) (pixel t 0 0 0) clear (pixel tl 0 0 0)).red
    ∷ (predict 11 (pixel 0 l 0 0) (pixel 0 t 0 0) clear (pixel 0 tl 0 0)).green
    ∷ (predict 11 (pixel 0 0 l 0) (pixel 0 0 t 0) clear (pixel 0 0 tl 0)).blue
    ∷ (predict 11 (pixel 0 0 0 l) (pixel 0 0 0 t) clear (pixel 0 0 0 tl)).alpha
    ∷ []

-- 3 by 3
abbrev nine : List ℕ
nine = in_red (1 ∷ 20 ∷ 45 ∷ 90 ∷ 3 ∷ 77 ∷ 200 ∷ 130 ∷ 251 ∷ [])

-- color data: green-to-red 32 in the first block, 64 in the second
abbrev two_blocks : List ℕ
two_blocks = 0 ∷ 0 ∷ 32 ∷ 0 ∷ 0 ∷ 0 ∷ 64 ∷ 0 ∷ []

-- what a strip of three records holds before
abbrev sevens : List ℕ
sevens = in_green (7 ∷ 7 ∷ 7 ∷ [])

abbrev pub worked : List Line
worked =
    -- sums and differences modulo 256, means rounded down
    (add 200 100 ∷ add 255 1 ∷ sub 3 5 ∷ sub 5 5 ∷ sub 255 0 ∷ avg 4 5 ∷ avg 255 255 ∷ []
    is 44 ∷ 0 ∷ 254 ∷ 0 ∷ 255 ∷ 4 ∷ 255 ∷ [])
    -- delta: each byte as signed, the quotient rounded down
    ∷ (delta 1 31 ∷ delta 1 32 ∷ delta 255 32 ∷ delta 255 33 ∷ delta 127 64 ∷ delta 128 1 ∷ delta 1 127 ∷ delta 1 128
    ∷ delta 200 100 ∷ []
    is 0 ∷ 1 ∷ 255 ∷ 254 ∷ 254 ∷ 252 ∷ 3 ∷ 252 ∷ 81 ∷ [])
    -- modes 0 to 14, 16, 128 and 255, each channel by itself; select takes T, then L
    ∷ (all_modes (pixel 10 200 0 33) (pixel 21 150 255 90) (pixel 40 7 128 64) (pixel 15 100 3 77)
    is 0 ∷ 0 ∷ 0 ∷ 255 ∷ 10 ∷ 200 ∷ 0 ∷ 33 ∷ 21 ∷ 150 ∷ 255 ∷ 90 ∷ 40 ∷ 7 ∷ 128 ∷ 64
    ∷ 15 ∷ 100 ∷ 3 ∷ 77 ∷ 23 ∷ 126 ∷ 159 ∷ 69 ∷ 12 ∷ 150 ∷ 1 ∷ 55 ∷ 15 ∷ 175 ∷ 127 ∷ 61
    ∷ 18 ∷ 125 ∷ 129 ∷ 83 ∷ 30 ∷ 78 ∷ 191 ∷ 77 ∷ 21 ∷ 114 ∷ 96 ∷ 66 ∷ 21 ∷ 150 ∷ 255 ∷ 90
    ∷ 16 ∷ 250 ∷ 252 ∷ 46 ∷ 15 ∷ 212 ∷ 189 ∷ 53 ∷ 0 ∷ 0 ∷ 0 ∷ 0 ∷ 0 ∷ 0 ∷ 0 ∷ 0
    ∷ 0 ∷ 0 ∷ 0 ∷ 0 ∷ 0 ∷ 0 ∷ 0 ∷ 0 ∷ [])
    ∷ (all_modes (pixel 100 9 250 1) (pixel 3 10 255 254) (pixel 0 255 6 8) (pixel 4 8 20 255)
    is 0 ∷ 0 ∷ 0 ∷ 255 ∷ 100 ∷ 9 ∷ 250 ∷ 1 ∷ 3 ∷ 10 ∷ 255 ∷ 254 ∷ 0 ∷ 255 ∷ 6 ∷ 8
    ∷ 4 ∷ 8 ∷ 20 ∷ 255 ∷ 26 ∷ 71 ∷ 191 ∷ 129 ∷ 52 ∷ 8 ∷ 135 ∷ 128 ∷ 51 ∷ 9 ∷ 252 ∷ 127
    ∷ 3 ∷ 9 ∷ 137 ∷ 254 ∷ 1 ∷ 132 ∷ 130 ∷ 131 ∷ 26 ∷ 70 ∷ 132 ∷ 129 ∷ 100 ∷ 9 ∷ 250 ∷ 1
    ∷ 99 ∷ 11 ∷ 255 ∷ 0 ∷ 74 ∷ 9 ∷ 255 ∷ 63 ∷ 0 ∷ 0 ∷ 0 ∷ 0 ∷ 0 ∷ 0 ∷ 0 ∷ 0
    ∷ 0 ∷ 0 ∷ 0 ∷ 0 ∷ 0 ∷ 0 ∷ 0 ∷ 0 ∷ [])
    -- select on each channel alone: L where T is nearer to TL than L is, else T
    ∷ (selects 10 9 0 ++ selects 3 10 8 is 10 ∷ 10 ∷ 10 ∷ 10 ∷ 3 ∷ 3 ∷ 3 ∷ 3 ∷ [])
    ∷ (selects 1 10 0 ++ selects 10 3 8 ++ selects 0 10 5
    is 10 ∷ 10 ∷ 10 ∷ 10 ∷ 3 ∷ 3 ∷ 3 ∷ 3 ∷ 10 ∷ 10 ∷ 10 ∷ 10 ∷ [])
    -- mode 13: half of an odd difference goes toward zero on either side
    ∷ (one (predict 13 (pixel 20 21 9 8) (pixel 20 21 9 9) clear (pixel 17 16 10 13)) is 21 ∷ 23 ∷ 9 ∷ 6 ∷ [])
    -- 2 by 2, mode 0: the last pixel is predicted (0, 0, 0, 255)
    ∷ (rebuild_image 2 2 predictor (mode 0) (residues (5 ∷ 1 ∷ 2 ∷ 0 ∷ [])) is in_red (5 ∷ 6 ∷ 7 ∷ 0 ∷ []))
    -- 3 by 3, modes 1 to 4: L, T, TR and TL of each pixel off the borders; bytes beyond are kept
    ∷ (store_strip 3 3 predictor (mode 1) nine (nines 10)
    is residues (1 ∷ 19 ∷ 25 ∷ 89 ∷ 169 ∷ 74 ∷ 110 ∷ 186 ∷ 121 ∷ []) ++ nines 1)
    ∷ (store_strip 3 3 predictor (mode 2) nine (nines 9)
    is residues (1 ∷ 19 ∷ 25 ∷ 89 ∷ 239 ∷ 32 ∷ 110 ∷ 127 ∷ 174 ∷ []))
    ∷ (store_strip 3 3 predictor (mode 3) nine (nines 9)
    is residues (1 ∷ 19 ∷ 25 ∷ 89 ∷ 214 ∷ 243 ∷ 110 ∷ 53 ∷ 51 ∷ []))
    ∷ (store_strip 3 3 predictor (mode 4) nine (nines 9) is residues (1 ∷ 19 ∷ 25 ∷ 89 ∷ 2 ∷ 57 ∷ 110 ∷ 40 ∷ 248 ∷ []))
    -- rebuilding takes its neighbors from what is rebuilt
    ∷ (rebuild_image 3 3 predictor (mode 5) (residues (1 ∷ 19 ∷ 25 ∷ 89 ∷ 200 ∷ 100 ∷ 110 ∷ 255 ∷ 30 ∷ []))
    is in_red (1 ∷ 20 ∷ 45 ∷ 90 ∷ 243 ∷ 205 ∷ 200 ∷ 221 ∷ 237 ∷ []))
    -- 5 by 5, bits 2: the four blocks have modes 1, 2, 4 and 3, by column and row
    ∷ (store_strip 5 5 (record_of 0 2 0 0 16) (in_green (1 ∷ 2 ∷ 4 ∷ 3 ∷ [])) (reds 25) (zeros 25)
    is residues
    (0 ∷ 1 ∷ 1 ∷ 1 ∷ 1 ∷ 5 ∷ 1 ∷ 1 ∷ 1 ∷ 5 ∷ 5 ∷ 1 ∷ 1 ∷ 1 ∷ 5 ∷ 5 ∷ 1 ∷ 1 ∷ 1 ∷ 5 ∷ 5 ∷ 6 ∷ 6 ∷ 6 ∷ 4 ∷ []))
    -- 9 by 2, bits 3: column 8 is in the second block
    ∷ (store_strip 9 2 (record_of 0 3 0 0 8) (in_green (1 ∷ 2 ∷ [])) (reds 18) (zeros 18)
    is residues (0 ∷ 1 ∷ 1 ∷ 1 ∷ 1 ∷ 1 ∷ 1 ∷ 1 ∷ 1 ∷ 9 ∷ 1 ∷ 1 ∷ 1 ∷ 1 ∷ 1 ∷ 1 ∷ 1 ∷ 9 ∷ []))
    ∷ (rebuild_image 9 2 (record_of 0 3 0 0 8) (in_green (1 ∷ 2 ∷ []))
    (residues (0 ∷ 1 ∷ 1 ∷ 1 ∷ 1 ∷ 1 ∷ 1 ∷ 1 ∷ 1 ∷ 9 ∷ 1 ∷ 1 ∷ 1 ∷ 1 ∷ 1 ∷ 1 ∷ 1 ∷ 9 ∷ []))
    is in_red (0 ∷ 1 ∷ 2 ∷ 3 ∷ 4 ∷ 5 ∷ 6 ∷ 7 ∷ 8 ∷ 9 ∷ 10 ∷ 11 ∷ 12 ∷ 13 ∷ 14 ∷ 15 ∷ 16 ∷ 17 ∷ []))
    -- the mode is byte 1 of the data pixel
    ∷ (store_strip 2 2 predictor (3 ∷ 2 ∷ 4 ∷ 1 ∷ []) (in_red (5 ∷ 6 ∷ 8 ∷ 20 ∷ [])) (zeros 4)
    is residues (5 ∷ 1 ∷ 3 ∷ 14 ∷ []))
    -- color: red-to-blue, green-to-blue and green-to-red by their bytes; storing takes blue from the unreduced red
    ∷ (rebuild_image 1 1 color (240 ∷ 20 ∷ 130 ∷ 7 ∷ []) (100 ∷ 200 ∷ 50 ∷ 9 ∷ []) is 64 ∷ 200 ∷ 239 ∷ 9 ∷ [])
    ∷ (store_strip 1 1 color (240 ∷ 20 ∷ 130 ∷ 7 ∷ []) (100 ∷ 200 ∷ 50 ∷ 9 ∷ []) (zeros 1) is 136 ∷ 200 ∷ 135 ∷ 9 ∷ [])
    -- 9 by 1, bits 3: column 8 is in the second block; 1 by 5, bits 2: so is row 4
    ∷ (store_strip 9 1 (record_of 1 3 0 0 8) two_blocks (copies 9 (pixel 0 32 0 0)) (zeros 9)
    is copies 8 (pixel 224 32 0 0) ++ (192 ∷ 32 ∷ 0 ∷ 0 ∷ []))
    ∷ (store_strip 1 5 (record_of 1 2 0 0 8) two_blocks (copies 5 (pixel 0 32 0 0)) (zeros 5)
    is copies 4 (pixel 224 32 0 0) ++ (192 ∷ 32 ∷ 0 ∷ 0 ∷ []))
    ∷ (rebuild_image 5 1 (record_of 1 2 0 0 8) two_blocks (copies 5 (pixel 0 32 0 0))
    is copies 4 (pixel 32 32 0 0) ++ (64 ∷ 32 ∷ 0 ∷ 0 ∷ []))
    ∷ (rebuild_image 1 5 (record_of 1 2 0 0 8) two_blocks (copies 5 (pixel 0 32 0 0))
    is copies 4 (pixel 32 32 0 0) ++ (64 ∷ 32 ∷ 0 ∷ 0 ∷ []))
    -- kind 2
    ∷ (store_strip 1 1 green [] (4 ∷ 10 ∷ 9 ∷ 7 ∷ []) (zeros 1) is 250 ∷ 10 ∷ 255 ∷ 7 ∷ [])
    -- sizes 1 and 2 pack eight indices, 3 and 4 four, 5 and 16 two, 17 one; unused positions have the last index again,
    -- bytes beyond are kept
    ∷ (store_strip 9 1 (table 1) (reds 1) (blacks 9) sevens is in_green (0 ∷ 0 ∷ 7 ∷ []))
    ∷ (store_strip 9 1 (table 2) (reds 2) (in_red (1 ∷ 0 ∷ 1 ∷ 1 ∷ 0 ∷ 0 ∷ 0 ∷ 1 ∷ 1 ∷ [])) sevens
    is in_green (141 ∷ 255 ∷ 7 ∷ []))
    ∷ (store_strip 5 1 (table 3) (reds 3) (in_red (1 ∷ 2 ∷ 0 ∷ 1 ∷ 2 ∷ [])) sevens is in_green (73 ∷ 170 ∷ 7 ∷ []))
    ∷ (store_strip 5 1 (table 4) (reds 4) (in_red (3 ∷ 2 ∷ 0 ∷ 1 ∷ 3 ∷ [])) sevens is in_green (75 ∷ 255 ∷ 7 ∷ []))
    ∷ (store_strip 3 1 (table 5) (reds 5) (in_red (4 ∷ 1 ∷ 3 ∷ [])) sevens is in_green (20 ∷ 51 ∷ 7 ∷ []))
    ∷ (store_strip 3 1 (table 16) (reds 16) (in_red (2 ∷ 15 ∷ 9 ∷ [])) sevens is in_green (242 ∷ 153 ∷ 7 ∷ []))
    ∷ (store_strip 2 1 (table 17) (reds 17) (in_red (16 ∷ 3 ∷ [])) sevens is in_green (16 ∷ 3 ∷ 7 ∷ []))
    -- each row starts a record
    ∷ (store_strip 3 2 (table 5) (reds 5) (in_red (4 ∷ 1 ∷ 3 ∷ 2 ∷ 0 ∷ 4 ∷ [])) (zeros 4)
    is in_green (20 ∷ 51 ∷ 2 ∷ 68 ∷ []))
    ∷ (rebuild_image 3 2 (table 5) (reds 5) (in_green (20 ∷ 3 ∷ 2 ∷ 4 ∷ 7 ∷ 7 ∷ 8 ∷ []))
    is in_red (4 ∷ 1 ∷ 3 ∷ 2 ∷ 0 ∷ 4 ∷ []) ++ (0 ∷ 8 ∷ 0 ∷ 255 ∷ []))
    -- the index is in byte 1, lowest bits first; one at or past size gives (0, 0, 0, 0)
    ∷ (rebuild_image 3 1 (table 2) (4 ∷ 3 ∷ 2 ∷ 1 ∷ 8 ∷ 7 ∷ 6 ∷ 5 ∷ [])
    (1 ∷ 6 ∷ 0 ∷ 0 ∷ 9 ∷ 9 ∷ 9 ∷ 9 ∷ 9 ∷ 9 ∷ 9 ∷ 9 ∷ [])
    is (4 ∷ 3 ∷ 2 ∷ 1 ∷ []) ++ copies 2 (pixel 8 7 6 5))
    ∷ (rebuild_image 2 1 (table 17) (reds 17) (in_green (16 ∷ 17 ∷ [])) is (16 ∷ 0 ∷ 0 ∷ 255 ∷ []) ++ zeros 1)
    -- of equal entries the lowest index; all four bytes count
    ∷ (store_strip 4 1 (table 3) (in_red (7 ∷ 5 ∷ 7 ∷ [])) (in_red (7 ∷ 5 ∷ 7 ∷ 7 ∷ [])) (zeros 1)
    is 0 ∷ 4 ∷ 0 ∷ 255 ∷ [])
    ∷ (store_strip 4 1 (table 4) (1 ∷ 0 ∷ 0 ∷ 0 ∷ 0 ∷ 1 ∷ 0 ∷ 0 ∷ 0 ∷ 0 ∷ 1 ∷ 0 ∷ 0 ∷ 0 ∷ 0 ∷ 1 ∷ [])
    (0 ∷ 0 ∷ 0 ∷ 1 ∷ 0 ∷ 0 ∷ 1 ∷ 0 ∷ 0 ∷ 1 ∷ 0 ∷ 0 ∷ 1 ∷ 0 ∷ 0 ∷ 0 ∷ []) (zeros 1)
    is 0 ∷ 27 ∷ 0 ∷ 255 ∷ [])
    -- the color map, front to back, and its undoing
    ∷ (adjust_color_map (1 ∷ 2 ∷ 3 ∷ 4 ∷ 10 ∷ 20 ∷ 30 ∷ 40 ∷ 200 ∷ 250 ∷ 0 ∷ 255 ∷ [])
    is 1 ∷ 2 ∷ 3 ∷ 4 ∷ 11 ∷ 22 ∷ 33 ∷ 44 ∷ 211 ∷ 16 ∷ 33 ∷ 43 ∷ [])
    ∷ (unadjust_color_map (1 ∷ 2 ∷ 3 ∷ 4 ∷ 11 ∷ 22 ∷ 33 ∷ 44 ∷ 211 ∷ 16 ∷ 33 ∷ 43 ∷ [])
    is 1 ∷ 2 ∷ 3 ∷ 4 ∷ 10 ∷ 20 ∷ 30 ∷ 40 ∷ 200 ∷ 250 ∷ 0 ∷ 255 ∷ [])
    -- its refusal 10: length 0, 3, 5, 6 and 1028, not 4 or 1024; no byte changes
    ∷ (color_map_answer [] ∷ color_map_answer (bytes 3) ∷ color_map_answer (bytes 5) ∷ color_map_answer (bytes 6)
    ∷ color_map_answer (bytes 1028) ∷ color_map_answer (bytes 4) ∷ color_map_answer (bytes 1024) ∷ []
    is 10 ∷ 10 ∷ 10 ∷ 10 ∷ 10 ∷ 0 ∷ 0 ∷ [])
    ∷ (adjust_color_map (1 ∷ 1 ∷ 1 ∷ 1 ∷ 1 ∷ []) is 1 ∷ 1 ∷ 1 ∷ 1 ∷ 1 ∷ [])
    ∷ (unadjust_color_map (1 ∷ 1 ∷ 1 ∷ 1 ∷ 1 ∷ []) is 1 ∷ 1 ∷ 1 ∷ 1 ∷ 1 ∷ [])
    -- two rows of blocks: of 8, in a width that is a multiple of their side; of 4, with other modes
    ∷ (store_strip 8 9 (record_of 1 3 0 0 8) two_blocks (copies 72 (pixel 0 32 0 0)) (zeros 72)
    is copies 64 (pixel 224 32 0 0) ++ copies 8 (pixel 192 32 0 0))
    ∷ (rebuild_image 8 9 (record_of 1 3 0 0 8) two_blocks (copies 72 (pixel 0 32 0 0))
    is copies 64 (pixel 32 32 0 0) ++ copies 8 (pixel 64 32 0 0))
    ∷ (store_strip 4 5 (record_of 0 2 0 0 8) (in_green (1 ∷ 2 ∷ [])) (reds 20) (zeros 20)
    is residues (0 ∷ 1 ∷ 1 ∷ 1 ∷ 4 ∷ 1 ∷ 1 ∷ 1 ∷ 4 ∷ 1 ∷ 1 ∷ 1 ∷ 4 ∷ 1 ∷ 1 ∷ 1 ∷ 4 ∷ 4 ∷ 4 ∷ 4 ∷ []))
    ∷ []

pub known_transforms : map (λ (l : Line). l.computed) worked ≡ map (λ (l : Line). l.expected) worked
unfolding delta each each3 pixels written in_order block written_bytes predict select predicted residuals gained transform_color inverse_color color_stored color_rebuilt green_stored green_rebuilt per_pixel index_in unpacked lowest digits packed adjusted unadjusted color_map_answer adjust_color_map unadjust_color_map record_at by_kind narrowed width_at tabled tabled_length checked records_refusal size_refusal chain_refusal input_refusal forward backward stored rebuilt takes accepts pair_refusal rebuild_answer rebuild_image store_answer store_strip
known_transforms = refl
