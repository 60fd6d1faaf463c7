-- Further pictures, worked out from document 02 (ii): the unused positions of a row's last record, retouches in the
-- last column, and strips stored earlier.
use mathlib.Core.List.{List, [], ◌∷◌, ◌++◌, map}
use mathlib.Core.Path.{◌≡◌, refl}
use Prim.Native.Nat.{ℕ}
use Rattle.format.specs.Indices.{union}
use Rattle.format.specs.declared.Pixel.{Pixel}
use Rattle.format.specs.Byte.{delta}
use Rattle.format.specs.Pixel.{pixel, each, each3}
use Rattle.format.specs.Picture.{pixels, written, in_order, block, written_bytes}
use Rattle.format.specs.Predictor.{predict, select, predicted, residuals, gained}
use Rattle.format.specs.Color.{transform_color, inverse_color, color_stored, color_rebuilt}
use Rattle.format.specs.SubtractGreen.{green_stored, green_rebuilt}
use Rattle.format.specs.ColorTable.{per_pixel, index_in, unpacked, lowest, digits, packed}
use Rattle.format.specs.Chain.{record_at, by_kind, narrowed, width_at}
use Rattle.format.specs.Refusals.{tabled, tabled_length, checked, records_refusal, size_refusal, chain_refusal, input_refusal}
use Rattle.format.specs.Stages.{forward, backward, stored, rebuilt, takes, accepts}
use Rattle.format.specs.Made.{named_by, named, columns, made_of, takes_item, missing}
use Rattle.format.specs.Retouch.{spots_of, spot_records, unmade, remade, new_strip, changes, point_answer}
use Rattle.format.specs.Calls.{pair_refusal, rebuild_answer, rebuild_image, store_answer, store_strip, retouch_answer, retouch_picture, retouch_strip}
use Rattle.format.specs.Earlier.{earlier_packed, earlier_forward, earlier_stored, earlier_accepts, earlier_answer, earlier_strip}
use Rattle.format.proofs.Worked.{Line, ◌is◌, nines, in_red, residues, reds, in_green, mode, record_of, green, table}

abbrev red : ℕ → Pixel
red v = pixel v 0 0 255

-- residuals of packed pixels
abbrev packed_residues : List ℕ → List ℕ
packed_residues vs = union (λ v. 0 ∷ v ∷ 0 ∷ 0 ∷ []) vs

-- 3 by 2, of five reds, and 5 by 2
abbrev three : List ℕ
three = in_red (4 ∷ 1 ∷ 3 ∷ 2 ∷ 0 ∷ 4 ∷ [])

abbrev five : List ℕ
five = in_red (1 ∷ 2 ∷ 2 ∷ 2 ∷ 1 ∷ 1 ∷ 2 ∷ 2 ∷ 1 ∷ 2 ∷ [])

-- a table of five reds before a predictor of mode 2, with its data
abbrev table_first : List ℕ
table_first = table 5 ++ record_of 0 2 0 20 4

abbrev first_data : List ℕ
first_data = reds 5 ++ mode 2

-- a predictor of mode 1 before a table of the residuals 0, 1 and 255, with its data
abbrev predictor_first : List ℕ
predictor_first = record_of 0 2 0 12 8 ++ table 3

abbrev last_data : List ℕ
last_data = residues (0 ∷ 1 ∷ 255 ∷ []) ++ in_green (1 ∷ 1 ∷ [])

abbrev pub worked : List Line
worked =
    -- one column; the last index, which is neither the record's first nor the row's
    (store_strip 1 1 (table 2) (reds 2) (in_red (1 ∷ [])) (nines 1) is in_green (255 ∷ []))
    ∷ (store_strip 3 1 (table 2) (reds 2) (in_red (0 ∷ 0 ∷ 1 ∷ [])) (nines 1) is in_green (252 ∷ []))
    ∷ (store_strip 3 1 (table 2) (reds 2) (in_red (1 ∷ 1 ∷ 0 ∷ [])) (nines 1) is in_green (3 ∷ []))
    ∷ (store_strip 6 1 (table 3) (reds 3) (in_red (0 ∷ 2 ∷ 0 ∷ 1 ∷ 2 ∷ 1 ∷ [])) (nines 2) is in_green (72 ∷ 86 ∷ []))
    ∷ (store_strip 7 1 (table 4) (reds 4) (in_red (0 ∷ 3 ∷ 1 ∷ 2 ∷ 3 ∷ 0 ∷ 2 ∷ [])) (nines 2)
    is in_green (156 ∷ 163 ∷ []))
    -- no position is unused
    ∷ (store_strip 8 1 (table 2) (reds 2) (in_red (1 ∷ 0 ∷ 1 ∷ 1 ∷ 0 ∷ 0 ∷ 0 ∷ 1 ∷ [])) (nines 1) is in_green (141 ∷ []))
    -- each row has its own last pixel
    ∷ (store_strip 2 2 (table 2) (reds 2) (in_red (0 ∷ 1 ∷ 1 ∷ 0 ∷ [])) (nines 2) is in_green (254 ∷ 1 ∷ []))
    ∷ (store_strip 3 2 (table 5) (reds 5) three (nines 4) is in_green (20 ∷ 51 ∷ 2 ∷ 68 ∷ []))
    -- of equal entries the lowest index
    ∷ (store_strip 3 1 (table 3) (in_red (7 ∷ 5 ∷ 5 ∷ [])) (in_red (7 ∷ 7 ∷ 5 ∷ [])) (nines 1) is in_green (80 ∷ []))
    -- the table before the predictor, which predicts the filled records; the predictor before the table
    ∷ (store_strip 3 2 table_first first_data three (nines 4) is packed_residues (20 ∷ 31 ∷ 238 ∷ 17 ∷ []))
    ∷ (store_strip 5 2 predictor_first last_data five (nines 4) is in_green (5 ∷ 170 ∷ 132 ∷ 85 ∷ []))
    -- a retouch in the last column moves the unused positions; elsewhere they stay
    ∷ (retouch_strip 3 1 (table 2) (reds 2) (in_red (0 ∷ 0 ∷ 1 ∷ [])) (in_green (252 ∷ [])) 2 0 (red 0)
    is in_green (0 ∷ []))
    ∷ (retouch_strip 3 1 (table 2) (reds 2) (in_red (0 ∷ 0 ∷ 1 ∷ [])) (in_green (252 ∷ [])) 1 0 (red 1)
    is in_green (254 ∷ []))
    ∷ (retouch_strip 3 2 (table 5) (reds 5) three (in_green (20 ∷ 51 ∷ 2 ∷ 68 ∷ [])) 2 1 (red 1)
    is in_green (20 ∷ 51 ∷ 2 ∷ 17 ∷ []))
    ∷ (retouch_answer 3 2 (table 5) (reds 5) three (in_green (20 ∷ 51 ∷ 2 ∷ 68 ∷ [])) 2 1 (red 1)
    ∷ retouch_answer 3 2 (table 5) (reds 5) three (in_green (20 ∷ 51 ∷ 2 ∷ 68 ∷ [])) 2 1 (red 4)
    ∷ retouch_answer 3 2 (table 5) (reds 5) three (in_green (20 ∷ 51 ∷ 2 ∷ 68 ∷ [])) 2 1 (red 5) ∷ []
    is 289 ∷ 256 ∷ 22 ∷ [])
    ∷ (retouch_strip 3 2 table_first first_data three (packed_residues (20 ∷ 31 ∷ 238 ∷ 17 ∷ [])) 2 0 (red 1)
    is packed_residues (20 ∷ 253 ∷ 238 ∷ 51 ∷ []))
    ∷ (retouch_answer 3 2 table_first first_data three (packed_residues (20 ∷ 31 ∷ 238 ∷ 17 ∷ [])) 2 0 (red 1)
    ∷ retouch_answer 5 2 predictor_first last_data five (in_green (5 ∷ 170 ∷ 132 ∷ 85 ∷ [])) 4 0 (red 2) ∷ []
    is 329 ∷ 289 ∷ [])
    ∷ (retouch_strip 5 2 predictor_first last_data five (in_green (5 ∷ 170 ∷ 132 ∷ 85 ∷ [])) 4 0 (red 2)
    is in_green (5 ∷ 0 ∷ 132 ∷ 85 ∷ []))
    -- stored earlier: zero bits; a row's used positions, the other kinds, refusals and bytes beyond as in storing
    ∷ (earlier_strip 3 2 (table 5) (reds 5) three (nines 5) is in_green (20 ∷ 3 ∷ 2 ∷ 4 ∷ []) ++ nines 1)
    ∷ (earlier_strip 6 1 (table 3) (reds 3) (in_red (0 ∷ 2 ∷ 0 ∷ 1 ∷ 2 ∷ 1 ∷ [])) (nines 2) is in_green (72 ∷ 6 ∷ []))
    ∷ (earlier_strip 3 2 table_first first_data three (nines 4) is packed_residues (20 ∷ 239 ∷ 238 ∷ 1 ∷ []))
    ∷ (earlier_strip 5 2 predictor_first last_data five (nines 4) is in_green (5 ∷ 2 ∷ 132 ∷ 1 ∷ []))
    ∷ (earlier_strip 1 1 green [] (4 ∷ 10 ∷ 9 ∷ 7 ∷ []) (nines 1) is 250 ∷ 10 ∷ 255 ∷ 7 ∷ [])
    ∷ (earlier_answer 3 2 (table 5) (reds 5) three (nines 4)
    ∷ earlier_answer 3 2 (table 4) (reds 4) three (nines 4)
    ∷ earlier_answer 3 2 (table 4) (reds 4) three []
    ∷ earlier_answer 5 2 predictor_first last_data (in_red (3 ∷ []) ++ nines 9) (nines 4)
    ∷ earlier_answer 3 2 table_first first_data (in_red (5 ∷ 1 ∷ 3 ∷ 2 ∷ 0 ∷ 4 ∷ [])) (nines 4)
    ∷ earlier_answer 3 2 (table 4) (reds 4) (in_red (0 ∷ 1 ∷ 3 ∷ 2 ∷ 0 ∷ 4 ∷ [])) (nines 4) ∷ []
    is 0 ∷ 21 ∷ 8 ∷ 21 ∷ 21 ∷ 21 ∷ [])
    ∷ (earlier_strip 3 2 (table 4) (reds 4) three (nines 4) is nines 4)
    -- such strips rebuild to their pictures, and so do those with anything in the unused positions
    ∷ (rebuild_image 3 2 table_first first_data (packed_residues (20 ∷ 239 ∷ 238 ∷ 1 ∷ []) ++ nines 2) is three)
    ∷ (rebuild_image 5 2 predictor_first last_data (in_green (5 ∷ 2 ∷ 132 ∷ 1 ∷ []) ++ nines 6) is five)
    ∷ (rebuild_image 3 2 (table 5) (reds 5) (in_green (20 ∷ 227 ∷ 2 ∷ 196 ∷ []) ++ nines 2) is three)
    ∷ []

pub known_row_ends : map (λ (l : Line). l.computed) worked ≡ map (λ (l : Line). l.expected) worked
unfolding delta each each3 pixels written in_order block written_bytes predict select predicted residuals gained transform_color inverse_color color_stored color_rebuilt green_stored green_rebuilt per_pixel index_in unpacked lowest digits packed record_at by_kind narrowed width_at tabled tabled_length checked records_refusal size_refusal chain_refusal input_refusal forward backward stored rebuilt takes accepts named_by named columns made_of takes_item missing spots_of spot_records unmade remade new_strip changes point_answer pair_refusal rebuild_answer rebuild_image store_answer store_strip retouch_answer retouch_picture retouch_strip earlier_packed earlier_forward earlier_stored earlier_accepts earlier_answer earlier_strip
known_row_ends = refl
