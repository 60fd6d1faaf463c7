-- Further pictures, worked out from document 01: chains of none, one, two and four records, and their data.
use mathlib.Core.List.{List, [], ◌∷◌, ◌++◌, map}
use mathlib.Core.Path.{◌≡◌, refl}
use Prim.Native.Nat.{ℕ}
use Rattle.format.specs.Byte.{delta}
use Rattle.format.specs.Pixel.{each, each3}
use Rattle.format.specs.Picture.{pixels, written, in_order, block, written_bytes}
use Rattle.format.specs.Predictor.{predict, select, predicted, residuals, gained}
use Rattle.format.specs.Color.{transform_color, inverse_color, color_stored, color_rebuilt}
use Rattle.format.specs.SubtractGreen.{green_stored, green_rebuilt}
use Rattle.format.specs.ColorTable.{per_pixel, index_in, unpacked, lowest, digits, packed}
use Rattle.format.specs.Chain.{record_at, by_kind, narrowed, width_at}
use Rattle.format.specs.Refusals.{tabled, tabled_length, checked, records_refusal, size_refusal, chain_refusal, input_refusal}
use Rattle.format.specs.Stages.{forward, backward, stored, rebuilt, takes, accepts}
use Rattle.format.specs.Calls.{pair_refusal, rebuild_answer, rebuild_image, store_answer, store_strip}
use Rattle.format.proofs.Worked.{Line, ◌is◌, blacks, zeros, nines, bytes, in_red, residues, reds, in_green, mode, record_of, predictor, color, green, table, set}

-- 2 by 2; 2 by 1; color data that a predictor reads as mode 8
abbrev small : List ℕ
small = in_red (1 ∷ 2 ∷ 4 ∷ 9 ∷ [])

abbrev two : List ℕ
two = 9 ∷ 40 ∷ 7 ∷ 1 ∷ 200 ∷ 150 ∷ 30 ∷ 6 ∷ []

abbrev shared : List ℕ
shared = 100 ∷ 8 ∷ 37 ∷ 0 ∷ []

-- a table of five entries before a predictor, and a predictor before a table of three
abbrev table_first : List ℕ
table_first = table 5 ++ record_of 0 2 0 20 4

abbrev predictor_first : List ℕ
predictor_first = record_of 0 2 0 12 4 ++ table 3

-- a chain of all four kinds and its data: color, mode 2, and four residuals
abbrev all_kinds : List ℕ
all_kinds = green ++ color ++ record_of 0 2 0 4 4 ++ record_of 3 0 4 8 16

abbrev all_data : List ℕ
all_data = 0 ∷ 0 ∷ 32 ∷ 0 ∷ 0 ∷ 2 ∷ 0 ∷ 255 ∷ 0 ∷ 0 ∷ 0 ∷ 0 ∷ 254 ∷ 2 ∷ 0 ∷ 0 ∷ 255 ∷ 1 ∷ 0 ∷ 0 ∷ 255 ∷ 1 ∷ 0 ∷ 255 ∷ []

abbrev pub worked : List Line
worked =
    -- an empty chain copies; bytes beyond are kept
    (rebuild_image 1 1 [] [] (1 ∷ 2 ∷ 3 ∷ 4 ∷ 5 ∷ []) is 1 ∷ 2 ∷ 3 ∷ 4 ∷ 5 ∷ [])
    ∷ (store_strip 1 1 [] [] (1 ∷ 2 ∷ 3 ∷ 4 ∷ 5 ∷ []) (nines 2) is 1 ∷ 2 ∷ 3 ∷ 4 ∷ 9 ∷ 9 ∷ 9 ∷ 9 ∷ [])
    -- a record's part of the data starts at its offset: of mode 4, and past 256 bytes
    ∷ (store_strip 2 2 (record_of 0 2 0 8 4) (in_green (1 ∷ 2 ∷ 4 ∷ [])) small (zeros 4)
    is residues (1 ∷ 1 ∷ 3 ∷ 8 ∷ []))
    ∷ (store_strip 2 2 (set 5 1 predictor) (bytes 256 ++ mode 2) small (zeros 4) is residues (1 ∷ 1 ∷ 3 ∷ 7 ∷ []))
    -- two records: storing does the first one first, rebuilding the last one first; deltas are rounded, so the order
    -- shows
    ∷ (store_strip 2 1 (predictor ++ color) shared two (zeros 2) is 219 ∷ 40 ∷ 225 ∷ 2 ∷ 64 ∷ 110 ∷ 200 ∷ 5 ∷ [])
    ∷ (store_strip 2 1 (color ++ predictor) shared two (zeros 2) is 219 ∷ 40 ∷ 225 ∷ 2 ∷ 104 ∷ 110 ∷ 7 ∷ 5 ∷ [])
    ∷ (rebuild_image 2 1 (predictor ++ color) shared two is 55 ∷ 40 ∷ 188 ∷ 0 ∷ 132 ∷ 190 ∷ 175 ∷ 6 ∷ [])
    ∷ (rebuild_image 2 1 (color ++ predictor) shared two is 55 ∷ 40 ∷ 188 ∷ 0 ∷ 132 ∷ 190 ∷ 144 ∷ 6 ∷ [])
    ∷ (store_strip 2 1 (color ++ green) shared two (zeros 2) is 179 ∷ 40 ∷ 185 ∷ 1 ∷ 173 ∷ 150 ∷ 82 ∷ 6 ∷ [])
    -- the table before the predictor: 4 by 2 with two indices to a record is 2 by 2 there, mode 2
    ∷ (store_strip 4 2 table_first (reds 5 ++ mode 2) (in_red (1 ∷ 2 ∷ 3 ∷ 4 ∷ 4 ∷ 0 ∷ 3 ∷ 1 ∷ [])) (zeros 4)
    is 0 ∷ 33 ∷ 0 ∷ 0 ∷ 0 ∷ 34 ∷ 0 ∷ 0 ∷ 0 ∷ 227 ∷ 0 ∷ 0 ∷ 0 ∷ 208 ∷ 0 ∷ 0 ∷ [])
    ∷ (rebuild_image 4 2 table_first (reds 5 ++ mode 2)
    ((0 ∷ 33 ∷ 0 ∷ 0 ∷ 0 ∷ 34 ∷ 0 ∷ 0 ∷ 0 ∷ 227 ∷ 0 ∷ 0 ∷ 0 ∷ 208 ∷ 0 ∷ 0 ∷ []) ++ nines 4)
    is in_red (1 ∷ 2 ∷ 3 ∷ 4 ∷ 4 ∷ 0 ∷ 3 ∷ 1 ∷ []))
    -- the predictor before the table: the residuals are what is indexed
    ∷ (store_strip 4 2 predictor_first (residues (0 ∷ 1 ∷ 255 ∷ []) ++ mode 1)
    (in_red (1 ∷ 2 ∷ 2 ∷ 1 ∷ 0 ∷ 0 ∷ 1 ∷ 0 ∷ [])) (zeros 2)
    is in_green (133 ∷ 146 ∷ []))
    ∷ (rebuild_image 4 2 predictor_first (residues (0 ∷ 1 ∷ 255 ∷ []) ++ mode 1) (in_green (133 ∷ 146 ∷ []) ++ nines 6)
    is in_red (1 ∷ 2 ∷ 2 ∷ 1 ∷ 0 ∷ 0 ∷ 1 ∷ 0 ∷ []))
    -- all four kinds
    ∷ (store_strip 2 2 all_kinds all_data (2 ∷ 2 ∷ 2 ∷ 255 ∷ 2 ∷ 2 ∷ 2 ∷ 255 ∷ 3 ∷ 3 ∷ 3 ∷ 255 ∷ 3 ∷ 3 ∷ 3 ∷ 254 ∷ [])
    (nines 3)
    is in_green (1 ∷ 254 ∷ []) ++ nines 1)
    ∷ (rebuild_image 2 2 all_kinds all_data (in_green (16 ∷ 7 ∷ 0 ∷ 0 ∷ []))
    is blacks 2 ++ (1 ∷ 1 ∷ 1 ∷ 254 ∷ 2 ∷ 2 ∷ 2 ∷ 255 ∷ []))
    ∷ []

pub known_chains : map (λ (l : Line). l.computed) worked ≡ map (λ (l : Line). l.expected) worked
unfolding delta each each3 pixels written in_order block written_bytes predict select predicted residuals gained transform_color inverse_color color_stored color_rebuilt green_stored green_rebuilt per_pixel index_in unpacked lowest digits packed record_at by_kind narrowed width_at tabled tabled_length checked records_refusal size_refusal chain_refusal input_refusal forward backward stored rebuilt takes accepts pair_refusal rebuild_answer rebuild_image store_answer store_strip
known_chains = refl
