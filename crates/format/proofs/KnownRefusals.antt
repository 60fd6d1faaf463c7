-- Further pictures, worked out from document 01: refusals 1 to 8 and 21, each at its boundary, and their order.
use mathlib.Core.List.{List, [], ◌∷◌, ◌++◌, map}
use mathlib.Core.Path.{◌≡◌, refl}
use Prim.Native.Nat.{ℕ}
use Rattle.format.specs.declared.Refusal.TheVariants.{Size, ChainLength, UnknownKind, KindAgain, NotTabled, WrongLength, BeyondData, ShortBuffer, Outside, MapLength, NoEntry, NoRecord, ColorList, FullCounter}
use Rattle.format.specs.Byte.{delta}
use Rattle.format.specs.Pixel.{each, each3}
use Rattle.format.specs.Picture.{pixels, written, in_order, block, written_bytes}
use Rattle.format.specs.Predictor.{predict, select, predicted, residuals, gained}
use Rattle.format.specs.Color.{transform_color, inverse_color, color_stored, color_rebuilt}
use Rattle.format.specs.SubtractGreen.{green_stored, green_rebuilt}
use Rattle.format.specs.ColorTable.{per_pixel, index_in, unpacked, lowest, digits, packed}
use Rattle.format.specs.Chain.{record_at, by_kind, narrowed, width_at}
use Rattle.format.specs.Refusals.{number, tabled, tabled_length, checked, records_refusal, size_refusal, chain_refusal, input_refusal}
use Rattle.format.specs.Stages.{forward, backward, stored, rebuilt, takes, accepts}
use Rattle.format.specs.Calls.{pair_refusal, rebuild_answer, rebuild_image, store_answer, store_strip}
use Rattle.format.proofs.Worked.{Line, ◌is◌, blacks, zeros, nines, bytes, in_red, reds, record_of, predictor, color, green, table, set}

-- rebuilding with no buffer: 8 where nothing comes before
abbrev refusal : ℕ → ℕ → List ℕ → List ℕ → ℕ
refusal w h cs ds = rebuild_answer w h cs ds []

abbrev one_by_one : List ℕ → List ℕ → ℕ
one_by_one cs ds = refusal 1 1 cs ds

-- each of the 16 bytes of a record set to v in turn, in a picture of 1 by 1
abbrev damages : ℕ → List ℕ → List ℕ → List ℕ
damages v cs ds =
    map (λ (i : ℕ). rebuild_answer 1 1 (set i v cs) ds (zeros 1))
    (0 ∷ 1 ∷ 2 ∷ 3 ∷ 4 ∷ 5 ∷ 6 ∷ 7 ∷ 8 ∷ 9 ∷ 10 ∷ 11 ∷ 12 ∷ 13 ∷ 14 ∷ 15 ∷ [])

abbrev pub worked : List Line
worked =
    -- every refusal's number
    (map number (Size ∷ ChainLength ∷ UnknownKind ∷ KindAgain ∷ NotTabled ∷ WrongLength ∷ BeyondData ∷ [])
    is 1 ∷ 2 ∷ 3 ∷ 4 ∷ 5 ∷ 6 ∷ 7 ∷ [])
    ∷ (map number (ShortBuffer ∷ Outside ∷ MapLength ∷ NoEntry ∷ NoRecord ∷ ColorList ∷ FullCounter ∷ [])
    is 8 ∷ 9 ∷ 10 ∷ 21 ∷ 22 ∷ 23 ∷ 24 ∷ [])
    -- width and height are 1 to 16384: 8 where only the buffer is wanting
    ∷ (refusal 0 1 [] [] ∷ refusal 1 0 [] [] ∷ refusal 16385 1 [] [] ∷ refusal 1 16385 [] [] ∷ [] is 1 ∷ 1 ∷ 1 ∷ 1 ∷ [])
    ∷ (refusal 16384 1 [] [] ∷ refusal 1 16384 [] [] ∷ one_by_one [] [] ∷ [] is 8 ∷ 8 ∷ 8 ∷ [])
    -- a chain is 0 to 4 whole records; 1 before 2, 2 before 3
    ∷ (one_by_one (bytes 1) [] ∷ one_by_one (bytes 15) [] ∷ one_by_one (bytes 80) [] ∷ refusal 0 1 (bytes 15) []
    ∷ one_by_one (4 ∷ []) [] ∷ []
    is 2 ∷ 2 ∷ 2 ∷ 1 ∷ 2 ∷ [])
    ∷ (one_by_one (predictor ++ color ++ green ++ table 1) (zeros 1)
    ∷ one_by_one (predictor ++ color ++ green ++ table 1 ++ green) (zeros 1) ∷ []
    is 8 ∷ 2 ∷ [])
    -- a record's 16 bytes, each set to 1, to 4 and to 10 in turn: of each kind, what refuses it
    ∷ (damages 1 predictor (zeros 1) is 0 ∷ 5 ∷ 5 ∷ 5 ∷ 7 ∷ 7 ∷ 7 ∷ 7 ∷ 6 ∷ 6 ∷ 6 ∷ 6 ∷ 5 ∷ 5 ∷ 5 ∷ 5 ∷ [])
    ∷ (damages 1 color (zeros 1) is 0 ∷ 5 ∷ 5 ∷ 5 ∷ 7 ∷ 7 ∷ 7 ∷ 7 ∷ 6 ∷ 6 ∷ 6 ∷ 6 ∷ 5 ∷ 5 ∷ 5 ∷ 5 ∷ [])
    ∷ (damages 1 green [] is 5 ∷ 5 ∷ 5 ∷ 5 ∷ 5 ∷ 5 ∷ 5 ∷ 5 ∷ 6 ∷ 6 ∷ 6 ∷ 6 ∷ 5 ∷ 5 ∷ 5 ∷ 5 ∷ [])
    ∷ (damages 1 (table 1) (zeros 1) is 5 ∷ 5 ∷ 0 ∷ 5 ∷ 7 ∷ 7 ∷ 7 ∷ 7 ∷ 6 ∷ 6 ∷ 6 ∷ 6 ∷ 5 ∷ 5 ∷ 5 ∷ 5 ∷ [])
    ∷ (damages 4 predictor (zeros 3) is 3 ∷ 0 ∷ 5 ∷ 5 ∷ 0 ∷ 7 ∷ 7 ∷ 7 ∷ 0 ∷ 6 ∷ 6 ∷ 6 ∷ 5 ∷ 5 ∷ 5 ∷ 5 ∷ [])
    ∷ (damages 10 (table 1) (zeros 4) is 3 ∷ 5 ∷ 6 ∷ 5 ∷ 0 ∷ 7 ∷ 7 ∷ 7 ∷ 6 ∷ 6 ∷ 6 ∷ 6 ∷ 5 ∷ 5 ∷ 5 ∷ 5 ∷ [])
    -- kind over 3 is refused by 3; 0 to 3 are taken
    ∷ (one_by_one (set 0 4 green) [] ∷ one_by_one (set 0 255 green) [] ∷ one_by_one green [] ∷ one_by_one (table 1) (zeros 1)
    ∷ []
    is 3 ∷ 3 ∷ 8 ∷ 8 ∷ [])
    -- a kind used before is refused by 4, next to the first or not; 3 before 4
    ∷ (one_by_one (green ++ green) [] ∷ one_by_one (predictor ++ green ++ predictor) (zeros 1)
    ∷ one_by_one (green ++ predictor ++ color ++ color) (zeros 1) ∷ []
    is 4 ∷ 4 ∷ 4 ∷ [])
    ∷ (one_by_one (set 0 4 green ++ set 0 4 green) [] ∷ one_by_one (green ++ set 0 5 green ++ set 0 5 green) [] ∷ []
    is 3 ∷ 3 ∷ [])
    -- 4 before 5, 5 before 6, 6 before 7
    ∷ (one_by_one (green ++ record_of 2 1 0 0 0) [] ∷ one_by_one (record_of 0 1 0 9 9) [] ∷ one_by_one (record_of 0 2 0 9 8) []
    ∷ []
    is 4 ∷ 5 ∷ 6 ∷ [])
    -- tests 3 to 7 on each record in turn: the first record's 7 before the second's 3
    ∷ (one_by_one (record_of 0 2 0 1 4 ++ set 0 4 green) (zeros 1)
    ∷ one_by_one (record_of 0 2 0 0 8 ++ green ++ green) (zeros 1) ∷ []
    is 7 ∷ 6 ∷ [])
    -- bits 2 to 9 of predictor and color, 0 of the other kinds
    ∷ (one_by_one (set 1 1 predictor) (zeros 1) ∷ one_by_one (set 1 9 predictor) (zeros 1)
    ∷ one_by_one (set 1 10 predictor) (zeros 1) ∷ []
    is 5 ∷ 8 ∷ 5 ∷ [])
    ∷ (one_by_one (set 1 1 color) (zeros 1) ∷ one_by_one (set 1 9 color) (zeros 1) ∷ one_by_one (set 1 10 color) (zeros 1)
    ∷ []
    is 5 ∷ 8 ∷ 5 ∷ [])
    -- size 1 to 256
    ∷ (one_by_one (table 0) [] ∷ one_by_one (set 3 1 (set 9 4 (table 0))) (zeros 256)
    ∷ one_by_one (set 3 1 (set 9 4 (table 1))) (zeros 257) ∷ []
    is 5 ∷ 8 ∷ 5 ∷ [])
    -- length: bx from the width, by from the height, each rounded up
    ∷ (refusal 5 9 (record_of 0 2 0 0 24) (zeros 6) ∷ refusal 5 9 (record_of 0 2 0 0 20) (zeros 6)
    ∷ refusal 5 9 (record_of 0 2 0 0 16) (zeros 6) ∷ []
    is 8 ∷ 6 ∷ 6 ∷ [])
    ∷ (refusal 8 12 (record_of 1 2 0 0 24) (zeros 6) ∷ refusal 16 1 (record_of 1 3 0 0 8) (zeros 2)
    ∷ refusal 17 1 (record_of 1 3 0 0 8) (zeros 2) ∷ refusal 8 8 (record_of 0 3 0 0 4) (zeros 1) ∷ []
    is 8 ∷ 8 ∷ 6 ∷ 8 ∷ [])
    -- length, all four of its bytes: 64 blocks, 16384 and 4096 × 4096, with no data
    ∷ (refusal 256 1 (set 9 1 (record_of 1 2 0 0 0)) [] ∷ refusal 16384 16 (set 10 1 (record_of 1 2 0 0 0)) []
    ∷ refusal 16384 16384 (set 11 4 (record_of 1 2 0 0 0)) [] ∷ []
    is 7 ∷ 7 ∷ 7 ∷ [])
    -- offset + length may reach the data's end
    ∷ (one_by_one (record_of 0 2 0 4 4) (zeros 2) ∷ one_by_one (record_of 0 2 0 5 4) (zeros 2)
    ∷ one_by_one (record_of 0 2 0 4 4) (bytes 7) ∷ []
    is 8 ∷ 7 ∷ 7 ∷ [])
    -- current width: after a table the packed one, before it the picture's
    ∷ (refusal 33 1 (table 2 ++ record_of 0 2 0 0 8) (zeros 2) ∷ refusal 32 1 (table 2 ++ record_of 0 2 0 0 8) (zeros 2)
    ∷ refusal 32 1 (table 2 ++ predictor) (zeros 2) ∷ []
    is 8 ∷ 6 ∷ 8 ∷ [])
    ∷ (refusal 5 1 (record_of 0 2 0 0 8 ++ table 2) (zeros 2)
    ∷ refusal 5 1 (record_of 0 2 0 0 8 ++ green ++ table 2 ++ color) (zeros 2) ∷ []
    is 8 ∷ 8 ∷ [])
    -- 8: a picture has 4 × width × height bytes, a strip 4 × the last width × height
    ∷ (rebuild_answer 3 2 (table 5) (reds 5) (zeros 6) ∷ rebuild_answer 3 2 (table 5) (reds 5) (bytes 23) ∷ []
    is 0 ∷ 8 ∷ [])
    ∷ (store_answer 3 2 (table 5) (reds 5) (blacks 6) (zeros 4)
    ∷ store_answer 3 2 (table 5) (reds 5) (blacks 6) (bytes 15)
    ∷ store_answer 3 2 (table 5) (reds 5) (bytes 23) (zeros 4) ∷ []
    is 0 ∷ 8 ∷ 8 ∷ [])
    -- 7 before 8, 8 before 21; a refusal changes no byte
    ∷ (store_answer 1 1 (record_of 0 2 0 1 4) (zeros 1) [] [] ∷ store_answer 1 1 (table 1) (reds 1) (zeros 1) []
    ∷ store_answer 1 1 (table 1) (reds 1) (zeros 1) (nines 1) ∷ []
    is 7 ∷ 8 ∷ 21 ∷ [])
    ∷ (rebuild_image 2 1 [] [] (1 ∷ 2 ∷ 3 ∷ 4 ∷ []) is 1 ∷ 2 ∷ 3 ∷ 4 ∷ [])
    ∷ (rebuild_image 1 1 (set 0 4 green) [] (1 ∷ 2 ∷ 3 ∷ 4 ∷ []) is 1 ∷ 2 ∷ 3 ∷ 4 ∷ [])
    -- 21: an entry has all four bytes of the pixel; every pixel that reaches the table counts, up to the picture's last
    ∷ (store_answer 1 1 (table 4) (1 ∷ 0 ∷ 0 ∷ 0 ∷ 0 ∷ 1 ∷ 0 ∷ 0 ∷ 0 ∷ 0 ∷ 1 ∷ 0 ∷ 0 ∷ 0 ∷ 0 ∷ 1 ∷ []) (zeros 1)
    (zeros 1) ∷ []
    is 21 ∷ [])
    ∷ (store_answer 3 2 (table 5) (reds 5) (in_red (0 ∷ 1 ∷ 2 ∷ 3 ∷ 4 ∷ 5 ∷ [])) (zeros 4)
    ∷ store_answer 3 2 (table 5) (reds 5) (in_red (5 ∷ 1 ∷ 2 ∷ 3 ∷ 4 ∷ 0 ∷ [])) (zeros 4)
    ∷ store_answer 3 2 (table 5) (reds 5) (in_red (0 ∷ 1 ∷ 2 ∷ 3 ∷ 4 ∷ 0 ∷ 5 ∷ [])) (zeros 4) ∷ []
    is 21 ∷ 21 ∷ 0 ∷ [])
    -- the zero bytes of a second record
    ∷ (one_by_one (green ++ set 12 1 predictor) (zeros 1) ∷ one_by_one (green ++ set 15 1 predictor) (zeros 1) ∷ []
    is 5 ∷ 5 ∷ [])
    ∷ []

pub known_refusals : map (λ (l : Line). l.computed) worked ≡ map (λ (l : Line). l.expected) worked
unfolding delta each each3 pixels written in_order block written_bytes predict select predicted residuals gained transform_color inverse_color color_stored color_rebuilt green_stored green_rebuilt per_pixel index_in unpacked lowest digits packed record_at by_kind narrowed width_at tabled tabled_length checked records_refusal size_refusal chain_refusal input_refusal forward backward stored rebuilt takes accepts pair_refusal rebuild_answer rebuild_image store_answer store_strip
known_refusals = refl
