-- Further pictures, worked out from document 01: retouches, refusals 9 and 22, and a list of calls beside the desk.
use Rattle.std.specs.Prelude.{if◌then◌else◌}
use mathlib.Core.List.{List, [], ◌∷◌, ◌++◌, map}
use mathlib.Core.Path.{◌≡◌, refl}
use Prim.Native.Nat.{ℕ, zero, suc, ◌+◌, ◌*◌}
use lib.Dec.{eqb}
use lib.ListN.{take}
use Rattle.format.specs.Indices.{among, union}
use Rattle.format.specs.declared.Pixel.{Pixel}
use Rattle.std.specs.Prelude.{Option, Some, None}
use Rattle.format.specs.Byte.{delta}
use Rattle.format.specs.Pixel.{pixel, black, each, each3}
use Rattle.format.specs.Picture.{Picture, pixels, written, in_order, block, written_bytes}
use Rattle.format.specs.Predictor.{predict, select, predicted, residuals, gained}
use Rattle.format.specs.Color.{transform_color, inverse_color, color_stored, color_rebuilt}
use Rattle.format.specs.SubtractGreen.{green_stored, green_rebuilt}
use Rattle.format.specs.ColorTable.{per_pixel, index_in, unpacked, lowest, digits, packed}
use Rattle.format.specs.Chain.{step_at, record_at, by_kind, narrowed, width_at}
use Rattle.format.specs.declared.Refusal.TheVariants.{NoRecord}
use Rattle.format.specs.Refusals.{number, tabled, tabled_length, checked, records_refusal, size_refusal, chain_refusal, input_refusal}
use Rattle.format.specs.Stages.{forward, backward, stored, rebuilt, takes, accepts}
use Rattle.format.specs.Made.{made_item, made, named_by, named, columns, made_of, takes_item, missing}
use Rattle.format.specs.Retouch.{spots_of, spot_records, unmade, remade, new_strip, changes, point_answer}
use Rattle.format.specs.Calls.{pair_refusal, rebuild_answer, rebuild_image, store_answer, store_strip, retouch_answer, retouch_picture, retouch_strip}
use Rattle.format.specs.Lists.{Machine, left_by, in_turn, answers_to, accepted_calls}
use Rattle.format.specs.Desk.{Retouch, Buffers, desk, call, desk_answer, desk_holds, call_answer, call_leaves}
use Rattle.format.proofs.Worked.{Line, ◌is◌, one, copies, blacks, zeros, nines, in_red, residues, reds, in_green, mode, record_of, predictor, green, table, set}

abbrev red : ℕ → Pixel
red v = pixel v 0 0 255

-- 3 by 3, mode 10, all black, the top row's middle painted, over a strip
abbrev answer_over : List ℕ → ℕ
answer_over strip = retouch_answer 3 3 predictor (mode 10) (blacks 9) strip 1 0 (red 128)

abbrev strip_over : List ℕ → List ℕ
strip_over strip = retouch_strip 3 3 predictor (mode 10) (blacks 9) strip 1 0 (red 128)

-- the strip after it; and the answers where one record of that, each in turn, was wrong before
abbrev after : List ℕ
after = residues (0 ∷ 128 ∷ 128 ∷ 0 ∷ 224 ∷ 224 ∷ 0 ∷ 0 ∷ 0 ∷ [])

abbrev wrong_ones : List ℕ
wrong_ones = map (λ (r : ℕ). answer_over (set (4 * r + 3) 77 after)) (0 ∷ 1 ∷ 2 ∷ 3 ∷ 4 ∷ 5 ∷ 6 ∷ 7 ∷ 8 ∷ [])

-- a table of the residuals 0, 1 and 255, and two blocks of mode 1
abbrev residual_table : List ℕ
residual_table = residues (0 ∷ 1 ∷ 255 ∷ []) ++ in_green (1 ∷ 1 ∷ [])

-- 4 by 2, the predictor of mode 1 before a table of the residuals 0, 1 and 255: a pixel painted with red 1
abbrev residuals_over : List ℕ → ℕ → ℕ → ℕ
residuals_over picture x y =
    retouch_answer 4 2 (record_of 0 2 0 12 4 ++ table 3) (residues (0 ∷ 1 ∷ 255 ∷ []) ++ mode 1) picture (zeros 2) x y (red 1)

-- those of the first n pixels of a black picture that refuse a retouch by 22 where they have no entry
abbrev lacking : ℕ → (List ℕ → ℕ) → List ℕ
lacking zero answer = []
lacking (suc n) answer =
    lacking n answer ++ (if eqb (answer (blacks n ++ in_red (99 ∷ []) ++ blacks 30)) 22 then n ∷ [] else [])

-- 5 by 3, a table of 17 reds before the predictor of mode m in both blocks, the middle pixel retouched
abbrev lacking_for : ℕ → List ℕ
lacking_for m =
    lacking 10
    (λ picture.
    retouch_answer 5 3 (table 17 ++ record_of 0 2 0 68 8) (reds 17 ++ in_green (m ∷ m ∷ [])) picture (zeros 15) 2 1 black)

-- those of the pixels of 5 by 3 that the prediction of column x of row y names, where both blocks have mode m
abbrev naming : ℕ → ℕ → ℕ → List ℕ
naming m x y =
    union (λ q. if among q (named 5 2 (pixels (in_green (m ∷ m ∷ []))) x y) then q ∷ [] else [])
    (0 ∷ 1 ∷ 2 ∷ 3 ∷ 4 ∷ 5 ∷ 6 ∷ 7 ∷ 8 ∷ 9 ∷ 10 ∷ 11 ∷ 12 ∷ 13 ∷ 14 ∷ [])

-- 6 by 2, a table of 5 reds before the predictor
abbrev lacking_in : ℕ → ℕ → ℕ → List ℕ
lacking_in m x y =
    lacking 12
    (λ picture. retouch_answer 6 2 (table 5 ++ record_of 0 2 0 20 4) (reds 5 ++ mode m) picture (zeros 6) x y black)

-- on 4 by 2, a table of 5 reds before the predictor of mode 10: the call and the desk, buffers with a record beyond,
-- and calls
abbrev the_call : Machine Buffers Retouch
the_call = call 4 2 (table 5 ++ record_of 0 2 0 20 4) (reds 5 ++ mode 10)

abbrev the_desk : Machine Picture Retouch
the_desk = desk 4 2 (table 5 ++ record_of 0 2 0 20 4) (reds 5 ++ mode 10)

abbrev both_buffers : Buffers
both_buffers = record { picture = blacks 9; strip = zeros 5 }

abbrev at : ℕ → ℕ → Pixel → Retouch
at column row v = record { x = column; y = row; color = v }

abbrev calls : List Retouch
calls = at 3 0 (red 4) ∷ at 4 0 (red 9) ∷ at 1 0 (red 9) ∷ at 3 0 (red 4) ∷ at 2 1 (red 3) ∷ at 3 0 (red 0) ∷ []

-- the reds of columns 1 and 3 of row 0 that the desk holds after n of them
abbrev held_after : ℕ → ℕ
held_after n =
    (left_by the_desk (pixels (blacks 8)) (take n calls) 1).red + (left_by the_desk (pixels (blacks 8)) (take n calls) 3).red

-- 4 by 1, of which the third pixel has no entry; making record r of it
abbrev gap : List ℕ
gap = in_red (0 ∷ 1 ∷ 9 ∷ 2 ∷ [])

abbrev making : ℕ → Option Pixel
making r = made_item (step_at (table 5) 4) (reds 5) 1 (pixels gap) r

abbrev item_of : Option Pixel → List ℕ
item_of (Some v) = one v
item_of None = []

-- what a retouch answers for making it
abbrev number_of : Option Pixel → ℕ
number_of (Some v) = 0
number_of None = number NoRecord

abbrev columns_of : List Retouch → List ℕ
columns_of cs = map (λ (c : Retouch). c.x) cs

abbrev pub worked : List Line
worked =
    -- 3 by 3, mode 10, the top row's middle painted: of its five spots one, in column 0, keeps its record
    (answer_over (zeros 9) ∷ [] is 411 ∷ [])
    ∷ (strip_over (zeros 9) is residues (0 ∷ 128 ∷ 128 ∷ 0 ∷ 224 ∷ 224 ∷ 0 ∷ 0 ∷ 0 ∷ []))
    -- a record wrong before, of those right after: each spot's own bit, whichever its wrong byte; others are not
    -- written
    ∷ (wrong_ones is 256 ∷ 289 ∷ 290 ∷ 292 ∷ 296 ∷ 304 ∷ 256 ∷ 256 ∷ 256 ∷ [])
    ∷ (answer_over (set 4 1 after) ∷ answer_over (set 5 1 after) ∷ answer_over (set 6 1 after) ∷ answer_over (set 7 1 after)
    ∷ []
    is 289 ∷ 289 ∷ 289 ∷ 289 ∷ [])
    ∷ (strip_over (set 0 7 after) is residues (7 ∷ 128 ∷ 128 ∷ 0 ∷ 224 ∷ 224 ∷ 0 ∷ 0 ∷ 0 ∷ []))
    -- spots past the last record are none, and nothing is written there
    ∷ (retouch_answer 3 3 predictor (mode 10) (blacks 9) (zeros 13) 2 2 (red 128)
    ∷ retouch_answer 3 3 predictor (mode 10) (blacks 9) (zeros 13) 0 2 (red 128)
    ∷ retouch_answer 3 3 predictor (mode 10) (blacks 9) (zeros 13) 2 1 (red 128) ∷ []
    is 289 ∷ 359 ∷ 365 ∷ [])
    ∷ (retouch_strip 3 3 predictor (mode 10) (blacks 9) (nines 13) 1 2 (red 128)
    is nines 7 ++ residues (128 ∷ 224 ∷ []) ++ nines 4)
    -- 1 by 3: spots 0, 1, 0, 1, 2; 2 by 2: spots 0, 1, 1, 2, 3. A record counts at its first spot alone
    ∷ (retouch_answer 1 3 predictor (mode 10) (blacks 3) (zeros 3) 0 0 (red 128)
    ∷ retouch_answer 1 3 predictor (mode 10) (blacks 3) (nines 3) 0 0 (red 128)
    ∷ retouch_answer 2 2 predictor (mode 10) (blacks 4) (nines 4) 0 0 (red 128) ∷ []
    is 323 ∷ 371 ∷ 411 ∷ [])
    -- column and row: 3 by 2; outside is 9, and 8 comes before it
    ∷ (retouch_picture 3 2 predictor (mode 1) (blacks 7) (zeros 6) 2 1 (pixel 1 2 3 4)
    is blacks 5 ++ (1 ∷ 2 ∷ 3 ∷ 4 ∷ []) ++ blacks 1)
    ∷ (retouch_answer 3 2 [] [] (blacks 6) (zeros 6) 3 0 black ∷ retouch_answer 3 2 [] [] (blacks 6) (zeros 6) 0 2 black
    ∷ retouch_answer 3 2 [] [] (blacks 6) (zeros 6) 2 1 black ∷ retouch_answer 3 2 [] [] (blacks 6) (zeros 5) 3 2 black
    ∷ retouch_answer 3 2 [] [] (blacks 5) (zeros 6) 3 2 black ∷ []
    is 9 ∷ 9 ∷ 289 ∷ 8 ∷ 8 ∷ [])
    -- 1 to 7 before 8, and a refusal changes no byte
    ∷ (retouch_answer 3 0 [] [] (blacks 6) (zeros 6) 0 0 black ∷ retouch_answer 3 2 (green ++ green) [] [] [] 0 0 black
    ∷ []
    is 1 ∷ 4 ∷ [])
    ∷ (retouch_picture 3 2 [] [] (blacks 6) (zeros 6) 0 2 (red 1) is blacks 6)
    ∷ (retouch_strip 3 2 [] [] (blacks 6) (zeros 6) 0 2 (red 1) is zeros 6)
    -- without a predictor the changed pixel's record is the only spot
    ∷ (retouch_answer 2 2 green [] (blacks 4) (nines 4) 0 1 (pixel 9 3 2 1)
    ∷ retouch_answer 3 2 (table 5) (reds 5) (blacks 6) (nines 4) 2 1 (red 4) ∷ []
    is 289 ∷ 289 ∷ [])
    ∷ (retouch_strip 2 2 green [] (blacks 4) (nines 4) 0 1 (pixel 9 3 2 1)
    is nines 2 ++ (6 ∷ 3 ∷ 255 ∷ 1 ∷ []) ++ nines 1)
    ∷ (retouch_strip 3 2 (table 5) (reds 5) (blacks 6) (nines 4) 2 1 (red 4) is nines 3 ++ (0 ∷ 68 ∷ 0 ∷ 255 ∷ []))
    ∷ (retouch_strip 3 2 (table 5) (reds 5) (blacks 6) (nines 4) 1 1 (red 4)
    is nines 2 ++ (0 ∷ 64 ∷ 0 ∷ 255 ∷ []) ++ nines 1)
    -- the predictor before the table: 5 by 2, spots 1, 2, 5, 6 and 7 are in records 0, 0, 2, 2 and 2 of two to a row
    ∷ (retouch_answer 5 2 (record_of 0 2 0 12 8 ++ table 3) residual_table (blacks 10) (nines 4) 1 0 (red 1) ∷ []
    is 325 ∷ [])
    ∷ (retouch_strip 5 2 (record_of 0 2 0 12 8 ++ table 3) residual_table (blacks 10) (nines 4) 1 0 (red 1)
    is (0 ∷ 36 ∷ 0 ∷ 255 ∷ []) ++ nines 1 ++ blacks 1 ++ nines 1)
    ∷ (retouch_answer 5 2 (record_of 0 2 0 12 8 ++ table 3) residual_table (blacks 10) (nines 4) 3 0 (red 1) ∷ []
    is 407 ∷ [])
    -- the table before the predictor: 6 by 2 is 3 by 2 there, spots 1, 2, 3, 4 and 5
    ∷ (retouch_answer 6 2 (table 5 ++ record_of 0 2 0 20 4) (reds 5 ++ mode 10) (blacks 12) (nines 6) 3 0 (red 4) ∷ []
    is 447 ∷ [])
    ∷ (retouch_strip 6 2 (table 5 ++ record_of 0 2 0 20 4) (reds 5 ++ mode 10) (blacks 12) (zeros 6) 3 0 (red 4)
    is zeros 1 ++ (0 ∷ 64 ∷ 0 ∷ 0 ∷ 0 ∷ 192 ∷ 0 ∷ 0 ∷ []) ++ zeros 1 ++ copies 2 (pixel 0 240 0 0))
    -- 22: a pixel without entry in the record, painted or standing there; 9 before 22; the other records do not count
    ∷ (retouch_answer 4 1 (table 5) (reds 5) gap (zeros 2) 3 0 (red 3)
    ∷ retouch_answer 4 1 (table 5) (reds 5) gap (zeros 2) 1 0 (red 3)
    ∷ retouch_answer 4 1 (table 5) (reds 5) gap (zeros 2) 0 0 (red 5)
    ∷ retouch_answer 4 1 (table 5) (reds 5) gap (zeros 2) 4 0 (red 5)
    ∷ retouch_answer 4 2 (table 5) (reds 5) (blacks 8) (zeros 4) 4 0 (red 9) ∷ []
    is 22 ∷ 289 ∷ 22 ∷ 9 ∷ 9 ∷ [])
    ∷ (retouch_picture 4 1 (table 5) (reds 5) gap (zeros 2) 0 0 (red 5) is in_red (0 ∷ 1 ∷ 9 ∷ 2 ∷ []))
    ∷ (retouch_strip 4 1 (table 5) (reds 5) gap (zeros 2) 0 0 (red 5) is zeros 2)
    -- the pixels of 5 by 3 that the prediction of the middle one, 7, names: L is 6, T is 2, TR is 3, TL is 1
    ∷ (naming 0 2 1 is [])
    ∷ (naming 1 2 1 is 6 ∷ [])
    ∷ (naming 2 2 1 is 2 ∷ [])
    ∷ (naming 3 2 1 is 3 ∷ [])
    ∷ (naming 4 2 1 is 1 ∷ [])
    ∷ (naming 5 2 1 is 2 ∷ 3 ∷ 6 ∷ [])
    ∷ (naming 6 2 1 is 1 ∷ 6 ∷ [])
    ∷ (naming 7 2 1 is 2 ∷ 6 ∷ [])
    ∷ (naming 8 2 1 is 1 ∷ 2 ∷ [])
    ∷ (naming 9 2 1 is 2 ∷ 3 ∷ [])
    ∷ (naming 10 2 1 is 1 ∷ 2 ∷ 3 ∷ 6 ∷ [])
    ∷ (naming 11 2 1 is 1 ∷ 2 ∷ 6 ∷ [])
    ∷ (naming 12 2 1 is 1 ∷ 2 ∷ 6 ∷ [])
    ∷ (naming 13 2 1 is 1 ∷ 2 ∷ 6 ∷ [])
    ∷ (naming 14 2 1 is [])
    ∷ (naming 16 2 1 is [])
    ∷ (naming 255 2 1 is [])
    -- by the border rules: the first pixel names none, row 0 names L, column 0 names T; TR of the last column is column
    -- 0
    ∷ (naming 10 0 0 is [])
    ∷ (naming 10 2 0 is 1 ∷ [])
    ∷ (naming 10 0 2 is 5 ∷ [])
    ∷ (naming 3 4 1 is 5 ∷ [])
    -- a record that can be made, and one that cannot
    ∷ (number_of (making 0) ∷ number_of (making 1) ∷ [] is 0 ∷ 22 ∷ [])
    ∷ (item_of (making 0) ++ item_of (making 1) is 0 ∷ 16 ∷ 0 ∷ 255 ∷ [])
    -- 22, the table before the predictor: of the first ten pixels of 5 by 3 these, lacking an entry, refuse a retouch
    -- of the middle one: 8 in a spot's record and, in mode 9, those that a spot's prediction names
    ∷ (lacking_for 9 is 2 ∷ 3 ∷ 4 ∷ 6 ∷ 8 ∷ 9 ∷ [])
    -- two indices to a record: mode 1 names the packed pixel on the left, with both its pixels; mode 14 none
    ∷ (lacking_in 1 4 1 is 8 ∷ 9 ∷ 11 ∷ [])
    ∷ (lacking_in 14 4 1 is 11 ∷ [])
    -- the predictor before the table: the residuals of a spot's record count, those of row 0's record not for a spot in
    -- row 1
    ∷ (residuals_over (in_red (0 ∷ 0 ∷ 0 ∷ 0 ∷ 0 ∷ 0 ∷ 0 ∷ 5 ∷ [])) 0 0
    ∷ residuals_over (in_red (5 ∷ 0 ∷ 0 ∷ 0 ∷ 0 ∷ 0 ∷ 0 ∷ 0 ∷ [])) 3 1
    ∷ residuals_over (in_red (0 ∷ 0 ∷ 0 ∷ 5 ∷ 0 ∷ 0 ∷ 0 ∷ 0 ∷ [])) 3 1 ∷ []
    is 22 ∷ 22 ∷ 289 ∷ [])
    -- a list of calls, by the call and by the desk: accepted, outside, without entry, the same again, back to black
    ∷ (answers_to the_call both_buffers calls is 329 ∷ 9 ∷ 22 ∷ 256 ∷ 289 ∷ 329 ∷ [])
    ∷ (answers_to the_desk (pixels (blacks 8)) calls is 329 ∷ 9 ∷ 22 ∷ 256 ∷ 289 ∷ 329 ∷ [])
    ∷ ((left_by the_call both_buffers calls).picture is in_red (0 ∷ 0 ∷ 0 ∷ 0 ∷ 0 ∷ 0 ∷ 3 ∷ 0 ∷ 0 ∷ []))
    ∷ ((left_by the_call both_buffers calls).strip is zeros 3 ++ (0 ∷ 3 ∷ 0 ∷ 0 ∷ []) ++ zeros 1)
    -- after 9 and after 22 the desk holds what it held
    ∷ (held_after 3 ∷ [] is 4 ∷ [])
    -- numbers 1 to 255 are refusals
    ∷ (columns_of (accepted_calls (256 ∷ 0 ∷ 255 ∷ 1 ∷ 447 ∷ 22 ∷ []) calls) is 3 ∷ 4 ∷ 2 ∷ [])
    -- 9 by 2, blocks of 8: what mode 1 of the second block names, past a block of mode 14
    ∷ (lacking 18
    (λ picture.
    retouch_answer 9 2 (table 17 ++ record_of 0 3 0 68 8) (reds 17 ++ in_green (14 ∷ 1 ∷ [])) picture (zeros 18) 5 1 black)
    is 15 ∷ [])
    ∷ []

pub known_retouches : map (λ (l : Line). l.computed) worked ≡ map (λ (l : Line). l.expected) worked
unfolding delta each each3 pixels written in_order block written_bytes predict select predicted residuals gained transform_color inverse_color color_stored color_rebuilt green_stored green_rebuilt per_pixel index_in unpacked lowest digits packed record_at by_kind narrowed width_at tabled tabled_length checked records_refusal size_refusal chain_refusal input_refusal forward backward stored rebuilt takes accepts made named_by named columns made_of takes_item missing spots_of spot_records unmade remade new_strip changes point_answer pair_refusal rebuild_answer rebuild_image store_answer store_strip retouch_answer retouch_picture retouch_strip in_turn answers_to accepted_calls desk_answer desk_holds call_answer call_leaves
known_retouches = refl
