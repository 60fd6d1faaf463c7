-- Rows in their parts of the strip, and acceptance row by row.
use mathlib.Core.Bool.{Bool, true, false}
use mathlib.Core.List.{List, [], ◌∷◌}
use mathlib.Core.Path.{◌≡◌, refl, sym, ap, subst, ◌∙◌}
use Prim.Native.Nat.{ℕ, zero, suc, ◌+◌, ◌-◌, ◌*◌, ◌<◌, ◌≤◌}
use native.Mathlib.Nat.{add-mul, one-mul}
use native.Mathlib.Decide.{dec_lt}
use native.Mathlib.Omega.{arith}
use lib.ListN.{length, take, drop, length-drop}
use Rattle.format.specs.Picture.{Picture, pixels, written}
use Rattle.format.specs.ColorTable.{has_entry, have_entries}
use Rattle.format.proofs.Choice.{every_at, every_all}
use Rattle.format.proofs.Written.{written_self}
use Rattle.pixel.specs.Cells.{pixel_cells, run, given}
use Rattle.pixel.specs.Held.{HoldsRow}
use Rattle.pixel.proofs.Part.{back, part, pixels_part}
use Rattle.pixel.proofs.Held.{held_back}
use Rattle.pixel.proofs.Given.{given_written, front_done}
use Rattle.pixel.proofs.Rows.{row_more}
use Rattle.pixel.proofs.Blocks.{row_there}
use Rattle.store.specs.declared.row.Accepted.{Accepted}
use Rattle.chain.specs.Valid.{width_after}
use Rattle.chain.proofs.Valid.{after_fits}
use Rattle.store.specs.Stage.{Same}
use Rattle.store.specs.Made.{chain_of, height_of, stage, RowIn, RowMade, HoldsMade, made_in}
use Rattle.std.proofs.lemmas.List.Edits.{length-between}
use Rattle.store.proofs.Packed.{row_entries}

-- two buffers that hold the n pixels alone
pub whole_written : (n : ℕ) (f : Picture) (xs ys : List ℕ) → length xs ≡ 4 * n → length ys ≡ 4 * n → written n f xs ≡ written n f ys
unfolding written
whole_written zero f [] [] p q = refl
whole_written zero f [] (y ∷ ys) p q = absurd (omega arith)
whole_written zero f (x ∷ xs) ys p q = absurd (omega arith)
whole_written (suc n) f xs ys p q =
    cc (whole_written n (λ i. f (suc i)) (drop 4 xs) (drop 4 ys) (length-drop 4 xs ∙ omega arith) (length-drop 4 ys ∙ omega arith))

-- row y, of w pixels, from byte `from` of a buffer up to byte `to`
module _ (y w : ℕ) (xs : List ℕ) (from to : ℕ) (start : from ≡ 4 * (y * w)) (end : to ≡ 4 * (y * w) + 4 * w) (room : to ≤ length xs) where
  pub part_length : length (take (to - from) (drop from xs)) ≡ 4 * w
  part_length = length-between xs from to room ∙ omega arith

  -- as it is lent
  pub lent_row : HoldsRow (pixels xs) y w (take (to - from) (drop from xs))
  lent_row x l = rw (end, start) (pixels_part (y * w) w xs (omega arith) x l)

  -- as it came back
  row_in_strip : (g : Picture) (z : List ℕ) → length z ≡ 4 * w → HoldsRow g y w z → back from (to - from) xs z ≡ run pixel_cells (given g) (y * w) w xs
  row_in_strip g z full h = rw (end, start) (held_back g y w z xs z (same ∙ sym (given_written (pixels z) w (part (y * w) w xs) (omega (arith, long)))) h (omega arith))
    where
      long : length (part (y * w) w xs) ≡ 4 * w
      long = rw (end, start) at part_length

      same : z ≡ written w (pixels z) (part (y * w) w xs)
      same = sym (written_self w z (omega arith)) ∙ whole_written w (pixels z) z (part (y * w) w xs) full long

pub stage_narrow : (a : Accepted) → a.width ≤ 16384
stage_narrow a = let v = chain_of a in rw a.wide (after_fits v.chain _ v.valid a.count a.few)

-- row y of the stage after n records, whose number is known
pub row_known : (a : Accepted) (k n w y : ℕ) (row : List ℕ) → w ≡ width_after (chain_of a).chain n → n ≡ k → RowIn a k y row → HoldsRow (stage a n) y w row
row_known a k n w y row e q h = rw (e, q) h

-- the rows of a stage in a strip, where those before y are there

abbrev pub Done : Accepted → ℕ → List ℕ → List ℕ → Type 0
Done a y old strip = strip ≡ run pixel_cells (given (stage a a.count)) 0 (y * a.width) old

module _ (a : Accepted) (y : ℕ) (old strip : List ℕ) (long : length strip ≡ length old) (holds : HoldsMade a old) where
  pub strip_room : y < height_of a → 4 * (y * a.width) + 4 * a.width ≤ length strip
  strip_room l = let r = row_there a.width (height_of a) y l in omega arith

  pub row_done : (from to : ℕ) → from ≡ 4 * (y * a.width) → to ≡ 4 * (y * a.width) + 4 * a.width → (z : List ℕ) → y < height_of a → Done a y old strip → length z ≡ 4 * a.width → RowMade a y z
      → Done a (y + 1) old (back from (to - from) strip z)
  row_done from to start end z l e full h =
      let room = strip_room l in
      row_more (given (stage a a.count)) y a.width old strip _ e (row_in_strip y a.width strip from to start end (omega arith) (stage a a.count) z full h)

  pub all_done : Done a y old strip → y ≡ height_of a → strip ≡ made_in a old
  all_done e q = front_done (stage a a.count) (y * a.width) (height_of a * a.width) old strip e (ap (λ (k : ℕ). k * a.width) q) holds

-- acceptance, row by row

pub held_same : (f : Picture) (y w : ℕ) (row front : List ℕ) → Same w row front → HoldsRow f y w row → HoldsRow f y w front
held_same f y w row front s h x l = s x l ∙ h x l

pub entries_more : (size w y : ℕ) (e f : Picture) (row : List ℕ) → have_entries size e (y * w) f ≡ true → HoldsRow f y w row → have_entries size e w (pixels row) ≡ true → have_entries size e ((y + 1) * w) f ≡ true
entries_more size w y e f row a h t = every_all ((y + 1) * w) (λ p. has_entry size e (f p)) at
  where
    rowwise : (x : ℕ) → x < w → has_entry size e (f (y * w + x)) ≡ true
    rowwise x l = rw (h x l) at (every_at w (λ p. has_entry size e (pixels row p)) x l t)

    at : (q : ℕ) → q < (y + 1) * w → has_entry size e (f q) ≡ true
    at p l = go (dec_lt p (y * w))
      where
        go : Dec (p < y * w) → has_entry size e (f p) ≡ true
        go (yes u) = every_at (y * w) (λ r. has_entry size e (f r)) p u a
        go (no d) =
            let s : (y + 1) * w ≡ y * w + w = add-mul y 1 w ∙ ap (λ (z : ℕ). y * w + z) (one-mul w) in
            let i : y * w + (p - y * w) ≡ p = omega arith in
            subst (λ (r : ℕ). has_entry size e (f r) ≡ true) i (rowwise (p - y * w) (omega arith))

pub entries_not : (size w h y : ℕ) (e f : Picture) (row : List ℕ) → HoldsRow f y w row → have_entries size e w (pixels row) ≡ false → y < h → false ≡ have_entries size e (h * w) f
entries_not size w h y e f row r t l = go (have_entries size e (h * w) f) refl
  where
    go : (a : Bool) → have_entries size e (h * w) f ≡ a → false ≡ a
    go false z = refl
    go true z = sym t ∙ row_entries w h size y e f row z r l
