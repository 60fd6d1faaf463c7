-- Rows of a table replaced one by one, and the columns of every byte.
use mathlib.Core.List.{List, [], ◌∷◌}
use mathlib.Core.Path.{◌≡◌, refl, sym, ap, ◌∙◌}
use Prim.Native.Nat.{ℕ, ◌+◌, ◌*◌, ◌/◌, ◌%◌, ◌^◌, ◌<◌, ◌≤◌}
use native.Mathlib.Nat.{mod-lt}
use native.Mathlib.Decide.{ℕ_discrete, dec_lt}
use native.Mathlib.Omega.{arith}
use lib.Arith.{digits_div, digits_mod}
use lib.ListN.{length, get_or, set, replicate, get_or-replicate, get_or-eq_default}
use lib.Seq.{get_or-set_same, get_or-set_other}
use Rattle.format.specs.declared.Pixel.{Pixel}
use Rattle.format.specs.Pixel.{clear}
use Rattle.format.specs.Picture.{Picture, pixels}
use Rattle.format.specs.ColorTable.{range, index_in}
use Rattle.pixel.specs.Cells.{pixel_cells, run, given}
use Rattle.pixel.specs.Stride.{Places}
use Rattle.pixel.proofs.Blocks.{row_there}
use Rattle.pixel.proofs.Cells.{pixel_lawful, run_at}
use Rattle.pixel.proofs.Places.{by_places}
use Rattle.color_table.specs.Table.{entry_in, column_in, TableOf, ColumnsOf}

-- no entries

pub no_entry : (i : ℕ) → entry_in (replicate 256 (0 ∷ 0 ∷ 0 ∷ 0 ∷ [])) i ≡ clear
unfolding entry_in pixels
no_entry i = go (dec_lt i 256)
  where
    t : List (List ℕ)
    t = replicate 256 (0 ∷ 0 ∷ 0 ∷ 0 ∷ [])

    go : Dec (i < 256) → pixels (get_or t i []) 0 ≡ clear
    go (yes l) = rw (get_or-replicate {A = List ℕ} 256 i (0 ∷ 0 ∷ 0 ∷ 0 ∷ []) [] l) refl
    go (no n) = rw (get_or-eq_default t [] {n = i} (omega arith)) refl

-- one row replaced

module _ (t : List (List ℕ)) (i : ℕ) (r : List ℕ) where
  entry_other : (j : ℕ) → (j ≡ i → ⊥) → entry_in (set t i r) j ≡ entry_in t j
  unfolding entry_in
  entry_other j n = ap (λ (s : List ℕ). pixels s 0) (get_or-set_other t i j r [] n)

  pub entries_more : (f : Picture) (v : Pixel) → ((j : ℕ) → j < i → entry_in t j ≡ f j) → v ≡ pixels r 0 → v ≡ f i → i < length t → (j : ℕ) → j < i + 1 → entry_in (set t i r) j ≡ f j
  unfolding entry_in
  entries_more f v h p e l j k = go (ℕ_discrete j i)
    where
      go : Dec (j ≡ i) → pixels (get_or (set t i r) j []) 0 ≡ f j
      go (yes q) = rw (q, get_or-set_same t i r [] l) (sym p ∙ e)
      go (no n) = entry_other j n ∙ h j (omega arith)

  pub clear_more : ((j : ℕ) → i ≤ j → entry_in t j ≡ clear) → (j : ℕ) → i + 1 ≤ j → entry_in (set t i r) j ≡ clear
  clear_more h j k = entry_other j (λ e. omega arith) ∙ h j (omega arith)

-- the columns of every byte

range_small : (n : ℕ) → Places n → (1 ≤ range n) × (range n ≤ 256)
range_small n h = by_places (λ m. (1 ≤ range m) × (range m ≤ 256)) (omega arith, omega arith) (omega arith, omega arith) (omega arith, omega arith) (omega arith, omega arith) n h

rest_small : (x m n : ℕ) → Places n → m ≡ range n → x % m < 256
rest_small x m n h q = let r = range_small n h in omega (arith, mod-lt x {m = m} (omega arith))

-- pixel i, by the table t
pub column-in : (n : ℕ) (t : List (List ℕ)) (i j : ℕ) (v : Pixel) → v ≡ entry_in t j → j ≡ index_in n (i / n) (i % n) → v ≡ column_in n t i
unfolding column_in
column-in n t i j v p q = p ∙ ap (entry_in t) q

index_small : (n b k : ℕ) → Places n → index_in n b k < 256
unfolding index_in
index_small n b k h = rest_small (b / 2 ^ (8 / n * k)) (range n) n h refl

-- all of them are there
pub columns_whole : (n : ℕ) (t : List (List ℕ)) (i : ℕ) (xs₀ xs : List ℕ) → xs ≡ run pixel_cells (given (column_in n t)) 0 i xs₀ → i ≡ 256 * n → Places n → length xs₀ ≡ 8192
    → (e : Picture) → TableOf e t → ColumnsOf n e xs
unfolding column_in given
columns_whole n t i xs₀ xs r q h room e table = record { at = at }
  where
    at : (b k : ℕ) → b < 256 → k < n → pixels xs (b * n + k) ≡ e (index_in n b k)
    at b k l m =
        let s = row_there n 256 b l in
        ap (λ (zs : List ℕ). pixels zs (b * n + k)) r
        ∙ run_at pixel_cells pixel_lawful (given (column_in n t)) 0 xs₀ i (b * n + k) (omega arith) (omega arith) (omega (arith, h.most))
        ∙ rw (digits_div b m, digits_mod b m) (table.at (index_in n b k) (index_small n b k h))
