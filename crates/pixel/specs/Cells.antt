-- A buffer as numbered cells, each a byte or a pixel, and cells replaced in order: what a loop over a buffer does.
use Rattle.std.specs.Prelude.{◌≡◌, ℕ, zero, suc, ◌+◌, ◌*◌, ◌≤◌, List, length, slice_set}
use Rattle.format.specs.declared.Pixel.{Pixel}
use Rattle.format.specs.Picture.{byte_at, pixels}

-- how cell i is read and replaced, and how many bytes it has
pub record Cells (P : Type 0) : Type 0 where
  pub get : List ℕ → ℕ → P
  pub put : List ℕ → ℕ → P → List ℕ
  pub size : ℕ

-- what replacing a cell does to the others, and to itself where it is inside
pub record Lawful {P : Type 0} (c : Cells P) : Type 0 where
  pub length_put : (xs : List ℕ) (i : ℕ) (v : P) → length (c.put xs i v) ≡ length xs
  pub get_other : (xs : List ℕ) (i j : ℕ) (v : P) → (j ≡ i → ⊥) → c.get (c.put xs i v) j ≡ c.get xs j
  pub get_same : (xs : List ℕ) (i : ℕ) (v : P) → c.size * i + c.size ≤ length xs → c.get (c.put xs i v) i ≡ v
  pub put_comm : (xs : List ℕ) (i j : ℕ) (u v : P) → (i ≡ j → ⊥) → c.put (c.put xs i u) j v ≡ c.put (c.put xs j v) i u

abbrev pub byte_cells : Cells ℕ
byte_cells = record { get = byte_at; put = slice_set; size = 1 }

-- pixel i replaced
unfoldable pub put_pixel : List ℕ → ℕ → Pixel → List ℕ
put_pixel xs i v =
    slice_set (slice_set (slice_set (slice_set xs (4 * i) v.red) (4 * i + 1) v.green) (4 * i + 2) v.blue) (4 * i + 3) v.alpha

abbrev pub pixel_cells : Cells Pixel
pixel_cells = record { get = pixels; put = put_pixel; size = 4 }

-- a rule gives the new cell at an index from the cells of a buffer
abbrev pub Rule : Type 0 → Type 0
Rule P = (ℕ → P) → ℕ → P

-- n cells from index a replaced front to back, each by what the rule gives from the buffer as it is by then
unfoldable pub run : {P : Type 0} → Cells P → Rule P → ℕ → ℕ → List ℕ → List ℕ
run c h a zero xs = xs
run c h a (suc n) xs = c.put (run c h a n xs) (a + n) (h (c.get (run c h a n xs)) (a + n))

-- the rule that gives each cell by its index alone
unfoldable pub given : {P : Type 0} → (ℕ → P) → Rule P
given f p i = f i

-- the rule that makes each cell of the one in its place
unfoldable pub of_its_own : {P : Type 0} → (P → P) → Rule P
of_its_own t p i = t (p i)
