-- Color tables as arrays of rows of bytes, and the columns that are made of them.
use Rattle.std.specs.Prelude.{List, [], ◌≡◌, ℕ, ◌+◌, ◌*◌, ◌/◌, ◌%◌, ◌<◌, get_or}
use Rattle.format.specs.Picture.{Picture, pixels}
use Rattle.format.specs.ColorTable.{index_in}

-- entry i of a table: row i, its first four bytes
unfoldable pub entry_in : List (List ℕ) → Picture
entry_in t i = pixels (get_or t i []) 0

-- the table t has the entries of e
pub record TableOf (e : Picture) (t : List (List ℕ)) : Type 0 where
  pub at : (i : ℕ) → i < 256 → entry_in t i ≡ e i

-- pixel i of the columns of t, where a byte holds n indices: the entry of index i % n of the byte i / n
unfoldable pub column_in : ℕ → List (List ℕ) → Picture
column_in n t i = entry_in t (index_in n (i / n) (i % n))

-- from pixel b * n on, the entries of e at the n indices of the byte b, lowest first
pub record ColumnsOf (n : ℕ) (e : Picture) (c : List ℕ) : Type 0 where
  pub at : (b k : ℕ) → b < 256 → k < n → pixels c (b * n + k) ≡ e (index_in n b k)
