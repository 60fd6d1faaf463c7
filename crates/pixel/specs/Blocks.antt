-- Blocks as one row meets them.
use Rattle.std.specs.Prelude.{ℕ, ◌*◌, ◌^◌, ◌≤◌, min, List, length}
use Rattle.format.specs.Picture.{ceiling}

-- one row's part of the blocks' data
pub record BlockedRow (w bits : ℕ) (blocks : List ℕ) : Type 0 where
  pub wide : 1 ≤ w
  pub narrow : w ≤ 16384
  pub least : 2 ≤ bits
  pub most : bits ≤ 9
  pub there : 4 * ceiling w (2 ^ bits) ≤ length blocks

-- the first column of block k; past the last block it is the row's end
abbrev pub block_start : ℕ → ℕ → ℕ → ℕ
block_start w bits k = min w (k * 2 ^ bits)
