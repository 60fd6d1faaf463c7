-- Runs of a pixel, and their records.
use Rattle.std.specs.Prelude.{List, ◌≡◌, ℕ, ◌-◌, ◌*◌, ◌/◌, ◌<◌, ◌≤◌}
use Rattle.format.specs.declared.Pixel.{Pixel}
use Rattle.format.specs.Pixel.{pixel}
use Rattle.format.specs.Picture.{Picture, pixels}
use Rattle.format.specs.ColorTable.{range, index_of, digits}
use Rattle.pixel.specs.Cells.{pixel_cells, run, given}
use Rattle.color_table.specs.declared.each.Packing.{Packing}
use Rattle.color_table.specs.declared.runs.Last.{Last}

-- the record of n pixels v
unfoldable pub uniform : ℕ → ℕ → ℕ → Picture → Pixel → Pixel
uniform u n size e v = pixel 0 (digits u n (λ k. index_of size e v)) 0 255

-- the last pixel has its record
abbrev pub LastOf : {n : ℕ} → Packing n → Last → Type 0
LastOf {n} p last = last.packed ≡ uniform (range n) n p.lookup.now.entries.size (pixels p.lookup.now.entries.bytes.now) last.word

-- v at every index
unfoldable pub plain : Pixel → Picture
plain v i = v

-- the groups of sixteen pixels from that of the last pixel up to r are this pixel each, and have its record
pub record Filled (n : ℕ) (last : Last) (r : ℕ) (f : Picture) (xs ys : List ℕ) : Type 0 where
  pub all : (q : ℕ) → 16 * last.groups ≤ q → q < 16 * r → f q ≡ last.word
  pub wrote : ys ≡ run pixel_cells (given (plain last.packed)) (last.groups * (16 / n)) (r * (16 / n) - last.groups * (16 / n)) xs
