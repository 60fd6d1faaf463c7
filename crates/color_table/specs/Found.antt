-- What a look-up finds.
use Rattle.std.specs.Prelude.{ℕ, Option, Some, None, if◌then◌else◌}
use Rattle.format.specs.declared.Pixel.{Pixel}
use Rattle.format.specs.Picture.{Picture}
use Rattle.format.specs.ColorTable.{index_of, has_entry}

-- the lowest index whose entry equals v, where there is one
unfoldable pub found : ℕ → Picture → Pixel → Option ℕ
found size e v = if has_entry size e v then Some (index_of size e v) else None
