-- The color indexing transform (RFC 9649, "Color Indexing Transform"; document 01, module 4). `size` is how many
-- entries the table has, `e` gives them.
use Rattle.std.specs.Prelude.{Bool, ℕ, zero, suc, ◌+◌, ◌-◌, ◌*◌, ◌/◌, ◌%◌, ◌^◌, leb, ltb, if◌then◌else◌}
use Rattle.format.specs.Choice.{every}
use Rattle.format.specs.declared.Pixel.{Pixel}
use Rattle.format.specs.Pixel.{pixel, clear, equal}
use Rattle.format.specs.Picture.{Picture, ceiling}

-- how many indices a packed pixel holds
unfoldable pub per_pixel : ℕ → ℕ
per_pixel size = if leb size 2 then 8 else (if leb size 4 then 4 else (if leb size 16 then 2 else 1))

-- how many bits an index has where a packed pixel holds n, 8 >> width_bits in the RFC's terms; and one more than the
-- largest index
abbrev pub index_bits : ℕ → ℕ
index_bits n = 8 / n

abbrev pub range : ℕ → ℕ
range n = 2 ^ index_bits n

-- the packed columns of w expanded ones
abbrev pub packed_width : ℕ → ℕ → ℕ
packed_width size w = ceiling w (per_pixel size)

-- rebuilding

-- index k of the packed byte b, lowest bits first: b shifted right by k indices, and of that the bits of one
unfoldable pub index_in : ℕ → ℕ → ℕ → ℕ
index_in n b k = b / 2 ^ (index_bits n * k) % 2 ^ index_bits n

-- an index at or past size gives (0, 0, 0, 0)
abbrev pub entry : ℕ → Picture → ℕ → Pixel
entry size e i = if ltb i size then e i else clear

-- column x of row y: its packed pixel is number x / n of the row, and byte 1 of that holds its index at x % n
abbrev pub unpacked_at : ℕ → ℕ → Picture → Picture → ℕ → ℕ → Pixel
unpacked_at w size e g x y =
    let n = per_pixel size in
    entry size e (index_in n (g (y * packed_width size w + x / n)).green (x % n))

unfoldable pub unpacked : ℕ → ℕ → Picture → Picture → Picture
unpacked w size e g q = unpacked_at w size e g (q % w) (q / w)

-- storing

-- the lowest index from i on, among k, whose entry equals v; i + k where there is none
unfoldable pub lowest : Picture → Pixel → ℕ → ℕ → ℕ
lowest e v zero i = i
lowest e v (suc k) i = if equal (e i) v then i else lowest e v k (suc i)

-- the lowest index whose entry equals v; size where there is none
abbrev pub index_of : ℕ → Picture → Pixel → ℕ
index_of size e v = lowest e v size 0

abbrev pub has_entry : ℕ → Picture → Pixel → Bool
has_entry size e v = ltb (index_of size e v) size

-- each of the first m pixels of f has an entry
abbrev pub have_entries : ℕ → Picture → ℕ → Picture → Bool
have_entries size e m f = every m (λ q. has_entry size e (f q))

-- n digits to the base u, lowest first
unfoldable pub digits : ℕ → ℕ → (ℕ → ℕ) → ℕ
digits u zero g = 0
digits u (suc n) g = g 0 + u * digits u n (λ k. g (suc k))

-- each record of a packed row has `per_pixel` positions, and column x has position x; unused positions, past the last
-- column, have the row's last column again (document 02, ii)
abbrev pub column_at : ℕ → ℕ → ℕ
column_at w x = if ltb x w then x else w - 1

-- the index packed at position x of row y
abbrev pub index_at : ℕ → ℕ → Picture → Picture → ℕ → ℕ → ℕ
index_at w size e f y x = index_of size e (f (y * w + column_at w x))

-- record number j of a row that has index i x at position x
abbrev pub packed_at : ℕ → (ℕ → ℕ) → ℕ → Pixel
packed_at size i j = pixel 0 (digits (range (per_pixel size)) (per_pixel size) (λ k. i (j * per_pixel size + k))) 0 255

unfoldable pub packed : ℕ → ℕ → Picture → Picture → Picture
packed w size e f r = packed_at size (index_at w size e f (r / packed_width size w)) (r % packed_width size w)
