-- Pictures and strips, and the bytes of a buffer whose front holds one.
use Rattle.std.specs.Prelude.{List, ◌∷◌, ℕ, zero, suc, ◌+◌, ◌-◌, ◌*◌, ◌/◌, ◌^◌, eqb, get_or, drop, if◌then◌else◌}
use Rattle.format.specs.declared.Pixel.{Pixel}
use Rattle.format.specs.Pixel.{pixel}

-- the pixel at an index: row by row, so that column x of row y is at y * width + x
abbrev pub Picture : Type 0
Picture = ℕ → Pixel

-- x divided by n, rounded up: DIV_ROUND_UP
abbrev pub ceiling : ℕ → ℕ → ℕ
ceiling x n = (x + n - 1) / n

-- the data pixel of the block that holds column x of row y: blocks of 2 ^ bits columns and rows, row by row
unfoldable pub block : ℕ → ℕ → Picture → ℕ → ℕ → Pixel
block w bits d x y = d (y / 2 ^ bits * ceiling w (2 ^ bits) + x / 2 ^ bits)

-- the item at one index replaced
abbrev pub paint : {P : Type 0} → (ℕ → P) → ℕ → P → ℕ → P
paint f p v q = if eqb q p then v else f q

-- the first n items replaced in order, each by what the rule gives from the items as they are by then
unfoldable pub in_order : {P : Type 0} → ((ℕ → P) → ℕ → P) → ℕ → (ℕ → P) → ℕ → P
in_order rule zero f = f
in_order rule (suc n) f = paint (in_order rule n f) n (rule (in_order rule n f) n)

-- bytes

-- the byte at an index; 0 beyond the end
abbrev pub byte_at : List ℕ → ℕ → ℕ
byte_at xs i = get_or xs i 0

-- the pixels of a buffer: pixel i stands at byte 4 * i
unfoldable pub pixels : List ℕ → Picture
pixels xs i = pixel (byte_at xs (4 * i)) (byte_at xs (4 * i + 1)) (byte_at xs (4 * i + 2)) (byte_at xs (4 * i + 3))

-- the buffer xs with the pixels of f in place of its first n; the bytes beyond are those of xs
unfoldable pub written : ℕ → Picture → List ℕ → List ℕ
written zero f xs = xs
written (suc n) f xs = (f 0).red ∷ (f 0).green ∷ (f 0).blue ∷ (f 0).alpha ∷ written n (λ i. f (suc i)) (drop 4 xs)

-- the same of single bytes
unfoldable pub written_bytes : ℕ → (ℕ → ℕ) → List ℕ → List ℕ
written_bytes zero f xs = xs
written_bytes (suc n) f xs = f 0 ∷ written_bytes n (λ i. f (suc i)) (drop 1 xs)
