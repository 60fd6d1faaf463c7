-- What the tables of worked pictures are written with: a line, and the bytes of pixels, records of a chain and data.
use mathlib.Core.List.{List, [], ◌∷◌, ◌++◌}
use Prim.Native.Nat.{ℕ, suc, ◌*◌}
use lib.ListN.{take, drop}
use Rattle.format.specs.Indices.{union}
use Rattle.format.specs.declared.Pixel.{Pixel}
use Rattle.format.specs.Pixel.{pixel, black, clear}
use Rattle.format.specs.Picture.{written, written_bytes}

-- what the definitions compute, and what document 01 says
pub record Line : Type 0 where
  pub computed : List ℕ
  pub expected : List ℕ

infixl 2 ◌is◌
abbrev pub ◌is◌ : List ℕ → List ℕ → Line
xs is ys = record { computed = xs; expected = ys }

-- the bytes of one pixel, and of n
abbrev pub one : Pixel → List ℕ
one v = written 1 (λ i. v) []

abbrev pub copies : ℕ → Pixel → List ℕ
copies n v = written n (λ i. v) []

-- n pixels (0, 0, 0, 255), as many records (0, 0, 0, 0), and as many of what a buffer holds before a call
abbrev pub blacks : ℕ → List ℕ
blacks n = copies n black

abbrev pub zeros : ℕ → List ℕ
zeros n = copies n clear

abbrev pub nines : ℕ → List ℕ
nines n = copies n (pixel 9 9 9 9)

-- n bytes
abbrev pub bytes : ℕ → List ℕ
bytes n = written_bytes n (λ i. 0) []

-- reds, opaque; the same as residuals; the reds 0, 1, 2, ..
abbrev pub in_red : List ℕ → List ℕ
in_red vs = union (λ v. v ∷ 0 ∷ 0 ∷ 255 ∷ []) vs

abbrev pub residues : List ℕ → List ℕ
residues vs = union (λ v. v ∷ 0 ∷ 0 ∷ 0 ∷ []) vs

abbrev pub reds : ℕ → List ℕ
reds n = written n (λ i. pixel i 0 0 255) []

-- byte 1 of a pixel: a mode in a predictor's data, packed indices in a record
abbrev pub in_green : List ℕ → List ℕ
in_green vs = union (λ v. 0 ∷ v ∷ 0 ∷ 255 ∷ []) vs

abbrev pub mode : ℕ → List ℕ
mode m = in_green (m ∷ [])

-- a record of a chain: kind, bits, size, offset and length, each in one byte
abbrev pub record_of : ℕ → ℕ → ℕ → ℕ → ℕ → List ℕ
record_of kind bits size offset bytes =
    kind ∷ bits ∷ size ∷ 0 ∷ offset ∷ 0 ∷ 0 ∷ 0 ∷ bytes ∷ 0 ∷ 0 ∷ 0 ∷ 0 ∷ 0 ∷ 0 ∷ 0 ∷ []

-- its part starts at the data's front
abbrev pub chain_of : ℕ → ℕ → ℕ → ℕ → List ℕ
chain_of kind bits size bytes = record_of kind bits size 0 bytes

-- predictor and color with one block, subtract green, a table of n entries
abbrev pub predictor : List ℕ
predictor = chain_of 0 2 0 4

abbrev pub color : List ℕ
color = chain_of 1 2 0 4

abbrev pub green : List ℕ
green = chain_of 2 0 0 0

abbrev pub table : ℕ → List ℕ
table n = chain_of 3 0 n (4 * n)

-- byte i replaced
abbrev pub set : ℕ → ℕ → List ℕ → List ℕ
set i v xs = take i xs ++ v ∷ drop (suc i) xs
