-- The numbers of the refusals, and those of sizes and chains (document 01, "What a call returns"), each under its
-- condition and in its order.
-- cs is the chain, w and h the picture's width and height, ds the data.
use Rattle.std.specs.Prelude.{Result, Ok, Err, Bool, not, ◌&&◌, ◌||◌, List, ◌≡◌, ℕ, zero, suc, ◌+◌, ◌*◌, ◌%◌, ◌^◌, eqb, leb, ltb, length, if◌then◌else◌}
use Rattle.format.specs.Choice.{every}
use Rattle.format.specs.declared.Step.{Step}
use Rattle.format.specs.declared.Refusal.{Refusal}
use Rattle.format.specs.declared.Refusal.TheVariants.{Size, ChainLength, UnknownKind, KindAgain, NotTabled, WrongLength, BeyondData, ShortBuffer, Outside, MapLength, NoEntry, NoRecord, ColorList, FullCounter}
use Rattle.format.specs.Picture.{byte_at, ceiling}
use Rattle.format.specs.Chain.{by_kind, step_at, count}

-- the papers' number of a refusal
abbrev pub number : Refusal → ℕ
number Size = 1
number ChainLength = 2
number UnknownKind = 3
number KindAgain = 4
number NotTabled = 5
number WrongLength = 6
number BeyondData = 7
number ShortBuffer = 8
number Outside = 9
number MapLength = 10
number NoEntry = 21
number NoRecord = 22
number ColorList = 23
number FullCounter = 24

-- what a call that gives nothing else returns; 0 is no refusal
abbrev pub returned : {A : Type 0} → Result A Refusal → ℕ
returned (Ok v) = 0
returned (Err r) = number r

-- the kind of record k occurs before it
abbrev pub used_before : List ℕ → ℕ → Bool
used_before cs k = not (every k (λ j. not (eqb (byte_at cs (16 * j)) (byte_at cs (16 * k)))))

-- bits, size, offset and the zero bytes are as the table of kinds has them
abbrev pub blocks_tabled : Step → Bool
blocks_tabled s = leb 2 s.bits && (leb s.bits 9 && eqb s.size 0)

abbrev pub green_tabled : Step → Bool
green_tabled s = eqb s.bits 0 && (eqb s.size 0 && eqb s.offset 0)

abbrev pub table_tabled : Step → Bool
table_tabled s = eqb s.bits 0 && (leb 1 s.size && leb s.size 256)

unfoldable pub tabled : Step → Bool
tabled s = eqb s.zero 0 && by_kind s.kind (blocks_tabled s) (blocks_tabled s) (green_tabled s) (table_tabled s)

-- the length that the table of kinds has: four bytes for each block, or for each entry
abbrev pub block_bytes : Step → ℕ → ℕ
block_bytes s h = 4 * (ceiling h (2 ^ s.bits) * ceiling s.width (2 ^ s.bits))

unfoldable pub tabled_length : Step → ℕ → ℕ
tabled_length s h = by_kind s.kind (block_bytes s h) (block_bytes s h) 0 (4 * s.size)

-- tests 3 to 7 in turn
unfoldable pub checked : Bool → ℕ → List ℕ → Step → Result Step Refusal
checked again h ds s =
    if ltb 3 s.kind then Err UnknownKind
    else (if again then Err KindAgain
    else (if not (tabled s) then Err NotTabled
    else (if not (eqb s.length (tabled_length s h)) then Err WrongLength
    else (if ltb (length ds) (s.offset + s.length) then Err BeyondData
    else Ok s))))

-- a refusal where its condition does not hold; 0 is none
infix 3 ◌unless◌
abbrev pub ◌unless◌ : ℕ → Bool → ℕ
n unless b = if b then 0 else n

-- the first of two refusals
infixr 2 ◌before◌
abbrev pub ◌before◌ : ℕ → ℕ → ℕ
a before b = if eqb a 0 then b else a

-- a number that is no refusal: refusals are 1 to 255
abbrev pub accepted : ℕ → Bool
accepted n = eqb n 0 || leb 256 n

-- the refusal of the first k records
unfoldable pub records_refusal : List ℕ → ℕ → ℕ → List ℕ → ℕ → ℕ
records_refusal cs w h ds zero = 0
records_refusal cs w h ds (suc k) =
    records_refusal cs w h ds k before returned (checked (used_before cs k) h ds (step_at cs w k))

abbrev pub in_range : ℕ → Bool
in_range x = leb 1 x && leb x 16384

abbrev pub whole_records : List ℕ → Bool
whole_records cs = eqb (length cs % 16) 0 && leb (length cs) 64

-- refusal 1
unfoldable pub size_refusal : ℕ → ℕ → ℕ
size_refusal w h = number Size unless (in_range w && in_range h)

-- refusals 2 to 7
unfoldable pub chain_refusal : ℕ → ℕ → List ℕ → List ℕ → ℕ
chain_refusal w h cs ds = (number ChainLength unless whole_records cs) before records_refusal cs w h ds (count cs)

-- a chain is valid, for its width, height and data, if none of them applies
abbrev pub ValidChain : ℕ → ℕ → List ℕ → List ℕ → Type 0
ValidChain w h cs ds = chain_refusal w h cs ds ≡ 0

-- refusals 1 to 7
unfoldable pub input_refusal : ℕ → ℕ → List ℕ → List ℕ → ℕ
input_refusal w h cs ds = size_refusal w h before chain_refusal w h cs ds
