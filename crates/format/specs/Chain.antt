-- Chains (document 01, "Pictures, strips, chains"): the records in a chain's bytes. cs is the chain, w the picture's
-- width.
use Rattle.std.specs.Prelude.{List, ℕ, zero, suc, ◌+◌, ◌*◌, ◌/◌, eqb, length, if◌then◌else◌}
use Rattle.format.specs.declared.Step.{Step}
use Rattle.format.specs.declared.TransformType.{TransformType}
use Rattle.format.specs.declared.TransformType.TheVariants.{Predictor, Color, SubtractGreen, ColorTable}
use Rattle.format.specs.Picture.{byte_at}
use Rattle.format.specs.ColorTable.{packed_width}

-- numbers of two and of four bytes, little-endian
abbrev pub le16 : List ℕ → ℕ → ℕ
le16 xs i = byte_at xs i + 256 * byte_at xs (i + 1)

abbrev pub le32 : List ℕ → ℕ → ℕ
le32 xs i = le16 xs i + 65536 * le16 xs (i + 2)

-- the fields of record k, where the current width is x
unfoldable pub record_at : List ℕ → ℕ → ℕ → Step
record_at cs k x = record {
  kind = byte_at cs (16 * k);
  bits = byte_at cs (16 * k + 1);
  size = le16 cs (16 * k + 2);
  offset = le32 cs (16 * k + 4);
  length = le32 cs (16 * k + 8);
  zero = le32 cs (16 * k + 12);
  width = x;
}

-- the kind of a transform
abbrev pub kind_of : TransformType → ℕ
kind_of Predictor = 0
kind_of Color = 1
kind_of SubtractGreen = 2
kind_of ColorTable = 3

-- a choice by kind: 0 predictor, 1 color, 2 subtract green, 3 color table
unfoldable pub by_kind : {A : Type 0} → ℕ → A → A → A → A → A
by_kind k predictor color green table =
    if eqb k 0 then predictor
    else (if eqb k 1 then color
    else (if eqb k 2 then green
    else table))

-- the current width after a record: kind 3 alone changes it
unfoldable pub narrowed : Step → ℕ
narrowed s = if eqb s.kind 3 then packed_width s.size s.width else s.width

-- the current width before record k, and the record
unfoldable pub width_at : List ℕ → ℕ → ℕ → ℕ
width_at cs w zero = w
width_at cs w (suc k) = narrowed (record_at cs k (width_at cs w k))

abbrev pub step_at : List ℕ → ℕ → ℕ → Step
step_at cs w k = record_at cs k (width_at cs w k)

abbrev pub count : List ℕ → ℕ
count cs = length cs / 16
