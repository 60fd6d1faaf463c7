-- Hints by which the index of a color is found: 4096 slots, then a link for each of 256 entries. A color has one slot.
-- The slot holds the lowest index of the entries that have it, an entry's link the next one; each is 0 where there is
-- none.
use Rattle.std.specs.Prelude.{List, ◌≡◌, ℕ, suc, ◌+◌, ◌*◌, ◌/◌, ◌%◌, ◌<◌, ◌≤◌, length}
use Rattle.format.specs.declared.Pixel.{Pixel}
use Rattle.format.specs.Picture.{Picture, byte_at}
use Rattle.pixel.specs.Word.{number}

-- any function of the color would do
unfoldable pub slot_of : Pixel → ℕ
slot_of v = number v * 2654435761 / 1048576 % 4096

-- what slot s holds, and the link of entry i
abbrev pub in_slot : List ℕ → ℕ → ℕ
in_slot hints s = byte_at hints s

abbrev pub link : List ℕ → ℕ → ℕ
link hints i = byte_at hints (4096 + i)

-- i is an entry from a on by which j is reached: not after j, and in j's slot
pub record Toward (e : Picture) (a i j : ℕ) : Type 0 where
  pub from : a ≤ i
  pub before : i ≤ j
  pub same : slot_of (e i) ≡ slot_of (e j)

-- of `size` entries, those from a on are reached from their slots, one by one upward
pub record Linked (a size : ℕ) (e : Picture) (hints : List ℕ) : Type 0 where
  pub full : length hints ≡ 4352
  pub below : (i : ℕ) → byte_at hints i < size
  pub first : (j : ℕ) → a ≤ j → j < size → Toward e a (in_slot hints (slot_of (e j))) j
  pub next : (i j : ℕ) → a ≤ i → i < j → j < size → slot_of (e i) ≡ slot_of (e j) → Toward e (suc i) (link hints i) j
  pub since : (s : ℕ) → s < 4096 → 0 < in_slot hints s → a ≤ in_slot hints s
  pub up : (i : ℕ) → 0 < link hints i → i < link hints i

abbrev pub Hints : ℕ → Picture → List ℕ → Type 0
Hints size e hints = Linked 0 size e hints
