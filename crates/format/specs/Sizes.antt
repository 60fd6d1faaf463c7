-- Sizes that document 01 admits, with the data and the buffers that go with them.
use Rattle.std.specs.Prelude.{List, ℕ, ◌*◌, ◌^◌, ◌≤◌, length}
use Rattle.format.specs.Picture.{ceiling}

-- a picture of w columns and h rows
pub record Sized (w h : ℕ) : Type 0 where
  pub wide : 1 ≤ w
  pub narrow : w ≤ 16384
  pub tall : 1 ≤ h
  pub low : h ≤ 16384

-- its pixels are in the buffer
abbrev pub Holds : ℕ → ℕ → List ℕ → Type 0
Holds w h xs = 4 * (h * w) ≤ length xs

-- blocks of 2 ^ bits columns and rows, with their data pixels
pub record Blocked (w h bits : ℕ) (blocks : List ℕ) : Type 0 where
  pub least : 2 ≤ bits
  pub most : bits ≤ 9
  pub there : 4 * (ceiling h (2 ^ bits) * ceiling w (2 ^ bits)) ≤ length blocks
