-- What a loop over a buffer asks of the rule that it is given, and takes from it. n is the buffer's length; the loop
-- goes over the cells from a up to b.
use Rattle.std.specs.Borrow.{Bor}
use Rattle.std.specs.Prelude.{List, ◌≡◌, ℕ, ◌-◌, ◌<◌, ◌≤◌, length}
use Rattle.format.specs.declared.Pixel.{Pixel}
use Rattle.format.specs.Picture.{pixels}
use Rattle.pixel.specs.Cells.{Cells, Rule}

-- the rule may be asked of any buffer of n bytes
abbrev pub Asked : (Bor (List ℕ) → ℕ → Type 0) → ℕ → ℕ → ℕ → Type 0
Asked pre n a b = (ys : Bor (List ℕ)) (i : ℕ) → length ys.now ≡ n → a ≤ i → i < b → pre ys i

-- it gives what h gives
abbrev pub Gives : {C P : Type 0} → Cells P → (C → P) → (Bor (List ℕ) → ℕ → C → Type 0) → ℕ → ℕ → ℕ → Rule P → Type 0
Gives {C} c value post n a b h =
    (ys : Bor (List ℕ)) (i : ℕ) (v : C) → length ys.now ≡ n → a ≤ i → i < b → post ys i v → value v ≡ h (c.get ys.now) i

-- a function of the pixel in its place alone: it may be asked of any pixel, and gives what t gives
abbrev pub AskedOf : (Pixel → Type 0) → Type 0
AskedOf pre = (v : Pixel) → pre v

abbrev pub GivesOf : (Pixel → Pixel → Type 0) → (Pixel → Pixel) → Type 0
GivesOf post t = (v u : Pixel) → post v u → u ≡ t v

-- the same of a function of the index alone
abbrev pub AskedAt : (ℕ → Type 0) → ℕ → ℕ → Type 0
AskedAt pre a b = (i : ℕ) → a ≤ i → i < b → pre i

abbrev pub GivesAt : {C P : Type 0} → (C → P) → (ℕ → C → Type 0) → ℕ → ℕ → (ℕ → P) → Type 0
GivesAt {C} value post a b f = (i : ℕ) (v : C) → a ≤ i → i < b → post i v → value v ≡ f i

-- the same of a rule that is given the pixel before as well
abbrev pub AskedLeft : (Bor (List ℕ) → ℕ → Pixel → Type 0) → ℕ → ℕ → ℕ → Type 0
AskedLeft pre n a b =
    (ys : Bor (List ℕ)) (i : ℕ) → length ys.now ≡ n → a ≤ i → i < b → pre ys i (pixels ys.now (i - 1))

abbrev pub GivesLeft : (Bor (List ℕ) → ℕ → Pixel → Pixel → Type 0) → ℕ → ℕ → ℕ → Rule Pixel → Type 0
GivesLeft post n a b h =
    (ys : Bor (List ℕ)) (i : ℕ) (v : Pixel) → length ys.now ≡ n → a ≤ i → i < b → post ys i (pixels ys.now (i - 1)) v
    → v ≡ h (pixels ys.now) i

-- where the cells up to i are still those of xs, it gives what f gives
abbrev pub GivesBack : {C P : Type 0} → Cells P → (C → P) → (Bor (List ℕ) → ℕ → C → Type 0) → List ℕ → ℕ → ℕ → (ℕ → P) → Type 0
GivesBack {C} c value post xs a b f =
    (ys : Bor (List ℕ)) (i : ℕ) (v : C) → length ys.now ≡ length xs → a ≤ i → i < b
    → ((j : ℕ) → j ≤ i → c.get ys.now j ≡ c.get xs j) → post ys i v → value v ≡ f i
