-- What storing a picture answers, and the strip that it leaves. s is what it has at hand.
use Rattle.std.specs.Prelude.{Result, Ok, Err, Bool, true, List, ◌≡◌, ℕ, if◌then◌else◌}
use Rattle.format.specs.declared.Refusal.{Refusal}
use Rattle.format.specs.declared.Refusal.TheVariants.{NoEntry}
use Rattle.format.specs.Picture.{pixels, written}
use Rattle.chain.specs.Valid.{accepts_by, stored_by, records_in}
use Rattle.store.specs.declared.storing.Storing.{Storing}

-- whether the first m records accept the picture, and whether all do
abbrev pub accepting : Storing → ℕ → Bool
accepting s m = accepts_by s.opened.chain s.opened.«data».now m (pixels s.picture.now)

abbrev pub AcceptsIn : Storing → ℕ → Type 0
AcceptsIn s m = accepting s m ≡ true

abbrev pub accepted : Storing → Bool
accepted s = accepting s s.opened.chain.count

-- the strip once the picture is stored
abbrev pub strip_of : Storing → List ℕ → List ℕ
strip_of s strip =
    let c = s.opened.chain in
    written (records_in c) (stored_by c s.opened.«data».now c.count (pixels s.picture.now)) strip

-- the picture stored where it is accepted, else 21 and the strip as it was
pub record Stored (s : Storing) (strip : List ℕ) (r : Result (Unit {0}) Refusal) (strip' : List ℕ) : Type 0 where
  pub answer : r ≡ (if accepted s then Ok tt else Err NoEntry)
  pub bytes : strip' ≡ (if accepted s then strip_of s strip else strip)
