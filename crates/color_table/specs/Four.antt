-- Four values in a row.
use Rattle.std.specs.Prelude.{List, [], ◌∷◌, ℕ, ◌+◌}

-- the four of f from j on
abbrev pub four_of : {P : Type 0} → (ℕ → P) → ℕ → List P
four_of f j = f j ∷ f (j + 1) ∷ f (j + 2) ∷ f (j + 3) ∷ []
