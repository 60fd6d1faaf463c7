-- Lists of indices.
use Rattle.std.specs.Prelude.{Bool, false, ◌||◌, List, [], ◌∷◌, ◌++◌, ℕ, zero, suc, ◌+◌, eqb}
use Rattle.format.specs.Choice.{bit}

-- one of the list passes the test t
abbrev pub some : (ℕ → Bool) → List ℕ → Bool
some t [] = false
some t (q ∷ qs) = t q || some t qs

-- r is one of the list
abbrev pub among : ℕ → List ℕ → Bool
among r qs = some (eqb r) qs

-- what h gives of each, one list after another
abbrev pub union : (ℕ → List ℕ) → List ℕ → List ℕ
union h [] = []
union h (q ∷ qs) = h q ++ union h qs

-- how many numbers below n pass the test t
abbrev pub how_many : ℕ → (ℕ → Bool) → ℕ
how_many zero t = 0
how_many (suc n) t = bit (t n) + how_many n t
