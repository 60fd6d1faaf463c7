-- How many indices a packed pixel can hold.
use Rattle.std.specs.Prelude.{◌≡◌, ℕ, ◌≤◌, ◌⊎◌}

-- n is 1, 2, 4 or 8
pub record Places (n : ℕ) : Type 0 where
  pub some : 1 ≤ n
  pub most : n ≤ 8
  pub only : (n ≡ 1) ⊎ ((n ≡ 2) ⊎ ((n ≡ 4) ⊎ (n ≡ 8)))
