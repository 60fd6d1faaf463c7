-- What tests give.
use Rattle.std.specs.Prelude.{Bool, true, ◌&&◌, ℕ, zero, suc, if◌then◌else◌}

-- 1 for true, 0 for false
abbrev pub bit : Bool → ℕ
bit b = if b then 1 else 0

-- every number below n passes the test t
abbrev pub every : ℕ → (ℕ → Bool) → Bool
every zero t = true
every (suc n) t = t n && every n t
