-- A byte of the blocks' data as the unsigned factor that the code multiplies by.
use Rattle.std.specs.Prelude.{ℕ, ◌+◌, ◌*◌, ◌/◌, ◌%◌}

-- the byte t, read as signed, modulo 2 ^ 13: 8064 is 2 ^ 13 - 128
abbrev pub factor : ℕ → ℕ
factor t = t % 128 + t / 128 * 8064
