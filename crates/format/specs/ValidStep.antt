-- A record that passes tests 3 to 7, as facts: its bits, size and length by its kind, its part inside n bytes of data.
-- h is the picture's height.
use Rattle.std.specs.Prelude.{◌≡◌, ℕ, ◌+◌, ◌*◌, ◌≤◌}
use Rattle.format.specs.declared.Step.{Step}
use Rattle.format.specs.Refusals.{block_bytes}

-- predictor and color: a data pixel for each block
pub record ValidBlocks (s : Step) (h : ℕ) : Type 0 where
  pub least : 2 ≤ s.bits
  pub most : s.bits ≤ 9
  pub long : s.length ≡ block_bytes s h

-- color table: a data pixel for each entry
pub record ValidTable (s : Step) : Type 0 where
  pub some : 1 ≤ s.size
  pub most : s.size ≤ 256
  pub long : s.length ≡ 4 * s.size

pub record ValidStep (s : Step) (h n : ℕ) : Type 0 where
  pub known : s.kind ≤ 3
  pub inside : s.offset + s.length ≤ n
  pub blocks : s.kind ≤ 1 → ValidBlocks s h
  pub table : s.kind ≡ 3 → ValidTable s
