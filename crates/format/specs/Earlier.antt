-- Strips stored earlier (document 02, ii): what storing returned and left by document 01's rule, that unused high bits
-- of a row's last record are zero. No call makes them; promises are about them.
use Rattle.std.specs.Prelude.{Bool, true, ◌&&◌, List, ℕ, zero, suc, ◌+◌, ◌*◌, ◌/◌, ◌%◌, eqb, ltb, if◌then◌else◌}
use Rattle.format.specs.declared.Refusal.TheVariants.{NoEntry}
use Rattle.format.specs.declared.Step.{Step}
use Rattle.format.specs.Picture.{Picture, pixels, written}
use Rattle.format.specs.ColorTable.{packed_width, index_of, packed_at}
use Rattle.format.specs.Chain.{count, step_at}
use Rattle.format.specs.Refusals.{number, accepted, ◌before◌, ◌unless◌}
use Rattle.format.specs.Stages.{part_of, forward, takes}
use Rattle.format.specs.Calls.{records, pair_refusal}

-- the index packed at position x of row y; an unused position has 0
abbrev pub earlier_index_at : ℕ → ℕ → Picture → Picture → ℕ → ℕ → ℕ
earlier_index_at w size e f y x = if ltb x w then index_of size e (f (y * w + x)) else 0

unfoldable pub earlier_packed : ℕ → ℕ → Picture → Picture → Picture
earlier_packed w size e f r = packed_at size (earlier_index_at w size e f (r / packed_width size w)) (r % packed_width size w)

-- a table packs by it; document 02 (ii) leaves the other kinds alone
unfoldable pub earlier_forward : Step → List ℕ → Picture → Picture
earlier_forward s ds f =
    if eqb s.kind 3 then earlier_packed s.width s.size (part_of s ds) f else forward s ds f

-- the records of a chain, as `stored` and `accepts`
module _ (steps : ℕ → Step) where
  unfoldable pub earlier_stored : List ℕ → ℕ → Picture → Picture
  earlier_stored ds zero f = f
  earlier_stored ds (suc k) f = earlier_forward (steps k) ds (earlier_stored ds k f)

  unfoldable pub earlier_accepts : ℕ → List ℕ → ℕ → Picture → Bool
  earlier_accepts h ds zero f = true
  earlier_accepts h ds (suc k) f = earlier_accepts h ds k f && takes (steps k) h ds (earlier_stored ds k f)

-- the call, as `store_answer` and `store_strip`
module _ (w h : ℕ) (cs ds picture strip : List ℕ) where
  unfoldable pub earlier_answer : ℕ
  earlier_answer =
      pair_refusal w h cs ds picture strip
      before (number NoEntry unless earlier_accepts (step_at cs w) h ds (count cs) (pixels picture))

  unfoldable pub earlier_strip : List ℕ
  earlier_strip =
      if accepted earlier_answer
      then written (records w h cs) (earlier_stored (step_at cs w) ds (count cs) (pixels picture)) strip
      else strip
