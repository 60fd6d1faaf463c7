-- Items that are made or missing.
use Rattle.std.specs.Prelude.{Bool, true, false, ℕ, Option, Some, option_and_then, option_map}
use Rattle.format.specs.declared.Pixel.{Pixel}
use Rattle.format.specs.Byte.{sub}
use Rattle.format.specs.Pixel.{clear, each}
use Rattle.format.specs.Predictor.{predict}

-- an item that was asked for; else any
unfoldable pub asked : Bool → Option Pixel → Option Pixel
asked true m = m
asked false m = Some clear

-- the residual of an item by its neighbors
unfoldable pub residual_made : ℕ → Option Pixel → Option Pixel → Option Pixel → Option Pixel → Option Pixel → Option Pixel
residual_made mode v l t tr tl =
    option_and_then (λ v.
    option_and_then (λ l. option_and_then (λ t. option_and_then (λ tr. option_map (λ tl. each sub v (predict mode l t tr tl)) tl) tr) t) l) v
