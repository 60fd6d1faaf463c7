-- Laws of items that are made or missing.
use Rattle.std.specs.Prelude.{Some, None, option_map, if◌then◌else◌}
use mathlib.Core.Bool.{Bool, true, false, ◌&&◌, ◌||◌}
use mathlib.Core.Path.{◌≡◌, refl}
use Prim.Native.Nat.{ℕ}
use Rattle.format.specs.declared.Pixel.{Pixel}
use Rattle.format.specs.Byte.{sub}
use Rattle.format.specs.Pixel.{clear, each}
use Rattle.format.specs.Predictor.{predict}
use Rattle.format.specs.Made.{made}
use Rattle.item.specs.Made.{asked, residual_made}

-- what a caller learns of an answer

pub made-item : (b : Bool) (v u : Pixel) → Some u ≡ made b v → (b ≡ false) × (u ≡ v)
unfolding made
made-item true v u e = cc
made-item false v u e = (refl, cc)

pub made_missing : (b : Bool) (v : Pixel) → None ≡ made b v → b ≡ true
unfolding made
made_missing true v e = refl
made_missing false v e = cc

-- one item

pub mapped_made : (h : Pixel → Pixel) (b : Bool) (v : Pixel) → option_map h (made b v) ≡ made b (h v)
unfolding made
mapped_made h true v = refl
mapped_made h false v = refl

pub asked_made : (a b : Bool) (v : Pixel) → asked a (made b v) ≡ made (a && b) (if a then v else clear)
unfolding asked made
asked_made true b v = refl
asked_made false b v = refl

-- an item and its neighbors: one that is missing is enough
pub residual-made : (mode : ℕ) (a b c d e : Bool) (v l t tr tl : Pixel)
    → residual_made mode (made a v) (made b l) (made c t) (made d tr) (made e tl) ≡ made (a || (b || (c || (d || (e || false))))) (each sub v (predict mode l t tr tl))
unfolding residual_made made
residual-made mode true b c d e v l t tr tl = refl
residual-made mode false true c d e v l t tr tl = refl
residual-made mode false false true d e v l t tr tl = refl
residual-made mode false false false true e v l t tr tl = refl
residual-made mode false false false false true v l t tr tl = refl
residual-made mode false false false false false v l t tr tl = refl
