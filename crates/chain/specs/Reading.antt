-- What reading a chain gives. w and h are the picture's width and height, cs the chain, ds the data.
use Rattle.std.specs.Prelude.{List, ◌≡◌, ℕ, ◌<◌, get_or}
use Rattle.format.specs.declared.Step.{Step}
use Rattle.format.specs.Chain.{step_at, width_at, count as record_count}
use Rattle.chain.specs.declared.Chain.{Chain}
use Rattle.chain.specs.declared.record.ValidChain.{ValidChain}
use Rattle.chain.specs.Valid.{no_step, HoldsPicture, HoldsStrip}

-- the first k values of an array are the chain's records
pub record StepsTo (k w : ℕ) (cs : List ℕ) (steps : List Step) : Type 0 where
  pub at : (j : ℕ) → j < k → get_or steps j no_step ≡ step_at cs w j

-- c is the chain as plain values
pub record ChainOf (w h : ℕ) (cs : List ℕ) (c : Chain) : Type 0 where
  pub count : c.count ≡ record_count cs
  pub steps : StepsTo (record_count cs) w cs c.steps
  pub width : c.width.0 ≡ w
  pub height : c.height ≡ h
  pub strip : c.strip.0 ≡ width_at cs w (record_count cs)

-- v is the chain with the data: what reading gives where there is none of refusals 1 to 7
pub record Read (w h : ℕ) (cs ds : List ℕ) (v : ValidChain) : Type 0 where
  pub of : ChainOf w h cs v.chain
  pub on : v.«data».now ≡ ds

-- the same with room in both buffers: where there is none of refusals 1 to 8
pub record Opened (w h : ℕ) (cs ds picture strip : List ℕ) (v : ValidChain) : Type 0 where
  pub of : ChainOf w h cs v.chain
  pub on : v.«data».now ≡ ds
  pub held : HoldsPicture v.chain picture
  pub room : HoldsStrip v.chain strip
