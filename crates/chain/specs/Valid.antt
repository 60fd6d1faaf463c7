-- A valid chain as one value, c, with what storing by it makes and asks. ds is the data.
use Rattle.std.specs.Prelude.{Bool, List, ◌≡◌, ℕ, zero, suc, ◌*◌, ◌<◌, ◌≤◌, length, get_or}
use Rattle.format.specs.declared.Step.{Step}
use Rattle.format.specs.Picture.{Picture}
use Rattle.format.specs.Sizes.{Sized, Holds}
use Rattle.format.specs.Chain.{narrowed}
use Rattle.format.specs.ValidStep.{ValidStep}
use Rattle.format.specs.Stages.{stored, accepts}
use Rattle.chain.specs.declared.Chain.{Chain}

-- what stands past an array's end
abbrev pub no_step : Step
no_step = record { kind = 0; bits = 0; size = 0; offset = 0; length = 0; zero = 0; width = 0 }

-- the records in an array, and those of a chain, by their numbers
abbrev pub steps_in : List Step → ℕ → Step
steps_in steps k = get_or steps k no_step

abbrev pub steps_of : Chain → ℕ → Step
steps_of c = steps_in c.steps

-- the current width after the first k records
abbrev pub width_after : Chain → ℕ → ℕ
width_after c zero = c.width.0
width_after c (suc k) = narrowed (steps_of c k)

-- how many pixels the picture has, and how many records the strip; room for them in a buffer
abbrev pub pixels_in : Chain → ℕ
pixels_in c = c.height * c.width.0

abbrev pub records_in : Chain → ℕ
records_in c = c.height * c.strip.0

abbrev pub HoldsPicture : Chain → List ℕ → Type 0
HoldsPicture c xs = Holds c.width.0 c.height xs

abbrev pub HoldsStrip : Chain → List ℕ → Type 0
HoldsStrip c xs = Holds c.strip.0 c.height xs

-- storing by the first k records: what they make of a picture, and whether they accept it
abbrev pub stored_by : Chain → List ℕ → ℕ → Picture → Picture
stored_by c ds k f = stored (steps_of c) ds k f

abbrev pub accepts_by : Chain → List ℕ → ℕ → Picture → Bool
accepts_by c ds k f = accepts (steps_of c) c.height ds k f

-- c is valid for the data, with its sizes
pub record Valid (c : Chain) (ds : List ℕ) : Type 0 where
  pub sized : Sized c.width.0 c.height
  pub few : c.count ≤ 4
  pub step : (k : ℕ) → k < c.count → ValidStep (steps_of c k) c.height (length ds)
  pub width : (k : ℕ) → k < c.count → (steps_of c k).width ≡ width_after c k
  pub once : (j k : ℕ) → j < k → k < c.count → (steps_of c j).kind ≡ (steps_of c k).kind → ⊥
  pub strip : c.strip.0 ≡ width_after c c.count
