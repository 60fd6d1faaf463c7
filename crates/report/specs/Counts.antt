-- Counts of a picture's pixels, and what becomes of them and of the counters.
use Rattle.std.specs.Prelude.{Bool, List, ◌≡◌, ℕ, ◌+◌, ◌^◌, ◌<◌, ◌≤◌, eqb, ltb, length, get_or, if◌then◌else◌}
use Rattle.format.specs.Choice.{every}
use Rattle.format.specs.Indices.{how_many}
use Rattle.format.specs.Picture.{Picture}
use Rattle.format.specs.ColorTable.{index_of}
use Rattle.format.specs.declared.Refusal.TheVariants.{FullCounter}
use Rattle.format.specs.Refusals.{number, accepted, ◌unless◌}
use Rattle.format.specs.Report.{counter, written_counters}

-- number k of a list
abbrev pub at : List ℕ → ℕ → ℕ
at xs k = get_or xs k 0

-- 16384 × 16384
abbrev pub most_pixels : ℕ
most_pixels = 268435456

-- how many of the first i pixels of f are found at each of m colors, and at none of them, which is index m
pub record Counted (m : ℕ) (e : Picture) (i : ℕ) (f : Picture) (counts : List ℕ) : Type 0 where
  pub full : length counts ≡ 257
  pub found : (k : ℕ) → k ≤ m → at counts k ≡ how_many i (λ q. eqb (index_of m e (f q)) k)

-- what counter k holds and what was counted for it
abbrev pub sum_at : (ℕ → ℕ) → List ℕ → ℕ → ℕ
sum_at held counts k = held k + at counts k

-- none of the first n sums passes 2 ^ 64 - 1
abbrev pub sums_fit : ℕ → (ℕ → ℕ) → List ℕ → Bool
sums_fit n held counts = every n (λ k. ltb (sum_at held counts k) (2 ^ 64))

-- the answer where these are added
abbrev pub sums_answer : ℕ → (ℕ → ℕ) → List ℕ → ℕ
sums_answer n held counts = number FullCounter unless sums_fit n held counts

-- the first n of these, which fit
abbrev pub Sums : ℕ → (ℕ → ℕ) → List ℕ → List ℕ → Type 0
Sums n held counts sums = (k : ℕ) → k < n → (at sums k ≡ sum_at held counts k) × (sum_at held counts k < 2 ^ 64)

-- the counters that are left where counts are added to the first n of them, by the answer
abbrev pub counters_left : ℕ → List ℕ → List ℕ → ℕ → List ℕ
counters_left n counts counters answer = if accepted answer then written_counters n (sum_at (counter counters) counts) counters else counters
