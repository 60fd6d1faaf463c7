-- What is counted of a picture.
use Rattle.std.specs.Prelude.{◌≡◌, ℕ, ◌+◌, ◌/◌, ◌%◌, ◌<◌, ◌≤◌, length}
use Rattle.format.specs.Picture.{pixels}
use Rattle.report.specs.Counts.{Counted}
use Rattle.report.specs.declared.count.Counts.{Counts}
use Rattle.report.specs.declared.count.Counting.{Counting}

module _ (c : Counting) where
  -- how many pixels
  abbrev pub count_of : ℕ
  count_of = length c.picture.now / 4

  -- the first i pixels are
  pub record CountedIn (i : ℕ) (counts : Counts) : Type 0 where
    pub size : counts.size ≡ c.list.now.entries.size + 1
    pub numbers : Counted c.list.now.entries.size (pixels c.list.now.entries.bytes.now) i (pixels c.picture.now) counts.numbers

  -- pixel i starts a group of sixteen, or no pixel is left
  pub record Start (i : ℕ) : Type 0 where
    pub inside : i ≤ count_of
    pub group : i < count_of → i % 16 ≡ 0
