-- Test 23 in its two parts, the list's length and its colors, and what the first leaves to show.
use Rattle.std.specs.Prelude.{true, List, ◌≡◌, ℕ, ◌≤◌}
use Rattle.format.specs.declared.Refusal.TheVariants.{ColorList}
use Rattle.format.specs.Picture.{pixels}
use Rattle.format.specs.Refusals.{number, ◌unless◌}
use Rattle.format.specs.Report.{color_count, distinct, in_fours, color_list}
use Rattle.pixel.specs.declared.entries.Entries.{Entries}
use Rattle.color_table.specs.declared.lookup.Lookup.{Lookup}

abbrev pub length_answer : List ℕ → ℕ
length_answer colors = number ColorList unless in_fours colors

abbrev pub distinct_answer : Lookup → ℕ
distinct_answer l = number ColorList unless distinct l.entries.size (pixels l.entries.bytes.now)

-- the colors of a list of such a length
pub record ColorsOf (colors : List ℕ) (e : Entries) : Type 0 where
  pub bytes : e.bytes.now ≡ colors
  pub size : e.size ≡ color_count colors
  pub some : 1 ≤ e.size
  pub fours : in_fours colors ≡ true

-- a list that neither refuses
pub record ListOf (colors : List ℕ) (l : Lookup) : Type 0 where
  pub entries : l.entries.bytes.now ≡ colors
  pub size : l.entries.size ≡ color_count colors
  pub list : color_list colors ≡ true
