-- Laws of the list of colors: no color is listed twice exactly if each is found at its own index.
use mathlib.Core.Bool.{Bool, true, false}
use mathlib.Core.List.{List}
use mathlib.Core.Path.{◌≡◌, refl, sym}
use Prim.Native.Nat.{ℕ, ◌<◌}
use native.Mathlib.Omega.{arith}
use lib.ListN.{length}
use Rattle.std.specs.Prelude.{MatchBool, Some, None, if◌then◌else◌}
use Rattle.std.specs.Option.{unwrap_or}
use borrow.Author.Tests.{ltb-false}
use Rattle.color_table.specs.Found.{found}
use Rattle.format.specs.declared.Pixel.{Pixel}
use Rattle.format.proofs.Choice.{each_below, one_below}
use Rattle.format.proofs.ColorTable.{index_most}
use Rattle.std.specs.List.{range_with_len, HoldsAt, AllWithin}
use Rattle.format.specs.Picture.{Picture, pixels}
use Rattle.format.specs.ColorTable.{index_of, has_entry}
use Rattle.format.specs.Report.{color_count, distinct, color_list}
use Rattle.format.specs.declared.Refusal.TheVariants.{ColorList}
use Rattle.format.specs.Refusals.{number, ◌unless◌}
use Rattle.pixel.specs.declared.entries.Entries.{Entries}
use Rattle.color_table.specs.declared.lookup.Lookup.{Lookup}
use Rattle.report.specs.Listed.{ColorsOf, ListOf, distinct_answer}
use Rattle.format.proofs.Report.{index_own, own_distinct}

-- where a pixel is counted: at its index, or past the last one
pub placed : (m : ℕ) (e : Picture) (v : Pixel) → unwrap_or (found m e v) m ≡ index_of m e v
unfolding found
placed m e v = go (has_entry m e v) refl
  where
    go : (b : Bool) → has_entry m e v ≡ b → unwrap_or (if b then Some (index_of m e v) else None) m ≡ index_of m e v
    go true q = refl
    go false q = omega (arith, index_most m e v, ltb-false (index_of m e v) m q)

module _ (m : ℕ) (e : Picture) where
  abbrev pub Own : ℕ → Type 0
  Own k = index_of m e (e k) ≡ k

  abbrev below : List ℕ
  below = range_with_len 0 m

  -- what `all` finds, over the indices
  pub all_own : (r : Bool) → MatchBool r (AllWithin Own below 0 (length below)) ((i : ℕ) × (i < length below) × HoldsAt (λ k. Own k → ⊥) below i) → r ≡ distinct m e
  all_own true own = sym (own_distinct m e (each_below Own m own))
  all_own false other = go (distinct m e) refl
    where
      go : (b : Bool) → distinct m e ≡ b → false ≡ b
      go false d = refl
      go true d = let s = one_below (λ k. Own k → ⊥) m other in absurd (s.2 (index_own m e d s.0 s.1))

-- a list that test 23 does not refuse, by neither of its parts
pub listed : (colors : List ℕ) (e : Entries) (l : Lookup) → ColorsOf colors e → l.entries ≡ e → 0 ≡ distinct_answer l → ListOf colors l
unfolding color_list
listed colors e l c q d = record { entries = bytes; size = size; list = rw (c.fours, apart) refl }
  where
    bytes : l.entries.bytes.now ≡ colors
    bytes = rw q c.bytes

    size : l.entries.size ≡ color_count colors
    size = rw q c.size

    go : (b : Bool) → 0 ≡ (number ColorList unless b) → b ≡ true
    go true z = refl
    go false z = absurd (omega arith)

    apart : distinct (color_count colors) (pixels colors) ≡ true
    apart = rw (bytes, size) at (go (distinct l.entries.size (pixels l.entries.bytes.now)) d)
