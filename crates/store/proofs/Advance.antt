-- A row through one record, kind by kind.
use mathlib.Core.List.{List}
use mathlib.Core.Path.{◌≡◌, ◌∙◌}
use Prim.Native.Nat.{ℕ, ◌-◌, ◌≤◌}
use native.Mathlib.Omega.{arith}
use Rattle.format.specs.declared.Step.{Step}
use Rattle.format.specs.Picture.{Picture, pixels}
use Rattle.format.specs.Predictor.{residuals}
use Rattle.format.specs.Color.{color_stored}
use Rattle.format.specs.SubtractGreen.{green_stored}
use Rattle.format.specs.Chain.{narrowed}
use Rattle.format.specs.Stages.{part_of, forward}
use Rattle.format.proofs.ByKind.{forward_0, forward_1, forward_2, forward_3, narrowed_table, narrowed_other}
use Rattle.pixel.specs.Held.{HoldsRow}
use Rattle.chain.specs.declared.record.ValidChain.{ValidChain}
use Rattle.store.specs.Stage.{step_of, Same, PackedBy, Advanced}
use Rattle.store.proofs.Packed.{packed_in}

module _ (v : ValidChain) (k y : ℕ) where
  abbrev s : Step
  s = step_of v k

  abbrev ds : List ℕ
  ds = v.«data».now

  -- by a table
  pub table_made : (f : Picture) (row row' : List ℕ) → s.kind ≡ 3 → PackedBy s.size (part_of s ds) s.width row row' → HoldsRow f y s.width row → HoldsRow (forward s ds f) y (narrowed s) row'
  table_made f row row' k p h =
      rw (forward_3 s ds f k, narrowed_table s k) (λ x l. p x l ∙ packed_in s.width s.size y (part_of s ds) (pixels row) f x l h)

  module _ (row rows row' rows' : List ℕ) where
    -- the row that a record makes, under its name by kind
    made_as : (f g : Picture) → forward s ds f ≡ g → (s.kind ≡ 3 → ⊥) → HoldsRow g y s.width row' → HoldsRow (forward s ds f) y (narrowed s) row'
    made_as f g e n h = rw (e, narrowed_other s n) h

    pub advanced_0 : s.kind ≡ 0
        → ((f : Picture) → HoldsRow f y s.width row → (1 ≤ y → HoldsRow f (y - 1) s.width rows) → HoldsRow (residuals s.width s.bits (part_of s ds) f) y s.width row')
        → Same s.width row rows' → Advanced v k y row rows row' rows'
    advanced_0 k p q = record {
      made = λ f h a. made_as f (residuals s.width s.bits (part_of s ds) f) (forward_0 s ds f k) (λ e. omega arith) (p f h (a k));
      left = λ f h e x l. q x l ∙ h x l;
      kept = λ n. absurd (n k);
    }

    -- the others leave the first of the rows
    module _ (kept : Same 16384 rows rows') where
      pub advanced_1 : s.kind ≡ 1 → ((f : Picture) → HoldsRow f y s.width row → HoldsRow (color_stored s.width s.bits (part_of s ds) f) y s.width row') → Advanced v k y row rows row' rows'
      advanced_1 k p = record {
        made = λ f h a. made_as f (color_stored s.width s.bits (part_of s ds) f) (forward_1 s ds f k) (λ e. omega arith) (p f h);
        left = λ f h e. absurd (omega arith);
        kept = λ n. kept;
      }

      pub advanced_2 : s.kind ≡ 2 → ((f : Picture) (z : ℕ) → HoldsRow f z s.width row → HoldsRow (green_stored f) z s.width row') → Advanced v k y row rows row' rows'
      advanced_2 k p = record {
        made = λ f h a. made_as f (green_stored f) (forward_2 s ds f k) (λ e. omega arith) (p f y h);
        left = λ f h e. absurd (omega arith);
        kept = λ n. kept;
      }

      pub advanced_3 : s.kind ≡ 3 → PackedBy s.size (part_of s ds) s.width row row' → Advanced v k y row rows row' rows'
      advanced_3 k p = record {
        made = λ f h a. table_made f row row' k p h;
        left = λ f h e. absurd (omega arith);
        kept = λ n. kept;
      }
