-- The rows of one record: a row more from the top or from the bottom, and the record undone once all rows are rebuilt.
use mathlib.Core.List.{List}
use mathlib.Core.Path.{◌≡◌, sym, ap, ◌∙◌}
use Prim.Native.Nat.{ℕ, suc, ◌+◌, ◌-◌, ◌*◌, ◌≤◌}
use native.Mathlib.Nat.{zero-mul, add-mul, one-mul}
use native.Mathlib.Omega.{arith}
use Rattle.format.specs.declared.Pixel.{Pixel}
use Rattle.format.specs.Picture.{Picture, pixels}
use Rattle.format.specs.Predictor.{gained}
use Rattle.format.specs.Color.{inverse_color, color_rebuilt}
use Rattle.format.specs.SubtractGreen.{add_green, green_rebuilt}
use Rattle.format.specs.ColorTable.{unpacked}
use Rattle.format.specs.Stages.{part_of}
use Rattle.format.proofs.ByKind.{kinds, by_kind_0, by_kind_1, by_kind_2, by_kind_3, backward_0, backward_1, backward_2, backward_3}
use Rattle.pixel.specs.Cells.{Rule, pixel_cells, run, given}
use Rattle.pixel.proofs.Cells.{run_next, run_none}
use Rattle.pixel.proofs.Front.{pixels_run}
use Rattle.pixel.proofs.Given.{given_written}
use Rattle.color.specs.Row.{pointwise, everywhere, in_picture}
use Rattle.color.proofs.Pointwise.{pointwise_written}
use Rattle.color_table.proofs.Rows.{rows_turn}
use Rattle.chain.specs.declared.record.Record.{Record}
use Rattle.rebuild.specs.Rows.{HasRoom, row_rule, row_rebuilt, rows_rebuilt, undone}

-- a rule under its two names
pub as_rule : (r h : Rule Pixel) (a n : ℕ) (xs ys : List ℕ) → r ≡ h → ys ≡ run pixel_cells h a n xs → ys ≡ run pixel_cells r a n xs
as_rule r h a n xs ys e q = q ∙ ap (λ (z : Rule Pixel). run pixel_cells z a n xs) (sym e)

module _ (r : Record) where
  abbrev w : ℕ
  w = r.step.width

  abbrev d : Picture
  d = part_of r.step r.«data».now

  -- the rule of each kind
  pub rule_0 : (f : Picture) → r.step.kind ≡ 0 → row_rule r f ≡ gained w r.step.bits d
  unfolding row_rule
  rule_0 f e = by_kind_0 _ _ _ _ r.step.kind e

  pub rule_1 : (f : Picture) → r.step.kind ≡ 1 → row_rule r f ≡ pointwise (in_picture inverse_color w r.step.bits d)
  unfolding row_rule
  rule_1 f e = by_kind_1 _ _ _ _ r.step.kind e

  pub rule_2 : (f : Picture) → r.step.kind ≡ 2 → row_rule r f ≡ pointwise (everywhere add_green)
  unfolding row_rule
  rule_2 f e = by_kind_2 _ _ _ _ r.step.kind e

  pub rule_3 : (f : Picture) → r.step.kind ≡ 3 → row_rule r f ≡ given (unpacked w r.step.size d f)
  unfolding row_rule
  rule_3 f e = by_kind_3 _ _ _ _ r.step.kind e

  -- no row yet
  pub none : (y : ℕ) (xs : List ℕ) → xs ≡ rows_rebuilt r y y xs
  none y xs = run_none pixel_cells (row_rule r (pixels xs)) (y * w) xs

  -- only a table's rule looks at the buffer before the row
  rule_same : (r.step.kind ≡ 3 → ⊥) → (f g : Picture) → row_rule r f ≡ row_rule r g
  rule_same n f g =
      kinds r.step.kind r.valid.known (λ e. rule_0 f e ∙ sym (rule_0 g e)) (λ e. rule_1 f e ∙ sym (rule_1 g e)) (λ e. rule_2 f e ∙ sym (rule_2 g e))
      (λ e. absurd (n e))

  -- a row more, from the top
  pub down_turn : (y : ℕ) (xs₀ xs ys : List ℕ) → (r.step.kind ≡ 3 → ⊥) → xs ≡ rows_rebuilt r 0 y xs₀ → ys ≡ row_rebuilt r y xs → ys ≡ rows_rebuilt r 0 (y + 1) xs₀
  down_turn y xs₀ xs ys n e q =
      let z : 0 * w ≡ 0 = zero-mul w in
      let m : (y + 1) * w ≡ y * w + w = rw (add-mul, one-mul) in
      let k : (y + 1) * w - y * w ≡ w = omega arith in
      let h : ys ≡ run pixel_cells (row_rule r (pixels xs₀)) (y * w) w xs = as_rule _ _ _ _ _ _ (rule_same n (pixels xs₀) (pixels xs)) q in
      run_next pixel_cells (row_rule r (pixels xs₀)) (0 * w) (y * w) ((y + 1) * w) xs₀ xs ys (omega arith) (omega arith) e (rw k h)

  -- a row more, from the bottom
  pub up_turn : (h y i j : ℕ) (xs₀ xs ys : List ℕ) → r.step.kind ≡ 3 → xs ≡ rows_rebuilt r y h xs₀ → ys ≡ row_rebuilt r j xs → y ≡ suc j → i ≡ j → y ≤ h → ys ≡ rows_rebuilt r i h xs₀
  up_turn h y i j xs₀ xs ys t e q n u l =
      let k = rule_3 (pixels xs₀) t in
      rw u (as_rule _ _ _ _ _ _ k (rows_turn w r.step.size h d r.sized.wide y j xs₀ xs ys (rw k at e) (rw (rule_3 (pixels xs) t) at q) n l))

  -- all rows
  pub all_rows : (a b : ℕ) (xs ys : List ℕ) → HasRoom r xs → ys ≡ rows_rebuilt r a b xs → a ≡ 0 → b ≡ r.height → ys ≡ undone r xs
  unfolding color_rebuilt green_rebuilt
  all_rows a b xs ys l q p t =
      let n = r.height * w in
      let z : 0 * w ≡ 0 = zero-mul w in
      let m : n - 0 ≡ n = omega arith in
      let f = pixels xs in
      q
      ∙ rw (p, t, z, m)
      (kinds r.step.kind r.valid.known (λ e. rw (rule_0 f e, backward_0 r.step r.height r.«data».now f e) (pixels_run _ xs n l))
      (λ e. rw (rule_1 f e, backward_1 r.step r.height r.«data».now f e) (pointwise_written _ n xs l))
      (λ e. rw (rule_2 f e, backward_2 r.step r.height r.«data».now f e) (pointwise_written _ n xs l))
      (λ e. rw (rule_3 f e, backward_3 r.step r.height r.«data».now f e) (given_written _ n xs l)))
