-- What a record makes of the stage before it, by its kind.
use Rattle.std.specs.Prelude.{Option, Some, option_map}
use mathlib.Core.Bool.{Bool, not, ◌||◌, or-false}
use mathlib.Core.List.{List, [], ◌∷◌}
use mathlib.Core.Path.{◌≡◌, refl, sym, ap, ◌∙◌}
use Prim.Native.Nat.{ℕ, suc, ◌+◌, ◌*◌, ◌/◌, ◌%◌, ◌<◌, ◌≤◌}
use native.Mathlib.Omega.{arith}
use borrow.Author.Tests.{ne_eqb}
use Rattle.format.specs.declared.Pixel.{Pixel}
use Rattle.format.specs.declared.Step.{Step}
use Rattle.format.specs.Byte.{sub}
use Rattle.format.specs.Indices.{some}
use Rattle.format.specs.Pixel.{each}
use Rattle.format.specs.Picture.{Picture, block}
use Rattle.format.specs.Predictor.{predicted, residuals}
use Rattle.format.specs.Color.{transform_color, color_stored}
use Rattle.format.specs.SubtractGreen.{subtract_green, green_stored}
use Rattle.format.specs.ColorTable.{per_pixel, packed_width, has_entry, packed}
use Rattle.format.specs.Stages.{stored}
use Rattle.format.specs.Made.{named, made_of, takes_item, missing, lost, made}
use Rattle.format.proofs.ByKind.{by_kind_0, by_kind_1, by_kind_2, by_kind_3, forward_0, forward_1, forward_2, forward_3}
use Rattle.item.specs.declared.around.Neighbor.TheVariants.{Left, Top, TopRight, TopLeft}
use Rattle.item.specs.declared.painted.Painted.{Painted}
use Rattle.item.specs.declared.place.Place.{Place}
use Rattle.item.specs.Made.{residual_made}
use Rattle.item.specs.Source.{picture_of, step_of, data_pixels, stage_of, item_of}
use Rattle.item.specs.Neighbors.{neighbor_made, mode_at}
use Rattle.item.specs.Table.{record_from, record_made, joined_made, repeated_made, Room}
use Rattle.item.proofs.Items.{mapped_made}
use Rattle.item.proofs.Named.{residual_stage}
use Rattle.item.proofs.Columns.{columns_more, columns_last, columns_room}

some_same : (t u : ℕ → Bool) → ((q : ℕ) → t q ≡ u q) → (qs : List ℕ) → some t qs ≡ some u qs
some_same t u e [] = refl
some_same t u e (q ∷ qs) = cc (e q, some_same t u e qs)

module _ (p : Painted) (k : ℕ) where
  abbrev s : Step
  s = step_of p k

  abbrev ds : List ℕ
  ds = p.opened.«data».now

  abbrev part : Picture
  part = data_pixels p k

  abbrev before : Picture
  before = stage_of p k

  abbrev was : ℕ → Bool
  was = missing (step_of p) ds k (picture_of p)

  abbrev loses : ℕ → Bool
  loses = lost (step_of p) ds k (picture_of p)

  abbrev loses_next : ℕ → Bool
  loses_next = missing (step_of p) ds (suc k) (picture_of p)

  -- items of both stages
  abbrev item : ℕ → Option Pixel
  item = item_of p k

  abbrev next : ℕ → Option Pixel
  next = item_of p (suc k)

  missing_by : (r : ℕ) → loses_next r ≡ some loses (made_of s ds r)
  unfolding missing
  missing_by r = refl

  -- a record that is no table takes every item
  lost_other : (s.kind ≡ 3 → ⊥) → (q : ℕ) → loses q ≡ was q
  unfolding takes_item
  lost_other n q = rw (ne_eqb s.kind 3 n) (or-false (was q))

  lost_table : s.kind ≡ 3 → (q : ℕ) → loses q ≡ (was q || not (has_entry s.size part (before q)))
  unfolding takes_item
  lost_table e q = rw e

  missing_alone : (s.kind ≡ 3 → ⊥) → (r : ℕ) → made_of s ds r ≡ (r ∷ []) → loses_next r ≡ was r
  missing_alone n r e = missing_by r ∙ some_same _ _ (lost_other n) (made_of s ds r) ∙ ap (some was) e ∙ or-false (was r)

  made_0 : s.kind ≡ 0 → (r : ℕ) → made (was r || some was (named s.width s.bits part (r % s.width) (r / s.width))) (each sub (before r) (predicted s.width s.bits part before (r % s.width) (r / s.width)))
      ≡ next r
  unfolding made_of stored residuals
  made_0 e r =
      let m = missing_by r ∙ some_same _ _ (lost_other (λ z. omega arith)) (made_of s ds r) ∙ ap (some was) (by_kind_0 _ _ _ _ s.kind e) in
      rw (m, forward_0 s ds before e)

  -- by an item and the neighbors that were asked for
  pub residual_next : s.kind ≡ 0 → (q m : ℕ) (at : Place) (r v l tp tr tl : Option Pixel) → at.x ≡ q % s.width → at.y ≡ q / s.width → m ≡ mode_at s.width s.bits part at.x at.y
      → r ≡ residual_made m v l tp tr tl → v ≡ item q → l ≡ neighbor_made p k m Left at → tp ≡ neighbor_made p k m Top at → tr ≡ neighbor_made p k m TopRight at → tl ≡ neighbor_made p k m TopLeft at → r ≡ next q
  residual_next z q m at r v l tp tr tl x y e a b c g h i =
      residual_stage s.width s.bits part before at.x at.y was q m r v l tp tr tl e a b c g h i ∙ rw (x, y) (made_0 z q)

  pub color_next : s.kind ≡ 1 → (q : ℕ) (at : Place) (t : Pixel) (r v : Option Pixel) → at.x ≡ q % s.width → at.y ≡ q / s.width → t ≡ block s.width s.bits part at.x at.y
      → r ≡ option_map (transform_color t) v → v ≡ item q → r ≡ next q
  unfolding made_of stored color_stored
  color_next z q at t r v x y d a b =
      let m = missing_alone (λ e. omega arith) q (by_kind_1 _ _ _ _ s.kind z) in
      a ∙ rw (b, d, x, y) (mapped_made _ (was q) (before q) ∙ rw (m, forward_1 s ds before z))

  pub green_next : s.kind ≡ 2 → (q : ℕ) (r v : Option Pixel) → r ≡ option_map subtract_green v → v ≡ item q → r ≡ next q
  unfolding made_of stored green_stored
  green_next z q r v a b =
      let m = missing_alone (λ e. omega arith) q (by_kind_2 _ _ _ _ s.kind z) in
      a ∙ rw b (mapped_made subtract_green (was q) (before q) ∙ rw (m, forward_2 s ds before z))

  pub table_next : s.kind ≡ 3 → (q w n x y : ℕ) (r : Option Pixel) → w ≡ packed_width s.size s.width → n ≡ per_pixel s.size → x ≡ q % w → y ≡ q / w
      → r ≡ record_made p k y n (x * n) → r ≡ next q
  unfolding made_of stored packed record_from
  table_next z q w n x y r a b c d e =
      let m = missing_by q ∙ ap (some loses) (by_kind_3 _ _ _ _ s.kind z) in
      e ∙ rw (c, d, a, b, m, forward_3 s ds before z)

  pub record_next : s.kind ≡ 3 → (y n m x : ℕ) (r first rest : Option Pixel) → n ≡ suc m → x < s.width → r ≡ joined_made s.size part first rest
      → first ≡ item (y * s.width + x) → rest ≡ record_made p k y m (x + 1) → r ≡ record_made p k y n x
  record_next e y = columns_more s.width s.size part before y loses was (lost_table e)

  pub record_last : s.kind ≡ 3 → (y n m x i : ℕ) (r first : Option Pixel) → n ≡ suc m → s.width ≡ x + 1 → r ≡ repeated_made s.size part i first → i ≡ n
      → first ≡ item (y * s.width + x) → r ≡ record_made p k y n x
  record_last e y n m x i r first z l a j = columns_last s.width s.size part before y loses was (lost_table e) n m x r first z l (rw j at a)

  pub record_room : s.kind ≡ 3 → s.size ≤ 256 → (y n x : ℕ) (rest : Option Pixel) → rest ≡ record_made p k y n x → n < per_pixel s.size → x < s.width → Room s.size rest
  record_room e small y n x rest q l inside v a = columns_room s.width s.size part before y loses was (lost_table e) small n x l inside v (sym q ∙ a)

  -- after no record an item is a pixel
  pub made_first : k ≡ 0 → (q : ℕ) (v : Pixel) → v ≡ picture_of p q → Some v ≡ item q
  unfolding made missing stored
  made_first z q v e = rw (z, e)
