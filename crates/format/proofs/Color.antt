-- Laws of the color transform: the two directions undo each other on bytes. Blue's deltas are the same, since
-- rebuilding takes the new red, which is the unreduced red of storing.
use mathlib.Core.Path.{◌≡◌, ap, ◌∙◌}
use Prim.Native.Nat.{ℕ, ◌%◌, ◌<◌, ◌/◌}
use native.Mathlib.Omega.{arith}
use Rattle.format.specs.declared.Pixel.{Pixel}
use Rattle.format.specs.Byte.{add, sub, delta}
use Rattle.format.specs.Pixel.{pixel}
use Rattle.format.specs.Picture.{Picture, block}
use Rattle.format.specs.Color.{transform_color, inverse_color, color_stored, color_rebuilt, red_to_blue, green_to_blue, green_to_red, rebuilt_red, rebuilt_blue, stored_blue}
use Rattle.format.proofs.Byte.{add_sub, sub_add, add_byte, sub_byte}
use Rattle.format.proofs.Pixels.{Bytes}

-- two amounts lost and gained in the same order: they commute
add_swap : (a m n : ℕ) → add (add a m) n ≡ add (add a n) m
add_swap a m n = omega arith

sub_swap : (a m n : ℕ) → sub (sub a m) n ≡ sub (sub a n) m
sub_swap a m n = omega arith

add_twice : (a m n : ℕ) → a < 256 → add (add (sub (sub a m) n) m) n ≡ a
add_twice a m n h = add_swap (sub (sub a m) n) m n ∙ ap (λ (z : ℕ). add z m) (add_sub (sub a m) n (sub_byte a m)) ∙ add_sub a m h

sub_twice : (a m n : ℕ) → a < 256 → sub (sub (add (add a m) n) m) n ≡ a
sub_twice a m n h = sub_swap (add (add a m) n) m n ∙ ap (λ (z : ℕ). sub z m) (sub_add (add a m) n (add_byte a m)) ∙ sub_add a m h

module _ (e v : Pixel) (h : Bytes v) where
  pub inverse_transform : inverse_color e (transform_color e v) ≡ v
  unfolding inverse_color transform_color
  inverse_transform =
      let g = v.green in
      let red = add_sub v.red (delta (green_to_red e) g) h.red in
      let blue =
      ap (λ (r : ℕ). rebuilt_blue e g r (stored_blue e g v.red v.blue)) red
      ∙ add_twice v.blue (delta (green_to_blue e) g) (delta (red_to_blue e) v.red) h.blue in
      λ k. pixel (red k) g (blue k) v.alpha

  pub transform_inverse : transform_color e (inverse_color e v) ≡ v
  unfolding inverse_color transform_color
  transform_inverse =
      let g = v.green in
      let red = sub_add v.red (delta (green_to_red e) g) h.red in
      let blue = sub_twice v.blue (delta (green_to_blue e) g) (delta (red_to_blue e) (rebuilt_red e g v.red)) h.blue in
      λ k. pixel (red k) g (blue k) v.alpha

module _ (w bits : ℕ) (d : Picture) where
  pub color_rebuilt_stored : (f : Picture) (q : ℕ) → Bytes (f q) → color_rebuilt w bits d (color_stored w bits d f) q ≡ f q
  unfolding color_rebuilt color_stored
  color_rebuilt_stored f q h = inverse_transform (block w bits d (q % w) (q / w)) (f q) h

  pub color_stored_rebuilt : (g : Picture) (q : ℕ) → Bytes (g q) → color_stored w bits d (color_rebuilt w bits d g) q ≡ g q
  unfolding color_rebuilt color_stored
  color_stored_rebuilt g q h = transform_inverse (block w bits d (q % w) (q / w)) (g q) h
