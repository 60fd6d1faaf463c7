-- Loops over bytes: where a mode goes channel by channel, they are the mode's loops over pixels.
use Rattle.std.proofs.Common.{◌≡◌, ℕ, zero, suc, ◌+◌, ◌-◌, ◌*◌, ◌<◌, ◌≤◌, List, [], ◌∷◌, sym, refl, ap, ◌∙◌, add-zero, arith}
use lib.ListN.{get_or-eq_default}
use Rattle.format.specs.declared.Pixel.{Pixel}
use Rattle.format.specs.Byte.{avg, clamp_full, clamp_half}
use Rattle.format.specs.Pixel.{pixel, each, each3}
use Rattle.format.specs.Picture.{byte_at, pixels}
use Rattle.format.specs.Predictor.{predict}
use Rattle.pixel.specs.Cells.{byte_cells, run, given}
use Rattle.pixel.proofs.Channels.{Channels, pixels_bytes}
use Rattle.predictor.specs.Row.{around, gains, residual, segment_gained, segment_lost}
use Rattle.predictor.specs.Bytewise.{Channelwise, predict_byte, byte_around, byte_gains, byte_residual}

pub byte_over_13 : (m l t tr tl : ℕ) → 14 ≤ m → predict_byte m l t tr tl ≡ 0
unfolding predict_byte
byte_over_13 m l t tr tl h =
    get_or-eq_default
    (0 ∷ l ∷ t ∷ tr ∷ tl ∷ avg (avg l tr) t ∷ avg l tl ∷ avg l t ∷ avg tl t ∷ avg t tr ∷ avg (avg l tl) (avg t tr) ∷ 0 ∷ clamp_full l t tl ∷ clamp_half l t tl ∷ [])
    0 h

-- a line for each line of the two tables
pub predict_channels : (m : ℕ) → Channelwise m → (l t tr tl : Pixel)
    → predict m l t tr tl
    ≡ pixel (predict_byte m l.red t.red tr.red tl.red) (predict_byte m l.green t.green tr.green tl.green)
    (predict_byte m l.blue t.blue tr.blue tl.blue)
    (predict_byte m l.alpha t.alpha tr.alpha tl.alpha)
unfolding predict predict_byte each each3
predict_channels zero n l t tr tl = absurd (n.not_black refl)
predict_channels (suc zero) n l t tr tl = refl
predict_channels (suc (suc zero)) n l t tr tl = refl
predict_channels (suc (suc (suc zero))) n l t tr tl = refl
predict_channels (suc (suc (suc (suc zero)))) n l t tr tl = refl
predict_channels (suc (suc (suc (suc (suc zero))))) n l t tr tl = refl
predict_channels (suc (suc (suc (suc (suc (suc zero)))))) n l t tr tl = refl
predict_channels (suc (suc (suc (suc (suc (suc (suc zero))))))) n l t tr tl = refl
predict_channels (suc (suc (suc (suc (suc (suc (suc (suc zero)))))))) n l t tr tl = refl
predict_channels (suc (suc (suc (suc (suc (suc (suc (suc (suc zero))))))))) n l t tr tl = refl
predict_channels (suc (suc (suc (suc (suc (suc (suc (suc (suc (suc zero)))))))))) n l t tr tl = refl
predict_channels (suc (suc (suc (suc (suc (suc (suc (suc (suc (suc (suc zero))))))))))) n l t tr tl = absurd (n.not_select refl)
predict_channels (suc (suc (suc (suc (suc (suc (suc (suc (suc (suc (suc (suc zero)))))))))))) n l t tr tl = refl
predict_channels (suc (suc (suc (suc (suc (suc (suc (suc (suc (suc (suc (suc (suc zero))))))))))))) n l t tr tl = refl
predict_channels (suc (suc (suc (suc (suc (suc (suc (suc (suc (suc (suc (suc (suc (suc m)))))))))))))) n l t tr tl = refl

module _ (m w : ℕ) (n : Channelwise m) (wide : 2 ≤ w) (xs : List ℕ) (q : ℕ) (off : w + 1 ≤ q) where
  -- channel k of pixel q is made of bytes of earlier pixels, so that it is the same in any ys with these bytes
  byte-at : (k : ℕ) → k < 4 → (ys : List ℕ) → ((j : ℕ) → j < 4 * q → byte_at ys j ≡ byte_at xs j)
      → byte_around m (4 * w) (byte_at ys) (4 * q + k)
      ≡ predict_byte m (byte_at xs (4 * (q - 1) + k)) (byte_at xs (4 * (q - w) + k)) (byte_at xs (4 * (q - w + 1) + k)) (byte_at xs (4 * (q - w - 1) + k))
  unfolding byte_around
  byte-at k h ys before =
      let el : 4 * q + k - 4 ≡ 4 * (q - 1) + k = omega arith in
      let et : 4 * q + k - 4 * w ≡ 4 * (q - w) + k = omega arith in
      let er : 4 * (q - w) + k + 4 ≡ 4 * (q - w + 1) + k = omega arith in
      let ea : 4 * (q - w) + k - 4 ≡ 4 * (q - w - 1) + k = omega arith in
      rw (el, et, er, ea, before (4 * (q - 1) + k) (omega arith), before (4 * (q - w) + k) (omega arith), before (4 * (q - w + 1) + k) (omega arith), before (4 * (q - w - 1) + k) (omega arith))

  -- the prediction of pixel q, channel by channel
  by-channel : around m w (pixels xs) q
      ≡ pixel
      (predict_byte m (pixels xs (q - 1)).red (pixels xs (q - w)).red (pixels xs (q - w + 1)).red (pixels xs (q - w - 1)).red)
      (predict_byte m (pixels xs (q - 1)).green (pixels xs (q - w)).green (pixels xs (q - w + 1)).green (pixels xs (q - w - 1)).green)
      (predict_byte m (pixels xs (q - 1)).blue (pixels xs (q - w)).blue (pixels xs (q - w + 1)).blue (pixels xs (q - w - 1)).blue)
      (predict_byte m (pixels xs (q - 1)).alpha (pixels xs (q - w)).alpha (pixels xs (q - w + 1)).alpha (pixels xs (q - w - 1)).alpha)
  by-channel = predict_channels m n (pixels xs (q - 1)) (pixels xs (q - w)) (pixels xs (q - w + 1)) (pixels xs (q - w - 1))

  red-at : byte_around m (4 * w) (byte_at xs) (4 * q) ≡ (around m w (pixels xs) q).red
  unfolding pixels
  red-at = simp add-zero at (byte-at 0 (omega arith) xs (λ j l. refl)) ∙ ap (λ (v : Pixel). v.red) (sym by-channel)

  green-at : (ys : List ℕ) → ((j : ℕ) → j < 4 * q → byte_at ys j ≡ byte_at xs j) → byte_around m (4 * w) (byte_at ys) (4 * q + 1) ≡ (around m w (pixels xs) q).green
  unfolding pixels
  green-at ys before = byte-at 1 (omega arith) ys before ∙ ap (λ (v : Pixel). v.green) (sym by-channel)

  blue-at : (ys : List ℕ) → ((j : ℕ) → j < 4 * q → byte_at ys j ≡ byte_at xs j) → byte_around m (4 * w) (byte_at ys) (4 * q + 2) ≡ (around m w (pixels xs) q).blue
  unfolding pixels
  blue-at ys before = byte-at 2 (omega arith) ys before ∙ ap (λ (v : Pixel). v.blue) (sym by-channel)

  alpha-at : (ys : List ℕ) → ((j : ℕ) → j < 4 * q → byte_at ys j ≡ byte_at xs j) → byte_around m (4 * w) (byte_at ys) (4 * q + 3) ≡ (around m w (pixels xs) q).alpha
  unfolding pixels
  alpha-at ys before = byte-at 3 (omega arith) ys before ∙ ap (λ (v : Pixel). v.alpha) (sym by-channel)

  gained : Channels (byte_gains m (4 * w)) xs q (gains (around m w) (pixels xs) q)
  unfolding byte_gains each pixels
  gained =
      record {
        red = rw red-at;
        green = λ ys before after. rw (green-at ys before, after (4 * q + 1) (omega arith));
        blue = λ ys before after. rw (blue-at ys before, after (4 * q + 2) (omega arith));
        alpha = λ ys before after. rw (alpha-at ys before, after (4 * q + 3) (omega arith));
      }

module _ (m w : ℕ) (n : Channelwise m) (wide : 2 ≤ w) (rows : List ℕ) (x : ℕ) (off : 1 ≤ x) (xs : List ℕ) where
  lost : Channels (given (byte_residual m (4 * w) (byte_at rows))) xs x (given (residual (around m w) w (pixels rows)) (pixels xs) x)
  unfolding given byte_residual each pixels
  lost =
      let q = w + x in
      let l : w + 1 ≤ q = omega arith in
      let r : 4 * w + 4 * x ≡ 4 * q = omega arith in
      let g : 4 * w + (4 * x + 1) ≡ 4 * q + 1 = omega arith in
      let b : 4 * w + (4 * x + 2) ≡ 4 * q + 2 = omega arith in
      let a : 4 * w + (4 * x + 3) ≡ 4 * q + 3 = omega arith in
      record {
        red = rw (r, red-at m w n wide rows q l);
        green = λ ys before after. rw (g, green-at m w n wide rows q l rows (λ j u. refl));
        blue = λ ys before after. rw (b, blue-at m w n wide rows q l rows (λ j u. refl));
        alpha = λ ys before after. rw (a, alpha-at m w n wide rows q l rows (λ j u. refl));
      }

-- columns a up to b, rebuilt and stored

module _ (m w : ℕ) (n : Channelwise m) (a b : ℕ) (off : 1 ≤ a) (inside : b ≤ w) (xs ys : List ℕ) where
  pub bytes_gained : ys ≡ run byte_cells (byte_gains m (4 * w)) (4 * w + 4 * a) (4 * w + 4 * b - (4 * w + 4 * a)) xs → ys ≡ segment_gained m w a b xs
  bytes_gained e =
      let f : 4 * w + 4 * a ≡ 4 * (w + a) = omega arith in
      let k : 4 * w + 4 * b - (4 * w + 4 * a) ≡ 4 * (w + b - (w + a)) = omega arith in
      e ∙ rw (k, f) (pixels_bytes (byte_gains m (4 * w)) (gains (around m w)) (w + a) xs (w + b - (w + a)) (λ q l u zs c. gained m w n (omega arith) zs q (omega arith)))

  pub bytes_lost : (rows : List ℕ) → ys ≡ run byte_cells (given (byte_residual m (4 * w) (byte_at rows))) (4 * a) (4 * b - 4 * a) xs → ys ≡ segment_lost m w a b rows xs
  bytes_lost rows e =
      let k : 4 * b - 4 * a ≡ 4 * (b - a) = omega arith in
      e ∙ rw k (pixels_bytes (given (byte_residual m (4 * w) (byte_at rows))) (given (residual (around m w) w (pixels rows))) a xs (b - a) (λ x l u zs c. lost m w n (omega arith) rows x (omega arith) zs))
