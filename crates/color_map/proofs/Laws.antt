-- What the two loops over a color map leave, byte by byte.
use Rattle.std.proofs.Common.{◌≡◌, ℕ, zero, suc, ◌-◌, ◌<◌, ◌≤◌, List, length, sym, ap, ◌∙◌, arith}
use native.Mathlib.Decide.{dec_lt}
use Rattle.format.specs.Byte.{add}
use Rattle.format.specs.Picture.{byte_at, written_bytes}
use Rattle.format.specs.ColorMap.{adjusted, unadjusted}
use Rattle.format.proofs.ColorMap.{adjusted_at, adjusted_start, unadjusted_start}
use Rattle.pixel.specs.Cells.{byte_cells, Rule, run, given}
use Rattle.pixel.proofs.Cells.{byte_lawful, length_run, run_before, run_after, run_at, run_kept}
use Rattle.pixel.proofs.Front.{bytes_are}

abbrev pub gains : Rule ℕ
gains p i = add (p i) (p (i - 4))

module _ (xs : List ℕ) where
  abbrev ys : List ℕ
  ys = run byte_cells gains 4 (length xs - 4) xs

  next : (i : ℕ) → i < length xs → 4 ≤ i → byte_at ys i ≡ add (byte_at xs i) (byte_at ys (i - 4))
  next i l k =
      run_at byte_cells byte_lawful gains 4 xs (length xs - 4) i k (omega arith) (omega arith)
      ∙ cc (
        run_after byte_cells byte_lawful gains 4 xs (i - 4) i (omega arith),
        run_kept byte_cells byte_lawful gains 4 xs (i - 4) (length xs - 4) (i - 4) (omega arith) (omega arith),
      )

  start : (i : ℕ) → i < 4 → byte_at ys i ≡ adjusted (byte_at xs) i
  start i l = run_before byte_cells byte_lawful gains 4 xs (length xs - 4) i l ∙ sym (adjusted_start (byte_at xs) i l)

  -- in steps of four
  each_byte : (i : ℕ) → i < length xs → byte_at ys i ≡ adjusted (byte_at xs) i
  each_byte zero l = start 0 (omega arith)
  each_byte (suc zero) l = start 1 (omega arith)
  each_byte (suc (suc zero)) l = start 2 (omega arith)
  each_byte (suc (suc (suc zero))) l = start 3 (omega arith)
  each_byte (suc (suc (suc (suc i)))) l =
      let j = suc (suc (suc (suc i))) in
      let e : suc (suc (suc (suc i))) - 4 ≡ i = omega arith in
      let ih = each_byte i (omega arith) in
      next j l (omega arith) ∙ rw (e, ih) (sym (adjusted_at (byte_at xs) j (omega arith) ∙ ap (λ (k : ℕ). add (byte_at xs j) (adjusted (byte_at xs) k)) e))

  pub adjusted_run : (zs : List ℕ) → zs ≡ ys → zs ≡ written_bytes (length xs) (adjusted (byte_at xs)) xs
  adjusted_run zs e = e ∙ bytes_are xs ys (adjusted (byte_at xs)) (length_run byte_cells byte_lawful gains 4 xs (length xs - 4)) each_byte

  abbrev pub losses : Rule ℕ
  losses = given (unadjusted (byte_at xs))

  -- down to index 4
  loss : (i : ℕ) → i < length xs → Dec (i < 4) → byte_at (run byte_cells losses 4 (length xs - 4) xs) i ≡ unadjusted (byte_at xs) i
  unfolding given
  loss i l (yes s) = run_before byte_cells byte_lawful losses 4 xs (length xs - 4) i s ∙ sym (unadjusted_start (byte_at xs) i s)
  loss i l (no n) = run_at byte_cells byte_lawful losses 4 xs (length xs - 4) i (omega arith) (omega arith) (omega arith)

  pub unadjusted_run : (zs : List ℕ) → zs ≡ run byte_cells losses 4 (length xs - 4) xs → zs ≡ written_bytes (length xs) (unadjusted (byte_at xs)) xs
  unadjusted_run zs e =
      e
      ∙ bytes_are xs (run byte_cells losses 4 (length xs - 4) xs) (unadjusted (byte_at xs)) (length_run byte_cells byte_lawful losses 4 xs (length xs - 4))
      (λ i l. loss i l (dec_lt i 4))
