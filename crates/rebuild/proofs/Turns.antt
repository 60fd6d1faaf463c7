-- The loop over records, last record first: what is still to be done of the buffer gives the whole picture.
use mathlib.Core.List.{List}
use mathlib.Core.Path.{◌≡◌, sym, ap, ◌∙◌}
use Prim.Native.Nat.{ℕ, suc, ◌*◌, ◌<◌, ◌≤◌}
use native.Mathlib.Nat.{mul-le-mul_left}
use native.Mathlib.Omega.{arith}
use lib.ListN.{length}
use Rattle.format.specs.Picture.{pixels, written}
use Rattle.format.specs.Chain.{step_at, width_at, count}
use Rattle.format.specs.Refusals.{input_refusal}
use Rattle.format.specs.Stages.{backward, rebuilt}
use Rattle.format.specs.Calls.{rebuild_image}
use Rattle.format.proofs.Picture.{written_same}
use Rattle.format.proofs.Written.{written_read, written_over, written_self}
use Rattle.format.proofs.Stages.{KnownKinds, width_record, width_at_fewer, rebuilt_same}
use Rattle.format.proofs.Calls.{rebuild_accepts, rebuild_image_accepted}
use Rattle.format.proofs.Valid.{valid_sized, valid_known}
use Rattle.chain.specs.declared.record.ValidChain.{ValidChain}
use Rattle.chain.specs.declared.record.Record.{Record}
use Rattle.chain.specs.Valid.{steps_of}
use Rattle.chain.specs.Reading.{Read}
use Rattle.rebuild.specs.Rows.{HasRoom, undone}

module _ (w h : ℕ) (cs ds : List ℕ) where
  -- the buffer once the first k records are undone
  abbrev pub Rebuilt : ℕ → List ℕ → List ℕ
  Rebuilt k xs = written (h * w) (rebuilt (step_at cs w) h ds k (pixels xs)) xs

  module _ (v : ValidChain) (read : Read w h cs ds v) (j : ℕ) (l : j < v.chain.count) (r : Record)
      (is : (r.step ≡ steps_of v.chain j) × (r.height ≡ v.chain.height) × (r.«data».now ≡ v.«data».now)) where
    step : r.step ≡ step_at cs w j
    step = is.0 ∙ read.of.steps.at j (let e = read.of.count in omega arith)

    tall : r.height ≡ h
    tall = is.1 ∙ read.of.height

    on : r.«data».now ≡ ds
    on = is.2 ∙ read.on

    wide : r.step.width ≡ width_at cs w j
    wide = rw step (width_record cs j (width_at cs w j))

    -- the picture's buffer has room for it
    pub room : (xs : List ℕ) → 4 * (h * w) ≤ length xs → HasRoom r xs
    room xs f = rw (tall, wide) (let m = mul-le-mul_left h (width_at_fewer cs w j) in omega arith)

    -- it is undone
    pub undo_turn : (k i : ℕ) (xs₀ xs ys : List ℕ) → Rebuilt k xs ≡ xs₀ → k ≡ suc j → i ≡ j → ys ≡ undone r xs → input_refusal w h cs ds ≡ 0 → Rebuilt i ys ≡ xs₀
    unfolding rebuilt
    undo_turn k i xs₀ xs ys whole t m q none =
        let n = h * width_at cs w j in
        let g = backward (step_at cs w j) h ds (pixels xs) in
        let rest = rebuilt (step_at cs w) h ds j in
        let e : ys ≡ written n g xs = q ∙ cc (step, tall, on, wide) in
        let known : KnownKinds cs w j = λ i u. valid_known w h cs ds none i (let c = read.of.count in omega arith) in
        let same = written_read n g xs ys e in
        rw m
        (written_same (h * w) (rest (pixels ys)) (rest g) ys (rebuilt_same cs w h ds (valid_sized w h cs ds none).wide j known (pixels ys) g same)
        ∙ ap (written (h * w) (rest g)) e
        ∙ written_over (h * w) n (rest g) g xs (mul-le-mul_left h (width_at_fewer cs w j))
        ∙ (rw t at whole))

  -- all records are undone
  pub undo_done : (k : ℕ) (xs₀ xs : List ℕ) → Rebuilt k xs ≡ Rebuilt (count cs) xs₀ → k ≡ 0 → input_refusal w h cs ds ≡ 0 → 4 * (h * w) ≤ length xs₀ → length xs ≡ length xs₀
      → xs ≡ rebuild_image w h cs ds xs₀
  unfolding rebuilt
  undo_done k xs₀ xs whole e none room q =
      sym (written_self (h * w) xs (rw q room)) ∙ (rw e at whole) ∙ sym (rebuild_image_accepted w h cs ds xs₀ (rebuild_accepts w h cs ds xs₀ none room))
