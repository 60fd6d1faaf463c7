-- The number and the bytes of `retouch` at each of its returns.
use mathlib.Core.Logic.{◌⊎◌, inl, inr}
use mathlib.Core.Bool.{true, false}
use mathlib.Core.List.{List, [], ◌∷◌}
use mathlib.Core.Path.{◌≡◌, refl, sym, ◌∙◌}
use Prim.Native.Nat.{ℕ, ◌+◌, ◌*◌, ◌<◌, ◌≤◌}
use borrow.Author.Tests.{lt-ltb, le-ltb}
use Rattle.format.specs.declared.Pixel.{Pixel}
use Rattle.format.specs.declared.Refusal.{Refusal}
use Rattle.format.specs.declared.Refusal.TheVariants.{Outside}
use Rattle.format.specs.Refusals.{number}
use Rattle.format.specs.Picture.{Picture, pixels}
use Rattle.format.specs.Chain.{step_at, count}
use Rattle.format.specs.Retouch.{point_answer}
use Rattle.format.specs.Calls.{records, inside, painted, pair_refusal, retouch_answer, retouch_picture, retouch_strip}
use Rattle.format.proofs.Valid.{before_some}
use Rattle.format.proofs.Calls.{retouch_refused}
use Rattle.format.proofs.Steps.{new_strip_steps, point_answer_steps}
use Rattle.chain.specs.declared.Chain.{Chain}
use Rattle.chain.specs.declared.record.ValidChain.{ValidChain}
use Rattle.chain.specs.Valid.{steps_of, pixels_in, records_in}
use Rattle.chain.specs.Reading.{Opened}
use Rattle.item.specs.declared.painted.Point.{Point}
use Rattle.retouch.proofs.Deciding.{refused_number}
use Rattle.retouch.specs.Decided.{answer_by, picture_left, strip_left}

module _ (w h : ℕ) (cs ds picture strip : List ℕ) (x y : ℕ) (color : Pixel) where
  abbrev answer : ℕ
  answer = retouch_answer w h cs ds picture strip x y color

  abbrev Answered : ℕ → List ℕ → List ℕ → Type 0
  Answered r ps ss = (r ≡ answer) × ((ps ≡ retouch_picture w h cs ds picture strip x y color) × (ss ≡ retouch_strip w h cs ds picture strip x y color))

  abbrev at : ℕ → Point
  at i = record { index = i; color = color }

  abbrev new : Picture
  new = painted w (pixels picture) x y color

  refused : (r : Refusal) → number r ≡ answer → Answered (number r) picture strip
  refused r e =
      let s = retouch_refused w h cs ds picture strip x y color (rw (← e) (refused_number r)) in
      (e, (sym s.0, sym s.1))

  -- refusals 1 to 8
  pub refused_pair : (r : Refusal) → number r ≡ pair_refusal w h cs ds picture strip → Answered (number r) picture strip
  unfolding retouch_answer
  refused_pair r e =
      let some : pair_refusal w h cs ds picture strip ≡ 0 → ⊥ = λ z. let a : true ≡ false = rw (e ∙ z) at (refused_number r) in cc in
      refused r (e ∙ sym (before_some (pair_refusal w h cs ds picture strip) _ some))

  module _ (valid : 0 ≡ pair_refusal w h cs ds picture strip) where
    -- 9
    outside : inside w h x y ≡ false → Answered (number Outside) picture strip
    unfolding retouch_answer
    outside e = refused Outside (sym (rw (← valid, e) refl))

    pub refused_outside : (w ≤ x) ⊎ ((x < w) × (h ≤ y)) → Answered (number Outside) picture strip
    refused_outside (inl l) = outside (rw (le-ltb x w l) refl)
    refused_outside (inr (l, m)) = outside (rw (lt-ltb x w l, le-ltb y h m) refl)

    module _ (v : ValidChain) (opened : Opened w h cs ds picture strip v) where
      abbrev c : Chain
      c = v.chain

      -- 22, or the point and its records
      module _ (column : x < w) (row : y < h) where
        area : pixels_in c ≡ h * w
        area = cc (opened.of.height, opened.of.width)

        wide : records_in c ≡ records w h cs
        wide = cc (opened.of.height, opened.of.strip)

        here : answer ≡ point_answer (step_at cs w) ds (count cs) (records w h cs) new (y * w + x) (pixels strip)
        unfolding retouch_answer
        here = rw (← valid, lt-ltb x w column, lt-ltb y h row) refl

        pub answered : (i : ℕ) → i ≡ y * c.width.0 + x → (r : ℕ) (ps ss : List ℕ) → r ≡ answer_by v picture strip (at i)
            → ps ≡ picture_left v picture (at i) r → ss ≡ strip_left v picture strip (at i) r → Answered r ps ss
        unfolding retouch_picture retouch_strip
        answered i j r ps ss a p s =
            let k : i ≡ y * w + x = j ∙ rw opened.of.width refl in
            let q = rw (k, wide, opened.on, opened.of.count, point_answer_steps (steps_of c) (step_at cs w) h ds new (pixels strip) (count cs) opened.of.steps.at (records w h cs) (y * w + x)) at a in
            let e : r ≡ answer = q ∙ sym here in
            (e, (p ∙ rw (k, e, area) refl, s ∙ rw (k, e, wide, opened.on, opened.of.count, new_strip_steps (steps_of c) (step_at cs w) h ds new (pixels strip) (count cs) opened.of.steps.at ((y * w + x) ∷ [])) refl))
