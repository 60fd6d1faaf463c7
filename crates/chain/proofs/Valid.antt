-- Laws of a valid chain as one value, c.
use mathlib.Core.List.{List}
use mathlib.Core.Path.{◌≡◌, sym, ap, ◌∙◌}
use Prim.Native.Nat.{ℕ, zero, suc, ◌*◌, ◌<◌, ◌≤◌}
use native.Mathlib.Nat.{le_refl, mul-le-mul}
use native.Mathlib.Omega.{arith}
use Rattle.format.specs.declared.Step.{Step}
use Rattle.format.specs.Sizes.{Sized}
use Rattle.format.specs.Chain.{narrowed, width_at, step_at}
use Rattle.format.specs.Refusals.{input_refusal}
use Rattle.format.proofs.Valid.{valid_sized, valid_count, valid_step, valid_once}
use Rattle.format.proofs.Stages.{width_record, narrowed_fewer, narrowed_pos}
use Rattle.chain.specs.declared.Chain.{Chain}
use Rattle.chain.specs.Valid.{Valid, steps_of, width_after, records_in}
use Rattle.chain.specs.Reading.{ChainOf}

module _ (c : Chain) (ds : List ℕ) (v : Valid c ds) where
  pub after_pos : (k : ℕ) → k ≤ c.count → 1 ≤ width_after c k
  after_pos zero l = v.sized.wide
  after_pos (suc k) l = narrowed_pos (steps_of c k) (rw (v.width k (omega arith)) (after_pos k (omega arith)))

  pub after_fits : (k : ℕ) → k ≤ c.count → width_after c k ≤ 16384
  after_fits zero l = v.sized.narrow
  after_fits (suc k) l =
      let a = narrowed_fewer (steps_of c k) in
      let b = v.width k (omega arith) in
      let d = after_fits k (omega arith) in
      omega arith

  pub step_sized : (k : ℕ) → k < c.count → Sized (steps_of c k).width c.height
  step_sized k l =
      let e = v.width k l in
      let p = after_pos k (omega arith) in
      let q = after_fits k (omega arith) in
      record { wide = omega arith; narrow = omega arith; tall = v.sized.tall; low = v.sized.low }

  pub strip_fits : c.strip.0 ≤ 16384
  strip_fits = rw v.strip (after_fits c.count (le_refl c.count))

  -- records can be counted
  pub records_few : records_in c ≤ 16384 * 16384
  records_few = mul-le-mul v.sized.low strip_fits

-- from a chain's bytes

module _ (w h : ℕ) (cs ds : List ℕ) (c : Chain) (none : input_refusal w h cs ds ≡ 0) (of : ChainOf w h cs c) where
  step_is : (k : ℕ) → k < c.count → steps_of c k ≡ step_at cs w k
  step_is k l = of.steps.at k (let e = of.count in omega arith)

  after_is : (k : ℕ) → k ≤ c.count → width_after c k ≡ width_at cs w k
  unfolding width_at
  after_is zero l = of.width
  after_is (suc k) l = ap narrowed (step_is k (omega arith))

  pub valid_of : Valid c ds
  valid_of = record {
    sized = rw (of.width, of.height) (valid_sized w h cs ds none);
    few = let e = of.count in let f = valid_count w h cs ds none in omega arith;
    step = λ k l. rw (step_is k l, of.height) (valid_step w h cs ds none k (let e = of.count in omega arith));
    width = λ k l. ap (λ (s : Step). s.width) (step_is k l) ∙ width_record cs k (width_at cs w k) ∙ sym (after_is k (omega arith));
    once = λ j k i l e.
        valid_once w h cs ds none k (let q = of.count in omega arith) j i
        (sym (ap (λ (s : Step). s.kind) (step_is j (omega arith))) ∙ e ∙ ap (λ (s : Step). s.kind) (step_is k l));
    strip = of.strip ∙ ap (width_at cs w) (sym of.count) ∙ sym (after_is c.count (omega arith));
  }
