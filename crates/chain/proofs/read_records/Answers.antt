-- `read_records` meets its contract: before each turn the records before k are taken, and the current width is theirs.
use mathlib.Core.Path.{refl, sym, ◌∙◌}
use native.Mathlib.Omega.{arith}
use borrow.Author.Rules.{rules}
use Rattle.std.proofs.lemmas.Result.{err_from_is_err_and}
use Rattle.format.specs.Chain.{width_at}
use Rattle.format.specs.Refusals.{records_refusal}
use Rattle.chain.proofs.Tabled.{checked_same, checked_known}
use Rattle.chain.proofs.Records.{turn, record_refused, record_passed, steps_none, steps_more, width_more, width_fits, all_passed, all_valid}
use Rattle.chain.proofs.Sizes.{whole_chain}
use Rattle.chain.proofs.read_records.Goals as goal

pub loop-k-init : goal.loop-k-init
unfolding width_at records_refusal
loop-k-init c = (refl, refl, refl, steps_none _ _ _)

pub check-requires : goal.check-requires
check-requires c =
    let r = c.record_at-s.ensures in
    (width_fits _ c.loop-k.k _ _ _ c.loop-k.invariant.1 r.0 c.requires.0.narrow, c.requires.0.low, r.1, r.2)

pub returns-in_err-steps-clause-refusal : goal.returns-in_err-steps-clause-refusal
returns-in_err-steps-clause-refusal c =
    let p = err_from_is_err_and c.from_residual.result c.from_residual.ensures.1 in
    let l = c.loop-k in
    let r = c.requires in
    let t = turn _ _ _ _ l.k _ _ _ _ l.invariant.0 l.invariant.1 c.record_at-s.ensures.0 c.used_before.ensures c.check.ensures in
    rw (p.1, p.2) (record_refused _ _ _ _ _ _ _ _ _ t c.in_err-steps.was c.loop-k-test.true ∙ sym (whole_chain _ _ _ _ r.0 r.1 r.2))

pub invariant_of-width_after : goal.invariant_of-width_after
invariant_of-width_after c =
    record {
      known = checked_known _ _ _ _ _ (sym c.check.ensures ∙ c.in_ok-steps.was);
      narrow = width_fits _ c.loop-k.k _ _ _ c.loop-k.invariant.1 c.record_at-s.ensures.0 c.requires.0.narrow;
      low = c.requires.0.low;
    }

pub loop-k-preserved : goal.loop-k-preserved
loop-k-preserved c =
    let l = c.loop-k in
    let f = c.record_at-s.ensures.0 in
    let was = c.in_ok-steps.was in
    let t = turn _ _ _ _ l.k _ _ _ _ l.invariant.0 l.invariant.1 f c.used_before.ensures c.check.ensures in
    let s = checked_same _ _ _ _ _ (sym c.check.ensures ∙ was) in
    (record_passed _ _ _ _ _ _ _ _ _ t was, width_more _ l.k _ _ _ _ l.invariant.1 f c.width_after-current.ensures, search rules, steps_more _ l.k _ _ l.steps _ l.invariant.3 l.invariant.1 (s ∙ f) (omega arith))

pub returns-clause-refusal : goal.returns-clause-refusal
returns-clause-refusal c =
    let r = c.requires in
    sym (all_passed _ _ _ _ c.loop-k.k c.loop-k.invariant.0 (search rules) (whole_chain _ _ _ _ r.0 r.1 r.2))

pub invariant_of-result : goal.invariant_of-result
invariant_of-result c =
    let l = c.loop-k in
    let r = c.requires in
    record { valid = all_valid _ _ _ _ l.k _ l.invariant.0 l.invariant.3 l.invariant.1 (omega (arith, l.auto.k-end)) refl refl refl (whole_chain _ _ _ _ r.0 r.1 r.2) }
