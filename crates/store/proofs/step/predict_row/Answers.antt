-- `predict_row` meets its contract: the rows that are lent hold the row above and the row.
use mathlib.Core.Path.{◌∙◌}
use native.Mathlib.Omega.{arith}
use borrow.Author.Rules.{rules}
use Rattle.format.specs.Picture.{pixels}
use Rattle.format.specs.Predictor.{residuals}
use Rattle.store.proofs.Moved.{moved}
use Rattle.store.proofs.Predicted.{both_length, behind, held_behind, held_above, held_first}
use Rattle.store.proofs.step.predict_row.Goals as goal

pub returns-clause-made : goal.returns-clause-made
returns-clause-made c =
    λ f h a. let p = c.requires in
    let b = c.args.blocks.now in
    let e = c.copy_row.ensures in
    held_first (residuals b.width b.bits (pixels b.bytes.now) f) c.args.y b.width _ _
    (c.store_row.ensures f (λ u. held_above b.width c.args.row.now c.args.rows.now _ e p.1 p.2 c.args.y f (a u))
    (held_behind b.width c.args.row.now c.args.rows.now _ e p.1 p.2 c.args.y f h))
    (search rules)

pub returns-clause-left : goal.returns-clause-left
returns-clause-left c =
    λ x l. let p = c.requires in
    let w = c.args.blocks.now.width in
    let row = c.args.row.now in
    let rows = c.args.rows.now in
    let e = c.copy_row.ensures in
    moved w _ _ _ c.split_at_mut-above.ensures.back c.copy_row-2.ensures (omega (arith, both_length w row rows _ e p.1 p.2)) x l
    ∙ behind w row rows _ e p.1 p.2 x l
