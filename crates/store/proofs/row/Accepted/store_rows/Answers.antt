-- `store_rows` meets its contract: before each turn the rows before y are stored, and the row above is at hand.
use mathlib.Core.List.{List}
use mathlib.Core.Path.{ap, ◌∙◌}
use Prim.Native.Nat.{ℕ}
use native.Mathlib.Omega.{arith}
use lib.ListN.{length}
use Rattle.format.proofs.Written.{pixels_same}
use Rattle.pixel.proofs.Rows.{no_rows}
use Rattle.store.proofs.Copied.{stage_narrow, row_done, all_done}
use Rattle.store.proofs.Stages.{above_first, above_row}
use Rattle.store.proofs.row.Accepted.store_rows.Goals as goal

pub loop-y-init : goal.loop-y-init
loop-y-init c = (no_rows _ _ _, above_first _ _ _ _)

pub front-requires : goal.front-requires
front-requires c = stage_narrow c.args.self.now

pub loop-y-preserved : goal.loop-y-preserved
loop-y-preserved c =
    let l = c.loop-y in
    let e = c.copy_from_slice.ensures.after in
    let full = ap (λ (ys : List ℕ). length ys) e ∙ c.front.ensures.0 in (
      row_done c.args.self.now l.y _ l.strip l.auto.strip c.requires _ _ c.row_bytes.ensures.0 c.row_bytes.ensures.1 _ c.loop-y-test.true l.invariant.0 full
          (λ x u. pixels_same e x ∙ c.front.ensures.1 x u ∙ c.make_row.ensures.made x u),
      above_row _ _ _ l.y _ c.make_row.ensures.left,
    )

pub returns : goal.returns
returns c =
    let l = c.loop-y in
    all_done c.args.self.now l.y _ l.strip l.auto.strip c.requires l.invariant.0 (omega (arith, l.auto.y-end, c.loop-y-test.false))
