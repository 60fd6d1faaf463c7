-- `accept_rows` meets its contract: before each turn each pixel of the rows before y has an entry, and the row above is
-- at hand.
use mathlib.Core.Path.{◌≡◌, sym, ◌∙◌}
use Prim.Native.Nat.{◌/◌}
use native.Mathlib.Omega.{arith}
use lib.ListN.{length}
use Rattle.format.specs.Picture.{pixels}
use Rattle.store.specs.Made.{stage}
use Rattle.store.proofs.Copied.{stage_narrow, held_same, entries_more, entries_not}
use Rattle.store.proofs.Stages.{above_row}
use Rattle.store.proofs.Accepting.{first_accepts, table_decides}
use Rattle.store.proofs.storing.Storing.accept_rows.Goals as goal

pub accepted_by-before-requires : goal.accepted_by-before-requires
accepted_by-before-requires c = let s = c.args.self.now in (omega (arith, c.requires.below), first_accepts s.opened (pixels s.picture.now) _ c.requires)

pub front-requires : goal.front-requires
front-requires c = stage_narrow c.accepted_by-before.result

pub returns-then-not-accept : goal.returns-then-not-accept
returns-then-not-accept c =
    let a = c.accepted_by-before.result in
    let y = c.loop-y.y in
    let h = held_same (stage a a.count) y a.width _ _ c.front.ensures.1 c.make_row.ensures.made in
    let q : length c.front.result.now / 4 ≡ a.width = omega (arith, c.front.ensures.0) in
    table_decides c.args.self.now a _ _ c.accepted_by-before.ensures c.requires c.lookup-lookup.ensures _
    (entries_not _ a.width _ y _ _ _ h (sym (rw q at c.accept.ensures) ∙ c.if-not-accept.true) c.loop-y-test.true)

pub loop-y-preserved : goal.loop-y-preserved
loop-y-preserved c =
    let a = c.accepted_by-before.result in
    let l = c.loop-y in
    let h = held_same (stage a a.count) l.y a.width _ _ c.front.ensures.1 c.make_row.ensures.made in
    let q : length c.front.result.now / 4 ≡ a.width = omega (arith, c.front.ensures.0) in
    (entries_more _ a.width l.y _ _ _ l.invariant.0 h (sym (rw q at c.accept.ensures) ∙ c.if-not-accept.false), above_row _ _ _ l.y _ c.make_row.ensures.left)

pub returns : goal.returns
returns c =
    let l = c.loop-y in
    let e : l.y ≡ c.args.self.now.opened.chain.height = omega (arith, l.auto.y-end, c.loop-y-test.false) in
    table_decides c.args.self.now c.accepted_by-before.result _ _ c.accepted_by-before.ensures c.requires c.lookup-lookup.ensures _ (sym (rw e at l.invariant.0))
