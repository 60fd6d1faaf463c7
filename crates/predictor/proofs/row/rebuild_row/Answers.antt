-- `rebuild_row` meets its contract: before each turn column 0 and the columns of the blocks before are rebuilt.
use Rattle.std.proofs.Common.{◌≡◌, sym, ap, ◌∙◌, arith}
use Rattle.predictor.specs.Row.{front_gained, segment_start}
use Rattle.predictor.proofs.Blocks.{gained_one, gained_more}
use Rattle.predictor.proofs.row.rebuild_row.Goals as goal

pub returns-then-w-eq1 : goal.returns-then-w-eq1
returns-then-w-eq1 c =
    let b = c.args.blocks.now in
    gained_one b.width b.bits b.bytes.now c.args.rows.now _ _ _ c.put_pixel.ensures (c.add_pixels-first.ensures ∙ cc)
    ∙ ap (λ n. front_gained b.width b.bits b.bytes.now n c.args.rows.now) (sym c.if-w-eq1.true)

pub loop-block-init : goal.loop-block-init
loop-block-init c =
    let b = c.args.blocks.now in
    let one : segment_start b.width b.bits 0 ≡ 1 = omega arith in
    rw one (gained_one b.width b.bits b.bytes.now c.args.rows.now _ _ _ c.put_pixel.ensures (c.add_pixels-first.ensures ∙ cc))

pub loop-block-preserved : goal.loop-block-preserved
loop-block-preserved c =
    let b = c.args.blocks.now in
    let s = c.of.result in
    let e = c.of.ensures in
    let before = rw (← e.from) at c.loop-block.invariant in
    let turn = rw e.width at c.rebuild_segment.ensures in
    rw e.to at (gained_more b.width b.bits b.bytes.now _ _ _ s.from s.to s.mode e.mode s.inside.1 before turn)
