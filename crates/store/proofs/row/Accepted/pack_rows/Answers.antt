-- `pack_rows` meets its contract: before each turn the rows before y are packed.
use native.Mathlib.Omega.{arith}
use Rattle.pixel.proofs.Rows.{no_rows}
use mathlib.Core.Path.{◌∙◌}
use Rattle.store.proofs.Copied.{part_length, row_known, strip_room, row_done, all_done}
use Rattle.store.proofs.row.Accepted.pack_rows.Goals as goal

pub loop-y-init : goal.loop-y-init
loop-y-init c = no_rows _ _ _

pub loop-y-preserved : goal.loop-y-preserved
loop-y-preserved c =
    let a = c.args.self.now in
    let l = c.loop-y in
    let room = strip_room a l.y c.args.strip.now l.strip l.auto.strip c.requires.room c.loop-y-test.true in
    let e = c.row_bytes.ensures in
    row_done a l.y _ l.strip l.auto.strip c.requires.room _ _ e.0 e.1 _ c.loop-y-test.true l.invariant (c.pack_first.auto.out ∙ part_length l.y a.width l.strip _ _ e.0 e.1 (omega (arith, e.1, room)))
    (row_known a _ _ _ _ _ a.wide c.requires.alone.0 c.pack_first.ensures)

pub returns : goal.returns
returns c =
    let l = c.loop-y in
    all_done c.args.self.now l.y _ l.strip l.auto.strip c.requires.room l.invariant (omega (arith, l.auto.y-end, c.loop-y-test.false))
