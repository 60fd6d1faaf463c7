-- The calls that item, after, residual, neighbor and packed make of each other meet their contracts, each below the
-- measure of its caller.
use Rattle.std.proofs.Common.{◌-◌, arith, rules}
use Rattle.item.proofs.Stage.{residual_next, color_next, green_next, table_next, record_next, record_last, record_room}
use Rattle.item.proofs.Before.{inside_other, stands_first}
use Rattle.item.proofs.painted.Painted.+making.Goals as goal

pub after-residual-requires : goal.after-residual-requires
after-residual-requires t c =
    let u = c.requires.0 in
    let e = c.record-record.ensures.0 in
    let k = c.in-Predictor.ensures in
    (omega (arith, c.decreases), ((u, inside_other c.args.self.now c.args.k u c.args.q _ _ c.requires.1 e k (omega arith)), rw e at k))

pub after-place-at-requires : goal.after-place-at-requires
after-place-at-requires t c =
    let u = c.requires.0 in
    (u, inside_other c.args.self.now c.args.k u c.args.q _ _ c.requires.1 c.record-record.ensures.0 c.in-Color.ensures (omega arith))

pub after-item-requires-in-SubtractGreen : goal.after-item-requires-in-SubtractGreen
after-item-requires-in-SubtractGreen t c =
    let u = c.requires.0 in
    (omega (arith, c.decreases), (omega (arith, u), inside_other c.args.self.now c.args.k u c.args.q _ _ c.requires.1 c.record-record.ensures.0 c.in-SubtractGreen.ensures (omega arith)))

pub after-returns-in-Color : goal.after-returns-in-Color
after-returns-in-Color t c =
    let e = c.record-record.ensures in
    let b = c.blocks-in-Color.ensures in
    let a = c.place-at.ensures in
    color_next c.args.self.now c.args.k (rw e.0 at c.in-Color.ensures) c.args.q c.place-at.result c.at-e.result _ _ a.column a.row (rw (b.0, b.2, b.3, e.0, e.2) at c.at-e.ensures) (search rules) c.item.ensures

pub after-returns-in-SubtractGreen : goal.after-returns-in-SubtractGreen
after-returns-in-SubtractGreen t c =
    green_next c.args.self.now c.args.k (rw c.record-record.ensures.0 at c.in-SubtractGreen.ensures) c.args.q _ _ (search rules) c.item-in-SubtractGreen.ensures

pub after-packed-requires : goal.after-packed-requires
after-packed-requires t c =
    let e = c.record-record.ensures.0 in
    let k = rw e at c.in-ColorTable.ensures in
    let a = c.of-at.ensures in
    let n = rw e at c.per_pixel-n.ensures in
    let s = stands_first c.args.self.now c.args.k c.requires.0 _ k (rw e at c.packed_width.ensures) c.args.q _ _ _ c.requires.1 a.column a.row n.0 in
    (omega (arith, c.decreases, n.1.most), (s, (k, omega (arith, n.0))))

pub after-returns-in-ColorTable : goal.after-returns-in-ColorTable
after-returns-in-ColorTable t c =
    let e = c.record-record.ensures.0 in
    let a = c.of-at.ensures in
    table_next c.args.self.now c.args.k (rw e at c.in-ColorTable.ensures) c.args.q _ _ _ _ _ (rw e at c.packed_width.ensures) (rw e at c.per_pixel-n.ensures.0) a.column a.row c.packed.ensures

pub packed-returns-then-width-at : goal.packed-returns-then-width-at
packed-returns-then-width-at t c =
    let e = c.record-record.ensures in
    let n = c.entries-entries.ensures in
    record_last c.args.self.now c.args.k c.requires.kind _ c.args.n (c.args.n - 1) _ _ _ _ (omega (arith, c.if-n-eq0.false)) (omega (arith, rw e.0 at c.if-width-at.true, c.requires.stands.column))
    (rw (n.0, n.1, e.0, e.2) at c.repeated.ensures)
    (omega arith)
    (rw (c.index.ensures, e.0) at c.item-first.ensures)

pub packed-joined-requires : goal.packed-joined-requires
packed-joined-requires t c =
    let p = c.args.self.now in
    let r = c.requires in
    let e = c.record-record.ensures.0 in
    rw (c.entries-entries.ensures.0, e)
    (record_room p c.args.k r.kind ((p.opened.valid.step _ r.stands.step).table r.kind).most _ (c.args.n - 1) _ _ c.packed.ensures (omega (arith, r.few, c.if-n-eq0.false)) (rw e at c.if-width-at.false))

pub packed-returns : goal.packed-returns
packed-returns t c =
    let e = c.record-record.ensures in
    let n = c.entries-entries.ensures in
    record_next c.args.self.now c.args.k c.requires.kind _ _ _ _ _ _ _ (omega (arith, c.if-n-eq0.false)) c.requires.stands.column
    (rw (n.0, n.1, e.0, e.2) at c.joined.ensures)
    (rw (c.index.ensures, e.0) at c.item-first.ensures)
    c.packed.ensures

pub residual-returns : goal.residual-returns
residual-returns t c =
    let a = c.place-at.ensures in
    let e = c.record.ensures in
    let b = c.blocks-2.ensures in
    residual_next c.args.self.now c.args.k c.requires.kind c.args.q _ _ _ _ _ _ _ _ a.column a.row (rw (b.0, b.2, b.3, e.0, e.2) at c.mode_at-mode.ensures) c.residual_of.ensures c.item.ensures c.neighbor.ensures c.neighbor-2.ensures c.neighbor-3.ensures c.neighbor-4.ensures
