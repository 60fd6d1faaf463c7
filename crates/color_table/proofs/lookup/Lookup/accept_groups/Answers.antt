-- `accept_groups` meets its contract: before each turn the pixels before group g, and a, have an entry.
use mathlib.Core.Bool.{true}
use mathlib.Core.Path.{◌≡◌}
use Prim.Native.Nat.{◌+◌, ◌-◌, ◌*◌, ◌/◌}
use native.Mathlib.Omega.{arith}
use lib.ListN.{length}
use Rattle.format.specs.Picture.{pixels}
use Rattle.format.specs.ColorTable.{has_entry, have_entries}
use Rattle.format.proofs.Choice.{every_at}
use Rattle.color_table.proofs.Fronts.{entries_more}
use Rattle.color_table.proofs.Index.{entry_accepted, accepted_front, accepted_fewer}
use Rattle.color_table.proofs.lookup.Lookup.accept_groups.Goals as goal

pub loop-g-init : goal.loop-g-init
loop-g-init c =
    let p = c.pass-from.ensures in
    let t = c.args.self.now.some in
    let a = entry_accepted _ _ 0 _ c.at-a.ensures (omega arith) in
    let b = entry_accepted _ _ (c.args.self.now.entries.size - 1) _ c.at-last.ensures (omega arith) in
    let e : 16 * (c.pass-from.result / 16) ≡ c.pass-from.result = omega arith in
    record { before = rw e (accepted_front _ _ _ _ _ c.pass-from.result p.3 a b); has = a }

pub loop-g-preserved : goal.loop-g-preserved
loop-g-preserved c =
    let s = c.args.self.now.entries in
    let e = pixels s.bytes.now in
    let xs = c.args.row.now in
    let g = c.loop-g.g in
    let t : 16 * (g + 1) ≡ 16 * g + 16 = omega arith in
    let before : have_entries s.size e (16 * (g + 1)) (pixels xs) ≡ true =
    rw (t, entries_more s.size e (16 * g) 16 (64 * g) (64 * g + 64) xs (omega arith) (omega arith) (omega arith), c.loop-g.invariant.before, ← c.accept_group.ensures) c.if-not-accept_group.false in
    record {
      before = before;
      has = rw c.at-a-in-loop-g.ensures (every_at (16 * (g + 1)) (λ q. has_entry s.size e (pixels xs q)) (16 * g + 15) (omega arith) before);
    }

pub returns-then-not-accept_group : goal.returns-then-not-accept_group
returns-then-not-accept_group c =
    let s = c.args.self.now.entries in
    let e = pixels s.bytes.now in
    let xs = c.args.row.now in
    let g = c.loop-g.g in
    accepted_fewer s.size e (pixels xs) (16 * g + 16) (length xs / 4)
    (rw (entries_more s.size e (16 * g) 16 (64 * g) (64 * g + 64) xs (omega arith) (omega arith) (omega arith), c.loop-g.invariant.before, ← c.accept_group.ensures) c.if-not-accept_group.true)
    (omega arith)
