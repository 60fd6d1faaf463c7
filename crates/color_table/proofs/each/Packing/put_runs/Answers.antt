-- `put_runs` meets its contract: before each turn the records of the groups that are packed are there.
use mathlib.Core.Path.{◌≡◌}
use Prim.Native.Nat.{ℕ, ◌≤◌, ◌*◌, ◌/◌}
use native.Mathlib.Omega.{arith}
use Rattle.pixel.proofs.Rows.{no_rows}
use Rattle.color_table.specs.declared.each.Packing.{Packing}
use Rattle.color_table.specs.Packed.{width_of, record_count}
use Rattle.color_table.proofs.Digits.{base_in}
use Rattle.color_table.proofs.Records.{groups_inside, groups_then}
use Rattle.color_table.proofs.each.Packing.put_runs.Goals as goal

-- the groups' records are inside the row
inside : {n : ℕ} (p : Packing n) (w : ℕ) → w ≡ width_of p → w / 16 * (16 / n) ≤ record_count p
inside p w q = groups_inside _ _ (base_in p).group _ _ _ p.packs.places p.packs.some (omega arith)

pub loop-last-init : goal.loop-last-init
loop-last-init g c =
    let e = c.last_of-last.ensures in record { inside = omega arith; last = e.1; packed = rw e.0 (no_rows _ _ _) }

pub pack_run-last-requires : goal.pack_run-last-requires
pack_run-last-requires g c =
    let i = inside c.args.self.now _ c.width-groups.ensures in let l = c.loop-last in (omega arith, ((omega arith, omega arith, omega arith), l.invariant.last))

pub loop-last-preserved : goal.loop-last-preserved
loop-last-preserved g c =
    let l = c.loop-last in
    let p = c.pack_run-last in
    let e = p.ensures in
    record { inside = e.1; last = e.2; packed = groups_then _ _ _ _ _ _ _ l.invariant.packed e.3 (omega arith) }

pub returns : goal.returns
returns g c =
    let w = c.width-groups in
    let z : c.loop-last.last.groups ≡ w.result.0 / 16 = omega arith in
    (inside c.args.self.now _ w.ensures, rw z at c.loop-last.invariant.packed)
