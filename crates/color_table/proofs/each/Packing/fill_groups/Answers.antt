-- `fill_groups` meets its contract: before each turn the groups before g are the last pixel, and have its record.
use mathlib.Core.Path.{◌≡◌}
use native.Mathlib.Omega.{arith}
use Prim.Native.Nat.{◌+◌, ◌*◌, ◌/◌, ◌-◌}
use Rattle.color_table.specs.Pack.{plain}
use Rattle.color_table.proofs.Index.{all_more}
use Rattle.color_table.proofs.Records.{groups_none, group_next}
use Rattle.color_table.proofs.each.Packing.fill_groups.Goals as goal

pub loop-g-init : goal.loop-g-init
loop-g-init g c = record { all = λ q l u. absurd (omega arith); wrote = groups_none _ _ _ _ }

pub loop-g-preserved : goal.loop-g-preserved
unfolding plain
loop-g-preserved g c =
    let l = c.loop-g in
    let m = 16 / g.row.N in
    let z : l.g * m + m - l.g * m ≡ m = omega arith in
    record {
      all = all_more _ _ _ l.g l.invariant.all (c.group_of.ensures c.if-not-group_of.false);
      wrote = group_next _ _ _ l.g _ _ _ l.invariant.wrote (rw z at (c.fill.ensures (plain c.args.last.now.packed) (λ i v a b post. post))) l.auto.g;
    }
