-- `put_runs` meets its contract: before each turn the records of the groups that are packed are there.
use Prim.Native.Nat.{◌≤◌, ◌-◌, ◌*◌, ◌/◌}
use Rattle.color_table.specs.Packed.{RecordsOf}
use Rattle.color_table.specs.Pack.{LastOf}
use Rattle.color_table.proofs.each.Packing.put_runs.Given as goal

abbrev pub invariant-loop-last : goal.invariant-loop-last
invariant-loop-last g l =
    record {
      inside : l.last.groups ≤ l.groups;
      last : LastOf l.self l.last;
      packed : RecordsOf l.self 0 (l.last.groups * (16 / g.row.N)) l.initial.out l.out;
    }

abbrev pub decreases-loop-last : goal.decreases-loop-last
decreases-loop-last g l = l.groups - l.last.groups
