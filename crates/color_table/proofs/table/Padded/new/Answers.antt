-- `padded` meets its contract: before each turn the rows before i are entries, and those from i on are clear.
use mathlib.Core.Path.{refl}
use native.Mathlib.Omega.{arith}
use lib.ListN.{length-set}
use Rattle.color_table.proofs.Entries.{no_entry, entries_more, clear_more}
use Rattle.color_table.proofs.table.Padded.new.Goals as goal

pub loop-i-init : goal.loop-i-init
loop-i-init c = record { long = refl; entries = λ j l. absurd (omega arith); clear_after = λ j l. no_entry j }

pub loop-i-preserved : goal.loop-i-preserved
loop-i-preserved c =
    let l = c.loop-i in
    record {
      long = simp length-set l.invariant.long;
      entries = entries_more _ _ _ _ _ l.invariant.entries c.from.ensures c.at.ensures (omega arith);
      clear_after = clear_more _ _ _ l.invariant.clear_after;
    }
