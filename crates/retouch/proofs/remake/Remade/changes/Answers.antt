-- `changes` meets its contract: a mask of at most five spots is below 32.
use mathlib.Core.Path.{sym}
use native.Mathlib.Omega.{arith}
use lib.ListN.{length-append}
use lib.Seq.{length-take-le}
use Rattle.retouch.proofs.Numbered.{numbered_turn}
use Rattle.retouch.proofs.Marked.{mask_more, mask_small, bit_fits}
use Rattle.retouch.proofs.remake.Remade.changes.Goals as goal

pub slice_bounds-mark-end : goal.slice_bounds-mark-end
slice_bounds-mark-end c =
    let t = numbered_turn c.as_slice-records.result.now c.args.self.now.made c.loop-k.yielded _ _ c.next.new.self _ (cc) (cc) (cc) c.loop-k.yielded_by _ c.in-Some.is c.next.ensures.steps in
    sym (length-take-le c.in-Some.k c.as_slice-records.result.now (omega (arith, t.0, t.2)))

pub loop-k-preserved : goal.loop-k-preserved
loop-k-preserved c =
    let e = c.as_slice-records.ensures in
    let t = numbered_turn c.as_slice-records.result.now c.args.self.now.made c.loop-k.yielded _ _ c.next.new.self _ (cc) (cc) (cc) c.loop-k.yielded_by _ c.in-Some.is c.next.ensures.steps in
    let k = t.2 in
    rw (length-append, ← e.0, k)
    (mask_more _ _ _ _ _ _ _ _ _ _ (rw (← e.0) at c.loop-k.invariant.0) t.0 (t.3 _) (t.4 _) (rw k at c.mark.ensures) (bit_fits _ _ _ c.from.ensures (omega (arith, t.0, e.1))), omega (arith, t.0, e.1))

pub invariant_of-result : goal.invariant_of-result
invariant_of-result c = record { below = mask_small _ _ c.loop-k.invariant.0.small c.loop-k.invariant.1 }
