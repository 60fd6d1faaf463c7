-- `write` meets its contract.
use mathlib.Core.Path.{◌≡◌}
use native.Mathlib.Omega.{arith}
use lib.ListN.{length, length-append}
use Rattle.std.proofs.lemmas.Slice.Zip.{zip_turn}
use Rattle.retouch.proofs.Writing.{to_none, to_written, to_past}
use Rattle.retouch.proofs.remake.Remade.write.Goals as goal

pub loop-r-init : goal.loop-r-init
loop-r-init c = to_none _ _ _ _ (omega arith)

pub loop-r-preserved-then-r-strip : goal.loop-r-preserved-then-r-strip
loop-r-preserved-then-r-strip c =
    let e = c.as_slice.ensures.0 in
    let t = zip_turn c.as_slice.result.now c.args.self.now.made c.loop-r.yielded _ _ c.next.new.self _ (cc) (cc) c.loop-r.yielded_by _ c.in-Some.is c.next.ensures.steps in
    let full : length c.loop-r.strip ≡ length c.args.strip.now = c.loop-r.auto.strip in
    rw (length-append, ← e) (to_written _ _ _ _ _ _ _ _ _ (rw (← e) at c.loop-r.invariant) t.0 (t.2 0) (t.3 _) (rw full at c.if-r-strip.true) c.put_pixel.ensures)

pub loop-r-preserved : goal.loop-r-preserved
loop-r-preserved c =
    let e = c.as_slice.ensures.0 in
    let t = zip_turn c.as_slice.result.now c.args.self.now.made c.loop-r.yielded _ _ c.next.new.self _ (cc) (cc) c.loop-r.yielded_by _ c.in-Some.is c.next.ensures.steps in
    let full : length c.loop-r.strip ≡ length c.args.strip.now = c.loop-r.auto.strip in
    rw (length-append, ← e) (to_past _ _ _ _ _ _ _ (rw (← e) at c.loop-r.invariant) t.0 (t.2 0) (rw full at c.if-r-strip.false))
