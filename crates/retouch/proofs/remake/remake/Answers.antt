-- `remake` meets its contract.
use mathlib.Core.Path.{refl, sym, ◌∙◌}
use native.Mathlib.Omega.{arith}
use lib.ListN.{length-set}
use Rattle.item.proofs.Items.{made-item}
use Rattle.retouch.proofs.Making.{passed_made, passed_past, remade_missing, remade_all, to_made, to_past}
use Rattle.retouch.proofs.remake.remake.Goals.{then-r-records+in_ok-made, else-r-records}
use Rattle.retouch.proofs.remake.remake.Goals as goal

pub returns-in_err-made : goal.returns-in_err-made
returns-in_err-made c =
    let l = c.loop-k in
    let rs = c.as_slice-records in
    rw c.from_residual.ensures
    (record {
      made = rw rs.ensures.0 at (remade_missing c.args.painted.now.opened _ rs.result.now l.k l.invariant.0 _ (omega arith) (omega (arith, c.records.ensures.0, c.if-r-records.true)) c.item.ensures c.in_err-made.was);
      spots = tt;
    })

pub loop-k-preserved : goal.loop-k-preserved
loop-k-preserved c =
    let l = c.loop-k in
    let v = c.args.painted.now.opened in
    elim c.if-r-records.branch [
      | then-r-records+in_ok-made w ↦
          let e = sym w.in_ok-made.was ∙ w.item.ensures in
          rw w.made-is (passed_made v _ _ l.k l.invariant.0 (omega arith) _ e, to_made _ _ _ _ _ _ l.invariant.1 (omega arith) (made-item _ _ _ e).1, rw length-set l.invariant.2)
      | else-r-records w ↦
          let past = rw c.records.ensures.0 at w.if-r-records.false in
          rw w.made-is (passed_past v _ _ l.k l.invariant.0 (omega arith) past, to_past _ _ _ _ _ l.invariant.1 past, l.invariant.2)
    ]

pub returns : goal.returns
returns c =
    let l = c.loop-k in
    let rs = c.as_slice-records in
    record {
      made = rw (← rs.ensures.0) (remade_all c.args.painted.now.opened _ rs.result.now l.k l.invariant.0 (omega (arith, l.auto.k-end)) _ l.invariant.1 _ refl);
      spots = refl;
    }
