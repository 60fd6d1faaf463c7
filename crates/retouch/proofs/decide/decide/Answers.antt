-- `decide` meets its contract: 22, or the mask of the records that were made.
use Rattle.std.specs.Prelude.{Some, None}
use Rattle.format.specs.declared.Refusal.TheVariants.{NoRecord}
use mathlib.Core.Path.{◌≡◌}
use native.Mathlib.Omega.{arith}
use Rattle.std.proofs.lemmas.Result.{err_from_is_err_and}
use Rattle.retouch.proofs.Marked.{mask_lent}
use Rattle.retouch.proofs.Deciding.{decided_refused, decided_made}
use Rattle.retouch.proofs.decide.decide.Goals as goal

pub returns-in_err-remade : goal.returns-in_err-remade
returns-in_err-remade c =
    let p = err_from_is_err_and c.from_residual.result c.from_residual.ensures.1 in
    let n : c.remake.result ≡ None = grind arith in
    let e : c.in_err-remade.field-0.0 ≡ NoRecord = grind arith in
    rw (p.1, p.2, e) (decided_refused c.args.painted.now.opened _ _ _ c.spots_of.result c.spots_of.ensures (rw n at c.remake.ensures.made))

pub returns : goal.returns
returns c =
    let n : c.remake.result ≡ Some c.in_ok-remade.remade = grind arith in
    let r = rw n at c.remake.ensures in
    let m = mask_lent _ _ _ _ _ _ (omega (arith, c.records.ensures.0)) c.requires.strip c.changes-changes.ensures in
    decided_made c.args.painted.now.opened _ _ _ c.spots_of.result c.spots_of.ensures _ r.spots r.made _ m
