-- `retouch` meets its contract, test by test.
use Rattle.std.proofs.lemmas.Result.{err_from_is_err_and}
use Rattle.retouch.proofs.Answers.{refused_pair, refused_outside, answered}
use Rattle.retouch.proofs.retouch.retouch.Goals as goal

pub returns-in_err-opened : goal.returns-in_err-opened
returns-in_err-opened c =
    let p = err_from_is_err_and c.from_residual.result c.from_residual.ensures.1 in
    let a = refused_pair _ _ _ _ _ _ _ _ c.args.color _ c.in_err-opened.ensures.refusal in
    rw (p.1, p.2) (record { value = a.0; picture_after = a.1.0; strip_after = a.1.1 })

pub returns-then-width-at : goal.returns-then-width-at
returns-then-width-at c =
    let a = refused_outside _ _ _ _ _ _ _ _ c.args.color c.in_ok-opened.ensures.refusal c.then-width-at.either in
    record { value = a.0; picture_after = a.1.0; strip_after = a.1.1 }

pub returns : goal.returns
returns c =
    let r = c.retouch_valid.ensures in
    let a = answered _ _ _ _ _ _ _ _ _ c.in_ok-opened.ensures.refusal _ c.in_ok-opened.ensures.opened c.if-width-at.false c.if-height-at.false _ c.index.ensures _ _ _ r.value r.picture_after r.strip_after in
    record { value = a.0; picture_after = a.1.0; strip_after = a.1.1 }
