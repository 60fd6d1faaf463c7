-- `store` meets its contract.
use mathlib.Core.Path.{sym}
use Rattle.store.proofs.Answers.{answered}
use Rattle.store.proofs.store.store.Goals as goal

pub returns : goal.returns
returns c =
    let k = c.in_ok-opened.ensures in
    let p = answered _ _ _ _ _ _ (sym k.refusal) c.in_ok-opened.opened k.opened c.new.result c.new.ensures _ _ c.store_strip.ensures in
    record { value = p.0; strip_after = p.1 }
