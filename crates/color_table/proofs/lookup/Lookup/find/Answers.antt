-- `find` meets its contract: before each turn every entry that equals w is reached from i.
use mathlib.Core.Path.{sym, ◌∙◌}
use Prim.Native.Nat.{◌+◌}
use Rattle.std.proofs.lemmas.Bool.{not-true, not-false}
use Rattle.color_table.proofs.Hints.{leads_link, leads_found, leads_none}
use Rattle.color_table.proofs.lookup.Lookup.find.Goals as goal

pub returns-then-i-eq0 : goal.returns-then-i-eq0
returns-then-i-eq0 c =
    let l = c.loop-w in
    let n = rw c.at.ensures at (not-true _ (sym c.ne.ensures ∙ c.loop-w-test.true)) in
    leads_none _ _ _ c.args.self.now.hinted _ l.i l.invariant.leads n c.if-i-eq0.true

pub loop-w-preserved : goal.loop-w-preserved
loop-w-preserved c =
    let l = c.loop-w in
    let h = c.args.self.now.hinted in
    let n = rw c.at.ensures at (not-true _ (sym c.ne.ensures ∙ c.loop-w-test.true)) in
    record { inside = h.below (4096 + l.i); leads = leads_link _ _ _ h _ l.i l.invariant.leads n }

pub returns : goal.returns
returns c =
    let l = c.loop-w in
    let e = rw c.at.ensures at (not-false _ (sym c.ne.ensures ∙ c.loop-w-test.false)) in
    leads_found _ _ _ c.args.self.now.hinted _ l.i l.invariant.leads l.invariant.inside e
