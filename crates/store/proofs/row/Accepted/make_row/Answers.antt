-- `make_row` meets its contract: before each turn the row is that of stage k.
use mathlib.Core.Path.{◌≡◌}
use Prim.Native.Nat.{suc, ◌+◌}
use native.Mathlib.Omega.{arith}
use Rattle.store.specs.Made.{chain_of, picture_of}
use Rattle.store.proofs.Stages.{takes_row, row_next, above_next}
use Rattle.store.proofs.row.Accepted.make_row.Goals as goal

pub advance-requires : goal.advance-requires
advance-requires c =
    let a = c.args.self.now in
    let l = c.loop-k in
    (omega (arith, a.few), c.requires.0, takes_row (chain_of a) a.count a.few (picture_of a) l.k _ _ a.accepts (omega arith) c.requires.0 l.invariant.0)

pub loop-k-preserved : goal.loop-k-preserved
loop-k-preserved c =
    let a = c.args.self.now in
    let l = c.loop-k in
    let e : l.k + 1 ≡ suc l.k = omega arith in
    let i = l.invariant in
    let d = c.advance.ensures in
    let v = chain_of a in
    let f = picture_of a in
    (rw e (row_next v a.count a.few f l.k _ (omega arith) _ _ _ _ i.0 i.1 d), rw e (above_next v a.count a.few f l.k _ (omega arith) _ _ _ _ i.0 i.1 d))
