-- `start_row` meets its contract.
use mathlib.Core.List.{List}
use mathlib.Core.Path.{ap, ◌∙◌}
use Prim.Native.Nat.{ℕ}
use native.Mathlib.Omega.{arith}
use lib.ListN.{length}
use Rattle.format.proofs.Written.{pixels_same}
use Rattle.chain.proofs.Valid.{after_fits}
use Rattle.store.specs.Made.{chain_of, picture_of}
use Rattle.store.proofs.Lent.{pixel_first}
use Rattle.store.proofs.Stages.{started_none}
use Rattle.store.proofs.row.Accepted.start_row.Goals as goal

pub pack_first-requires-clause-inside : goal.pack_first-requires-clause-inside
pack_first-requires-clause-inside c =
    let t = c.table_first.ensures c.if-table_first.true in
    let p = c.requires in
    (p.0, omega (arith, after_fits _ _ (chain_of c.args.self.now).valid 1 t.below, p.1))

pub returns : goal.returns
returns c =
    let a = c.args.self.now in
    let r = c.picture_row-from.ensures in
    let z = c.copy_row.new.to in
    let e = c.copy_row.ensures in
    let n = (chain_of a).valid.sized.narrow in
    let o = c.requires.1 in
    started_none (chain_of a) (picture_of a) a.count _ _
    (λ x l. pixel_first z _ x (let full = ap (λ (ys : List ℕ). length ys) e in omega arith)
    ∙ pixels_same e x
    ∙ r.0 x l)
