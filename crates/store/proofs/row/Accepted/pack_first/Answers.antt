-- `pack_first` meets its contract.
use mathlib.Core.Path.{◌≡◌, ◌∙◌}
use Prim.Native.Nat.{◌/◌}
use native.Mathlib.Omega.{arith}
use lib.ListN.{length}
use Rattle.format.specs.Stages.{stored}
use Rattle.store.specs.Made.{chain_of, picture_of}
use Rattle.store.proofs.Stages.{takes_row}
use Rattle.store.proofs.Tables.{looked, looked_width}
use Rattle.store.proofs.Packed.{packed_row}
use Rattle.store.proofs.Advance.{table_made}
use Rattle.store.proofs.row.Accepted.pack_first.Goals as goal

pub pack_row-requires-clause-fits : goal.pack_row-requires-clause-fits
pack_row-requires-clause-fits c =
    let v = chain_of c.args.self.now in
    let t = c.requires.first.0 in
    let n = looked_width _ _ _ c.lookup.ensures t.kind _ (v.valid.width 0 t.below) in
    let q : length c.picture_row.result.now / 4 ≡ v.chain.width.0 = omega (arith, c.picture_row.ensures.1) in
    rw q (v.valid.sized.wide, v.valid.sized.narrow, omega (arith, n, c.requires.inside.1))

pub pack_row-requires-clause-taken : goal.pack_row-requires-clause-taken
unfolding stored
pack_row-requires-clause-taken c =
    let a = c.args.self.now in
    let v = chain_of a in
    let t = c.requires.first.0 in
    let q : length c.picture_row.result.now / 4 ≡ v.chain.width.0 = omega (arith, c.picture_row.ensures.1) in
    rw q (looked _ _ _ c.lookup.ensures _ _)
    ∙ (rw (v.valid.width 0 t.below) at (takes_row v a.count a.few (picture_of a) 0 c.args.y _ a.accepts c.requires.first.1 c.requires.inside.0 c.picture_row.ensures.0 t.kind))

pub returns : goal.returns
unfolding stored
returns c =
    let a = c.args.self.now in
    let v = chain_of a in
    let t = c.requires.first.0 in
    let w = v.valid.width 0 t.below in
    let k = c.lookup.ensures in
    let q : length c.picture_row.result.now / 4 ≡ v.chain.width.0 = omega (arith, c.picture_row.ensures.1) in
    table_made v 0 c.args.y (picture_of a) c.picture_row.result.now c.pack_row.new.out t.kind
    (rw w (rw (k.size, k.entries) at (packed_row _ _ _ _ _ _ (rw q at c.pack_row.ensures)))) (rw w c.picture_row.ensures.0)
