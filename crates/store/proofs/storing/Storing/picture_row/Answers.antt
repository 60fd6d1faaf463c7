-- `picture_row` meets its contract.
use Prim.Native.Nat.{◌≤◌}
use native.Mathlib.Omega.{arith}
use lib.ListN.{length}
use Rattle.pixel.proofs.Blocks.{row_there}
use Rattle.store.proofs.Copied.{part_length, lent_row}
use Rattle.store.proofs.storing.Storing.picture_row.Goals as goal

pub returns : goal.returns
returns c =
    let s = c.args.self.now in
    let w = s.opened.chain.width.0 in
    let e = c.row_bytes.ensures in
    let room : c.row_bytes.result.end ≤ length s.picture.now = omega (arith, e.1, row_there w s.opened.chain.height c.args.y c.requires, s.held) in
    (lent_row _ w _ _ _ e.0 e.1 room, part_length _ w _ _ _ e.0 e.1 room)
