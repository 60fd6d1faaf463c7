-- `put_fours` meets its contract: before each turn the first 4 * k records are there.
use mathlib.Core.Path.{◌≡◌}
use Prim.Native.Nat.{ℕ, ◌+◌, ◌*◌, ◌/◌, ◌≤◌}
use native.Mathlib.Omega.{arith}
use Rattle.pixel.proofs.Given.{given_none}
use Rattle.pixel.proofs.Rows.{run_then}
use Rattle.format.specs.ColorTable.{per_pixel, packed_width}
use Rattle.color_table.specs.Packed.{record_count}
use Rattle.color_table.proofs.Digits.{base_in}
use Rattle.color_table.proofs.Records.{columns_count, fours_inside, whole_records}
use Rattle.color_table.proofs.flat.Flat.put_fours.Goals as goal

-- these records are inside the row
inside : (width n size : ℕ) → n ≡ per_pixel size → 1 ≤ n → width / (4 * n) * 4 ≤ packed_width size width
inside width n size e s = whole_records width n size _ e s (fours_inside width n _ (omega arith))

pub loop-k-init : goal.loop-k-init
loop-k-init g c = given_none _ _ _

pub put_four-requires : goal.put_four-requires
put_four-requires g c =
    let p = c.args.self.now.packing.now in
    let w = rw c.width.ensures at (fours_inside c.width.result.0 g.row.N (4 * c.loop-k.k + 4) (omega arith)) in
    let r = columns_count p (4 * c.loop-k.k + 4) w in
    (omega arith, (w, omega arith))

pub loop-k-preserved : goal.loop-k-preserved
loop-k-preserved g c =
    run_then _ _ _ _ _ _ _ c.loop-k.invariant c.put_four.ensures (omega arith)

pub returns : goal.returns
returns g c =
    let p = c.args.self.now.packing.now in
    let w = c.width.result.0 in
    let e : 4 * c.loop-k.k ≡ 4 * (w / (4 * g.row.N)) = omega arith in
    let i : w / (4 * g.row.N) * 4 ≤ record_count p = rw (← c.width.ensures) (inside w g.row.N p.lookup.now.entries.size p.packs.places (base_in p).places.some) in
    (omega (arith, i), rw e at c.loop-k.invariant)
