-- `index` meets its contract: before each turn r counts the entries before j that come before the pixel's.
use Prim.Native.Nat.{ℕ, ◌+◌, ◌-◌, ◌*◌, ◌/◌, ◌%◌, ◌^◌, ◌<◌, ◌≤◌}
use native.Mathlib.Omega.{arith}
use Rattle.color_table.specs.declared.flat.Flat.{Flat}
use Rattle.color_table.proofs.Digits.{base_in, range_shift}
use Rattle.color_table.proofs.Index.{found_more, before_more}
use Rattle.color_table.proofs.Records.{index_there, index_is}
use Rattle.color_table.proofs.flat.Flat.index.Goals as goal

-- the entries that are compared are all or all but the last
module _ {n : ℕ} (t : Flat n) where
  some : (j : ℕ) → j < 1 * 2 ^ (8 / n) % 18446744073709551616 - 1 → j < t.packing.now.lookup.now.entries.size
  some j l =
      let p = t.packing.now in
      let b = base_in p in
      let k = rw (range_shift n b.places) at l in
      let u = b.pairs p.lookup.now.some t.few in
      omega arith

  all : (j : ℕ) → 1 * 2 ^ (8 / n) % 18446744073709551616 - 1 ≤ j → t.packing.now.lookup.now.entries.size ≤ j + 1
  all j l =
      let b = base_in t.packing.now in
      let k = rw (range_shift n b.places) at l in
      let f = b.fits in
      omega arith

pub at-requires : goal.at-requires
at-requires g c =
    let t = c.args.self.now.packing.now.lookup.now.entries.there in
    omega (arith, some c.args.self.now c.loop-j.j c.loop-j-test.true)

pub loop-j-preserved : goal.loop-j-preserved
loop-j-preserved g c =
    let l = c.loop-j in
    let has = index_there c.args.self.now.packing.now _ _ c.at-w.ensures c.requires in
    let f = found_more _ _ _ has l.j _ _ _ l.invariant.passed c.at.ensures c.eq-found.ensures (some c.args.self.now l.j c.loop-j-test.true) in
    record { passed = f; counted = before_more _ l.j _ _ _ l.invariant.counted f c.from-r.ensures }

pub returns : goal.returns
returns g c =
    let p = c.args.self.now.packing.now in
    let has = index_there p _ _ c.at-w.ensures c.requires in
    let a = all c.args.self.now c.loop-j.j c.loop-j-test.false in
    index_is p _ _ c.at-w.ensures c.requires _ (omega arith)
