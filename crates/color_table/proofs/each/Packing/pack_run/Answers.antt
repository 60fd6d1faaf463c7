-- `pack_run` meets its contract: the groups that are the last pixel again have its record, and the one after them is
-- packed.
use mathlib.Core.List.{List}
use mathlib.Core.Path.{◌∙◌}
use Prim.Native.Nat.{ℕ, ◌+◌, ◌*◌, ◌/◌, ◌<◌, ◌≤◌}
use native.Mathlib.Nat.{mul-le-mul_right}
use native.Mathlib.Omega.{arith}
use Rattle.format.specs.Picture.{pixels}
use Rattle.pixel.proofs.Given.{given_same}
use Rattle.color_table.specs.declared.each.Packing.{Packing}
use Rattle.color_table.specs.declared.runs.Last.{Last}
use Rattle.color_table.specs.Packed.{width_of, GroupsOf}
use Rattle.color_table.specs.Pack.{LastOf, Filled}
use Rattle.color_table.proofs.Digits.{base_in}
use Rattle.color_table.proofs.Records.{groups_whole, record_again, group_next}
use Rattle.color_table.proofs.each.Packing.pack_run.Goals as goal

-- what was filled is the row's records
filled : {n : ℕ} (p : Packing n) (last : Last) (r : ℕ) (xs ys : List ℕ) → LastOf p last → 16 * r ≤ width_of p → last.groups ≤ r → Filled n last r (pixels p.row.now) xs ys → GroupsOf p last.groups r xs ys
filled {n} p last r xs ys e l o h =
    let base = base_in p in
    let m = groups_whole (16 / n) last.groups r o in
    h.wrote
    ∙ given_same _ _ _ _ _ (λ q a b. record_again _ _ base.group _ _ last.groups r q _ _ _ _ h.all e p.packs.places base.places.some l a (omega arith))

-- the group after them is inside
turn : (m g groups : ℕ) → g < groups → (g + 1) * m ≤ groups * m
turn m g groups l = mul-le-mul_right {m = g + 1} {n = groups} m (omega arith)

pub returns-then-groups-g : goal.returns-then-groups-g
returns-then-groups-g g c =
    let f = c.fill_groups-g.ensures in
    (omega arith, f.1, c.requires.last, filled c.args.self.now c.args.last _ _ _ c.requires.last (omega arith) f.0 f.2)

pub returns : goal.returns
returns g c =
    let r = c.fill_groups-g.result in
    let f = c.fill_groups-g.ensures in
    let e = c.last_of.ensures in
    (omega arith, omega arith, e.1, rw e.0 (group_next _ _ _ r _ _ _ (filled c.args.self.now c.args.last r _ _ c.requires.last (omega arith) f.0 f.2) c.pack_group.ensures f.0))
