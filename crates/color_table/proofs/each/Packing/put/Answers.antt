-- `put` meets its contract: the front, and the records after it.
use mathlib.Core.Bool.{true≢false}
use mathlib.Core.Path.{◌≡◌, refl, sym, ◌∙◌}
use Prim.Native.Nat.{ℕ}
use native.Mathlib.Omega.{arith}
use Rattle.std.specs.Int.{div_ceil}
use Rattle.format.specs.Picture.{ceiling}
use Rattle.format.specs.ColorTable.{per_pixel, packed_width}
use Rattle.pixel.proofs.Places.{by_places}
use Rattle.pixel.proofs.Given.{front_done}
use Rattle.pixel.proofs.Rows.{run_then}
use Rattle.color_table.specs.declared.each.Packing.{Packing}
use Rattle.color_table.specs.Packed.{width_of, record_count}
use Rattle.color_table.proofs.Digits.{base_in}
use Rattle.color_table.proofs.each.Packing.put.Goals as goal

all : (width n size : ℕ) → n ≡ per_pixel size → ceiling width n ≡ packed_width size width
all width n size e = rw e refl

divided : {n : ℕ} (p : Packing n) (w : ℕ) → w ≡ width_of p → div_ceil w n ≡ record_count p
divided {n} p w q =
    rw q
    (by_places (λ m. div_ceil (width_of p) m ≡ ceiling (width_of p) m) (omega arith) (omega arith) (omega arith) (omega arith) n (base_in p).places)
    ∙ all (width_of p) n p.lookup.now.entries.size p.packs.places

pub put_each-requires : goal.put_each-requires
put_each-requires g c =
    let d = c.div_ceil.ensures ∙ divided c.args.self.now _ c.width.ensures in
    let f = c.put_front-from.ensures.0 in
    (omega arith, ((omega arith, omega arith, omega arith), λ inside. absurd (true≢false (sym inside))))

pub returns : goal.returns
returns g c =
    let d = c.div_ceil.ensures ∙ divided c.args.self.now _ c.width.ensures in
    let f = c.put_front-from.ensures in
    let l = f.0 in
    front_done _ _ _ _ _ (run_then _ _ _ _ _ _ _ f.1 c.put_each.ensures refl) (omega arith) c.requires
