-- `advance` meets its contract, kind by kind.
use mathlib.Core.Path.{refl, ◌∙◌}
use native.Mathlib.Omega.{arith}
use Rattle.pixel.proofs.Part.{pixel_before}
use Rattle.std.proofs.lemmas.List.Edits.{length-between}
use Rattle.store.proofs.Lent.{back_length}
use Rattle.store.proofs.Advance.{advanced_0, advanced_1, advanced_2, advanced_3}
use Rattle.store.proofs.storing.Storing.advance.Goals as goal

pub invariant_of-scratch-in-ColorTable : goal.invariant_of-scratch-in-ColorTable
invariant_of-scratch-in-ColorTable c =
    let s = c.args.scratch.now in
    let free = length-between s.rows 65536 131072 (omega (arith, s.two)) in
    record {
      one = c.pack_accepted.auto.row ∙ s.one;
      two = back_length 65536 65536 s.rows c.pack_accepted.new.free (omega (arith, s.two)) (c.pack_accepted.auto.free ∙ free) ∙ s.two;
    }

pub returns-in-Predictor : goal.returns-in-Predictor
returns-in-Predictor c =
    let r = c.record-record.ensures in
    let b = c.blocks-in-Predictor.ensures in
    let p = c.predict_row.ensures in
    advanced_0 c.args.self.now.opened c.args.k _ _ _ _ _ (rw r.0 at c.in-Predictor.ensures) (rw (b.0, b.2, b.3, r.0, r.2) at p.made) (rw (b.0, r.0) at p.left)

pub returns-in-Color : goal.returns-in-Color
returns-in-Color c =
    let r = c.record-record.ensures in
    let b = c.blocks-in-Color.ensures in
    advanced_1 c.args.self.now.opened c.args.k _ _ _ _ _ (λ x l. refl) (rw r.0 at c.in-Color.ensures) (rw (b.0, b.2, b.3, r.0, r.2) at c.store_row.ensures)

pub returns-in-SubtractGreen : goal.returns-in-SubtractGreen
returns-in-SubtractGreen c =
    let r = c.record-record.ensures in
    advanced_2 c.args.self.now.opened c.args.k _ _ _ _ _ (λ x l. refl) (rw r.0 at c.in-SubtractGreen.ensures) (rw r.0 at c.store_row-in-SubtractGreen.ensures)

pub returns-in-ColorTable : goal.returns-in-ColorTable
returns-in-ColorTable c =
    let s = c.args.scratch.now in
    let r = c.record-record.ensures in
    let k = c.lookup.ensures in
    advanced_3 c.args.self.now.opened c.args.k _ _ _ _ _ (λ x l. pixel_before 16384 65536 s.rows c.pack_accepted.new.free (omega (arith, s.two)) x l) (rw r.0 at c.in-ColorTable.ensures)
    (rw (r.0, k.size, k.entries) at c.pack_accepted.ensures)
