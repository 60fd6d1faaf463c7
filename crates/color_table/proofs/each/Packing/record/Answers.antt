-- `record` meets its contract: before each turn the byte holds the indices from k on.
use mathlib.Core.Path.{ap, ◌∙◌}
use Prim.Native.Nat.{ℕ, ◌-◌}
use native.Mathlib.Omega.{arith}
use Rattle.format.specs.Pixel.{pixel}
use Rattle.format.specs.Picture.{pixels}
use Rattle.color_table.proofs.Digits.{base_in, digits_start, digits_more, digits_all, small_start, small_next, small_all, shifted, shifted_small}
use Rattle.color_table.proofs.each.Packing.record.Goals as goal

pub loop-k-init : goal.loop-k-init
loop-k-init g c = record { small = small_start _ _; holds = λ h same. digits_start _ _ _ }

pub overflow_add-byte : goal.overflow_add-byte
overflow_add-byte g c =
    let b = base_in c.args.self.now in
    let l = c.loop-k in
    let s = shifted_small g.row.N l.byte b.places (small_all _ _ l.k l.byte l.invariant.small b.whole b.two) in
    let r = c.requires.small _ _ (omega arith) c.index.ensures in
    let m = b.most in
    omega arith

pub loop-k-preserved : goal.loop-k-preserved
loop-k-preserved g c =
    let b = base_in c.args.self.now in
    let n = g.row.N in
    let l = c.loop-k in
    let k = l.k in
    let s = shifted n l.byte b.places (small_all _ _ k l.byte l.invariant.small b.whole b.two) in
    let r = c.requires.small _ _ (omega arith) c.index.ensures in
    record {
      small = rw s (small_next _ n k (k - 1) l.byte _ l.invariant.small r (omega arith) (omega arith));
      holds = λ h same. rw s (digits_more _ n k (k - 1) l.byte _ h (l.invariant.holds h same) (same _ _ (omega arith) c.index.ensures) (omega arith) (omega arith));
    }

pub overflow_cast-byte-2 : goal.overflow_cast-byte-2
overflow_cast-byte-2 g c =
    let b = base_in c.args.self.now in
    let s = small_all _ _ c.loop-k.k c.loop-k.byte c.loop-k.invariant.small b.whole b.two in
    omega arith

pub returns : goal.returns
unfolding pixels
returns g c h same =
    c.from.ensures ∙ ap (λ (d : ℕ). pixel 0 d 0 255) (digits_all _ _ c.loop-k.k _ h (c.loop-k.invariant.holds h same) (omega arith))
