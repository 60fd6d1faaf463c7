-- What a record of each kind does.
use mathlib.Core.Bool.{true}
use mathlib.Core.List.{List}
use mathlib.Core.Path.{◌≡◌, refl}
use Prim.Native.Nat.{ℕ, zero, suc, ◌*◌, ◌≤◌}
use native.Mathlib.Omega.{arith}
use borrow.Author.Tests.{ne_eqb}
use Rattle.format.specs.declared.Step.{Step}
use Rattle.format.specs.Picture.{Picture}
use Rattle.format.specs.Predictor.{residuals, from_residuals}
use Rattle.format.specs.Color.{color_stored, color_rebuilt}
use Rattle.format.specs.SubtractGreen.{green_stored, green_rebuilt}
use Rattle.format.specs.ColorTable.{packed, unpacked, have_entries, packed_width}
use Rattle.format.specs.Chain.{by_kind, narrowed}
use Rattle.format.specs.Stages.{part_of, forward, backward, takes}

-- a kind is one of four
pub kinds : {A : Type 0} (k : ℕ) → k ≤ 3 → (k ≡ 0 → A) → (k ≡ 1 → A) → (k ≡ 2 → A) → (k ≡ 3 → A) → A
kinds zero l a b c d = a refl
kinds (suc zero) l a b c d = b refl
kinds (suc (suc zero)) l a b c d = c refl
kinds (suc (suc (suc k))) l a b c d = d (omega arith)

module _ {A : Type 0} (predictor color green table : A) (k : ℕ) where
  pub by_kind_0 : k ≡ 0 → by_kind k predictor color green table ≡ predictor
  unfolding by_kind
  by_kind_0 e = rw e

  pub by_kind_1 : k ≡ 1 → by_kind k predictor color green table ≡ color
  unfolding by_kind
  by_kind_1 e = rw e

  pub by_kind_2 : k ≡ 2 → by_kind k predictor color green table ≡ green
  unfolding by_kind
  by_kind_2 e = rw e

  pub by_kind_3 : k ≡ 3 → by_kind k predictor color green table ≡ table
  unfolding by_kind
  by_kind_3 e = rw e

-- kinds 0 and 1 alike: those with a data pixel for each block
pub by_kind_blocks : {A : Type 0} (blocks green table : A) (k : ℕ) → k ≤ 1 → by_kind k blocks blocks green table ≡ blocks
by_kind_blocks a c d zero l = by_kind_0 a a c d 0 refl
by_kind_blocks a c d (suc k) l = by_kind_1 a a c d (suc k) (omega arith)

-- storing and rebuilding

module _ (s : Step) (ds : List ℕ) (f : Picture) where
  pub forward_0 : s.kind ≡ 0 → forward s ds f ≡ residuals s.width s.bits (part_of s ds) f
  unfolding forward
  forward_0 e = by_kind_0 _ _ _ _ s.kind e

  pub forward_1 : s.kind ≡ 1 → forward s ds f ≡ color_stored s.width s.bits (part_of s ds) f
  unfolding forward
  forward_1 e = by_kind_1 _ _ _ _ s.kind e

  pub forward_2 : s.kind ≡ 2 → forward s ds f ≡ green_stored f
  unfolding forward
  forward_2 e = by_kind_2 _ _ _ _ s.kind e

  pub forward_3 : s.kind ≡ 3 → forward s ds f ≡ packed s.width s.size (part_of s ds) f
  unfolding forward
  forward_3 e = by_kind_3 _ _ _ _ s.kind e

module _ (s : Step) (h : ℕ) (ds : List ℕ) (g : Picture) where
  pub backward_0 : s.kind ≡ 0 → backward s h ds g ≡ from_residuals s.width s.bits (part_of s ds) (h * s.width) g
  unfolding backward
  backward_0 e = by_kind_0 _ _ _ _ s.kind e

  pub backward_1 : s.kind ≡ 1 → backward s h ds g ≡ color_rebuilt s.width s.bits (part_of s ds) g
  unfolding backward
  backward_1 e = by_kind_1 _ _ _ _ s.kind e

  pub backward_2 : s.kind ≡ 2 → backward s h ds g ≡ green_rebuilt g
  unfolding backward
  backward_2 e = by_kind_2 _ _ _ _ s.kind e

  pub backward_3 : s.kind ≡ 3 → backward s h ds g ≡ unpacked s.width s.size (part_of s ds) g
  unfolding backward
  backward_3 e = by_kind_3 _ _ _ _ s.kind e

  -- a table's record takes what the table accepts
  pub takes_table : s.kind ≡ 3 → takes s h ds g ≡ have_entries s.size (part_of s ds) (h * s.width) g
  unfolding takes
  takes_table e = rw e

  pub takes_other : (s.kind ≡ 3 → ⊥) → takes s h ds g ≡ true
  unfolding takes
  takes_other n = rw (ne_eqb s.kind 3 n)

-- widths

pub narrowed_table : (s : Step) → s.kind ≡ 3 → narrowed s ≡ packed_width s.size s.width
unfolding narrowed
narrowed_table s e = rw e

pub narrowed_other : (s : Step) → (s.kind ≡ 3 → ⊥) → narrowed s ≡ s.width
unfolding narrowed
narrowed_other s n = rw (ne_eqb s.kind 3 n)
