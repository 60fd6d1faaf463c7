-- Laws of a chain's stages: widths shrink, and each stage depends on the pixels inside alone.
use Rattle.std.specs.Prelude.{if◌then◌else◌}
use mathlib.Core.Bool.{Bool, true, false}
use mathlib.Core.List.{List}
use mathlib.Core.Path.{◌≡◌, refl, ap, subst}
use Prim.Native.Nat.{ℕ, zero, suc, ◌+◌, ◌-◌, ◌*◌, ◌<◌, ◌≤◌}
use native.Mathlib.Nat.{le_refl, le_trans, suc-mul, div-lt_iff_lt-mul, le_of_suc-le-suc, le-mul_of_pos_right, zero-add}
use native.Mathlib.Omega.{arith}
use lib.Dec.{eqb}
use Rattle.format.specs.declared.Step.{Step}
use Rattle.format.specs.Picture.{Picture, ceiling}
use Rattle.format.specs.ColorTable.{per_pixel, packed_width, has_entry}
use Rattle.format.specs.Chain.{record_at, narrowed, width_at, step_at}
use Rattle.format.specs.Stages.{part_of, forward, backward, takes, stored, rebuilt, accepts}
use Rattle.format.proofs.Choice.{if_same, every_same}
use Rattle.format.proofs.ColorTable.{per_pixel_pos, ceiling_pos}
use Rattle.format.proofs.Inside.{Alike, residuals_same, from_residuals_same, color_stored_same, color_rebuilt_same, green_stored_same, green_rebuilt_same, packed_same, unpacked_same}
use Rattle.format.proofs.ByKind.{kinds, forward_0, forward_1, forward_2, forward_3, backward_0, backward_1, backward_2, backward_3, narrowed_table, narrowed_other}

-- widths

ceiling_fewer : (w n : ℕ) → 0 < n → ceiling w n ≤ w
ceiling_fewer w n pos = le_of_suc-le-suc ((div-lt_iff_lt-mul pos).1 (omega (arith, suc-mul w n, le-mul_of_pos_right w pos)))

pub narrowed_fewer : (s : Step) → narrowed s ≤ s.width
unfolding narrowed
narrowed_fewer s = go (eqb s.kind 3)
  where
    go : (b : Bool) → (if b then packed_width s.size s.width else s.width) ≤ s.width
    go true = ceiling_fewer s.width (per_pixel s.size) (per_pixel_pos s.size)
    go false = le_refl s.width

pub narrowed_pos : (s : Step) → 1 ≤ s.width → 1 ≤ narrowed s
unfolding narrowed
narrowed_pos s pos = go (eqb s.kind 3)
  where
    go : (b : Bool) → 1 ≤ (if b then packed_width s.size s.width else s.width)
    go true = ceiling_pos s.width (per_pixel s.size) pos (per_pixel_pos s.size)
    go false = pos

-- a record's width is the current one
pub width_record : (cs : List ℕ) (k x : ℕ) → (record_at cs k x).width ≡ x
unfolding record_at
width_record cs k x = refl

module _ (cs : List ℕ) (w : ℕ) where
  pub width_at_pos : (k : ℕ) → 1 ≤ w → 1 ≤ width_at cs w k
  unfolding width_at record_at
  width_at_pos zero pos = pos
  width_at_pos (suc k) pos = narrowed_pos (step_at cs w k) (width_at_pos k pos)

  width_at_later : (d j : ℕ) → width_at cs w (d + j) ≤ width_at cs w j
  unfolding width_at record_at
  width_at_later zero j = rw (zero-add j) (le_refl (width_at cs w j))
  width_at_later (suc d) j =
      let e : suc d + j ≡ suc (d + j) = omega arith in
      rw e (le_trans (narrowed_fewer (step_at cs w (d + j))) (width_at_later d j))

  -- a later width is no larger
  pub width_at_less : (j k : ℕ) → j ≤ k → width_at cs w k ≤ width_at cs w j
  width_at_less j k l =
      let e : (k - j) + j ≡ k = omega arith in
      subst (λ (n : ℕ). width_at cs w n ≤ width_at cs w j) e (width_at_later (k - j) j)

  pub width_at_fewer : (k : ℕ) → width_at cs w k ≤ w
  unfolding width_at
  width_at_fewer k = width_at_less 0 k (omega arith)

-- one record

module _ (s : Step) (h : ℕ) (ds : List ℕ) (pos : 1 ≤ s.width) (known : s.kind ≤ 3) (f g : Picture) where
  abbrev w : ℕ
  w = s.width

  abbrev d : Picture
  d = part_of s ds

  pub forward_same : Alike (h * s.width) f g → Alike (h * narrowed s) (forward s ds f) (forward s ds g)
  forward_same same q l =
      kinds s.kind known (λ e. cc (forward_0 s ds f e, forward_0 s ds g e, residuals_same w s.bits d pos (h * w) f g same q (inside (λ z. omega arith))))
      (λ e. cc (forward_1 s ds f e, forward_1 s ds g e, color_stored_same (h * w) f g same w s.bits d q (inside (λ z. omega arith))))
      (λ e. cc (forward_2 s ds f e, forward_2 s ds g e, green_stored_same (h * w) f g same q (inside (λ z. omega arith))))
      (λ e. cc (forward_3 s ds f e, forward_3 s ds g e, packed_same w h s.size d pos f g same q (rw (narrowed_table s e) at l)))
    where
      inside : (s.kind ≡ 3 → ⊥) → q < h * w
      inside n = rw (narrowed_other s n) at l

  pub backward_same : Alike (h * narrowed s) f g → Alike (h * s.width) (backward s h ds f) (backward s h ds g)
  backward_same same q l =
      kinds s.kind known
      (λ e. cc (backward_0 s h ds f e, backward_0 s h ds g e, from_residuals_same w s.bits d pos (h * w) f g (wide (λ z. omega arith)) (h * w) (le_refl (h * w)) q l))
      (λ e. cc (backward_1 s h ds f e, backward_1 s h ds g e, color_rebuilt_same (h * w) f g (wide (λ z. omega arith)) w s.bits d q l))
      (λ e. cc (backward_2 s h ds f e, backward_2 s h ds g e, green_rebuilt_same (h * w) f g (wide (λ z. omega arith)) q l))
      (λ e. cc (backward_3 s h ds f e, backward_3 s h ds g e, unpacked_same w h s.size d pos f g (rw (narrowed_table s e) at same) q l))
    where
      wide : (s.kind ≡ 3 → ⊥) → Alike (h * w) f g
      wide n = rw (narrowed_other s n) at same

-- a record takes alike what it looks at
pub takes_same : (s : Step) (h : ℕ) (ds : List ℕ) (f g : Picture) → Alike (h * s.width) f g → takes s h ds f ≡ takes s h ds g
unfolding takes
takes_same s h ds f g same =
    if_same (eqb s.kind 3)
    (λ e. every_same (h * s.width) (λ q. has_entry s.size (part_of s ds) (f q)) (λ q. has_entry s.size (part_of s ds) (g q)) (λ q l. ap (has_entry s.size (part_of s ds)) (same q l)))
    (λ e. refl)

-- chains

-- the kinds of the first k records are known
abbrev pub KnownKinds : List ℕ → ℕ → ℕ → Type 0
KnownKinds cs w k = (j : ℕ) → j < k → (step_at cs w j).kind ≤ 3

module _ (cs : List ℕ) (w h : ℕ) (ds : List ℕ) (pos : 1 ≤ w) where
  pub stored_same : (k : ℕ) → KnownKinds cs w k → (f g : Picture) → Alike (h * w) f g → Alike (h * width_at cs w k) (stored (step_at cs w) ds k f) (stored (step_at cs w) ds k g)
  unfolding stored width_at record_at
  stored_same zero known f g same = same
  stored_same (suc k) known f g same =
      forward_same (step_at cs w k) h ds (width_at_pos cs w k pos) (known k (omega arith)) (stored (step_at cs w) ds k f) (stored (step_at cs w) ds k g)
      (stored_same k (λ j l. known j (omega arith)) f g same)

  pub rebuilt_same : (k : ℕ) → KnownKinds cs w k → (f g : Picture) → Alike (h * width_at cs w k) f g → Alike (h * w) (rebuilt (step_at cs w) h ds k f) (rebuilt (step_at cs w) h ds k g)
  unfolding rebuilt width_at record_at
  rebuilt_same zero known f g same = same
  rebuilt_same (suc k) known f g same =
      rebuilt_same k (λ j l. known j (omega arith)) (backward (step_at cs w k) h ds f) (backward (step_at cs w k) h ds g)
      (backward_same (step_at cs w k) h ds (width_at_pos cs w k pos) (known k (omega arith)) f g same)

  pub accepts_same : (k : ℕ) → KnownKinds cs w k → (f g : Picture) → Alike (h * w) f g → accepts (step_at cs w) h ds k f ≡ accepts (step_at cs w) h ds k g
  unfolding accepts record_at
  accepts_same zero known f g same = refl
  accepts_same (suc k) known f g same =
      let before : KnownKinds cs w k = λ j l. known j (omega arith) in
      cc (accepts_same k before f g same, takes_same (step_at cs w k) h ds (stored (step_at cs w) ds k f) (stored (step_at cs w) ds k g) (stored_same k before f g same))
