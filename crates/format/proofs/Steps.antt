-- What a chain makes of a picture depends on its first k records alone.
use mathlib.Core.List.{List, [], ◌∷◌}
use mathlib.Core.Path.{◌≡◌, refl, fun_ext}
use Prim.Native.Nat.{ℕ, zero, suc, ◌<◌}
use native.Mathlib.Omega.{arith}
use Rattle.format.specs.declared.Step.{Step}
use Rattle.format.specs.Picture.{Picture}
use Rattle.format.specs.Stages.{stored, accepts}
use Rattle.format.specs.Made.{missing}
use Rattle.format.specs.Retouch.{spot_records, unmade, remade, new_strip, changes, point_answer}

module _ (s t : ℕ → Step) where
  -- the first k records are the same
  abbrev Same : ℕ → Type 0
  Same k = (j : ℕ) → j < k → s j ≡ t j

  spot_records_steps : (ps : List ℕ) (k : ℕ) → Same k → spot_records s k ps ≡ spot_records t k ps
  unfolding spot_records
  spot_records_steps ps zero e = refl
  spot_records_steps ps (suc k) e = cc (e k (omega arith), spot_records_steps ps k (λ j l. e j (omega arith)))

  module _ (h : ℕ) (ds : List ℕ) (f : Picture) where
    pub stored_steps : (k : ℕ) → Same k → stored s ds k f ≡ stored t ds k f
    unfolding stored
    stored_steps zero e = refl
    stored_steps (suc k) e = cc (e k (omega arith), stored_steps k (λ j l. e j (omega arith)))

    pub accepts_steps : (k : ℕ) → Same k → accepts s h ds k f ≡ accepts t h ds k f
    unfolding accepts
    accepts_steps zero e = refl
    accepts_steps (suc k) e = cc (e k (omega arith), stored_steps k (λ j l. e j (omega arith)), accepts_steps k (λ j l. e j (omega arith)))

    missing_steps : (k : ℕ) → Same k → missing s ds k f ≡ missing t ds k f
    unfolding missing
    missing_steps zero e = refl
    missing_steps (suc k) e =
        let a = e k (omega arith) in
        let b = missing_steps k (λ j l. e j (omega arith)) in
        let c = stored_steps k (λ j l. e j (omega arith)) in
        fun_ext (λ r. rw (a, b, c) refl)

    module _ (strip : Picture) (k : ℕ) (e : Same k) where
      pub new_strip_steps : (ps : List ℕ) → new_strip s ds k f ps strip ≡ new_strip t ds k f ps strip
      unfolding new_strip remade
      new_strip_steps ps = let a = spot_records_steps ps k e in let b = stored_steps k e in fun_ext (λ r. rw (a, b) refl)

      pub point_answer_steps : (n p : ℕ) → point_answer s ds k n f p strip ≡ point_answer t ds k n f p strip
      unfolding point_answer changes unmade
      point_answer_steps n p = let a = spot_records_steps (p ∷ []) k e in let b = missing_steps k e in rw (new_strip_steps (p ∷ []), a, b) refl
