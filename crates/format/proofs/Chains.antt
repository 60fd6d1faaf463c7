-- Storing and rebuilding undo each other over every valid chain: record by record, each on what the others made.
use mathlib.Core.Bool.{Bool, true}
use mathlib.Core.List.{List}
use mathlib.Core.Path.{◌≡◌, refl, sym, ◌∙◌, subst}
use Prim.Native.Nat.{ℕ, zero, suc, ◌*◌, ◌<◌, ◌≤◌}
use native.Mathlib.Nat.{le_refl}
use native.Mathlib.Omega.{arith}
use lib.ListN.{length}
use Rattle.std.proofs.lemmas.Bool.{and_parts, and_from}
use Rattle.format.specs.declared.Step.{Step}
use Rattle.format.specs.Picture.{Picture}
use Rattle.format.specs.Chain.{record_at, narrowed, width_at, step_at, count}
use Rattle.format.specs.Refusals.{input_refusal}
use Rattle.format.specs.Stages.{part_of, forward, backward, stored, rebuilt, takes, accepts}
use Rattle.format.specs.ValidStep.{ValidStep}
use Rattle.format.proofs.RoundTrips.{predictor_stored, color-stored, green-stored, table_stored, predictor_rebuilt, color-rebuilt, green-rebuilt}
use Rattle.format.proofs.Inside.{Alike}
use Rattle.format.proofs.Bytewise.{BytesIn, residuals_bytes, from_residuals_bytes, color_stored_bytes, color_rebuilt_bytes, green_stored_bytes, green_rebuilt_bytes, packed_bytes}
use Rattle.format.proofs.ByKind.{kinds, forward_0, forward_1, forward_2, forward_3, backward_0, backward_1, backward_2, backward_3, takes_table, takes_other, narrowed_table, narrowed_other}
use Rattle.format.proofs.Stages.{width_at_pos, forward_same, rebuilt_same}
use Rattle.format.proofs.Valid.{valid_sized, valid_step, valid_known}

-- what a record made of the picture f, as far as rebuilding goes: bytes, of which the record rebuilds f
pub record Undone (s : Step) (h : ℕ) (ds : List ℕ) (f g : Picture) : Type 0 where
  pub bytes : BytesIn (h * narrowed s) g
  pub undone : Alike (h * s.width) (backward s h ds g) f

-- one record that takes the picture

module _ (s : Step) (h n : ℕ) (ds : List ℕ) (pos : 1 ≤ s.width) (valid : ValidStep s h n) (f : Picture) (bytes : BytesIn (h * s.width) f)
    (taken : takes s h ds f ≡ true)
  where
    forward_bytes : BytesIn (h * narrowed s) (forward s ds f)
    forward_bytes =
        kinds s.kind valid.known
        (λ e. rw (forward_0 s ds f e, narrowed_other s (λ z. omega arith)) (residuals_bytes s.width s.bits (part_of s ds) f (h * s.width)))
        (λ e. rw (forward_1 s ds f e, narrowed_other s (λ z. omega arith)) (color_stored_bytes (h * s.width) f bytes s.width s.bits (part_of s ds)))
        (λ e. rw (forward_2 s ds f e, narrowed_other s (λ z. omega arith)) (green_stored_bytes (h * s.width) f bytes))
        (λ e. rw (forward_3 s ds f e, narrowed_table s e) (packed_bytes s.width h s.size (part_of s ds) f pos (valid.table e).most (sym (takes_table s h ds f e) ∙ taken)))

    backward_forward : Alike (h * s.width) (backward s h ds (forward s ds f)) f
    backward_forward q l =
        kinds s.kind valid.known
        (λ e. cc (forward_0 s ds f e, backward_0 s h ds (forward s ds f) e, predictor_stored s.width h pos f bytes s.bits (part_of s ds) q l))
        (λ e. cc (forward_1 s ds f e, backward_1 s h ds (forward s ds f) e, color-stored s.width h pos f bytes s.bits (part_of s ds) q l))
        (λ e. cc (forward_2 s ds f e, backward_2 s h ds (forward s ds f) e, green-stored s.width h pos f bytes q l))
        (λ e.
        cc (
          forward_3 s ds f e,
          backward_3 s h ds (forward s ds f) e,
          table_stored s.width h pos f bytes s.size (part_of s ds) (valid.table e).most (sym (takes_table s h ds f e) ∙ taken) q l,
        ))

    pub forward_undone : Undone s h ds f (forward s ds f)
    forward_undone = record { bytes = forward_bytes; undone = backward_forward }

-- one record without a table

module _ (s : Step) (h : ℕ) (ds : List ℕ) (pos : 1 ≤ s.width) (known : s.kind ≤ 3) (untabled : s.kind ≡ 3 → ⊥) (g : Picture)
    (bytes : BytesIn (h * narrowed s) g)
  where
    bytes_wide : BytesIn (h * s.width) g
    bytes_wide = rw (narrowed_other s untabled) at bytes

    pub backward_bytes : BytesIn (h * s.width) (backward s h ds g)
    backward_bytes =
        kinds s.kind known (λ e. rw (backward_0 s h ds g e) (from_residuals_bytes s.width s.bits (part_of s ds) pos (h * s.width) g))
        (λ e. rw (backward_1 s h ds g e) (color_rebuilt_bytes (h * s.width) g bytes_wide s.width s.bits (part_of s ds)))
        (λ e. rw (backward_2 s h ds g e) (green_rebuilt_bytes (h * s.width) g bytes_wide))
        (λ e. absurd (untabled e))

    forward_backward_wide : Alike (h * s.width) (forward s ds (backward s h ds g)) g
    forward_backward_wide q l =
        kinds s.kind known
        (λ e. cc (backward_0 s h ds g e, forward_0 s ds (backward s h ds g) e, predictor_rebuilt s.width h pos g bytes_wide s.bits (part_of s ds) q l))
        (λ e. cc (backward_1 s h ds g e, forward_1 s ds (backward s h ds g) e, color-rebuilt s.width h pos g bytes_wide s.bits (part_of s ds) q l))
        (λ e. cc (backward_2 s h ds g e, forward_2 s ds (backward s h ds g) e, green-rebuilt s.width h pos g bytes_wide q l))
        (λ e. absurd (untabled e))

    pub forward_backward : Alike (h * narrowed s) (forward s ds (backward s h ds g)) g
    forward_backward = rw (narrowed_other s untabled) forward_backward_wide

-- stages, each of which was made of the one before

module _ (w h : ℕ) (cs ds : List ℕ) (valid : input_refusal w h cs ds ≡ 0) (stages : ℕ → Picture) (bytes : BytesIn (h * w) (stages 0)) (taken : ℕ → Bool)
    (before : (k : ℕ) → taken (suc k) ≡ true → taken k ≡ true)
    (next : (k : ℕ) → k < count cs → taken (suc k) ≡ true → BytesIn (h * width_at cs w k) (stages k) → Undone (step_at cs w k) h ds (stages k) (stages (suc k)))
  where
    stage_bytes : (k : ℕ) → k ≤ count cs → taken k ≡ true → BytesIn (h * width_at cs w k) (stages k)
    unfolding width_at record_at
    stage_bytes zero l a = bytes
    stage_bytes (suc k) l a = (next k l a (stage_bytes k (omega arith) (before k a))).bytes

    -- rebuilding the last one gives the first one
    pub stages_rebuilt : (k : ℕ) → k ≤ count cs → taken k ≡ true → Alike (h * w) (rebuilt (step_at cs w) h ds k (stages k)) (stages 0)
    unfolding rebuilt record_at
    stages_rebuilt zero l a q m = refl
    stages_rebuilt (suc k) l a q m =
        let step = next k l a (stage_bytes k (omega arith) (before k a)) in
        rebuilt_same cs w h ds (valid_sized w h cs ds valid).wide k (λ j i. valid_known w h cs ds valid j (omega arith)) (backward (step_at cs w k) h ds (stages (suc k))) (stages k) step.undone q m
        ∙ stages_rebuilt k (omega arith) (before k a) q m

-- chains that accept the picture

module _ (w h : ℕ) (cs ds : List ℕ) (valid : input_refusal w h cs ds ≡ 0) (f : Picture) (bytes : BytesIn (h * w) f) where
  abbrev taken : ℕ → Bool
  taken k = accepts (step_at cs w) h ds k f

  -- rebuilding what was stored gives the picture
  pub chain_stored : taken (count cs) ≡ true → Alike (h * w) (rebuilt (step_at cs w) h ds (count cs) (stored (step_at cs w) ds (count cs) f)) f
  unfolding stored accepts record_at
  chain_stored =
      stages_rebuilt w h cs ds valid (λ k. stored (step_at cs w) ds k f) bytes taken (λ k a. (and_parts (taken k) _ a).0)
      (λ k l a b. forward_undone (step_at cs w k) h (length ds) ds (width_at_pos cs w k (valid_sized w h cs ds valid).wide) (valid_step w h cs ds valid k l) (stored (step_at cs w) ds k f) b (and_parts (taken k) _ a).1)
      (count cs) (le_refl (count cs))

-- chains without a color table

-- none of the first k records is of kind 3
abbrev pub Untabled : List ℕ → ℕ → ℕ → Type 0
Untabled cs w k = (j : ℕ) → j < k → (step_at cs w j).kind ≡ 3 → ⊥

pub width_at_untabled : (cs : List ℕ) (w k : ℕ) → Untabled cs w k → width_at cs w k ≡ w
unfolding width_at record_at
width_at_untabled cs w zero u = refl
width_at_untabled cs w (suc k) u = narrowed_other (step_at cs w k) (u k (omega arith)) ∙ width_at_untabled cs w k (λ j l. u j (omega arith))

-- every picture is accepted
pub accepts_untabled : (cs : List ℕ) (w h : ℕ) (ds : List ℕ) (k : ℕ) → Untabled cs w k → (f : Picture) → accepts (step_at cs w) h ds k f ≡ true
unfolding accepts
accepts_untabled cs w h ds zero u f = refl
accepts_untabled cs w h ds (suc k) u f =
    and_from (accepts (step_at cs w) h ds k f) _ (accepts_untabled cs w h ds k (λ j l. u j (omega arith)) f)
    (takes_other (step_at cs w k) h ds (stored (step_at cs w) ds k f) (u k (omega arith)))

module _ (w h : ℕ) (cs ds : List ℕ) (valid : input_refusal w h cs ds ≡ 0) (untabled : Untabled cs w (count cs)) where
  stored_rebuilt : (k : ℕ) → k ≤ count cs → (g : Picture) → BytesIn (h * width_at cs w k) g → Alike (h * width_at cs w k) (stored (step_at cs w) ds k (rebuilt (step_at cs w) h ds k g)) g
  unfolding stored rebuilt width_at record_at
  stored_rebuilt zero l g bytes q m = refl
  stored_rebuilt (suc k) l g bytes q m =
      let s = step_at cs w k in
      let pos = width_at_pos cs w k (valid_sized w h cs ds valid).wide in
      let known = valid_known w h cs ds valid k l in
      let g' = backward s h ds g in
      forward_same s h ds pos known (stored (step_at cs w) ds k (rebuilt (step_at cs w) h ds k g')) g'
      (stored_rebuilt k (omega arith) g' (backward_bytes s h ds pos known (untabled k l) g bytes)) q m
      ∙ forward_backward s h ds pos known (untabled k l) g bytes q m

  -- storing what was rebuilt gives the strip
  pub chain_rebuilt : (g : Picture) → BytesIn (h * w) g → Alike (h * w) (stored (step_at cs w) ds (count cs) (rebuilt (step_at cs w) h ds (count cs) g)) g
  chain_rebuilt g bytes =
      let e = width_at_untabled cs w (count cs) untabled in
      subst (λ (x : ℕ). BytesIn (h * x) g → Alike (h * x) (stored (step_at cs w) ds (count cs) (rebuilt (step_at cs w) h ds (count cs) g)) g) e
      (stored_rebuilt (count cs) (le_refl (count cs)) g) bytes
