-- Strips stored earlier rebuild: a pixel's index is in its own position by both rules, and unpacking looks at no other.
use Rattle.std.proofs.lemmas.Bool.{and_parts}
use Rattle.std.specs.Prelude.{if◌then◌else◌}
use mathlib.Core.Bool.{Bool, true, false}
use mathlib.Core.List.{List}
use mathlib.Core.Path.{◌≡◌, refl, sym, ap, ◌∙◌}
use Prim.Native.Nat.{ℕ, zero, suc, ◌+◌, ◌*◌, ◌<◌, ◌≤◌}
use native.Mathlib.Decide.{ℕ_discrete}
use native.Mathlib.Nat.{le_refl}
use native.Mathlib.Omega.{arith}
use borrow.Author.Tests.{ltb-true, lt-ltb, ne_eqb}
use lib.Dec.{ltb}
use lib.ListN.{length}
use Rattle.format.specs.declared.Step.{Step}
use Rattle.format.specs.Picture.{Picture, pixels, written}
use Rattle.format.specs.ColorTable.{per_pixel, range, packed_width, index_of, have_entries, packed, unpacked}
use Rattle.format.specs.Chain.{record_at, step_at, count}
use Rattle.format.specs.Refusals.{◌unless◌, ◌before◌, input_refusal}
use Rattle.format.specs.Stages.{part_of, forward, stored, rebuilt, takes, accepts}
use Rattle.format.specs.Calls.{records, pair_refusal, store_answer}
use Rattle.format.specs.Earlier.{earlier_index_at, earlier_packed, earlier_forward, earlier_stored, earlier_accepts, earlier_answer, earlier_strip}
use Rattle.format.specs.ValidStep.{ValidStep}
use Rattle.format.proofs.ColorTable.{bundled, used_index, unpacked_used, used_own, index_small, used_stored, unpacked_packed}
use Rattle.format.proofs.Inside.{Alike}
use Rattle.format.proofs.Bytewise.{BytesIn, rows_bytes}
use Rattle.format.proofs.ByKind.{backward_3, takes_table, takes_other, narrowed_table}
use Rattle.format.proofs.Stages.{width_at_pos}
use Rattle.format.proofs.Valid.{before_some, before_zero, unless_zero, valid_sized, valid_step, valid_once}
use Rattle.format.proofs.Chains.{Undone, forward_undone, stages_rebuilt}
use Rattle.format.proofs.Calls.{pair_accepted}

-- a table's record

module _ (w h size : ℕ) (e f : Picture) (pos : 0 < w) (least : size ≤ 256) (taken : have_entries size e (h * w) f ≡ true) where
  earlier_small : (y : ℕ) → y < h → (x : ℕ) → earlier_index_at w size e f y x < range (per_pixel size)
  earlier_small y l x = go (ltb x w) (ltb-true x w)
    where
      go : (b : Bool) → (b ≡ true → x < w) → (if b then index_of size e (f (y * w + x)) else 0) < range (per_pixel size)
      go true t = index_small w h size e f pos least taken y l x (t refl)
      go false t = (bundled size least).some

  used_earlier : (q : ℕ) → q < h * w → used_index w size (earlier_packed w size e f) q ≡ index_of size e (f q)
  unfolding earlier_packed
  used_earlier = used_own w h size pos least (earlier_index_at w size e f) earlier_small e f (λ y x l. rw (lt-ltb x w l))

  unpacked_earlier : Alike (h * w) (unpacked w size e (earlier_packed w size e f)) f
  unpacked_earlier q l =
      unpacked_used w size e (earlier_packed w size e f) (packed w size e f) q (used_earlier q l ∙ sym (used_stored w h size e f pos least taken q l))
      ∙ unpacked_packed w h size e f pos least taken q l

  earlier_bytes : BytesIn (h * packed_width size w) (earlier_packed w size e f)
  unfolding earlier_packed
  earlier_bytes = rows_bytes w h size pos least (earlier_index_at w size e f) earlier_small

-- a record of any kind

module _ (s : Step) (ds : List ℕ) (f : Picture) where
  earlier_table : s.kind ≡ 3 → earlier_forward s ds f ≡ earlier_packed s.width s.size (part_of s ds) f
  unfolding earlier_forward
  earlier_table e = rw e

  earlier_other : (s.kind ≡ 3 → ⊥) → earlier_forward s ds f ≡ forward s ds f
  unfolding earlier_forward
  earlier_other n = rw (ne_eqb s.kind 3 n)

earlier_undone : (s : Step) (h n : ℕ) (ds : List ℕ) → 1 ≤ s.width → ValidStep s h n → (f : Picture) → BytesIn (h * s.width) f → takes s h ds f ≡ true → Undone s h ds f (earlier_forward s ds f)
earlier_undone s h n ds pos valid f bytes taken = go (ℕ_discrete s.kind 3)
  where
    go : Dec (s.kind ≡ 3) → Undone s h ds f (earlier_forward s ds f)
    go (yes e) =
        let least = (valid.table e).most in
        let have = sym (takes_table s h ds f e) ∙ taken in
        rw (earlier_table s ds f e)
        record {
          bytes = rw (narrowed_table s e) (earlier_bytes s.width h s.size (part_of s ds) f pos least have);
          undone = rw (backward_3 s h ds (earlier_packed s.width s.size (part_of s ds) f) e) (unpacked_earlier s.width h s.size (part_of s ds) f pos least have);
        }
    go (no m) = rw (earlier_other s ds f m) (forward_undone s h n ds pos valid f bytes taken)

-- a chain

module _ (w h : ℕ) (cs ds : List ℕ) (valid : input_refusal w h cs ds ≡ 0) (f : Picture) where
  abbrev steps : ℕ → Step
  steps = step_at cs w

  abbrev taken : ℕ → Bool
  taken k = earlier_accepts steps h ds k f

  -- rebuilding what was stored gives the picture
  pub chain_earlier : BytesIn (h * w) f → taken (count cs) ≡ true → Alike (h * w) (rebuilt steps h ds (count cs) (earlier_stored steps ds (count cs) f)) f
  unfolding earlier_stored earlier_accepts record_at
  chain_earlier bytes =
      stages_rebuilt w h cs ds valid (λ k. earlier_stored steps ds k f) bytes taken (λ k a. (and_parts (taken k) _ a).0)
      (λ k l a b. earlier_undone (steps k) h (length ds) ds (width_at_pos cs w k (valid_sized w h cs ds valid).wide) (valid_step w h cs ds valid k l) (earlier_stored steps ds k f) b (and_parts (taken k) _ a).1)
      (count cs) (le_refl (count cs))

  -- up to the table both rules make the same
  stored_before : (k : ℕ) → ((j : ℕ) → j < k → (steps j).kind ≡ 3 → ⊥) → stored steps ds k f ≡ earlier_stored steps ds k f
  unfolding stored earlier_stored
  stored_before zero n = refl
  stored_before (suc k) n =
      ap (forward (steps k) ds) (stored_before k (λ j l. n j (omega arith))) ∙ sym (earlier_other (steps k) ds (earlier_stored steps ds k f) (n k (omega arith)))

  -- so that they accept the same pictures
  pub accepts_earlier : (k : ℕ) → k ≤ count cs → accepts steps h ds k f ≡ taken k
  unfolding accepts earlier_accepts
  accepts_earlier zero l = refl
  accepts_earlier (suc k) l = cc (accepts_earlier k (omega arith), go (ℕ_discrete (steps k).kind 3))
    where
      go : Dec ((steps k).kind ≡ 3) → takes (steps k) h ds (stored steps ds k f) ≡ takes (steps k) h ds (earlier_stored steps ds k f)
      go (yes e) = ap (takes (steps k) h ds) (stored_before k (λ j m t. valid_once w h cs ds valid k l j m (t ∙ sym e)))
      go (no n) = takes_other (steps k) h ds (stored steps ds k f) n ∙ sym (takes_other (steps k) h ds (earlier_stored steps ds k f) n)

-- the call

module _ (w h : ℕ) (cs ds picture strip : List ℕ) where
  pub earlier-answer : store_answer w h cs ds picture strip ≡ earlier_answer w h cs ds picture strip
  unfolding store_answer earlier_answer
  earlier-answer = go (ℕ_discrete (pair_refusal w h cs ds picture strip) 0)
    where
      refusal : ℕ
      refusal = pair_refusal w h cs ds picture strip

      go : Dec (refusal ≡ 0) → (refusal before (21 unless accepts (step_at cs w) h ds (count cs) (pixels picture))) ≡ (refusal before (21 unless earlier_accepts (step_at cs w) h ds (count cs) (pixels picture)))
      go (yes e) = rw (accepts_earlier w h cs ds (pair_accepted w h cs ds picture strip e).0 (pixels picture) (count cs) (le_refl (count cs)))
      go (no n) = before_some refusal _ n ∙ sym (before_some refusal _ n)

  pub earlier_accepted : earlier_answer w h cs ds picture strip ≡ 0 → (input_refusal w h cs ds ≡ 0) × (earlier_accepts (step_at cs w) h ds (count cs) (pixels picture) ≡ true)
  unfolding earlier_answer
  earlier_accepted e =
      let a = before_zero (pair_refusal w h cs ds picture strip) _ e in
      ((pair_accepted w h cs ds picture strip a.0).0, unless_zero 20 (earlier_accepts (step_at cs w) h ds (count cs) (pixels picture)) a.1)

  pub earlier_strip_accepted : earlier_answer w h cs ds picture strip ≡ 0
      → earlier_strip w h cs ds picture strip ≡ written (records w h cs) (earlier_stored (step_at cs w) ds (count cs) (pixels picture)) strip
  unfolding earlier_strip
  earlier_strip_accepted e = rw e
