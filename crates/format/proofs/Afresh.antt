-- Any set of changed pixels: where a strip is a picture stored, making afresh the records of the changed pixels' spots
-- makes the changed picture's strip, and the marks of those that changed count every record in which the two strips
-- differ. ps are the changed pixels.
use Rattle.std.proofs.lemmas.Bool.{and_parts}
use Rattle.std.specs.Prelude.{if◌then◌else◌}
use mathlib.Core.Bool.{Bool, true, false, not, ◌&&◌, false≢true}
use mathlib.Core.List.{List, []}
use mathlib.Core.Path.{◌≡◌, refl, sym, ◌∙◌}
use Prim.Native.Nat.{ℕ, ◌<◌}
use borrow.Author.Tests.{ltb-true, not-true}
use lib.Dec.{ltb}
use Rattle.format.specs.Indices.{among, how_many}
use Rattle.format.specs.Pixel.{equal}
use Rattle.format.specs.Picture.{Picture}
use Rattle.format.specs.Chain.{step_at, count}
use Rattle.format.specs.Refusals.{input_refusal}
use Rattle.format.specs.Stages.{stored}
use Rattle.format.specs.Retouch.{spot_records, differ, marks, ones, remade, new_strip, changes}
use Rattle.format.specs.Calls.{records}
use Rattle.format.proofs.Indices.{among_in, in_among}
use Rattle.format.proofs.Pixels.{equal_refl}
use Rattle.format.proofs.Marks.{marks_same, ones_changed}
use Rattle.format.proofs.Locality.{Off, stored_off}
use Rattle.format.proofs.Valid.{valid_fits}

-- strips that are alike in their first n records differ where these do
pub differ_same : (n : ℕ) (a b a' b' : Picture) → ((r : ℕ) → r < n → a r ≡ a' r) → ((r : ℕ) → r < n → b r ≡ b' r) → (r : ℕ) → differ n a b r ≡ differ n a' b' r
differ_same n a b a' b' p q r = go (ltb r n) refl
  where
    go : (t : Bool) → ltb r n ≡ t → (t && not (equal (a r) (b r))) ≡ (t && not (equal (a' r) (b' r)))
    go true e = cc (p r (ltb-true r n e), q r (ltb-true r n e))
    go false e = refl

module _ (w h : ℕ) (cs ds : List ℕ) (valid : input_refusal w h cs ds ≡ 0) where
  abbrev afresh : Picture → Picture
  afresh f = stored (step_at cs w) ds (count cs) f

  abbrev n : ℕ
  n = records w h cs

  module _ (ps : List ℕ) (f g : Picture) (off : Off ps f g) where
    abbrev rs : List ℕ
    rs = spot_records (step_at cs w) (count cs) ps

    -- a record of none of their spots is the same in both
    kept : (r : ℕ) → among r rs ≡ false → afresh f r ≡ afresh g r
    kept r e =
        stored_off (step_at cs w) ds (count cs) (λ j l. (valid_fits w h cs ds valid j l).wide) (λ j l. (valid_fits w h cs ds valid j l).known)
        ps f g off r (λ i. false≢true (sym e ∙ in_among r rs i))

    -- the ones of the marks are how many records differ
    pub differing_counted : ones (marks (differ n (afresh f) (afresh g)) [] rs) ≡ how_many n (differ n (afresh f) (afresh g))
    differing_counted = ones_changed n d rs (λ r e. ltb-true r n (and_parts (ltb r n) _ e).0) (λ r e. among_in r rs (found r e (among r rs) refl))
      where
        d : ℕ → Bool
        d = differ n (afresh f) (afresh g)

        found : (r : ℕ) → d r ≡ true → (t : Bool) → among r rs ≡ t → among r rs ≡ true
        found r e true q = q
        found r e false q =
            let d : equal (afresh f r) (afresh g r) ≡ false = not-true (equal (afresh f r) (afresh g r)) (and_parts (ltb r n) _ e).1 in
            absurd (false≢true (sym d ∙ rw (← kept r q) (equal_refl (afresh f r))))

    module _ (strip : Picture) (match : (r : ℕ) → r < n → strip r ≡ afresh f r) where
      -- the records made afresh, and those kept, are the changed picture stored
      pub remade_stored : (r : ℕ) → r < n → new_strip (step_at cs w) ds (count cs) g ps strip r ≡ afresh g r
      unfolding new_strip remade
      remade_stored r l = go (among r rs) refl
        where
          go : (t : Bool) → among r rs ≡ t → (if t then afresh g r else strip r) ≡ afresh g r
          go true e = refl
          go false e = match r l ∙ kept r e

      -- the marks are those of the two pictures stored
      pub changes_stored : changes (step_at cs w) ds (count cs) n g ps strip ≡ marks (differ n (afresh f) (afresh g)) [] rs
      unfolding changes
      changes_stored =
          marks_same [] _ (differ n (afresh f) (afresh g)) rs
          (differ_same n strip (new_strip (step_at cs w) ds (count cs) g ps strip) (afresh f) (afresh g) match remade_stored)
