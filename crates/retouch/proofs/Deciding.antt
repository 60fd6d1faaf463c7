-- What the records made afresh and the mask decide, and what is left when they are written.
use Rattle.std.specs.Prelude.{Some, None}
use mathlib.Core.Bool.{Bool, true, false, or-true}
use mathlib.Core.List.{List, [], ◌∷◌}
use mathlib.Core.Path.{◌≡◌, refl, sym, ap, ◌∙◌}
use Prim.Native.Nat.{ℕ, zero, suc, ◌<◌}
use native.Mathlib.Nat.{not-suc-le-zero, le_of_suc-le-suc}
use native.Mathlib.Omega.{arith}
use borrow.Author.Tests.{eq-eqb}
use lib.Count as Count
use lib.Dec.{eqb}
use lib.ListN.{length, get_or}
use Rattle.format.specs.Indices.{among}
use Rattle.format.specs.declared.Pixel.{Pixel}
use Rattle.format.specs.Picture.{Picture, pixels}
use Rattle.format.specs.declared.Refusal.{Refusal}
use Rattle.format.specs.declared.Refusal.TheVariants.{Size, ChainLength, UnknownKind, KindAgain, NotTabled, WrongLength, BeyondData, ShortBuffer, Outside, MapLength, NoEntry, NoRecord, ColorList, FullCounter}
use Rattle.format.specs.Refusals.{number, accepted}
use Rattle.format.specs.Retouch.{mask_of, answer, remade, new_strip, changes, point_answer}
use Rattle.format.proofs.Calls.{is_accepted}
use Rattle.format.proofs.Marks.{ones_mask_of}
use Rattle.pixel.specs.Cells.{put_pixel}
use Rattle.pixel.proofs.Front.{put_painted}
use Rattle.chain.specs.declared.record.ValidChain.{ValidChain}
use Rattle.chain.specs.Valid.{HoldsPicture, steps_of, pixels_in, records_in}
use Rattle.item.specs.declared.painted.Point.{Point}
use Rattle.item.specs.Source.{shown}
use Rattle.retouch.specs.declared.records.Records.{Records}
use Rattle.retouch.specs.declared.changes.Changes.{Changes}
use Rattle.retouch.specs.declared.decide.Decision.{Decision}
use Rattle.retouch.specs.declared.remake.Remade.{Remade}
use Rattle.retouch.specs.Spots.{records_of, touched_by}
use Rattle.retouch.specs.Remade.{MadeTo, strip_of, over, cannot, RemadeBy, MasksMade, WritesMade}
use Rattle.retouch.specs.Decided.{records_by, answer_by, picture_left, strip_left, Decided}

-- refusals are not accepted
pub refused_number : (r : Refusal) → accepted (number r) ≡ false
refused_number Size = refl
refused_number ChainLength = refl
refused_number UnknownKind = refl
refused_number KindAgain = refl
refused_number NotTabled = refl
refused_number WrongLength = refl
refused_number BeyondData = refl
refused_number ShortBuffer = refl
refused_number Outside = refl
refused_number MapLength = refl
refused_number NoEntry = refl
refused_number NoRecord = refl
refused_number ColorList = refl
refused_number FullCounter = refl

abbrev number_of : Decision → ℕ
number_of d = answer (Count.ones d.changes.mask) d.changes.mask

-- a number of a list is among it
among_listed : (xs : List ℕ) (k : ℕ) → k < length xs → among (get_or xs k 0) xs ≡ true
among_listed [] k u = absurd (not-suc-le-zero u)
among_listed (x ∷ xs) zero u = rw (eq-eqb x x refl) refl
among_listed (x ∷ xs) (suc k) u = rw (among_listed xs k (le_of_suc-le-suc u)) (or-true (eqb (get_or xs k 0) x))

module _ (v : ValidChain) (picture strip : List ℕ) (point : Point) where
  abbrev touched : List ℕ
  touched = touched_by v point

  abbrev new : Picture
  new = records_by v picture strip point

  abbrev lost : Bool
  lost = cannot v (shown picture point) touched

  abbrev made : Picture
  made = strip_of v (shown picture point)

  abbrev changed : List Bool
  changed = changes (steps_of v.chain) v.«data».now v.chain.count (records_in v.chain) (shown picture point) (point.index ∷ []) (pixels strip)

  new_over : new ≡ over made touched (pixels strip)
  unfolding new_strip remade over
  new_over = refl

  -- the records of the spots are those of the strip to come
  made_new : (vs : List Pixel) → MadeTo (length touched) made (records_in v.chain) touched vs → MadeTo (length touched) new (records_in v.chain) touched vs
  unfolding over
  made_new vs to = record { at = λ k u i. to.at k u i ∙ sym (rw (new_over, among_listed touched k u) refl) }

  -- 22, or what the mask says
  answer_lost : lost ≡ true → answer_by v picture strip point ≡ number NoRecord
  unfolding point_answer
  answer_lost q = rw q refl

  answer_made : lost ≡ false → answer_by v picture strip point ≡ answer (Count.ones (mask_of changed)) (mask_of changed)
  unfolding point_answer
  answer_made q = rw (q, ones_mask_of changed) refl

  module _ (s : Records) (is : records_of s ≡ touched) where
    pub decided_refused : RemadeBy v (shown picture point) (records_of s) None → number NoRecord ≡ answer_by v picture strip point
    decided_refused by = sym (answer_lost (sym (rw is at by.missing)))

    -- what is decided by a mask
    pub decided_made : (m : Remade) → m.spots ≡ s → RemadeBy v (shown picture point) (records_of s) (Some m.made) → (changes : Changes) → MasksMade (records_in v.chain) (records_of m.spots) m.made (pixels strip) changes.mask
        → Decided v picture strip point (record { changes = changes; remade = m })
    unfolding changes
    decided_made m same by mask mark =
        let t : records_of m.spots ≡ touched = ap records_of same ∙ is in
        let b = rw is at by.records in
        let q : mask.mask ≡ mask_of changed = (rw t at mark) new (made_new m.made b) in
        record { answer = sym (answer_made (sym (rw is at by.missing)) ∙ rw q refl); records = t; made = b }

  -- accepted: the point and the records are written
  module _ (d : Decision) (is : Decided v picture strip point d) where
    taken : accepted (number_of d) ≡ true
    taken = is_accepted (number_of d) (omega arith)

    pub left_picture : (ps : List ℕ) → HoldsPicture v.chain picture → point.index < pixels_in v.chain → ps ≡ put_pixel picture point.index point.color → ps ≡ picture_left v picture point (number_of d)
    left_picture ps room inside e = e ∙ rw taken (put_painted (pixels_in v.chain) picture point.index point.color room inside)

    pub left_strip : (ss : List ℕ) → WritesMade (records_in v.chain) (records_of d.remade.spots) d.remade.made strip ss → ss ≡ strip_left v picture strip point (number_of d)
    left_strip ss wrote = (rw is.records at wrote) made is.made ∙ rw (taken, new_over) refl
