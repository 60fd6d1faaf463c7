-- Laws of the calls on chains: which numbers they answer, when they accept, and what the buffer holds then.
use mathlib.Core.Bool.{Bool, true, false, not, ◌&&◌}
use mathlib.Core.List.{List, [], ◌∷◌}
use mathlib.Core.Logic.{◌⊎◌, inl, inr, ⊎_elim}
use mathlib.Core.Path.{◌≡◌, refl}
use Prim.Native.Nat.{ℕ, zero, suc, ◌+◌, ◌*◌, ◌<◌, ◌≤◌}
use native.Mathlib.Decide.{ℕ_discrete}
use native.Mathlib.Omega.{arith}
use borrow.Author.Tests.{leb-true, le-leb, lt-leb, ne_eqb}
use lib.Dec.{eqb, leb, ltb, lit≤}
use lib.ListN.{length}
use Rattle.std.proofs.lemmas.Bool.{and_parts, and_from, or_right}
use Rattle.std.specs.Prelude.{Ok, Err, if◌then◌else◌}
use Rattle.format.specs.declared.Refusal.TheVariants.{UnknownKind, KindAgain, NotTabled, WrongLength, BeyondData}
use Rattle.format.specs.declared.Step.{Step}
use Rattle.format.specs.declared.Pixel.{Pixel}
use Rattle.format.specs.Picture.{Picture, pixels, written}
use Rattle.format.specs.Chain.{step_at, count}
use Rattle.format.specs.Refusals.{used_before, tabled, tabled_length, checked, returned, ◌unless◌, ◌before◌, accepted, records_refusal, in_range, whole_records, size_refusal, chain_refusal, input_refusal}
use Rattle.format.specs.Stages.{stored, rebuilt, accepts}
use Rattle.format.specs.Retouch.{changes, differ, marks, mask_of, new_strip, unmade, point_answer}
use Rattle.format.specs.Calls.{holds, records, pair_refusal, rebuild_answer, rebuild_image, store_answer, store_strip, inside, painted, touched, retouch_answer, retouch_picture, retouch_strip}
use Rattle.format.specs.Promises.{RetouchNumber}
use Rattle.format.proofs.Marks.{marks_length, mask_small, ones_mask_of}
use Rattle.format.proofs.Valid.{before_zero, unless_zero}

-- what holds of two refusals holds of the first of them that is not 0, or of the second
pub before_is : (P : ℕ → Type 0) (a b : ℕ) → ((a ≡ 0 → ⊥) → P a) → (a ≡ 0 → P b) → P (a before b)
before_is P a b p q = go (ℕ_discrete a 0)
  where
    go : Dec (a ≡ 0) → P (a before b)
    go (yes e) = rw e (q e)
    go (no n) = rw (ne_eqb a 0 n) (p n)

pub unless_is : (P : ℕ → Type 0) (n : ℕ) (b : Bool) → P 0 → P n → P (n unless b)
unless_is P n true p q = p
unless_is P n false p q = q

checked_most : (again : Bool) (h : ℕ) (ds : List ℕ) (s : Step) → returned (checked again h ds s) ≤ 7
unfolding checked
checked_most again h ds s = go (ltb 3 s.kind) again (tabled s) (eqb s.length (tabled_length s h)) (ltb (length ds) (s.offset + s.length))
  where
    go : (a b c d e : Bool)
        → returned (if a then Err UnknownKind else (if b then Err KindAgain else (if not c then Err NotTabled else (if not d then Err WrongLength else (if e then Err BeyondData else Ok s))))) ≤ 7
    go true b c d e = lit≤ tt
    go false true c d e = lit≤ tt
    go false false false d e = lit≤ tt
    go false false true false e = lit≤ tt
    go false false true true true = lit≤ tt
    go false false true true false = lit≤ tt

records_most : (cs : List ℕ) (w h : ℕ) (ds : List ℕ) (k : ℕ) → records_refusal cs w h ds k ≤ 7
unfolding records_refusal
records_most cs w h ds zero = lit≤ tt
records_most cs w h ds (suc k) =
    before_is (λ r. r ≤ 7) (records_refusal cs w h ds k) _ (λ d. records_most cs w h ds k) (λ e. checked_most (used_before cs k) h ds (step_at cs w k))

pub input_refusal_most : (w h : ℕ) (cs ds : List ℕ) → input_refusal w h cs ds ≤ 7
unfolding input_refusal size_refusal chain_refusal
input_refusal_most w h cs ds =
    before_is (λ r. r ≤ 7) (1 unless (in_range w && in_range h)) _ (λ z. unless_is (λ r. r ≤ 7) 1 (in_range w && in_range h) (lit≤ tt) (lit≤ tt))
    (λ d. before_is (λ r. r ≤ 7) (2 unless whole_records cs) _ (λ z. unless_is (λ r. r ≤ 7) 2 (whole_records cs) (lit≤ tt) (lit≤ tt)) (λ e. records_most cs w h ds (count cs)))

-- refusals are 1 to 255

pub not_accepted : (n : ℕ) → (n ≡ 0 → ⊥) → n < 256 → accepted n ≡ false
not_accepted n d l = rw (ne_eqb n 0 d, lt-leb 256 n l) refl

pub is_accepted : (n : ℕ) → 256 ≤ n → accepted n ≡ true
is_accepted n l = or_right (eqb n 0) (leb 256 n) (le-leb 256 n l)

module _ (w h : ℕ) (cs ds : List ℕ) where
  abbrev refusal : ℕ
  refusal = input_refusal w h cs ds

  -- rebuilding

  module _ (image : List ℕ) where
    abbrev room : Bool
    room = holds image (h * w)

    pub rebuild_answer_most : rebuild_answer w h cs ds image ≤ 8
    unfolding rebuild_answer
    rebuild_answer_most =
        let m = input_refusal_most w h cs ds in
        before_is (λ r. r ≤ 8) refusal (8 unless room) (λ z. omega arith) (λ e. unless_is (λ r. r ≤ 8) 8 room (lit≤ tt) (lit≤ tt))

    pub rebuild_accepts : refusal ≡ 0 → 4 * (h * w) ≤ length image → rebuild_answer w h cs ds image ≡ 0
    unfolding rebuild_answer
    rebuild_accepts e l = rw (e, le-leb (4 * (h * w)) (length image) l)

    pub rebuild_accepted : rebuild_answer w h cs ds image ≡ 0 → (refusal ≡ 0) × (4 * (h * w) ≤ length image)
    unfolding rebuild_answer
    rebuild_accepted e =
        let a = before_zero refusal (8 unless room) e in
        (a.0, leb-true (4 * (h * w)) (length image) (unless_zero 7 room a.1))

    pub rebuild_image_accepted : rebuild_answer w h cs ds image ≡ 0
        → rebuild_image w h cs ds image ≡ written (h * w) (rebuilt (step_at cs w) h ds (count cs) (pixels image)) image
    unfolding rebuild_image
    rebuild_image_accepted e = rw e

    pub rebuild_image_refused : (rebuild_answer w h cs ds image ≡ 0 → ⊥) → rebuild_image w h cs ds image ≡ image
    unfolding rebuild_image
    rebuild_image_refused n = let m = rebuild_answer_most in rw (not_accepted (rebuild_answer w h cs ds image) n (omega arith))

  -- a picture and its strip

  module _ (picture strip : List ℕ) where
    abbrev rooms : Bool
    rooms = holds picture (h * w) && holds strip (records w h cs)

    pub pair_refusal_most : pair_refusal w h cs ds picture strip ≤ 8
    unfolding pair_refusal
    pair_refusal_most =
        let m = input_refusal_most w h cs ds in
        before_is (λ r. r ≤ 8) refusal (8 unless rooms) (λ z. omega arith) (λ e. unless_is (λ r. r ≤ 8) 8 rooms (lit≤ tt) (lit≤ tt))

    pub pair_accepts : refusal ≡ 0 → 4 * (h * w) ≤ length picture → 4 * records w h cs ≤ length strip → pair_refusal w h cs ds picture strip ≡ 0
    unfolding pair_refusal
    pair_accepts e l m =
        rw (e, and_from (holds picture (h * w)) (holds strip (records w h cs)) (le-leb (4 * (h * w)) (length picture) l) (le-leb (4 * records w h cs) (length strip) m))

    pub pair_accepted : pair_refusal w h cs ds picture strip ≡ 0 → (refusal ≡ 0) × (4 * (h * w) ≤ length picture) × (4 * records w h cs ≤ length strip)
    unfolding pair_refusal
    pair_accepted e =
        let a = before_zero refusal _ e in
        let r = and_parts (holds picture (h * w)) _ (unless_zero 7 rooms a.1) in
        (a.0, leb-true (4 * (h * w)) (length picture) r.0, leb-true (4 * records w h cs) (length strip) r.1)

    -- storing

    abbrev accepting : Bool
    accepting = accepts (step_at cs w) h ds (count cs) (pixels picture)

    pub store_answer_listed : (store_answer w h cs ds picture strip ≤ 8) ⊎ (store_answer w h cs ds picture strip ≡ 21)
    unfolding store_answer
    store_answer_listed =
        let m = pair_refusal_most in
        before_is Listed (pair_refusal w h cs ds picture strip) (21 unless accepting) (λ z. inl (omega arith)) (λ e. unless_is Listed 21 accepting (inl (lit≤ tt)) (inr refl))
      where
        Listed : ℕ → Type 0
        Listed r = (r ≤ 8) ⊎ (r ≡ 21)

    pub store_accepts : refusal ≡ 0 → 4 * (h * w) ≤ length picture → 4 * records w h cs ≤ length strip → accepting ≡ true → store_answer w h cs ds picture strip ≡ 0
    unfolding store_answer
    store_accepts e l m a = rw (pair_accepts e l m, a)

    pub store_accepted : store_answer w h cs ds picture strip ≡ 0
        → (refusal ≡ 0) × (4 * (h * w) ≤ length picture) × (4 * records w h cs ≤ length strip) × (accepting ≡ true)
    unfolding store_answer
    store_accepted e =
        let a = before_zero (pair_refusal w h cs ds picture strip) (21 unless accepting) e in
        let b = pair_accepted a.0 in
        (b.0, b.1, b.2, unless_zero 20 accepting a.1)

    pub store_strip_accepted : store_answer w h cs ds picture strip ≡ 0
        → store_strip w h cs ds picture strip ≡ written (records w h cs) (stored (step_at cs w) ds (count cs) (pixels picture)) strip
    unfolding store_strip
    store_strip_accepted e = rw e

    pub store_strip_refused : (store_answer w h cs ds picture strip ≡ 0 → ⊥) → store_strip w h cs ds picture strip ≡ strip
    unfolding store_strip
    store_strip_refused n =
        let m = ⊎_elim {C = store_answer w h cs ds picture strip < 256} (λ l. omega arith) (λ e. omega arith) store_answer_listed in
        rw (not_accepted (store_answer w h cs ds picture strip) n m)

  -- retouching

  module _ (picture strip : List ℕ) (x y : ℕ) (v : Pixel) where
    -- a point has at most five records, where the chain is valid
    pub retouch_answer_listed : (refusal ≡ 0 → length (touched w cs x y) ≤ 5) → RetouchNumber (retouch_answer w h cs ds picture strip x y v)
    unfolding retouch_answer point_answer changes
    retouch_answer_listed few =
        let m = pair_refusal_most picture strip in
        before_is RetouchNumber (pair_refusal w h cs ds picture strip) _ (λ z. inl (omega arith, omega arith))
        (λ e. before_is RetouchNumber (9 unless inside w h x y) _ (λ z. some_nine (inside w h x y) z)
        (λ b. before_is RetouchNumber (22 unless not refused) _ (λ z. some_missing (not refused) z)
        (λ a. inr (inr (mask_of marked, mask_small marked (rw (marks_length [] changed (touched w cs x y)) (few (pair_accepted picture strip e).0)), rw (ones_mask_of marked) refl)))))
      where
        f : Picture
        f = painted w (pixels picture) x y v

        refused : Bool
        refused = unmade (step_at cs w) ds (count cs) (records w h cs) f (touched w cs x y)

        changed : ℕ → Bool
        changed = differ (records w h cs) (pixels strip) (new_strip (step_at cs w) ds (count cs) f ((y * w + x) ∷ []) (pixels strip))

        marked : List Bool
        marked = marks changed [] (touched w cs x y)

        some_nine : (b : Bool) → ((9 unless b) ≡ 0 → ⊥) → RetouchNumber (9 unless b)
        some_nine true z = absurd (z refl)
        some_nine false z = inl (lit≤ tt, lit≤ tt)

        some_missing : (b : Bool) → ((22 unless b) ≡ 0 → ⊥) → RetouchNumber (22 unless b)
        some_missing true z = absurd (z refl)
        some_missing false z = inr (inl refl)

    pub retouch_refused : accepted (retouch_answer w h cs ds picture strip x y v) ≡ false
        → (retouch_picture w h cs ds picture strip x y v ≡ picture) × (retouch_strip w h cs ds picture strip x y v ≡ strip)
    unfolding retouch_picture retouch_strip
    retouch_refused e = (rw e refl, rw e refl)
