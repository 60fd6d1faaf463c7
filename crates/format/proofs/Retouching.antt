-- A retouch answers and leaves what the plain desk does, where the strip is the picture stored; so every list of
-- retouches does (Lists).
use Rattle.std.proofs.lemmas.Bool.{and_parts}
use Rattle.std.specs.Prelude.{if◌then◌else◌}
use mathlib.Core.Bool.{Bool, true, false, not, ◌&&◌, false≢true, and-false, not-not}
use mathlib.Core.List.{List, [], ◌∷◌}
use mathlib.Core.Path.{◌≡◌, refl, sym, ap, ◌∙◌}
use Prim.Native.Nat.{ℕ, ◌+◌, ◌*◌, ◌<◌, ◌≤◌}
use native.Mathlib.Nat.{le_refl}
use native.Mathlib.Omega.{arith}
use borrow.Author.Tests.{ltb-true}
use lib.Arith.{digits_lt}
use lib.Dec.{ltb}
use lib.ListN.{length}
use Rattle.format.specs.Indices.{how_many}
use Rattle.format.specs.Picture.{Picture, pixels, written}
use Rattle.format.specs.Chain.{step_at, count}
use Rattle.format.specs.Refusals.{◌unless◌, ◌before◌, accepted, input_refusal}
use Rattle.format.specs.Stages.{stored, accepts}
use Rattle.format.specs.Retouch.{differ, marks, mask_of, ones, answer, unmade, new_strip, changes, point_answer}
use Rattle.format.specs.Calls.{records, inside, touched, retouch_answer, retouch_picture, retouch_strip}
use Rattle.format.specs.Lists.{in_turn, left_by, answers_to, accepted_calls}
use Rattle.format.specs.Desk.{Retouch, Buffers, painted_by, differing, desk_answer, desk_holds, desk, call_answer, call_leaves, call}
use Rattle.format.proofs.Indices.{how_many_same, how_many_none}
use Rattle.format.proofs.Pixels.{equal_refl}
use Rattle.format.proofs.Picture.{written_same, paint_other}
use Rattle.format.proofs.Written.{length_written, pixels_whole, written_over, written_self, written_read}
use Rattle.format.proofs.Lists.{related, left_accepted}
use Rattle.format.proofs.Marks.{marks_same, ones_most}
use Rattle.format.proofs.Locality.{Off, paint_off}
use Rattle.format.proofs.Making.{unmade_exact}
use Rattle.format.proofs.Afresh.{differ_same, differing_counted, remade_stored, changes_stored}
use Rattle.format.proofs.Calls.{is_accepted, pair_accepts}

-- the answer after tests 9 and 22

outcome : Bool → Bool → ℕ → ℕ
outcome i a n = (9 unless i) before (22 unless a) before n

outcome_accepts : (i a : Bool) (k m : ℕ) → accepted (outcome i a (answer k m)) ≡ (i && a)
unfolding outcome
outcome_accepts false a k m = refl
outcome_accepts true false k m = refl
outcome_accepts true true k m = is_accepted (answer k m) (omega arith)

outcome_number : (i a : Bool) (k : ℕ) → (i && a) ≡ true → outcome i a k ≡ k
unfolding outcome
outcome_number true true k e = refl
outcome_number true false k e = absurd (false≢true e)
outcome_number false a k e = absurd (false≢true e)

module _ (w h : ℕ) (cs ds : List ℕ) where
  abbrev n : ℕ
  n = records w h cs

  abbrev afresh : Picture → Picture
  afresh f = stored (step_at cs w) ds (count cs) f

  abbrev taken : Picture → Bool
  taken f = accepts (step_at cs w) h ds (count cs) f

  -- buffers with room, whose strip is the picture stored; storing accepts it
  pub record Matched (b : Buffers) : Type 0 where
    pub room : 4 * (h * w) ≤ length b.picture
    pub space : 4 * records w h cs ≤ length b.strip
    pub taken : accepts (step_at cs w) h ds (count cs) (pixels b.picture) ≡ true
    pub stored : (r : ℕ) → r < records w h cs → pixels b.strip r ≡ stored (step_at cs w) ds (count cs) (pixels b.picture) r

  module _ (valid : input_refusal w h cs ds ≡ 0) where
    -- one call
    module _ (b : Buffers) (c : Retouch) (m : Matched b) where
      abbrev p : ℕ
      p = c.y * w + c.x

      abbrev f : Picture
      f = pixels b.picture

      abbrev g : Picture
      g = painted_by w f c

      abbrev rs : List ℕ
      rs = touched w cs c.x c.y

      abbrev moves : List Bool
      moves = changes (step_at cs w) ds (count cs) n g (p ∷ []) (pixels b.strip)

      off : Off (p ∷ []) f g
      off = paint_off f p c.color

      -- the desk's count is the ones of its mask
      counted : ones (marks (differing w h cs ds f c) [] rs) ≡ how_many n (differing w h cs ds f c)
      counted = differing_counted w h cs ds valid (p ∷ []) f g off

      tests : call_answer w h cs ds b c
          ≡ outcome (inside w h c.x c.y) (not (unmade (step_at cs w) ds (count cs) n g rs)) (answer (ones moves) (mask_of moves))
      unfolding call_answer retouch_answer point_answer outcome
      tests = rw (pair_accepts w h cs ds b.picture b.strip valid m.room m.space) refl

      pub same_answer : call_answer w h cs ds b c ≡ desk_answer w h cs ds f c
      unfolding desk_answer outcome
      same_answer =
          tests
          ∙ rw (unmade_exact w h cs ds valid (p ∷ []) f g off m.taken, not-not (taken g), changes_stored w h cs ds valid (p ∷ []) f g off (pixels b.strip) m.stored, counted) refl

      pub accepts_exactly : accepted (desk_answer w h cs ds f c) ≡ (inside w h c.x c.y && taken g)
      unfolding desk_answer outcome
      accepts_exactly = outcome_accepts (inside w h c.x c.y) (taken g) _ _

      -- what the call leaves

      next_picture : (call_leaves w h cs ds b c).picture ≡ written (h * w) (desk_holds w h cs ds f c) b.picture
      unfolding call_leaves retouch_picture desk_holds call_answer
      next_picture = rw same_answer (go (accepted (desk_answer w h cs ds f c)))
        where
          go : (t : Bool) → (if t then written (h * w) g b.picture else b.picture) ≡ written (h * w) (if t then g else f) b.picture
          go true = refl
          go false = sym (written_self (h * w) b.picture m.room)

      next_strip : (call_leaves w h cs ds b c).strip ≡ written n (afresh (desk_holds w h cs ds f c)) b.strip
      unfolding call_leaves retouch_strip desk_holds call_answer
      next_strip = rw same_answer (go (accepted (desk_answer w h cs ds f c)))
        where
          go : (t : Bool) → (if t then written n (new_strip (step_at cs w) ds (count cs) g (p ∷ []) (pixels b.strip)) b.strip else b.strip)
              ≡ written n (afresh (if t then g else f)) b.strip
          go true =
              written_same n (new_strip (step_at cs w) ds (count cs) g (p ∷ []) (pixels b.strip)) (afresh g) b.strip
              (remade_stored w h cs ds valid (p ∷ []) f g off (pixels b.strip) m.stored)
          go false = sym (written_self n b.strip m.space) ∙ written_same n (pixels b.strip) (afresh f) b.strip m.stored

      -- what the desk holds then

      -- a point that was accepted is inside
      point_inside : accepted (desk_answer w h cs ds f c) ≡ true → p < h * w
      point_inside e =
          let i = and_parts (ltb c.x w) (ltb c.y h) (and_parts (inside w h c.x c.y) (taken g) (sym accepts_exactly ∙ e)).0 in
          digits_lt (ltb-true c.y h i.1) (ltb-true c.x w i.0)

      held_beyond : (q : ℕ) → h * w ≤ q → desk_holds w h cs ds f c q ≡ f q
      unfolding desk_holds
      held_beyond q l = go (accepted (desk_answer w h cs ds f c)) point_inside
        where
          go : (t : Bool) → (t ≡ true → p < h * w) → (if t then g else f) q ≡ f q
          go true i = let k = i refl in paint_other f p c.color q (λ e. omega arith)
          go false i = refl

      held_taken : taken (desk_holds w h cs ds f c) ≡ true
      unfolding desk_holds
      held_taken = go (accepted (desk_answer w h cs ds f c)) accepts_exactly
        where
          go : (t : Bool) → t ≡ (inside w h c.x c.y && taken g) → taken (if t then g else f) ≡ true
          go true e = (and_parts (inside w h c.x c.y) (taken g) (sym e)).1
          go false e = m.taken

      held_read : pixels (call_leaves w h cs ds b c).picture ≡ desk_holds w h cs ds f c
      held_read = ap pixels next_picture ∙ pixels_whole (h * w) (desk_holds w h cs ds f c) b.picture held_beyond

      next_stored : (r : ℕ) → r < n → pixels (call_leaves w h cs ds b c).strip r ≡ afresh (desk_holds w h cs ds f c) r
      next_stored = written_read n (afresh (desk_holds w h cs ds f c)) b.strip (call_leaves w h cs ds b c).strip next_strip

      next_matched : Matched (call_leaves w h cs ds b c)
      next_matched = record {
        room = rw (next_picture, length_written (h * w) (desk_holds w h cs ds f c) b.picture m.room) m.room;
        space = rw (next_strip, length_written n (afresh (desk_holds w h cs ds f c)) b.strip m.space) m.space;
        taken = rw held_read held_taken;
        stored = λ r l. next_stored r l ∙ ap (λ (k : Picture). afresh k r) (sym held_read);
      }

      -- the records that differ before and after

      abbrev moved : ℕ → Bool
      moved = differ n (pixels b.strip) (pixels (call_leaves w h cs ds b c).strip)

      moved_stored : (r : ℕ) → moved r ≡ differ n (afresh f) (afresh (desk_holds w h cs ds f c)) r
      moved_stored = differ_same n (pixels b.strip) (pixels (call_leaves w h cs ds b c).strip) (afresh f) (afresh (desk_holds w h cs ds f c)) m.stored next_stored

      moved_accepted : accepted (desk_answer w h cs ds f c) ≡ true → (r : ℕ) → moved r ≡ differing w h cs ds f c r
      unfolding desk_holds
      moved_accepted e r = moved_stored r ∙ rw e refl

      moved_refused : accepted (desk_answer w h cs ds f c) ≡ false → (r : ℕ) → moved r ≡ false
      unfolding desk_holds
      moved_refused e r = moved_stored r ∙ rw (e, equal_refl (afresh f r)) (and-false (ltb r n))

      pub few_moved : how_many n moved ≤ length rs
      few_moved = go (accepted (desk_answer w h cs ds f c)) refl
        where
          go : (t : Bool) → accepted (desk_answer w h cs ds f c) ≡ t → how_many n moved ≤ length rs
          go true e = omega (arith, how_many_same n moved (differing w h cs ds f c) (λ r l. moved_accepted e r), counted, ones_most [] (differing w h cs ds f c) rs)
          go false e = omega (arith, how_many_none n moved (λ r l. moved_refused e r))

      accepted_number : accepted (desk_answer w h cs ds f c) ≡ true
          → desk_answer w h cs ds f c ≡ answer (how_many n (differing w h cs ds f c)) (mask_of (marks (differing w h cs ds f c) [] rs))
      unfolding desk_answer outcome
      accepted_number d = outcome_number (inside w h c.x c.y) (taken g) _ (sym accepts_exactly ∙ d)

      -- an accepted call's number has their count
      pub count_moved : accepted (call_answer w h cs ds b c) ≡ true → call_answer w h cs ds b c ≡ answer (how_many n moved) (mask_of (marks moved [] rs))
      count_moved e =
          let d = ap accepted (sym same_answer) ∙ e in
          same_answer ∙ accepted_number d ∙ rw (how_many_same n moved (differing w h cs ds f c) (λ r l. moved_accepted d r), marks_same [] moved (differing w h cs ds f c) rs (moved_accepted d)) refl

    -- lists of calls, from the buffers o on

    -- the desk holds f: the picture is o's with f in front, the strip o's with f stored in front
    pub record Held (o b : Buffers) (f : Picture) : Type 0 where
      pub picture : b.picture ≡ written (h * w) f o.picture
      pub strip : b.strip ≡ written (records w h cs) (stored (step_at cs w) ds (count cs) f) o.strip
      pub read : pixels b.picture ≡ f
      pub matched : Matched b

    held_first : (b : Buffers) → Matched b → Held b b (pixels b.picture)
    held_first b m = record {
      picture = sym (written_self (h * w) b.picture m.room);
      strip = sym (written_self n b.strip m.space) ∙ written_same n (pixels b.strip) (afresh (pixels b.picture)) b.strip m.stored;
      read = refl;
      matched = m;
    }

    held_next : (o b : Buffers) (f : Picture) (c : Retouch) → Held o b f
        → (call_answer w h cs ds b c ≡ desk_answer w h cs ds f c) × Held o (call_leaves w h cs ds b c) (desk_holds w h cs ds f c)
    held_next o b f c l =
        let m = l.matched in
        let k = desk_holds w h cs ds f c in
        let same = l.read in (
          rw (← same) (same_answer b c m),
          record {
            picture = rw (← same) (next_picture b c m) ∙ ap (λ (xs : List ℕ). written (h * w) k xs) l.picture ∙ written_over (h * w) (h * w) k f o.picture (le_refl (h * w));
            strip = rw (← same) (next_strip b c m) ∙ ap (λ (xs : List ℕ). written n (afresh k) xs) l.strip ∙ written_over n n (afresh k) (afresh f) o.strip (le_refl n);
            read = rw (← same) (held_read b c m);
            matched = next_matched b c m;
          },
        )

    -- the call and the desk, on every list
    pub listed : (calls : List Retouch) (b : Buffers) → Matched b
        → (answers_to (call w h cs ds) b calls ≡ answers_to (desk w h cs ds) (pixels b.picture) calls)
        × Held b (left_by (call w h cs ds) b calls) (left_by (desk w h cs ds) (pixels b.picture) calls)
    listed calls b m = related (call w h cs ds) (desk w h cs ds) (Held b) (held_next b) calls b (pixels b.picture) (held_first b m)

  -- what the desk holds is its first picture with the accepted calls painted
  pub desk_painted : (calls : List Retouch) (f : Picture)
      → left_by (desk w h cs ds) f calls ≡ in_turn (painted_by w) f (accepted_calls (answers_to (desk w h cs ds) f calls) calls)
  unfolding desk_holds
  desk_painted = left_accepted (desk w h cs ds) (painted_by w) (λ f c. refl)
