-- The demands of document 00, as specs/Promises.antt states them, proved.
use Rattle.std.specs.Prelude.{if◌then◌else◌}
use mathlib.Core.Bool.{Bool, true, false, true≢false}
use mathlib.Core.List.{List, []}
use mathlib.Core.Logic.{◌⊎◌, inl, inr, ◌↔◌}
use mathlib.Core.Path.{◌≡◌, refl, sym, ap, ◌∙◌}
use Prim.Native.Nat.{ℕ, ◌+◌, ◌*◌, ◌≤◌}
use native.Mathlib.Nat.{le_refl, le_trans}
use native.Mathlib.Omega.{arith}
use lib.ListN.{length, drop}
use Rattle.format.specs.Picture.{Picture, byte_at, pixels, written, written_bytes}
use Rattle.format.specs.ColorMap.{adjusted, unadjusted, refused, color_map_answer, adjust_color_map, unadjust_color_map}
use Rattle.format.specs.Chain.{record_at, step_at, count}
use Rattle.format.specs.Refusals.{accepted, size_refusal, chain_refusal, input_refusal}
use Rattle.format.specs.Stages.{stored, rebuilt, accepts}
use Rattle.format.specs.Retouch.{differ, marks, mask_of}
use Rattle.format.specs.Calls.{records, rebuild_answer, rebuild_image, store_answer, store_strip, touched}
use Rattle.format.specs.Earlier.{earlier_stored, earlier_strip}
use Rattle.format.specs.Lists.{left_by}
use Rattle.format.specs.Desk.{Retouch, Buffers, desk, call_leaves}
use Rattle.format.specs.Report.{counter, color_count, counter_count, report_answer, report, sum}
use Rattle.format.specs.Promises.{SameFront, Admitted, RebuildingExactly, StoringExactly, RebuildingAnswers, StoringAnswers, RetouchingAnswers, RebuildingRefused, StoringRefused, RetouchingRefused, RebuildsStored, RebuildsEarlier, AnswersAsEarlier, ConvertsEarlier, StoresRebuilt, StoredPair, OneCall, left, painted_in_turn, RetouchesLikeDesk, ColorMapAnswers, ColorMapUndone, ColorMapRefused, ReportingAnswers, ReportingRefused, of_color, of_none, all_pixels, left_counters, ReportsAddUp}
use Rattle.format.proofs.Picture.{written_same}
use Rattle.format.proofs.RoundTrips.{map_adjusted, map_unadjusted}
use Rattle.format.proofs.Written.{bytes_pixels, length_written, written_over, written_read}
use Rattle.format.proofs.Inside.{Alike}
use Rattle.format.proofs.Stages.{stored_same, rebuilt_same, accepts_same}
use Rattle.format.proofs.Valid.{before_zero, valid_sized, valid_known}
use Rattle.format.proofs.Chains.{chain_stored, chain_rebuilt, width_at_untabled, accepts_untabled}
use Rattle.format.proofs.Calls.{rebuild_answer_most, rebuild_accepts, rebuild_accepted, rebuild_image_accepted, rebuild_image_refused, store_answer_listed, store_accepts, store_accepted, store_strip_accepted, store_strip_refused, retouch_answer_listed, retouch_refused}
use Rattle.format.proofs.Earlier.{chain_earlier, earlier-answer, earlier_accepted, earlier_strip_accepted}
use Rattle.format.proofs.Marks.{marks_length, mask_small}
use Rattle.format.proofs.Spots.{spots_few}
use Rattle.format.proofs.Lists.{left_kept, left_total}
use Rattle.format.proofs.Reporting.{report_numbers, report_refused, counter_adds, all_add, beyond_kept, length_kept, adds_color, adds_none, exactly}
use Rattle.format.proofs.Retouching.{Matched, same_answer, accepts_exactly, few_moved, count_moved, listed, desk_painted}

-- a refusal is not 0
not_zero : (n : ℕ) → accepted n ≡ false → n ≡ 0 → ⊥
not_zero n e z = true≢false (sym (ap accepted z) ∙ e)

pub color_map_answers : ColorMapAnswers
unfolding color_map_answer
color_map_answers map = go (refused (length map))
  where
    go : (b : Bool) → ◌≡◌ {A = ℕ} (if b then 10 else 0) 0 ⊎ ◌≡◌ {A = ℕ} (if b then 10 else 0) 10
    go true = inr refl
    go false = inl refl

pub color_map_refused : ColorMapRefused
unfolding color_map_answer adjust_color_map unadjust_color_map
color_map_refused map n = go (refused (length map)) n
  where
    go : (b : Bool) → accepted (if b then 10 else 0) ≡ false
        → ((if b then map else written_bytes (length map) (adjusted (byte_at map)) map) ≡ map) × ((if b then map else written_bytes (length map) (unadjusted (byte_at map)) map) ≡ map)
    go true d = (refl, refl)
    go false d = absurd (true≢false d)

pub color_map_undone : ColorMapUndone
color_map_undone map bytes = (map_adjusted map bytes, map_unadjusted map bytes)

-- a front that was written is what was written there
front_written : (n : ℕ) (f : Picture) (xs ys zs : List ℕ) → SameFront n xs ys → ys ≡ written n f zs → Alike n (pixels xs) f
front_written n f xs ys zs front e q l = front q l ∙ written_read n f zs ys e q l

module _ (w h : ℕ) (cs ds : List ℕ) where
  pub rebuilding_answers : RebuildingAnswers w h cs ds
  rebuilding_answers = rebuild_answer_most w h cs ds

  pub storing_answers : StoringAnswers w h cs ds
  storing_answers = store_answer_listed w h cs ds

  pub rebuilding_refused : RebuildingRefused w h cs ds
  rebuilding_refused image e = rebuild_image_refused w h cs ds image (not_zero (rebuild_answer w h cs ds image) e)

  pub storing_refused : StoringRefused w h cs ds
  storing_refused picture strip e = store_strip_refused w h cs ds picture strip (not_zero (store_answer w h cs ds picture strip) e)

  admitted : (input_refusal w h cs ds ≡ 0) ↔ Admitted w h cs ds
  unfolding input_refusal
  admitted = (before_zero (size_refusal w h) (chain_refusal w h cs ds), λ a. rw a.0 a.1)

  pub rebuilding_exactly : RebuildingExactly w h cs ds
  rebuilding_exactly image = (
    λ e. let a = rebuild_accepted w h cs ds image e in (admitted.0 a.0, a.1),
    λ a. rebuild_accepts w h cs ds image (admitted.1 a.0) a.1,
  )

  pub storing_exactly : StoringExactly w h cs ds
  storing_exactly picture strip = (
    λ e. let a = store_accepted w h cs ds picture strip e in (admitted.0 a.0, a.1, a.2, a.3),
    λ a. store_accepts w h cs ds picture strip (admitted.1 a.0) a.1 a.2 a.3,
  )

  -- a buffer whose front holds records that make f is rebuilt to f
  rebuilds : (f s : Picture) (image : List ℕ) → input_refusal w h cs ds ≡ 0 → 4 * (h * w) ≤ length image → Alike (records w h cs) (pixels image) s → Alike (h * w) (rebuilt (step_at cs w) h ds (count cs) s) f
      → (rebuild_answer w h cs ds image ≡ 0) × (rebuild_image w h cs ds image ≡ written (h * w) f image)
  rebuilds f s image valid room front made =
      (taken, rebuild_image_accepted w h cs ds image taken ∙ written_same (h * w) (rebuilt (step_at cs w) h ds (count cs) (pixels image)) f image same)
    where
      taken : rebuild_answer w h cs ds image ≡ 0
      taken = rebuild_accepts w h cs ds image valid room

      same : Alike (h * w) (rebuilt (step_at cs w) h ds (count cs) (pixels image)) f
      same q l = rebuilt_same cs w h ds (valid_sized w h cs ds valid).wide (count cs) (valid_known w h cs ds valid) (pixels image) s front q l ∙ made q l

  pub rebuilds_stored : RebuildsStored w h cs ds
  rebuilds_stored picture strip image bytes e room front =
      let a = store_accepted w h cs ds picture strip e in
      let s = stored (step_at cs w) ds (count cs) (pixels picture) in
      rebuilds (pixels picture) s image a.0 room (front_written (records w h cs) s image (store_strip w h cs ds picture strip) strip front (store_strip_accepted w h cs ds picture strip e))
      (chain_stored w h cs ds a.0 (pixels picture) (λ p m. bytes_pixels picture bytes p) a.3)

  pub rebuilds_earlier : RebuildsEarlier w h cs ds
  rebuilds_earlier picture strip image bytes e room front =
      let a = earlier_accepted w h cs ds picture strip e in
      let s = earlier_stored (step_at cs w) ds (count cs) (pixels picture) in
      rebuilds (pixels picture) s image a.0 room (front_written (records w h cs) s image (earlier_strip w h cs ds picture strip) strip front (earlier_strip_accepted w h cs ds picture strip e))
      (chain_earlier w h cs ds a.0 (pixels picture) (λ p m. bytes_pixels picture bytes p) a.1)

  pub answers_as_earlier : AnswersAsEarlier w h cs ds
  answers_as_earlier = earlier-answer w h cs ds

  pub converts_earlier : ConvertsEarlier w h cs ds
  converts_earlier picture strip image new bytes e room space front =
      (again, store_strip_accepted w h cs ds p s again ∙ ap (written n g) left ∙ written_over n n g g new (le_refl n) ∙ sym left)
    where
      f : Picture
      f = pixels picture

      p : List ℕ
      p = rebuild_image w h cs ds image

      made : p ≡ written (h * w) f image
      made = (rebuilds_earlier picture strip image bytes e room front).1

      valid : input_refusal w h cs ds ≡ 0
      valid = (earlier_accepted w h cs ds picture strip e).0

      taken : accepts (step_at cs w) h ds (count cs) (pixels p) ≡ true
      taken =
          accepts_same cs w h ds (valid_sized w h cs ds valid).wide (count cs) (valid_known w h cs ds valid) (pixels p) f
          (written_read (h * w) f image p made)
          ∙ (store_accepted w h cs ds picture strip (answers_as_earlier picture strip ∙ e)).3

      wide : 4 * (h * w) ≤ length p
      wide = rw (made, length_written (h * w) f image room) room

      n : ℕ
      n = records w h cs

      g : Picture
      g = stored (step_at cs w) ds (count cs) (pixels p)

      s : List ℕ
      s = store_strip w h cs ds p new

      left : s ≡ written n g new
      left = store_strip_accepted w h cs ds p new (store_accepts w h cs ds p new valid wide space taken)

      again : store_answer w h cs ds p s ≡ 0
      again = store_accepts w h cs ds p s valid wide (rw (left, length_written n g new space) space) taken

  pub stores_rebuilt : StoresRebuilt w h cs ds
  unfolding record_at
  stores_rebuilt image picture strip bytes untabled e roomP roomS front = (
    taken,
    store_strip_accepted w h cs ds picture strip taken ∙ ap (λ (n : ℕ). written n s strip) whole ∙ written_same (h * w) s (pixels image) strip same,
  )
    where
      valid : input_refusal w h cs ds ≡ 0
      valid = (rebuild_accepted w h cs ds image e).0

      whole : records w h cs ≡ h * w
      whole = ap (λ (x : ℕ). h * x) (width_at_untabled cs w (count cs) untabled)

      taken : store_answer w h cs ds picture strip ≡ 0
      taken = store_accepts w h cs ds picture strip valid roomP (rw whole roomS) (accepts_untabled cs w h ds (count cs) untabled (pixels picture))

      f : Picture
      f = rebuilt (step_at cs w) h ds (count cs) (pixels image)

      s : Picture
      s = stored (step_at cs w) ds (count cs) (pixels picture)

      same : Alike (h * w) s (pixels image)
      same q l =
          stored_same cs w h ds (valid_sized w h cs ds valid).wide (count cs) (valid_known w h cs ds valid) (pixels picture) f
          (front_written (h * w) f picture (rebuild_image w h cs ds image) image front (rebuild_image_accepted w h cs ds image e)) q (rw whole l)
          ∙ chain_rebuilt w h cs ds valid untabled (pixels image) (λ p m. bytes_pixels image bytes p) q l

  pub retouching_answers : RetouchingAnswers w h cs ds
  retouching_answers picture strip x y v = retouch_answer_listed w h cs ds picture strip x y v (λ e. spots_few w h cs ds e (y * w + x))

  pub retouching_refused : RetouchingRefused w h cs ds
  retouching_refused = retouch_refused w h cs ds

  matched : (b : Buffers) → StoredPair w h cs ds b → Matched w h cs ds b
  matched b s =
      let a = store_accepted w h cs ds b.picture b.strip s.0 in
      record {
        room = a.1;
        space = a.2;
        taken = a.3;
        stored = λ r l.
            front_written (records w h cs) (stored (step_at cs w) ds (count cs) (pixels b.picture)) b.strip b.strip b.strip
            (λ q m. refl) (sym s.1 ∙ store_strip_accepted w h cs ds b.picture b.strip s.0) r l;
      }

  -- from a valid chain on
  module _ (valid : input_refusal w h cs ds ≡ 0) where
    one_call : (b : Buffers) (c : Retouch) → Matched w h cs ds b → OneCall w h cs ds b c
    one_call b c m = record {
      exactly = ap accepted (same_answer w h cs ds valid b c m) ∙ accepts_exactly w h cs ds valid b c m;
      few = le_trans (few_moved w h cs ds valid b c m) five;
      counted = λ e. (mask_of marked, mask_small marked (rw (marks_length [] moved (touched w cs c.x c.y)) five), count_moved w h cs ds valid b c m e);
    }
      where
        five : length (touched w cs c.x c.y) ≤ 5
        five = spots_few w h cs ds valid (c.y * w + c.x)

        moved : ℕ → Bool
        moved = differ (records w h cs) (pixels b.strip) (pixels (call_leaves w h cs ds b c).strip)

        marked : List Bool
        marked = marks moved [] (touched w cs c.x c.y)

  pub retouches_like_desk : RetouchesLikeDesk w h cs ds
  retouches_like_desk b s calls =
      let valid = (store_accepted w h cs ds b.picture b.strip s.0).0 in
      let m = matched b s in
      let both = listed w h cs ds valid calls b m in
      let l = both.1 in
      let painted : painted_in_turn w h cs ds b calls ≡ left_by (desk w h cs ds) (pixels b.picture) calls = rw both.0 (sym (desk_painted w h cs ds calls (pixels b.picture))) in
      let a = store_accepts w h cs ds (left w h cs ds b calls).picture b.strip valid l.matched.room m.space l.matched.taken in
      record {
        answers = both.0;
        picture = l.picture ∙ ap (λ (f : Picture). written (h * w) f b.picture) (sym painted);
        held = painted;
        stored = a;
        strip = l.strip ∙ rw (← l.read) (sym (store_strip_accepted w h cs ds (left w h cs ds b calls).picture b.strip a));
        next = λ c. one_call valid (left w h cs ds b calls) c l.matched;
      }

-- under one list of colors
module _ (colors : List ℕ) where
  pub reporting_answers : ReportingAnswers colors
  reporting_answers w h picture counters = report_numbers w h picture colors counters

  pub reporting_refused : ReportingRefused colors
  reporting_refused w h picture counters e = (report_refused w h picture colors counters (not_zero (report_answer w h picture colors counters) e)).1

  pub reports_add_up : ReportsAddUp colors
  reports_add_up counters maps = record {
    of_each = λ k l. left_total (report colors) (λ s. counter s k) (of_color colors k) (λ s m. rw (← adds_color colors k m l) (counter_adds colors k (omega arith) s m)) maps counters;
    of_others = left_total (report colors) (λ s. counter s (color_count colors)) (of_none colors) (λ s m. rw (← adds_none colors m) (counter_adds colors (color_count colors) (omega arith) s m)) maps counters;
    together = left_total (report colors) (λ s. sum (counter_count colors) (counter s)) all_pixels (all_add colors) maps counters;
    beyond = left_kept (report colors) (drop (8 * counter_count colors)) (beyond_kept colors) maps counters;
    long = left_kept (report colors) length (length_kept colors) maps counters;
    next = exactly colors (left_counters colors counters maps);
  }
