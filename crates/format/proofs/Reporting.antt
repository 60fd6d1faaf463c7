-- Laws of the call that reports: which numbers it answers, when it accepts, and what it adds.
use Rattle.std.proofs.lemmas.Bool.{and_parts, and_from}
use Rattle.std.specs.Prelude.{if◌then◌else◌}
use mathlib.Core.Bool.{Bool, true, false, ◌&&◌}
use mathlib.Core.List.{List}
use mathlib.Core.Logic.{inl, inr, ◌↔◌}
use mathlib.Core.Path.{◌≡◌, refl, sym, ap, ◌∙◌}
use Prim.Native.Nat.{ℕ, ◌+◌, ◌*◌, ◌^◌, ◌<◌, ◌≤◌}
use native.Mathlib.Nat.{add-zero}
use native.Mathlib.Decide.{ℕ_discrete, dec_lt}
use native.Mathlib.Omega.{arith}
use borrow.Author.Tests.{leb-true, le-leb, ltb-true, lt-ltb, le-ltb}
use lib.Dec.{ltb, lit<}
use lib.ListN.{length, drop}
use Rattle.format.specs.Choice.{every}
use Rattle.format.specs.Picture.{pixels}
use Rattle.format.specs.Refusals.{size_refusal, accepted, in_range, ◌unless◌}
use Rattle.format.specs.Calls.{holds}
use Rattle.format.specs.Report.{added, counter, written_counters, color_count, counter_count, in_fours, color_list, holds_counters, grown, report_answer, report_counters, Map, map_answer, map_leaves, sum}
use Rattle.format.specs.Promises.{ReportNumber, of_color, of_none, all_pixels, Reportable}
use Rattle.format.proofs.Choice.{every_at, every_all}
use Rattle.format.proofs.Valid.{before_zero, unless_zero}
use Rattle.format.proofs.Calls.{before_is, unless_is, not_accepted}
use Rattle.format.proofs.Report.{sum_same, sum_plus, added_together, counter_written, beyond_written, length_counters}

module _ (w h : ℕ) (picture colors counters : List ℕ) where
  abbrev answered : ℕ
  answered = report_answer w h picture colors counters

  abbrev grows : ℕ → ℕ
  grows = grown w h picture colors counters

  abbrev rooms : Bool
  rooms = holds_counters counters (counter_count colors) && holds picture (h * w)

  abbrev fits : Bool
  fits = every (counter_count colors) (λ k. ltb (grows k) (2 ^ 64))

  -- no refusal applies
  pub record Accepted : Type 0 where
    pub sized : size_refusal w h ≡ 0
    pub list : color_list colors ≡ true
    pub room : 8 * counter_count colors ≤ length counters
    pub there : 4 * (h * w) ≤ length picture
    pub below : (k : ℕ) → k < counter_count colors → grows k < 2 ^ 64

  pub report_numbers : ReportNumber answered
  unfolding report_answer size_refusal
  report_numbers =
      before_is ReportNumber (1 unless (in_range w && in_range h)) _ (λ z. unless_is ReportNumber 1 (in_range w && in_range h) (inl refl) (inr (inl refl)))
      (λ d. before_is ReportNumber (23 unless color_list colors) _ (λ z. unless_is ReportNumber 23 (color_list colors) (inl refl) (inr (inr (inr (inl refl)))))
      (λ d. before_is ReportNumber (8 unless rooms) _ (λ z. unless_is ReportNumber 8 rooms (inl refl) (inr (inr (inl refl))))
      (λ d. unless_is ReportNumber 24 fits (inl refl) (inr (inr (inr (inr refl)))))))

  pub report_accepted : answered ≡ 0 → Accepted
  unfolding report_answer
  report_accepted e =
      let a = before_zero (size_refusal w h) _ e in
      let b = before_zero (23 unless color_list colors) _ a.1 in
      let c = before_zero (8 unless rooms) _ b.1 in
      let r = and_parts (holds_counters counters (counter_count colors)) _ (unless_zero 7 rooms c.0) in
      record {
        sized = a.0;
        list = unless_zero 22 (color_list colors) b.0;
        room = leb-true (8 * counter_count colors) (length counters) r.0;
        there = leb-true (4 * (h * w)) (length picture) r.1;
        below = λ k l. ltb-true (grows k) (2 ^ 64) (every_at (counter_count colors) (λ j. ltb (grows j) (2 ^ 64)) k l (unless_zero 23 fits c.1));
      }

  pub report_accepts : Accepted → answered ≡ 0
  unfolding report_answer
  report_accepts a =
      let r : rooms ≡ true = and_from (holds_counters counters (counter_count colors)) (holds picture (h * w)) (le-leb (8 * counter_count colors) (length counters) a.room) (le-leb (4 * (h * w)) (length picture) a.there) in
      let f : fits ≡ true = every_all (counter_count colors) (λ k. ltb (grows k) (2 ^ 64)) (λ k l. lt-ltb (grows k) (2 ^ 64) (a.below k l)) in
      rw (a.sized, a.list, r, f) refl

  pub report_left : answered ≡ 0 → report_counters w h picture colors counters ≡ written_counters (counter_count colors) grows counters
  unfolding report_counters
  report_left e = rw e

  small : ReportNumber answered → answered < 256
  small (inl e) = rw e (lit< tt)
  small (inr (inl e)) = rw e (lit< tt)
  small (inr (inr (inl e))) = rw e (lit< tt)
  small (inr (inr (inr (inl e)))) = rw e (lit< tt)
  small (inr (inr (inr (inr e)))) = rw e (lit< tt)

  pub report_refused : (answered ≡ 0 → ⊥) → (accepted answered ≡ false) × (report_counters w h picture colors counters ≡ counters)
  unfolding report_counters
  report_refused n = let a = not_accepted answered n (small report_numbers) in (a, rw a)

-- under one list of colors, over lists of maps
module _ (colors : List ℕ) where
  abbrev adds : ℕ → Map → ℕ
  adds k m = added (color_count colors) (pixels colors) (all_pixels m) (pixels m.picture) k

  -- a fact of what one call leaves, by whether it is accepted
  one_call : (P : List ℕ → Bool → Type 0) (s : List ℕ) (m : Map)
      → (Accepted m.width m.height m.picture colors s → P (written_counters (counter_count colors) (λ k. counter s k + adds k m) s) true)
      → P s false
      → P (map_leaves colors s m) (accepted (map_answer colors s m))
  unfolding map_leaves map_answer
  one_call P s m yes' no' = go (ℕ_discrete (answered m.width m.height m.picture colors s) 0)
    where
      go : Dec (answered m.width m.height m.picture colors s ≡ 0) → P (report_counters m.width m.height m.picture colors s) (accepted (answered m.width m.height m.picture colors s))
      go (yes e) = rw (report_left m.width m.height m.picture colors s e, e) (yes' (report_accepted m.width m.height m.picture colors s e))
      go (no n) = let r = report_refused m.width m.height m.picture colors s n in rw (r.1, r.0) no'

  pub counter_adds : (k : ℕ) → k < counter_count colors → (s : List ℕ) (m : Map) → counter (map_leaves colors s m) k ≡ counter s k + (if accepted (map_answer colors s m) then adds k m else 0)
  counter_adds k l s m =
      one_call (λ t b. counter t k ≡ counter s k + (if b then adds k m else 0)) s m
      (λ a. counter_written (counter_count colors) (λ j. counter s j + adds j m) s k l (a.below k l))
      (sym (add-zero (counter s k)))

  pub all_add : (s : List ℕ) (m : Map) → sum (counter_count colors) (counter (map_leaves colors s m)) ≡ sum (counter_count colors) (counter s) + (if accepted (map_answer colors s m) then all_pixels m else 0)
  unfolding color_list
  all_add s m =
      one_call (λ t b. sum (counter_count colors) (counter t) ≡ sum (counter_count colors) (counter s) + (if b then all_pixels m else 0)) s m
      (λ a.
      sum_same (counter_count colors) _ _ (λ k l. counter_written (counter_count colors) (λ j. counter s j + adds j m) s k l (a.below k l))
      ∙ sum_plus (counter_count colors) (counter s) (λ k. adds k m)
      ∙ ap (λ (n : ℕ). sum (counter_count colors) (counter s) + n)
      (added_together (color_count colors) (pixels colors) (and_parts (in_fours colors) _ a.list).1 (all_pixels m) (pixels m.picture)))
      (sym (add-zero (sum (counter_count colors) (counter s))))

  pub beyond_kept : (s : List ℕ) (m : Map) → drop (8 * counter_count colors) (map_leaves colors s m) ≡ drop (8 * counter_count colors) s
  beyond_kept s m = one_call (λ t b. drop (8 * counter_count colors) t ≡ drop (8 * counter_count colors) s) s m (λ a. beyond_written (counter_count colors) _ s) refl

  pub length_kept : (s : List ℕ) (m : Map) → length (map_leaves colors s m) ≡ length s
  length_kept s m = one_call (λ t b. length t ≡ length s) s m (λ a. length_counters (counter_count colors) _ s a.room) refl

  -- what is added to a color's counter, and to the last one
  pub adds_color : (k : ℕ) (m : Map) → k < color_count colors → adds k m ≡ of_color colors k m
  unfolding added
  adds_color k m l = rw (lt-ltb k (color_count colors) l) refl

  pub adds_none : (m : Map) → adds (color_count colors) m ≡ of_none colors m
  unfolding added
  adds_none m = rw (le-ltb (color_count colors) (color_count colors) (omega arith)) refl

  pub exactly : (s : List ℕ) (m : Map) → (map_answer colors s m ≡ 0) ↔ Reportable colors s m
  unfolding map_answer
  exactly s m = (
    λ e.
        let a = report_accepted m.width m.height m.picture colors s e in
        record {
          sized = a.sized;
          list = a.list;
          room = a.room;
          there = a.there;
          each_fits = λ k l. rw (adds_color k m l) at (a.below k (omega arith));
          others_fit = rw (adds_none m) at (a.below (color_count colors) (omega arith));
        },
    λ r. report_accepts m.width m.height m.picture colors s (record {
      sized = r.sized;
      list = r.list;
      room = r.room;
      there = r.there;
      below = λ k l. below r k l (dec_lt k (color_count colors));
    }),
  )
    where
      below : Reportable colors s m → (k : ℕ) → k < counter_count colors → Dec (k < color_count colors) → counter s k + adds k m < 2 ^ 64
      below r k l (yes b) = rw (adds_color k m b) (r.each_fits k b)
      below r k l (no b) = let q : k ≡ color_count colors = omega arith in rw (q, adds_none m) r.others_fit
