-- Document 01's words on spots: five at the predictor's stage, and the record that holds each; one record without a
-- predictor; inside and outside; and a prediction looks at what it names alone.
use Rattle.std.proofs.lemmas.Bool.{cases_Bool}
use Rattle.std.specs.Prelude.{if◌then◌else◌}
use mathlib.Core.Bool.{Bool, true, false, not}
use mathlib.Core.List.{List, [], ◌∷◌, map, map-map, map-id}
use mathlib.Core.Logic.{⊎_elim, ◌↔◌}
use mathlib.Core.Path.{◌≡◌, refl, sym, ap, ◌∙◌, subst}
use Prim.Native.Nat.{ℕ, zero, suc, ◌+◌, ◌-◌, ◌*◌, ◌/◌, ◌%◌, ◌<◌, ◌≤◌}
use native.Mathlib.Nat.{mod-lt, div-lt_iff_lt-mul}
use native.Mathlib.Decide.{ℕ_discrete}
use native.Mathlib.Omega.{arith}
use borrow.Author.Tests.{ne_eqb, le-leb, lt-leb, eqb-true, eqb-false, not-true, not-false}
use lib.Arith.{digits_lt, digits_div}
use lib.Dec.{eqb, leb}
use lib.ListN.{length, get_or}
use Rattle.format.specs.Choice.{every}
use Rattle.format.specs.Indices.{union}
use Rattle.format.specs.declared.Pixel.{Pixel}
use Rattle.format.specs.declared.Step.{Step}
use Rattle.format.specs.Pixel.{clear}
use Rattle.format.specs.Picture.{Picture}
use Rattle.format.specs.Predictor.{index, left, top, top_right, top_left, mode, predictions, predict, predicted}
use Rattle.format.specs.ColorTable.{per_pixel, packed_width}
use Rattle.format.specs.Chain.{narrowed, width_at, step_at, count}
use Rattle.format.specs.Refusals.{input_refusal}
use Rattle.format.specs.Made.{mode_names, named_by, named}
use Rattle.format.specs.Retouch.{five_spots, packed_over, place_of, spots_of, spot_records}
use Rattle.format.specs.Calls.{records}
use Rattle.format.proofs.Choice.{if_same, every_at, not_every}
use Rattle.format.proofs.Indices.{In, Each, ◌and◌, in_each}
use Rattle.format.proofs.ColorTable.{per_pixel_pos, column_packed, ceiling_pos}
use Rattle.format.proofs.ByKind.{narrowed_table, narrowed_other}
use Rattle.format.proofs.Stages.{width_record}
use Rattle.format.proofs.Locality.{spots_place, spots_predictor}
use Rattle.format.proofs.Valid.{Fits, valid_fits, valid_once}

-- where items go

-- item q after the first t records is held by this item after the first k
unfoldable pub placed : (ℕ → Step) → ℕ → ℕ → ℕ → ℕ
placed steps t zero q = q
placed steps t (suc k) q = if leb t k then place_of (steps k) (placed steps t k q) else q

module _ (steps : ℕ → Step) (t : ℕ) where
  pub placed_same : (k : ℕ) → k ≤ t → (q : ℕ) → placed steps t k q ≡ q
  unfolding placed
  placed_same zero l q = refl
  placed_same (suc k) l q = rw (lt-leb t k l)

  pub placed_next : (k : ℕ) → t ≤ k → (q : ℕ) → placed steps t (suc k) q ≡ place_of (steps k) (placed steps t k q)
  unfolding placed
  placed_next k l q = rw (le-leb t k l)

-- a union of lists of one is a map
union_map : (h : ℕ → List ℕ) (f : ℕ → ℕ) → ((q : ℕ) → h q ≡ f q ∷ []) → (qs : List ℕ) → union h qs ≡ map f qs
union_map h f e [] = refl
union_map h f e (q ∷ qs) = rw (e q) (ap (λ (l : List ℕ). f q ∷ l) (union_map h f e qs))

map_same : (f g : ℕ → ℕ) → ((q : ℕ) → f q ≡ g q) → (l : List ℕ) → map f l ≡ map g l
map_same f g e l = ap (λ (h : ℕ → ℕ). map h l) (λ i q. e q i)

-- an item is inside its stage exactly if the item that holds it after a record is
place_inside : (s : Step) (a b : ℕ) → Fits s a b → (h q : ℕ) → (q < h * a) ↔ (place_of s q < h * b)
place_inside s a b fit h q = rw (← fit.from, ← fit.to) (go (ℕ_discrete s.kind 3))
  where
    w : ℕ
    w = s.width

    v : ℕ
    v = packed_width s.size w

    column : q % w / per_pixel s.size < v
    column = column_packed w (per_pixel s.size) (q % w) (per_pixel_pos s.size) (mod-lt q fit.wide)

    there : q < h * w → packed_over w s.size q < h * v
    there l = digits_lt ((div-lt_iff_lt-mul fit.wide).1 l) column

    back : packed_over w s.size q < h * v → q < h * w
    back l =
        (div-lt_iff_lt-mul fit.wide).0
        (subst (λ (y : ℕ). y < h) (digits_div (q / w) column) ((div-lt_iff_lt-mul (ceiling_pos w (per_pixel s.size) fit.wide (per_pixel_pos s.size))).1 l))

    go : Dec (s.kind ≡ 3) → (q < h * s.width) ↔ (place_of s q < h * narrowed s)
    go (yes e) = rw (narrowed_table s e, e) (there, back)
    go (no n) = rw (narrowed_other s n, ne_eqb s.kind 3 n) (λ x. x, λ x. x)

-- induction from t on
pub from : (C : ℕ → Type 0) (t : ℕ) → C t → ((k : ℕ) → t ≤ k → C k → C (suc k)) → (k : ℕ) → t ≤ k → C k
from C t a b zero l = let e : t ≡ 0 = omega arith in subst C e a
from C t a b (suc k) l = go (ℕ_discrete t (suc k)) (from C t a b k)
  where
    go : Dec (t ≡ suc k) → (t ≤ k → C k) → C (suc k)
    go (yes e) ih = subst C e a
    go (no n) ih = b k (omega arith) (ih (omega arith))

module _ (steps : ℕ → Step) (t : ℕ) where
  -- records t to k - 1, none of them the predictor's, move each spot to the item that holds it
  spots_along : (ps : List ℕ) (k : ℕ) → t ≤ k → ((j : ℕ) → t ≤ j → j < k → (steps j).kind ≡ 0 → ⊥) → spot_records steps k ps ≡ map (placed steps t k) (spot_records steps t ps)
  unfolding spot_records
  spots_along ps =
      from (λ k. ((j : ℕ) → t ≤ j → j < k → (steps j).kind ≡ 0 → ⊥) → spot_records steps k ps ≡ map (placed steps t k) (spot_records steps t ps)) t
      (λ n. sym (map_same (placed steps t t) (λ q. q) (placed_same steps t t (omega arith)) (spot_records steps t ps) ∙ map-id (spot_records steps t ps)))
      (λ k l ih n.
      union_map (spots_of (steps k)) (place_of (steps k)) (λ q. spots_place (steps k) q (n k l (omega arith))) (spot_records steps k ps)
      ∙ ap (map (place_of (steps k))) (ih (λ j i m. n j i (omega arith)))
      ∙ map-map (place_of (steps k)) (placed steps t k) (spot_records steps t ps)
      ∙ sym (map_same (placed steps t (suc k)) (λ q. place_of (steps k) (placed steps t k q)) (placed_next steps t k l) (spot_records steps t ps)))

  -- an item is inside its stage exactly if the item that holds it later is
  placed_inside : (widths : ℕ → ℕ) (h q k : ℕ) → t ≤ k → ((j : ℕ) → j < k → Fits (steps j) (widths j) (widths (suc j))) → (q < h * widths t) ↔ (placed steps t k q < h * widths k)
  placed_inside widths h q =
      from (λ k. ((j : ℕ) → j < k → Fits (steps j) (widths j) (widths (suc j))) → (q < h * widths t) ↔ (placed steps t k q < h * widths k)) t
      (λ fit. rw (placed_same steps t t (omega arith) q) (λ x. x, λ x. x))
      (λ k l ih fit.
      let a = ih (λ j m. fit j (omega arith)) in
      let b = place_inside (steps k) (widths k) (widths (suc k)) (fit k (omega arith)) h (placed steps t k q) in
      rw (placed_next steps t k l q) (λ x. b.0 (a.0 x), λ x. a.1 (b.1 x)))

-- a valid chain

module _ (w h : ℕ) (cs ds : List ℕ) (valid : input_refusal w h cs ds ≡ 0) where
  abbrev steps : ℕ → Step
  steps = step_at cs w

  -- the predictor's five spots around the item that holds p, each in the record that holds it
  pub spots_literal : (t : ℕ) → t < count cs → (step_at cs w t).kind ≡ 0 → (p : ℕ)
      → spot_records (step_at cs w) (count cs) (p ∷ []) ≡ map (placed (step_at cs w) (suc t) (count cs)) (five_spots (width_at cs w t) (placed (step_at cs w) 0 t p))
  unfolding spot_records
  spots_literal t l e p =
      spots_along steps (suc t) (p ∷ []) (count cs) l (λ j a b z. valid_once w h cs ds valid j b t a (e ∙ sym z))
      ∙ ap (map (placed steps (suc t) (count cs))) five
    where
      alone : spot_records steps t (p ∷ []) ≡ placed steps 0 t p ∷ []
      alone = spots_along steps 0 (p ∷ []) t (omega arith) (λ j a b z. valid_once w h cs ds valid t l j b (z ∙ sym e))

      five : union (spots_of (steps t)) (spot_records steps t (p ∷ [])) ≡ five_spots (width_at cs w t) (placed steps 0 t p)
      five = rw (alone, spots_predictor (steps t) (placed steps 0 t p) e, width_record cs t (width_at cs w t))

  -- without a predictor, the record that holds p
  pub spots_alone : ((j : ℕ) → j < count cs → (step_at cs w j).kind ≡ 0 → ⊥) → (p : ℕ)
      → spot_records (step_at cs w) (count cs) (p ∷ []) ≡ placed (step_at cs w) 0 (count cs) p ∷ []
  unfolding spot_records
  spots_alone none p = spots_along steps 0 (p ∷ []) (count cs) (omega arith) (λ j a b. none j b)

  -- a point has at most five records
  pub spots_few : (p : ℕ) → length (spot_records (step_at cs w) (count cs) (p ∷ [])) ≤ 5
  spots_few p =
      let other : ℕ → Bool = λ j. not (eqb (steps j).kind 0) in
      ⊎_elim
      (λ e. rw (spots_alone (λ j l. eqb-false (steps j).kind 0 (not-true (eqb (steps j).kind 0) (every_at (count cs) other j l e))) p) (omega arith))
      (λ e.
      let s = not_every (count cs) other e in
      rw (spots_literal s.0 s.1 (eqb-true (steps s.0).kind 0 (not-false (eqb (steps s.0).kind 0) s.2)) p) (omega arith))
      (cases_Bool (every (count cs) other))

  -- a spot is inside the predictor's stage exactly if its record is one of the strip
  pub spot_inside : (t : ℕ) → t < count cs → (step_at cs w t).kind ≡ 0 → (q : ℕ)
      → (q < h * width_at cs w t) ↔ (placed (step_at cs w) (suc t) (count cs) q < records w h cs)
  spot_inside t l e q =
      let fit = valid_fits w h cs ds valid in
      let same : width_at cs w (suc t) ≡ width_at cs w t = sym (fit t l).to ∙ narrowed_other (steps t) (λ z. omega arith) ∙ (fit t l).from in
      rw (← same) (placed_inside steps (suc t) (width_at cs w) h q (count cs) l fit)

-- predictions

-- TR is the pixel at TR's index
top_right_index : (k : Picture) (w x y : ℕ) → top_right w k x y ≡ k (top_right w index x y)
top_right_index k w x y = go (eqb (x + 1) w)
  where
    go : (b : Bool) → (if b then k (y * w) else k ((y - 1) * w + (x + 1))) ≡ k (if b then y * w else (y - 1) * w + (x + 1))
    go true = refl
    go false = refl

module _ (f g : Picture) where
  -- f and g agree at an index
  abbrev Agree : ℕ → Type 0
  Agree q = f q ≡ g q

  -- two lists of pixels, which are alike where f and g agree at each of the indices in their place
  abbrev Follows : List (List ℕ) → List Pixel → List Pixel → Type 0
  Follows [] us vs = us ≡ vs
  Follows (ns ∷ ls) [] vs = ⊥
  Follows (ns ∷ ls) (u ∷ us) [] = ⊥
  Follows (ns ∷ ls) (u ∷ us) (v ∷ vs) = (Each Agree ns → u ≡ v) × Follows ls us vs

  follows_at : (ls : List (List ℕ)) (us vs : List Pixel) → Follows ls us vs → (m : ℕ) → Each Agree (get_or ls m []) → get_or us m clear ≡ get_or vs m clear
  follows_at [] us vs p m a = ap (λ (l : List Pixel). get_or l m clear) p
  follows_at (ns ∷ ls) [] vs p m a = absurd p
  follows_at (ns ∷ ls) (u ∷ us) [] p m a = absurd p
  follows_at (ns ∷ ls) (u ∷ us) (v ∷ vs) p zero a = p.0 a
  follows_at (ns ∷ ls) (u ∷ us) (v ∷ vs) p (suc m) a = follows_at ls us vs p.1 m a

  -- a prediction by a mode looks at what the mode names
  mode_enough : (m l t tr tl : ℕ) → Each Agree (named_by m l t tr tl) → predict m (f l) (f t) (f tr) (f tl) ≡ predict m (g l) (g t) (g tr) (g tl)
  unfolding named_by predict
  mode_enough m l t tr tl = follows_at (mode_names l t tr tl) (predictions (f l) (f t) (f tr) (f tl)) (predictions (g l) (g t) (g tr) (g tl)) all m
    where
      all : Follows (mode_names l t tr tl) (predictions (f l) (f t) (f tr) (f tl)) (predictions (g l) (g t) (g tr) (g tl))
      all =
          (λ a. refl)
          and (λ a. a.0)
          and (λ a. a.0)
          and (λ a. a.0)
          and (λ a. a.0)
          and (λ a. cc (a.0, a.1.0, a.1.1.0))
          and (λ a. cc (a.0, a.1.0))
          and (λ a. cc (a.0, a.1.0))
          and (λ a. cc (a.0, a.1.0))
          and (λ a. cc (a.0, a.1.0))
          and (λ a. cc (a.0, a.1.0, a.1.1.0, a.1.1.1.0))
          and (λ a. cc (a.0, a.1.0, a.1.1.0))
          and (λ a. cc (a.0, a.1.0, a.1.1.0))
          and (λ a. cc (a.0, a.1.0, a.1.1.0))
          and refl

  -- a prediction looks at what it names alone
  pub names_enough : (w bits : ℕ) (d : Picture) (x y : ℕ) → ((q : ℕ) → In q (named w bits d x y) → f q ≡ g q) → predicted w bits d f x y ≡ predicted w bits d g x y
  unfolding named predicted
  names_enough w bits d x y h =
      let a = in_each Agree (named w bits d x y) h in
      if_same (eqb y 0) (λ y0. if_same (eqb x 0) (λ x0. refl) (λ x1. let b = rw (y0, x1) at a in b.0))
      (λ y1.
      if_same (eqb x 0) (λ x0. let b = rw (y1, x0) at a in b.0)
      (λ x1.
      let b = rw (y1, x1) at a in
      cc (
        top_right_index f w x y,
        top_right_index g w x y,
        mode_enough (mode w bits d x y) (left w index x y) (top w index x y) (top_right w index x y) (top_left w index x y) b,
      )))
