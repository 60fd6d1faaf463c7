-- What an item is made of is inside its stage, and every item is looked at by one of its spots. So refusal 22 is exact,
-- though it looks at the spots of changed pixels alone.
use Rattle.std.proofs.lemmas.Bool.{and_parts, and_from, cond_both, or_left, or_right, or_cases}
use Rattle.std.specs.Prelude.{if◌then◌else◌}
use mathlib.Core.Bool.{Bool, true, false, not, ◌&&◌, false≢true, true≢false}
use mathlib.Core.List.Memᴰ
use mathlib.Core.List.{List, [], ◌∷◌}
use mathlib.Core.Logic.{⊎_elim}
use mathlib.Core.Path.{◌≡◌, refl, sym, ap, ◌∙◌, subst}
use Prim.Native.Nat.{ℕ, zero, suc, ◌+◌, ◌*◌, ◌/◌, ◌%◌, ◌<◌, ◌≤◌}
use native.Mathlib.Nat.{div-add-mod', mod-lt, div-lt_iff_lt-mul, div-mul-le_self}
use native.Mathlib.Decide.{ℕ_discrete}
use native.Mathlib.Omega.{arith}
use borrow.Author.Tests.{ltb-true, lt-ltb, eqb-false, not-true}
use lib.Arith.{digits_lt, digits_div, digits_mod}
use lib.Dec.{eqb, ltb}
use Rattle.format.specs.Choice.{every}
use Rattle.format.specs.Indices.{some}
use Rattle.format.specs.declared.Step.{Step}
use Rattle.format.specs.Picture.{Picture}
use Rattle.format.specs.Predictor.{index, left, top, top_right, top_left, mode}
use Rattle.format.specs.ColorTable.{per_pixel, packed_width, has_entry}
use Rattle.format.specs.Chain.{narrowed, width_at, step_at, count}
use Rattle.format.specs.Refusals.{input_refusal}
use Rattle.format.specs.Stages.{part_of, takes, stored, accepts}
use Rattle.format.specs.Made.{mode_names, named_by, named, columns, made_of, takes_item, missing, lost}
use Rattle.format.specs.Retouch.{packed_over, spots_of, spot_records, unmade}
use Rattle.format.specs.Calls.{records}
use Rattle.format.proofs.Choice.{every_at, not_every, every_true, opposite}
use Rattle.format.proofs.Indices.{In, Each, ◌and◌, each_at, each_in, some_in, in_some, in_or_out, in_union}
use Rattle.format.proofs.Predictor.{row_above}
use Rattle.format.proofs.ColorTable.{per_pixel_pos, column_packed, ceiling_pos}
use Rattle.format.proofs.ByKind.{kinds, by_kind_0, by_kind_1, by_kind_2, by_kind_3, narrowed_table, narrowed_other}
use Rattle.format.proofs.Locality.{Off, spots_predictor, spots_table, spots_other, stored_off}
use Rattle.format.proofs.Valid.{Fits, valid_fits}

-- what a mode names

-- each is one of L, T, TR and TL
named_by_each : (P : ℕ → Type 0) (m l t tr tl : ℕ) → P l → P t → P tr → P tl → Each P (named_by m l t tr tl)
unfolding named_by
named_by_each P m l t tr tl a b c d =
    each_at (Each P) (mode_names l t tr tl) m [] tt (
    tt
    and (a and tt)
    and (b and tt)
    and (c and tt)
    and (d and tt)
    and (a and c and b and tt)
    and (a and d and tt)
    and (a and b and tt)
    and (d and b and tt)
    and (b and c and tt)
    and (a and d and b and c and tt)
    and (a and b and d and tt)
    and (a and b and d and tt)
    and (a and b and d and tt)
    and tt
    )

-- what the prediction of an item below n names is below n
named_inside : (w bits : ℕ) (d : Picture) → 0 < w → (n r : ℕ) → r < n → Each (λ q. q < n) (named w bits d (r % w) (r / w))
unfolding named
named_inside w bits d pos n r b =
    let P : ℕ → Type 0 = λ q. q < n in
    let x = r % w in
    let y = r / w in
    let e : y * w + x ≡ r = div-add-mod' r w in
    let l : x < w = mod-lt r pos in
    cond_both (eqb y 0) _ _ (Each P)
    (λ y0. cond_both (eqb x 0) _ _ (Each P) (λ x0. tt) (λ x1. omega arith and tt))
    (λ y1.
    let u = row_above w y (eqb-false y 0 y1) in
    cond_both (eqb x 0) _ _ (Each P) (λ x0. omega arith and tt)
    (λ x1.
    named_by_each P (mode w bits d x y) (left w index x y) (top w index x y) (top_right w index x y) (top_left w index x y) (omega arith) (omega arith)
    (cond_both (eqb (x + 1) w) _ _ P (λ last. omega arith) (λ inner. omega arith)) (omega arith)))

-- the columns of a packed pixel

-- every column from x on that is one of n and inside
in_columns : (w y n x z : ℕ) → x ≤ z → z < x + n → z < w → In (y * w + z) (columns w y n x)
unfolding columns
in_columns w y zero x z a b l = absurd (omega arith)
in_columns w y (suc n) x z a b l = rw (lt-ltb x w (omega arith)) (go (ℕ_discrete x z) (in_columns w y n (suc x) z))
  where
    go : Dec (x ≡ z) → (suc x ≤ z → z < suc x + n → z < w → In (y * w + z) (columns w y n (suc x))) → In (y * w + z) ((y * w + x) ∷ columns w y n (suc x))
    go (yes e) ih = Memᴰ.head (ap (λ (k : ℕ). y * w + k) (sym e))
    go (no m) ih = Memᴰ.tail (ih (omega arith) (omega arith) l)

-- of a row inside, they are inside
columns_inside : (w h y : ℕ) → y < h → (n x : ℕ) → Each (λ q. q < h * w) (columns w y n x)
unfolding columns
columns_inside w h y l zero x = tt
columns_inside w h y l (suc n) x =
    cond_both (ltb x w) _ _ (Each (λ q. q < h * w)) (λ t. digits_lt l (ltb-true x w t) and columns_inside w h y l n (suc x)) (λ t. tt)

-- what an item is made of, by kind

module _ (s : Step) (ds : List ℕ) (r : ℕ) where
  pub made_predictor : s.kind ≡ 0 → made_of s ds r ≡ r ∷ named s.width s.bits (part_of s ds) (r % s.width) (r / s.width)
  unfolding made_of
  made_predictor e = by_kind_0 _ _ _ _ s.kind e

  pub made_color : s.kind ≡ 1 → made_of s ds r ≡ r ∷ []
  unfolding made_of
  made_color e = by_kind_1 _ _ _ _ s.kind e

  pub made_green : s.kind ≡ 2 → made_of s ds r ≡ r ∷ []
  unfolding made_of
  made_green e = by_kind_2 _ _ _ _ s.kind e

  pub made_table : s.kind ≡ 3
      → made_of s ds r
      ≡ columns s.width (r / packed_width s.size s.width) (per_pixel s.size) (r % packed_width s.size s.width * per_pixel s.size)
  unfolding made_of
  made_table e = by_kind_3 _ _ _ _ s.kind e

module _ (s : Step) (h : ℕ) (ds : List ℕ) (pos : 1 ≤ s.width) (known : s.kind ≤ 3) where
  abbrev w : ℕ
  w = s.width

  abbrev v : ℕ
  v = packed_width s.size s.width

  abbrev n : ℕ
  n = per_pixel s.size

  made_each : (r : ℕ) → r < h * narrowed s → Each (λ q. q < h * s.width) (made_of s ds r)
  made_each r l =
      kinds s.kind known
      (λ e. rw (made_predictor s ds r e) (wide (λ z. omega arith) and named_inside w s.bits (part_of s ds) pos (h * w) r (wide (λ z. omega arith))))
      (λ e. rw (made_color s ds r e) (wide (λ z. omega arith) and tt))
      (λ e. rw (made_green s ds r e) (wide (λ z. omega arith) and tt))
      (λ e.
      let row = (div-lt_iff_lt-mul (ceiling_pos w n pos (per_pixel_pos s.size))).1 (rw (narrowed_table s e) at l) in
      rw (made_table s ds r e) (columns_inside w h (r / v) row n (r % v * n)))
    where
      wide : (s.kind ≡ 3 → ⊥) → r < h * w
      wide k = rw (narrowed_other s k) at l

  -- what an item inside is made of is inside
  pub made-inside : (r q : ℕ) → r < h * narrowed s → In q (made_of s ds r) → q < h * s.width
  made-inside r q l m = each_in (λ p. p < h * s.width) q (made_of s ds r) (made_each r l) m

  -- an item inside is looked at by one of its spots, which is inside
  pub made_own : (q : ℕ) → q < h * s.width → (r : ℕ) × (r < h * narrowed s) × In r (spots_of s q) × In q (made_of s ds r)
  made_own q l =
      kinds {A = (r : ℕ) × (r < h * narrowed s) × In r (spots_of s q) × In q (made_of s ds r)} s.kind known
      (λ e. itself (λ z. omega arith) (spots_predictor s q e) (made_predictor s ds q e))
      (λ e. itself (λ z. omega arith) (spots_other s q (λ z. omega arith) (λ z. omega arith)) (made_color s ds q e))
      (λ e. itself (λ z. omega arith) (spots_other s q (λ z. omega arith) (λ z. omega arith)) (made_green s ds q e))
      (λ e. (
        packed_over w s.size q,
        rw (narrowed_table s e) (digits_lt ((div-lt_iff_lt-mul pos).1 l) column),
        rw (spots_table s q e) (Memᴰ.head refl),
        rw (made_table s ds (packed_over w s.size q) e) held,
      ))
    where
      itself : {ss qs : List ℕ} → (s.kind ≡ 3 → ⊥) → spots_of s q ≡ q ∷ ss → made_of s ds q ≡ q ∷ qs
          → (r : ℕ) × (r < h * narrowed s) × In r (spots_of s q) × In q (made_of s ds r)
      itself k a b = (q, rw (narrowed_other s k) l, rw a (Memᴰ.head refl), rw b (Memᴰ.head refl))

      column : q % w / n < v
      column = column_packed w n (q % w) (per_pixel_pos s.size) (mod-lt q pos)

      held : In q (columns w (packed_over w s.size q / v) n (packed_over w s.size q % v * n))
      held =
          rw (digits_div (q / w) column, digits_mod (q / w) column)
          (subst (λ (z : ℕ). In z (columns w (q / w) n (q % w / n * n))) (div-add-mod' q w)
          (in_columns w (q / w) n (q % w / n * n) (q % w) (div-mul-le_self (q % w) n)
          (omega (arith, div-add-mod' (q % w) n, mod-lt (q % w) (per_pixel_pos s.size))) (mod-lt q pos)))

-- acceptance, item by item

-- a record takes a picture if it takes each of its items
takes_items : (s : Step) (h : ℕ) (ds : List ℕ) (f : Picture) → takes s h ds f ≡ every (h * s.width) (λ q. takes_item s ds (f q))
unfolding takes takes_item
takes_items s h ds f = go (eqb s.kind 3)
  where
    has : ℕ → Bool
    has q = has_entry s.size (part_of s ds) (f q)

    go : (b : Bool) → (if b then every (h * s.width) has else true) ≡ every (h * s.width) (λ q. if b then has q else true)
    go true = refl
    go false = sym (every_true (h * s.width))

-- chains: steps and the widths before them

module _ (steps : ℕ → Step) (widths : ℕ → ℕ) (h : ℕ) (ds : List ℕ) where
  abbrev Fit : ℕ → Type 0
  Fit k = (j : ℕ) → j < k → Fits (steps j) (widths j) (widths (suc j))

  -- the next record takes each item of an accepted picture
  taken : (k : ℕ) (f : Picture) → accepts steps h ds (suc k) f ≡ true → (q : ℕ) → q < h * (steps k).width → takes_item (steps k) ds (stored steps ds k f q) ≡ true
  unfolding accepts
  taken k f a q l =
      every_at (h * (steps k).width) (λ r. takes_item (steps k) ds (stored steps ds k f r)) q l
      (sym (takes_items (steps k) h ds (stored steps ds k f)) ∙ (and_parts (accepts steps h ds k f) _ a).1)

  -- of an accepted picture every item can be made
  none_missing : (k : ℕ) → Fit k → (f : Picture) → accepts steps h ds k f ≡ true → (r : ℕ) → r < h * widths k → missing steps ds k f r ≡ true → ⊥
  unfolding missing accepts
  none_missing zero fit f a r l e = false≢true e
  none_missing (suc k) fit f a r l e =
      let now = fit k (omega arith) in
      let m = in_some (lost steps ds k f) (made_of (steps k) ds r) e in
      let q = m.0 in
      let b = made-inside (steps k) h ds now.wide now.known r q (rw now.to l) m.1 in
      ⊎_elim (none_missing k (λ j i. fit j (omega arith)) f (and_parts (accepts steps h ds k f) _ a).0 q (subst (λ (x : ℕ). q < h * x) now.from b))
      (λ t. true≢false (sym (taken k f a q b) ∙ not-true (takes_item (steps k) ds (stored steps ds k f q)) t))
      (or_cases (missing steps ds k f q) (not (takes_item (steps k) ds (stored steps ds k f q))) m.2)

  -- f and g agree away from ps
  module _ (ps : List ℕ) (f g : Picture) (off : Off ps f g) where
    -- a record of their spots that is inside and cannot be made of g
    abbrev Missing : ℕ → Type 0
    Missing k = (r : ℕ) × (r < h * widths k) × In r (spot_records steps k ps) × (missing steps ds k g r ≡ true)

    -- an item of their spots that is lost makes one after the next record missing
    missing_next : (k : ℕ) → Fit (suc k) → (q : ℕ) → q < h * (steps k).width → In q (spot_records steps k ps) → lost steps ds k g q ≡ true → Missing (suc k)
    unfolding missing spot_records
    missing_next k fit q l m e =
        let now = fit k (omega arith) in
        let o = made_own (steps k) h ds now.wide now.known q l in (
          o.0,
          subst (λ (x : ℕ). o.0 < h * x) now.to o.1,
          in_union (spots_of (steps k)) (spot_records steps k ps) m o.2,
          some_in (lost steps ds k g) q (made_of (steps k) ds o.0) o.3 e,
        )

    -- of a changed picture that is not accepted, one of these cannot be made
    some_missing : (k : ℕ) → Fit k → accepts steps h ds k f ≡ true → accepts steps h ds k g ≡ false → Missing k
    unfolding accepts
    some_missing zero fit a b = absurd (true≢false b)
    some_missing (suc k) fit a b = go (accepts steps h ds k g) refl b (some_missing k (λ j i. fit j (omega arith)) (and_parts (accepts steps h ds k f) _ a).0)
      where
        s : Step
        s = steps k

        now : Fits s (widths k) (widths (suc k))
        now = fit k (omega arith)

        -- an item that is taken of f and not of g has changed
        changed : (q : ℕ) → q < h * s.width → takes_item s ds (stored steps ds k g q) ≡ false → In q (spot_records steps k ps)
        changed q l e =
            ⊎_elim (λ m. m)
            (λ n.
            let same = stored_off steps ds k (λ j i. (fit j (omega arith)).wide) (λ j i. (fit j (omega arith)).known) ps f g off q n in
            absurd (true≢false (sym (taken k f a q l) ∙ ap (takes_item s ds) same ∙ e)))
            (in_or_out q (spot_records steps k ps))

        go : (b : Bool) → accepts steps h ds k g ≡ b → (b && takes s h ds (stored steps ds k g)) ≡ false → (accepts steps h ds k g ≡ false → Missing k) → Missing (suc k)
        go false e t ih =
            let m = ih e in
            missing_next k fit m.0 (rw now.from m.1) m.2 (or_left (missing steps ds k g m.0) _ m.3)
        go true e t ih =
            let u = not_every (h * s.width) (λ q. takes_item s ds (stored steps ds k g q)) (sym (takes_items s h ds (stored steps ds k g)) ∙ t) in
            missing_next k fit u.0 u.1 (changed u.0 u.1 u.2) (or_right (missing steps ds k g u.0) _ (ap not u.2))

    -- from an accepted picture: a record of their spots cannot be made exactly if the changed picture is not accepted
    unmade_steps : (k : ℕ) → Fit k → accepts steps h ds k f ≡ true → unmade steps ds k (h * widths k) g (spot_records steps k ps) ≡ not (accepts steps h ds k g)
    unfolding unmade
    unmade_steps k fit a = opposite (some t (spot_records steps k ps)) (accepts steps h ds k g) there back
      where
        t : ℕ → Bool
        t r = ltb r (h * widths k) && missing steps ds k g r

        there : some t (spot_records steps k ps) ≡ true → accepts steps h ds k g ≡ true → ⊥
        there e b =
            let m = in_some t (spot_records steps k ps) e in
            let p = and_parts (ltb m.0 (h * widths k)) _ m.2 in
            none_missing k fit g b m.0 (ltb-true m.0 (h * widths k) p.0) p.1

        back : accepts steps h ds k g ≡ false → some t (spot_records steps k ps) ≡ true
        back b =
            let m = some_missing k fit a b in
            let r = m.0 in
            some_in t r (spot_records steps k ps) m.2 (and_from (ltb r (h * widths k)) _ (lt-ltb r (h * widths k) m.1) m.3)

-- a valid chain

module _ (w h : ℕ) (cs ds : List ℕ) (valid : input_refusal w h cs ds ≡ 0) where
  -- refusal 22 is exact: from an accepted picture, one of the records of the changed pixels cannot be made exactly if
  -- storing does not accept the changed picture
  pub unmade_exact : (ps : List ℕ) (f g : Picture) → Off ps f g → accepts (step_at cs w) h ds (count cs) f ≡ true
      → unmade (step_at cs w) ds (count cs) (records w h cs) g (spot_records (step_at cs w) (count cs) ps) ≡ not (accepts (step_at cs w) h ds (count cs) g)
  unmade_exact ps f g off a = unmade_steps (step_at cs w) (width_at cs w) h ds ps f g off (count cs) (valid_fits w h cs ds valid) a
