-- Refusal 22 in document 01's words: a record cannot be made exactly if a pixel without entry reaches the table inside
-- it or, where the table comes before the predictor, inside a packed pixel that its prediction names. Only a table
-- loses items, and the records after it look at one item each, but for the predictor, which looks at what it names.
use Rattle.std.proofs.lemmas.Bool.{or_left, or_right, or_cases, cases_Bool}
use Rattle.std.specs.Prelude.{if◌then◌else◌}
use mathlib.Core.Bool.{Bool, true, false, not, false≢true, true≢false}
use mathlib.Core.List.Memᴰ
use mathlib.Core.List.{List, [], ◌∷◌}
use mathlib.Core.Logic.{⊎_elim, ◌↔◌}
use mathlib.Core.Path.{◌≡◌, refl, sym, ap, ◌∙◌, subst}
use Prim.Native.Nat.{ℕ, zero, suc, ◌+◌, ◌-◌, ◌*◌, ◌/◌, ◌%◌, ◌<◌, ◌≤◌}
use native.Mathlib.Omega.{arith}
use borrow.Author.Tests.{ltb-true, ltb-false, ne_eqb, not-true}
use lib.Dec.{ltb}
use Rattle.format.specs.declared.Pixel.{Pixel}
use Rattle.format.specs.declared.Step.{Step}
use Rattle.format.specs.Picture.{Picture}
use Rattle.format.specs.ColorTable.{per_pixel, packed_width, has_entry}
use Rattle.format.specs.Chain.{narrowed, width_at, step_at, count}
use Rattle.format.specs.Refusals.{input_refusal}
use Rattle.format.specs.Stages.{part_of, stored}
use Rattle.format.specs.Made.{named, columns, made_of, takes_item, missing, lost}
use Rattle.format.specs.Retouch.{packed_over}
use Rattle.format.specs.Calls.{records}
use Rattle.format.proofs.Indices.{In, some_in, in_some}
use Rattle.format.proofs.Locality.{packed_back, spots_table}
use Rattle.format.proofs.Making.{made_predictor, made_color, made_green, made_table, made-inside, made_own}
use Rattle.format.proofs.ByKind.{kinds, narrowed_other}
use Rattle.format.proofs.Spots.{placed, placed_next, placed_same, from}
use Rattle.format.proofs.Valid.{Fits, valid_fits, valid_once}

-- a column of a packed pixel is one of n from x on, and inside
columns_only : (w y n x q : ℕ) → In q (columns w y n x) → (z : ℕ) × (x ≤ z) × (z < x + n) × (z < w) × (q ≡ y * w + z)
unfolding columns
columns_only w y zero x q m = absurd (Memᴰ.not-nil m)
columns_only w y (suc n) x q m = go (ltb x w) refl (columns_only w y n (suc x) q) m
  where
    go : (b : Bool) → ltb x w ≡ b → (In q (columns w y n (suc x)) → (z : ℕ) × (suc x ≤ z) × (z < suc x + n) × (z < w) × (q ≡ y * w + z))
        → In q (if b then (y * w + x) ∷ columns w y n (suc x) else []) → (z : ℕ) × (x ≤ z) × (z < x + suc n) × (z < w) × (q ≡ y * w + z)
    go false e ih m = absurd (Memᴰ.not-nil m)
    go true e ih m =
        ⊎_elim {C = (z : ℕ) × (x ≤ z) × (z < x + suc n) × (z < w) × (q ≡ y * w + z)}
        (λ p. (x, omega arith, omega arith, ltb-true x w e, p))
        (λ k. let i = ih k in (i.0, omega (arith, i.1), omega (arith, i.2), i.3, i.4))
        (Memᴰ.cases_cons m)

-- what a packed pixel holds is packed into it
columns_packed : (w size r q : ℕ) → In q (columns w (r / packed_width size w) (per_pixel size) (r % packed_width size w * per_pixel size)) → packed_over w size q ≡ r
columns_packed w size r q m =
    let x = r % packed_width size w * per_pixel size in
    let i = columns_only w (r / packed_width size w) (per_pixel size) x q m in
    let z = i.0 in
    let k : x + (z - x) ≡ z = omega (arith, i.1) in
    let b = packed_back w size r (z - x) (omega (arith, i.2, i.1)) (rw k i.3) in
    rw i.4 (sym (rw k at b))

-- records that are no table take every item
takes_all : (s : Step) (ds : List ℕ) → (s.kind ≡ 3 → ⊥) → (f : Picture) (q : ℕ) → takes_item s ds (f q) ≡ true
unfolding takes_item
takes_all s ds n f q = rw (ne_eqb s.kind 3 n) refl

-- a table takes those that have an entry
takes_entry : (s : Step) (ds : List ℕ) → s.kind ≡ 3 → (v : Pixel) → takes_item s ds v ≡ has_entry s.size (part_of s ds) v
unfolding takes_item
takes_entry s ds e v = rw e refl

module _ (steps : ℕ → Step) (ds : List ℕ) (f : Picture) where
  -- an item that a record other than a table cannot use cannot be made
  lost_missing : (k q : ℕ) → ((steps k).kind ≡ 3 → ⊥) → lost steps ds k f q ≡ true → missing steps ds k f q ≡ true
  lost_missing k q n e =
      ⊎_elim (λ m. m) (λ t. absurd (true≢false (sym (takes_all (steps k) ds n (stored steps ds k f) q) ∙ not-true (takes_item (steps k) ds (stored steps ds k f q)) t)))
      (or_cases (missing steps ds k f q) _ e)

  -- before a table every item can be made
  pub untabled_made : (k : ℕ) → ((j : ℕ) → j < k → (steps j).kind ≡ 3 → ⊥) → (r : ℕ) → missing steps ds k f r ≡ true → ⊥
  unfolding missing
  untabled_made zero n r e = false≢true e
  untabled_made (suc k) n r e =
      let m = in_some (lost steps ds k f) (made_of (steps k) ds r) e in
      untabled_made k (λ j l. n j (omega arith)) m.0 (lost_missing k m.0 (n k (omega arith)) m.2)

  -- color and subtract green make an item of that item alone
  missing_alone : (k r : ℕ) → ((steps k).kind ≡ 3 → ⊥) → made_of (steps k) ds r ≡ r ∷ [] → (missing steps ds (suc k) f r ≡ true) ↔ (missing steps ds k f r ≡ true)
  unfolding missing
  missing_alone k r n e = rw e (
    λ t. lost_missing k r n (⊎_elim (λ a. a) (λ z. absurd (false≢true z)) (or_cases (lost steps ds k f r) false t)),
    λ t. or_left (lost steps ds k f r) false (or_left (missing steps ds k f r) _ t),
  )

  -- the predictor makes it of that item and of what its prediction names
  missing_predictor : (k r : ℕ) → (steps k).kind ≡ 0
      → (missing steps ds (suc k) f r ≡ true)
      ↔ ((q : ℕ) × In q (r ∷ named (steps k).width (steps k).bits (part_of (steps k) ds) (r % (steps k).width) (r / (steps k).width)) × (missing steps ds k f q ≡ true))
  unfolding missing
  missing_predictor k r e = rw (made_predictor (steps k) ds r e) (
    λ t. let m = in_some (lost steps ds k f) _ t in (m.0, m.1, lost_missing k m.0 (λ z. omega arith) m.2),
    λ m. some_in (lost steps ds k f) m.0 _ m.1 (or_left (missing steps ds k f m.0) _ m.2),
  )

module _ (w h : ℕ) (cs ds : List ℕ) (valid : input_refusal w h cs ds ≡ 0) (t : ℕ) (l : t < count cs) (table : (step_at cs w t).kind ≡ 3) (f : Picture) where
  abbrev steps : ℕ → Step
  steps = step_at cs w

  -- a pixel without entry reaches the table inside item r of the stage after the first k records
  abbrev pub Lacking : ℕ → ℕ → Type 0
  Lacking k r = (q : ℕ) × (q < h * width_at cs w t) × (placed (step_at cs w) t k q ≡ r)
      × (has_entry (step_at cs w t).size (part_of (step_at cs w t) ds) (stored (step_at cs w) ds t f q) ≡ false)

  -- the table is the only one
  other : (j : ℕ) → (j ≡ t → ⊥) → j < count cs → (steps j).kind ≡ 3 → ⊥
  other j n b e =
      ⊎_elim (λ a. valid_once w h cs ds valid t l j (ltb-true j t a) (e ∙ sym table))
      (λ a. let m = ltb-false j t a in let c : t < j = omega arith in valid_once w h cs ds valid j b t c (table ∙ sym e))
      (cases_Bool (ltb j t))

  abbrev s : Step
  s = steps t

  fit : Fits (step_at cs w t) (width_at cs w t) (width_at cs w (suc t))
  fit = valid_fits w h cs ds valid t l

  -- right after the table
  lacking_table : (r : ℕ) → r < h * width_at cs w (suc t) → (missing steps ds (suc t) f r ≡ true) ↔ Lacking (suc t) r
  unfolding missing
  lacking_table r b = (there, back)
    where
      at : (q : ℕ) → placed steps t (suc t) q ≡ packed_over s.width s.size q
      at q = placed_next steps t t (omega arith) q ∙ rw (placed_same steps t t (omega arith) q, table) refl

      inside : (q : ℕ) → In q (made_of s ds r) → q < h * width_at cs w t
      inside q m = rw (← fit.from) (made-inside s h ds fit.wide fit.known r q (rw fit.to b) m)

      there : missing steps ds (suc t) f r ≡ true → Lacking (suc t) r
      there e =
          let m = in_some (lost steps ds t f) (made_of s ds r) e in
          let q = m.0 in (
            q,
            inside q m.1,
            at q ∙ columns_packed s.width s.size r q (subst (In q) (made_table s ds r table) m.1),
            ⊎_elim (λ z. absurd (untabled_made steps ds f t (λ j a. other j (λ z. omega arith) (omega arith)) q z)) (λ z. sym (takes_entry s ds table (stored steps ds t f q)) ∙ not-true (takes_item s ds (stored steps ds t f q)) z)
                (or_cases (missing steps ds t f q) _ m.2),
          )

      back : Lacking (suc t) r → missing steps ds (suc t) f r ≡ true
      back k =
          let q = k.0 in
          let o = made_own s h ds fit.wide fit.known q (rw fit.from k.1) in
          let same : o.0 ≡ r = alone (rw (spots_table s q table) at o.2) ∙ sym (at q) ∙ k.2 in
          some_in (lost steps ds t f) q (made_of s ds r) (subst (λ (z : ℕ). In q (made_of s ds z)) same o.3)
          (or_right (missing steps ds t f q) _ (ap not (takes_entry s ds table (stored steps ds t f q) ∙ k.3)))
        where
          alone : {a b : ℕ} → In a (b ∷ []) → a ≡ b
          alone m = ⊎_elim (λ e. e) (λ z. absurd (Memᴰ.not-nil z)) (Memᴰ.cases_cons m)

  -- the records after it that are no predictor leave each item what it is and where it is

  missing_along : (a : ℕ) → t < a → (k : ℕ) → a ≤ k → k ≤ count cs → ((j : ℕ) → a ≤ j → j < k → (steps j).kind ≡ 0 → ⊥)
      → (r : ℕ) → (missing steps ds k f r ≡ true) ↔ (missing steps ds a f r ≡ true)
  missing_along a b =
      from (λ k. k ≤ count cs → ((j : ℕ) → a ≤ j → j < k → (steps j).kind ≡ 0 → ⊥) → (r : ℕ) → (missing steps ds k f r ≡ true) ↔ (missing steps ds a f r ≡ true)) a
      (λ u n r. (λ e. e, λ e. e))
      (λ k v ih u n r.
      let i = ih (omega arith) (λ j x y. n j x (omega arith)) r in
      let o = alone k r (n k v (omega arith)) (other k (λ z. omega arith) u) (valid_fits w h cs ds valid k u).known in
      (λ e. i.0 (o.0 e), λ e. o.1 (i.1 e)))
    where
      alone : (k r : ℕ) → ((steps k).kind ≡ 0 → ⊥) → ((steps k).kind ≡ 3 → ⊥) → (steps k).kind ≤ 3 → (missing steps ds (suc k) f r ≡ true) ↔ (missing steps ds k f r ≡ true)
      alone k r m n known =
          kinds {A = (missing steps ds (suc k) f r ≡ true) ↔ (missing steps ds k f r ≡ true)} (steps k).kind known
          (λ e. absurd (m e))
          (λ e. missing_alone steps ds f k r n (made_color (steps k) ds r e))
          (λ e. missing_alone steps ds f k r n (made_green (steps k) ds r e))
          (λ e. absurd (n e))

  placed_along : (q k : ℕ) → suc t ≤ k → k ≤ count cs → placed steps t k q ≡ placed steps t (suc t) q
  placed_along q =
      from (λ k. k ≤ count cs → placed steps t k q ≡ placed steps t (suc t) q) (suc t) (λ u. refl)
      (λ k v ih u.
      placed_next steps t k (omega arith) q
      ∙ rw (ne_eqb (steps k).kind 3 (other k (λ z. omega arith) u)) refl
      ∙ ih (omega arith))

  width_along : (k : ℕ) → suc t ≤ k → k ≤ count cs → width_at cs w k ≡ width_at cs w (suc t)
  width_along =
      from (λ k. k ≤ count cs → width_at cs w k ≡ width_at cs w (suc t)) (suc t) (λ u. refl)
      (λ k v ih u.
      let i = valid_fits w h cs ds valid k u in
      sym i.to ∙ narrowed_other (steps k) (other k (λ z. omega arith) u) ∙ i.from ∙ ih (omega arith))

  -- up to record k, with no predictor between
  lacking_along : (k : ℕ) → t < k → k ≤ count cs → ((j : ℕ) → t < j → j < k → (steps j).kind ≡ 0 → ⊥)
      → (r : ℕ) → r < h * width_at cs w k → (missing steps ds k f r ≡ true) ↔ Lacking k r
  lacking_along k a b n r c =
      let m = missing_along (suc t) (omega arith) k a b n r in
      let i = lacking_table r (subst (λ (x : ℕ). r < h * x) (width_along k a b) c) in (
        λ e. let x = i.0 (m.0 e) in (x.0, x.1, placed_along x.0 k a b ∙ x.2, x.3),
        λ x. m.1 (i.1 (x.0, x.1, sym (placed_along x.0 k a b) ∙ x.2, x.3)),
      )

  -- no predictor comes after the table: a pixel without entry reaches the table inside the record
  pub unmade_table : ((j : ℕ) → t < j → j < count cs → (step_at cs w j).kind ≡ 0 → ⊥)
      → (r : ℕ) → r < records w h cs → (missing (step_at cs w) ds (count cs) f r ≡ true) ↔ Lacking (count cs) r
  unmade_table n = lacking_along (count cs) l (omega arith) n

  -- the table comes before the predictor: it does so inside the packed pixel at the record's place, or inside one that
  -- its prediction names
  pub unmade_predictor : (u : ℕ) → t < u → u < count cs → (step_at cs w u).kind ≡ 0 → (r : ℕ) → r < records w h cs
      → (missing (step_at cs w) ds (count cs) f r ≡ true)
      ↔ ((p : ℕ)
      × In p (r ∷ named (step_at cs w u).width (step_at cs w u).bits (part_of (step_at cs w u) ds) (r % (step_at cs w u).width) (r / (step_at cs w u).width))
      × Lacking u p)
  unmade_predictor u a b e r c =
      let m = missing_along (suc u) (omega arith) (count cs) b (omega arith) (λ j x y z. valid_once w h cs ds valid j y u x (e ∙ sym z)) r in
      let o = missing_predictor steps ds f u r e in (
        λ z. let x = o.0 (m.0 z) in (x.0, x.1, (along x.0 (inside x.0 x.1)).0 x.2),
        λ x. m.1 (o.1 (x.0, x.1, (along x.0 (inside x.0 x.1)).1 x.2)),
      )
    where
      fits : Fits (step_at cs w u) (width_at cs w u) (width_at cs w (suc u))
      fits = valid_fits w h cs ds valid u b

      wide : r < h * narrowed (steps u)
      wide = rw fits.to (subst (λ (x : ℕ). r < h * x) (width_along (count cs) l (omega arith) ∙ sym (width_along (suc u) (omega arith) b)) c)

      inside : (p : ℕ) → In p (r ∷ named (steps u).width (steps u).bits (part_of (steps u) ds) (r % (steps u).width) (r / (steps u).width)) → p < h * width_at cs w u
      inside p i = rw (← fits.from) (made-inside (steps u) h ds fits.wide fits.known r p wide (rw (made_predictor (steps u) ds r e) i))

      along : (p : ℕ) → p < h * width_at cs w u → (missing steps ds u f p ≡ true) ↔ Lacking u p
      along = lacking_along u a (omega arith) (λ j x y z. valid_once w h cs ds valid u b j y (z ∙ sym e))
