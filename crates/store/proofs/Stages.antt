-- A row through the records of a valid chain.
use mathlib.Core.Bool.{true, and-true}
use mathlib.Core.List.{List}
use mathlib.Core.Path.{◌≡◌, refl, sym, subst, ◌∙◌}
use Prim.Native.Nat.{ℕ, zero, suc, ◌+◌, ◌-◌, ◌<◌, ◌≤◌}
use native.Mathlib.Nat.{le_refl}
use native.Mathlib.Decide.{ℕ_discrete}
use native.Mathlib.Omega.{arith}
use Rattle.std.proofs.lemmas.Bool.{and_parts}
use Rattle.format.specs.declared.Step.{Step}
use Rattle.format.specs.Picture.{Picture}
use Rattle.format.specs.Stages.{stored, takes, accepts}
use Rattle.format.proofs.ByKind.{takes_table, takes_other}
use Rattle.pixel.specs.Held.{HoldsRow}
use Rattle.chain.specs.declared.record.ValidChain.{ValidChain}
use Rattle.chain.specs.Valid.{steps_of, stored_by, accepts_by}
use Rattle.chain.proofs.Valid.{step_sized}
use Rattle.store.specs.Stage.{step_of, Takes, Advanced, RowOf, Started, Above}
use Rattle.store.proofs.Tables.{once}
use Rattle.store.proofs.Packed.{row_entries}

-- acceptance

module _ (steps : ℕ → Step) (h : ℕ) (ds : List ℕ) (f : Picture) where
  -- by a record of those that accept
  pub accepts_at : (count k : ℕ) → k < count → accepts steps h ds count f ≡ true → takes (steps k) h ds (stored steps ds k f) ≡ true
  unfolding accepts
  accepts_at zero k l e = absurd (omega arith)
  accepts_at (suc c) k l e = go (ℕ_discrete k c) (λ u. accepts_at c k u (and_parts (accepts steps h ds c f) (takes (steps c) h ds (stored steps ds c f)) e).0)
    where
      go : Dec (k ≡ c) → (k < c → takes (steps k) h ds (stored steps ds k f) ≡ true) → takes (steps k) h ds (stored steps ds k f) ≡ true
      go (yes p) ih = rw p (and_parts (accepts steps h ds c f) (takes (steps c) h ds (stored steps ds c f)) e).1
      go (no d) ih = ih (omega arith)

  -- records without a table accept every picture
  pub accepts_none : (k : ℕ) → ((j : ℕ) → j < k → (steps j).kind ≡ 3 → ⊥) → accepts steps h ds k f ≡ true
  unfolding accepts
  accepts_none zero d = refl
  accepts_none (suc k) d = rw (accepts_none k (λ j l. d j (omega arith)), takes_other (steps k) h ds (stored steps ds k f) (d k (omega arith))) refl

  -- the table alone decides
  pub accepts_table : (t i : ℕ) → ((j : ℕ) → j < i + suc t → (steps j).kind ≡ 3 → j ≡ t) → accepts steps h ds (i + suc t) f ≡ takes (steps t) h ds (stored steps ds t f)
  unfolding accepts
  accepts_table t zero d =
      let z : 0 + suc t ≡ suc t = omega arith in
      rw (z, accepts_none t (λ j l e. let q = d j (omega arith) e in omega arith)) refl
  accepts_table t (suc i) d =
      let z : suc i + suc t ≡ suc (i + suc t) = omega arith in
      rw (z, accepts_table t i (λ j l e. d j (omega arith) e), takes_other (steps (i + suc t)) h ds (stored steps ds (i + suc t) f) (λ e. let q = d (i + suc t) (omega arith) e in omega arith))
      (and-true (takes (steps t) h ds (stored steps ds t f)))

-- the first m records, whatever the picture f

module _ (v : ValidChain) (m : ℕ) (most : m ≤ v.chain.count) (f : Picture) where
  abbrev stage_of : ℕ → Picture
  stage_of k = stored_by v.chain v.«data».now k f

  -- what record k asks of row y
  pub takes_row : (k y : ℕ) (row : List ℕ) → accepts_by v.chain v.«data».now m f ≡ true → k < m → y < v.chain.height → RowOf v k f y row → Takes v k row
  takes_row k y row a l u r e =
      let s = step_of v k in
      let h = v.chain.height in
      let w = v.valid.width k (omega arith) in
      row_entries s.width h s.size y _ (stage_of k) row (sym (takes_table s h v.«data».now (stage_of k) e) ∙ accepts_at (steps_of v.chain) h v.«data».now f m k l a)
      (rw w r) u

  module _ (k y : ℕ) (l : k < m) (row rows row' rows' : List ℕ) (held : RowOf v k f y row) (above : Above v f m k y rows) (adv : Advanced v k y row rows row' rows') where
    -- row z of stage j, where xs is the scratch rows
    abbrev Row : ℕ → ℕ → List ℕ → Type 0
    Row j z xs = HoldsRow (stage_of j) z (step_of v j).width xs

    here : Row k y row
    here = rw (v.valid.width k (omega arith)) held

    pub row_next : RowOf v (suc k) f y row'
    unfolding stored
    row_next = adv.made (stage_of k) here (λ e u. above.wait k (le_refl k) l e u)

    -- another record's row, where record k is no predictor
    other : (j z : ℕ) → j < m → ((step_of v k).kind ≡ 0 → ⊥) → Row j z rows → Row j z rows'
    other j z u d r x i = adv.kept d x (let b = (step_sized v.chain _ v.valid j (omega arith)).narrow in omega arith) ∙ r x i

    -- two predictors
    twice : (j : ℕ) → j < m → (j ≡ k → ⊥) → (step_of v j).kind ≡ 0 → (step_of v k).kind ≡ 0 → ⊥
    twice j u d e q = d (once v j k (omega arith) (omega arith) (e ∙ sym q))

    pub above_next : Above v f m (suc k) y rows'
    above_next = record { done = λ j u e. done j u e (ℕ_discrete j k) (ℕ_discrete (step_of v k).kind 0); wait = λ j u i e p. wait j u i e p (ℕ_discrete (step_of v k).kind 0) }
      where
        done : (j : ℕ) → j < suc k → (step_of v j).kind ≡ 0 → Dec (j ≡ k) → Dec ((step_of v k).kind ≡ 0) → Row j y rows'
        done j u e (yes p) d = subst (λ (i : ℕ). Row i y rows') (sym p) (adv.left (stage_of k) here (subst (λ (i : ℕ). (step_of v i).kind ≡ 0) p e))
        done j u e (no p) (yes q) = absurd (twice j (omega arith) p e q)
        done j u e (no p) (no q) = other j y (omega arith) q (above.done j (omega arith) e)

        wait : (j : ℕ) → suc k ≤ j → j < m → (step_of v j).kind ≡ 0 → 1 ≤ y → Dec ((step_of v k).kind ≡ 0) → Row j (y - 1) rows'
        wait j u i e p (yes q) = absurd (twice j i (λ z. omega arith) e q)
        wait j u i e p (no q) = other j (y - 1) i q (above.wait j (omega arith) i e p)

-- rows

module _ (v : ValidChain) (f : Picture) (m : ℕ) where
  -- as a row starts: the picture's own
  pub started_none : (y : ℕ) (row : List ℕ) → HoldsRow f y v.chain.width.0 row → Started v m f y 0 row
  unfolding stored
  started_none y row h = record { few = omega arith; first = omega arith; table = λ u. absurd (omega arith); held = h }

  -- before the first row there is none above
  pub above_first : (rows : List ℕ) → Above v f m 0 0 rows
  above_first rows = record { done = λ j l e. absurd (omega arith); wait = λ j u l e p. absurd (omega arith) }

  -- the row that was made is above the next
  pub above_row : (y : ℕ) (rows : List ℕ) → Above v f m m y rows → Above v f m 0 (y + 1) rows
  above_row y rows h = record {
    done = λ j l e. absurd (omega arith);
    wait = λ j u l e p.
        let z : y + 1 - 1 ≡ y = omega arith in
        subst (λ (i : ℕ). HoldsRow (stored_by v.chain v.«data».now j f) i (step_of v j).width rows) (sym z) (h.done j l e);
  }
