-- Where the table of a chain stands.
use mathlib.Core.Path.{◌≡◌, refl, sym, subst, ◌∙◌}
use Prim.Native.Nat.{ℕ, ◌<◌, ◌≤◌}
use Rattle.std.specs.Prelude.{Option, Some, None}
use Rattle.std.specs.Option.{MatchOption}
use native.Mathlib.Decide.{dec_lt}
use native.Mathlib.Omega.{arith}
use Rattle.format.specs.Picture.{Picture, pixels}
use Rattle.format.specs.ColorTable.{packed_width, have_entries}
use Rattle.format.specs.Chain.{narrowed}
use Rattle.format.specs.Stages.{part_of}
use Rattle.format.proofs.ByKind.{narrowed_table}
use Rattle.color_table.specs.declared.lookup.Lookup.{Lookup}
use Rattle.chain.specs.declared.record.ValidChain.{ValidChain}
use Rattle.store.specs.declared.table.Table.{Table}
use Rattle.store.specs.Stage.{step_of, IsTable, TableAt, Looks}

module _ (v : ValidChain) where
  -- what a search over the records finds
  pub table_found : (t : Option ℕ) → MatchOption t ((k : ℕ) → 0 ≤ k → k < v.chain.count → (step_of v k).kind ≡ 3 → ⊥)
      (λ i. (0 ≤ i) × (i < v.chain.count) × ((step_of v i).kind ≡ 3) × ((k : ℕ) → 0 ≤ k → k < i → (step_of v k).kind ≡ 3 → ⊥)) → TableAt v t
  table_found None n = λ j l k. n j (omega arith) l k
  table_found (Some t) f = record { below = f.1; kind = f.2 }

  -- no kind occurs twice
  pub once : (j k : ℕ) → j < v.chain.count → k < v.chain.count → (step_of v j).kind ≡ (step_of v k).kind → j ≡ k
  once j k l m e = go (dec_lt j k) (dec_lt k j)
    where
      go : Dec (j < k) → Dec (k < j) → j ≡ k
      go (yes a) b = absurd (v.valid.once j k a m e)
      go (no a) (yes b) = absurd (v.valid.once k j b l (sym e))
      go (no a) (no b) = omega arith

  -- the table is the only one
  pub only : (t : ℕ) → IsTable v t → (j : ℕ) → j < v.chain.count → (step_of v j).kind ≡ 3 → j ≡ t
  only t at j l e = once j t l at.below (e ∙ sym at.kind)

  -- the table's look-up is that of every record that is a table
  pub looks_only : (b : Table) → IsTable v b.at → Looks v b.at b.lookup → (k : ℕ) → IsTable v k → Looks v k b.lookup
  looks_only b at l k is = subst (λ (i : ℕ). Looks v i b.lookup) (sym (only b.at at k is.below is.kind)) l

  -- a look-up finds what its record packs by
  module _ (k : ℕ) (l : Lookup) (looks : Looks v k l) where
    pub looked : (w : ℕ) (f : Picture) → have_entries l.entries.size (pixels l.entries.bytes.now) w f ≡ have_entries (step_of v k).size (part_of (step_of v k) v.«data».now) w f
    looked w f = rw (looks.size, looks.entries) refl

    pub looked_width : (step_of v k).kind ≡ 3 → (w : ℕ) → (step_of v k).width ≡ w → packed_width l.entries.size w ≡ narrowed (step_of v k)
    looked_width kind w e = rw (looks.size, sym e) (sym (narrowed_table (step_of v k) kind))
