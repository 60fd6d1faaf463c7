-- Acceptance by the table, which is record t.
use mathlib.Core.Bool.{Bool, true}
use mathlib.Core.Path.{◌≡◌, sym, ◌∙◌}
use Prim.Native.Nat.{ℕ, suc, ◌+◌, ◌-◌, ◌*◌}
use native.Mathlib.Omega.{arith}
use Rattle.format.specs.Picture.{Picture, pixels}
use Rattle.format.specs.ColorTable.{have_entries}
use Rattle.format.specs.Stages.{part_of, takes}
use Rattle.format.proofs.ByKind.{takes_table}
use Rattle.chain.specs.declared.record.ValidChain.{ValidChain}
use Rattle.chain.specs.Valid.{steps_of, stored_by, accepts_by}
use Rattle.color_table.specs.declared.lookup.Lookup.{Lookup}
use Rattle.store.specs.declared.storing.Storing.{Storing}
use Rattle.store.specs.declared.row.Accepted.{Accepted}
use Rattle.store.specs.Stage.{step_of, IsTable, NoTable, Looks}
use Rattle.store.specs.Turns.{accepted}
use Rattle.store.specs.Made.{stage}
use Rattle.store.proofs.Tables.{only, looked}
use Rattle.store.proofs.Stages.{accepts_none, accepts_table}

module _ (v : ValidChain) (f : Picture) where
  -- no table
  pub accepts_all : NoTable v → true ≡ accepts_by v.chain v.«data».now v.chain.count f
  accepts_all none = sym (accepts_none (steps_of v.chain) v.chain.height v.«data».now f v.chain.count none)

  module _ (t : ℕ) (at : IsTable v t) where
    -- no table before it
    pub first_accepts : accepts_by v.chain v.«data».now t f ≡ true
    first_accepts =
        accepts_none (steps_of v.chain) v.chain.height v.«data».now f t (λ j l e. let b = at.below in let q = only v t at j (omega arith) e in omega arith)

    -- it alone decides
    pub accepts-by : (b : Bool) → b ≡ takes (step_of v t) v.chain.height v.«data».now (stored_by v.chain v.«data».now t f)
        → b ≡ accepts_by v.chain v.«data».now v.chain.count f
    accepts-by b q =
        let l = at.below in
        let i = v.chain.count - (t + 1) in
        let e : i + suc t ≡ v.chain.count = omega arith in
        q ∙ sym (rw e at (accepts_table (steps_of v.chain) v.chain.height v.«data».now f t i (λ j u. only v t at j (omega arith))))

    -- over all rows of its stage
    pub table_accepts : (b : Bool)
        → b ≡ have_entries (step_of v t).size (part_of (step_of v t) v.«data».now) (v.chain.height * (step_of v t).width) (stored_by v.chain v.«data».now t f)
        → b ≡ accepts_by v.chain v.«data».now v.chain.count f
    table_accepts b q = accepts-by b (q ∙ sym (takes_table (step_of v t) v.chain.height v.«data».now (stored_by v.chain v.«data».now t f) at.kind))

-- over the rows that the records before it make
pub table_decides : (s : Storing) (a : Accepted) (t : ℕ) (l : Lookup) → (a.storing.now ≡ s) × (a.count ≡ t) → IsTable s.opened t → Looks s.opened t l → (b : Bool)
    → b ≡ have_entries l.entries.size (pixels l.entries.bytes.now) (s.opened.chain.height * a.width) (stage a a.count) → b ≡ accepted s
table_decides s a t l (e, n) at k b q =
    let v = s.opened in
    let w : a.width ≡ (step_of v t).width = (rw (e, n) at a.wide) ∙ sym (v.valid.width t at.below) in
    table_accepts v (pixels s.picture.now) t at b (q ∙ looked v t l k _ _ ∙ cc (w, e, n))
