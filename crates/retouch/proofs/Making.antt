-- Laws of the records made afresh, spot by spot.
use Rattle.std.specs.Prelude.{Option, Some, None}
use mathlib.Core.Bool.{Bool, false, ◌&&◌}
use mathlib.Core.List.{List}
use mathlib.Core.Path.{◌≡◌, refl, sym, ◌∙◌}
use Prim.Native.Nat.{ℕ, ◌+◌, ◌<◌, ◌≤◌}
use native.Mathlib.Nat.{not-suc-le-zero}
use native.Mathlib.Decide.{ℕ_discrete}
use native.Mathlib.Numerals.{add-one}
use native.Mathlib.Omega.{arith}
use borrow.Author.Tests.{lt-ltb, le-ltb}
use lib.Dec.{ltb}
use lib.ListN.{length, get_or, set, drop}
use lib.Seq.{drop-cons, drop-length, get_or-set_other, get_or-set_same}
use Rattle.format.specs.declared.Pixel.{Pixel}
use Rattle.format.specs.Pixel.{clear}
use Rattle.format.specs.Picture.{Picture}
use Rattle.format.specs.Made.{missing, made_item}
use Rattle.format.proofs.Choice.{and_false_left, and_false_right}
use Rattle.format.specs.Retouch.{unmade}
use Rattle.chain.specs.declared.record.ValidChain.{ValidChain}
use Rattle.chain.specs.Valid.{steps_of, records_in}
use Rattle.item.proofs.Items.{made-item, made_missing}
use Rattle.retouch.specs.Remade.{MadeTo, strip_of, cannot, RemadeBy}

module _ (v : ValidChain) (f : Picture) where
  -- the first k records can be made: whether one cannot is left to the others
  abbrev pub SpotsPassed : List ℕ → ℕ → Type 0
  SpotsPassed rs k = cannot v f rs ≡ cannot v f (drop k rs)

  -- record r cannot be made
  abbrev lost : ℕ → Bool
  lost r = ltb r (records_in v.chain) && missing (steps_of v.chain) v.«data».now v.chain.count f r

  -- what making it gives
  abbrev item : ℕ → Option Pixel
  item r = made_item (steps_of v.chain) v.«data».now v.chain.count f r

  module _ (rs : List ℕ) (k : ℕ) (passed : SpotsPassed rs k) where
    passed_more : k < length rs → lost (get_or rs k 0) ≡ false → SpotsPassed rs (k + 1)
    unfolding unmade
    passed_more u e = rw (add-one k) (passed ∙ rw (drop-cons rs k 0 u, e) refl)

    pub passed_made : k < length rs → (m : Pixel) → Some m ≡ item (get_or rs k 0) → SpotsPassed rs (k + 1)
    passed_made u m e = passed_more u (and_false_right _ _ (made-item _ _ _ e).0)

    pub passed_past : k < length rs → records_in v.chain ≤ get_or rs k 0 → SpotsPassed rs (k + 1)
    passed_past u p = passed_more u (and_false_left _ _ (le-ltb _ _ p))

    -- record k cannot be made
    pub remade_missing : (m : Option Pixel) → k < length rs → get_or rs k 0 < records_in v.chain → m ≡ item (get_or rs k 0) → m ≡ None → RemadeBy v f rs None
    unfolding unmade
    remade_missing m u i e z =
        let t = made_missing _ _ (sym z ∙ e) in
        record { missing = sym (passed ∙ rw (drop-cons rs k 0 u, lt-ltb _ _ i, t) refl); records = tt }

    -- all were made
    pub remade_all : k ≡ length rs → (vs : List Pixel) → MadeTo k (strip_of v f) (records_in v.chain) rs vs → (r : Option (List Pixel)) → r ≡ Some vs → RemadeBy v f rs r
    unfolding unmade
    remade_all e vs to r is = rw is (record { missing = sym (passed ∙ rw (e, drop-length rs) refl); records = rw e at to })

-- the records made so far

module _ (g : Picture) (n : ℕ) (rs : List ℕ) where
  pub to_none : (vs : List Pixel) → MadeTo 0 g n rs vs
  to_none vs = record { at = λ k l. absurd (not-suc-le-zero l) }

  pub to_made : (k : ℕ) (vs : List Pixel) (v : Pixel) → MadeTo k g n rs vs → k < length vs → v ≡ g (get_or rs k 0) → MadeTo (k + 1) g n rs (set vs k v)
  to_made k vs v made l e = record { at = λ j u i. go j u i (ℕ_discrete j k) }
    where
      go : (j : ℕ) → j < k + 1 → get_or rs j 0 < n → Dec (j ≡ k) → get_or (set vs k v) j clear ≡ g (get_or rs j 0)
      go j u i (yes p) = rw p (get_or-set_same vs k v clear l ∙ e)
      go j u i (no d) = get_or-set_other vs k j v clear d ∙ made.at j (omega arith) i

  pub to_past : (k : ℕ) (vs : List Pixel) → MadeTo k g n rs vs → n ≤ get_or rs k 0 → MadeTo (k + 1) g n rs vs
  to_past k vs made p = record { at = λ j u i. go j u i (ℕ_discrete j k) }
    where
      go : (j : ℕ) → j < k + 1 → get_or rs j 0 < n → Dec (j ≡ k) → get_or vs j clear ≡ g (get_or rs j 0)
      go j u i (yes p') = absurd (omega (arith, rw p' at i))
      go j u i (no d) = made.at j (omega arith) i
