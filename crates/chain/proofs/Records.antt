-- The loop over a chain's records: a turn reads record k as s, where the current width is x, and tests it.
use Rattle.std.specs.Prelude.{Result, Ok, Err}
use mathlib.Core.Bool.{Bool}
use mathlib.Core.List.{List}
use mathlib.Core.Path.{◌≡◌, sym, ap, ◌∙◌}
use Prim.Native.Nat.{ℕ, suc, ◌+◌, ◌<◌, ◌≤◌}
use native.Mathlib.Nat.{not-suc-le-zero}
use native.Mathlib.Decide.{ℕ_discrete}
use native.Mathlib.Omega.{arith}
use lib.ListN.{length, get_or, set}
use lib.Seq.{get_or-set_other, get_or-set_same}
use Rattle.format.specs.declared.Step.{Step}
use Rattle.format.specs.declared.Refusal.{Refusal}
use Rattle.format.specs.declared.Refusal.TheVariants.{Size, ChainLength, UnknownKind, KindAgain, NotTabled, WrongLength, BeyondData, ShortBuffer, Outside, MapLength, NoEntry, NoRecord, ColorList, FullCounter}
use Rattle.format.specs.Chain.{record_at, step_at, width_at, narrowed, count}
use Rattle.format.specs.Refusals.{used_before, checked, number, returned, records_refusal, input_refusal}
use Rattle.format.proofs.Valid.{records_next, refusal_lasts}
use Rattle.format.proofs.Stages.{width_record, width_at_fewer}
use Rattle.chain.specs.declared.Chain.{Chain}
use Rattle.chain.specs.Valid.{no_step, Valid}
use Rattle.chain.specs.Reading.{StepsTo, ChainOf}
use Rattle.chain.proofs.Valid.{valid_of}

-- a refusal's number is not 0
pub number_some : (r : Refusal) → number r ≡ 0 → ⊥
number_some Size e = omega arith
number_some ChainLength e = omega arith
number_some UnknownKind e = omega arith
number_some KindAgain e = omega arith
number_some NotTabled e = omega arith
number_some WrongLength e = omega arith
number_some BeyondData e = omega arith
number_some ShortBuffer e = omega arith
number_some Outside e = omega arith
number_some MapLength e = omega arith
number_some NoEntry e = omega arith
number_some NoRecord e = omega arith
number_some ColorList e = omega arith
number_some FullCounter e = omega arith

module _ (cs : List ℕ) (w h : ℕ) (ds : List ℕ) (k x : ℕ) (s : Step) (a : Bool) (result : Result Step Refusal) where
  -- what the turn learns
  pub record Turn : Type 0 where
    pub before : records_refusal cs w h ds k ≡ 0
    pub width : x ≡ width_at cs w k
    pub fields : s ≡ record_at cs k x
    pub again : a ≡ used_before cs k
    pub found : result ≡ checked a h ds s

  pub turn : records_refusal cs w h ds k ≡ 0 → x ≡ width_at cs w k → s ≡ record_at cs k x → a ≡ used_before cs k → result ≡ checked a h ds s → Turn
  turn b x f u d = record { before = b; width = x; fields = f; again = u; found = d }

  record_number : Turn → records_refusal cs w h ds (suc k) ≡ returned result
  record_number t =
      let e : checked (used_before cs k) h ds (step_at cs w k) ≡ result = rw (← t.width, ← t.fields, ← t.again) (sym t.found) in
      records_next cs w h ds k t.before ∙ ap returned e

  pub record_passed : Turn → {v : Step} → result ≡ Ok v → records_refusal cs w h ds (k + 1) ≡ 0
  record_passed t e = let j : k + 1 ≡ suc k = omega arith in rw j (record_number t ∙ ap returned e)

  pub record_refused : Turn → {r : Refusal} → result ≡ Err r → k < count cs → number r ≡ records_refusal cs w h ds (count cs)
  record_refused t {r} e l =
      let n : records_refusal cs w h ds (suc k) ≡ number r = record_number t ∙ ap returned e in
      sym (refusal_lasts cs w h ds (suc k) (count cs) l (λ z. number_some r (sym n ∙ z)) ∙ n)

-- no record is read yet
pub steps_none : (w : ℕ) (cs : List ℕ) (steps : List Step) → StepsTo 0 w cs steps
steps_none w cs steps = record { at = λ j l. absurd (not-suc-le-zero l) }

-- one more
pub steps_more : (w k x : ℕ) (cs : List ℕ) (steps : List Step) (s : Step) → StepsTo k w cs steps → x ≡ width_at cs w k → s ≡ record_at cs k x → k < length steps
    → StepsTo (k + 1) w cs (set steps k s)
steps_more w k x cs steps s ih e q l = record { at = λ j u. go j u (ℕ_discrete j k) }
  where
    go : (j : ℕ) → j < k + 1 → Dec (j ≡ k) → get_or (set steps k s) j no_step ≡ step_at cs w j
    go j u (yes p) = rw p (get_or-set_same steps k s no_step l ∙ q ∙ ap (record_at cs k) e)
    go j u (no d) = get_or-set_other steps k j s no_step d ∙ ih.at j (omega arith)

pub width_more : (w k x r : ℕ) (cs : List ℕ) (s : Step) → x ≡ width_at cs w k → s ≡ record_at cs k x → r ≡ narrowed s → r ≡ width_at cs w (k + 1)
unfolding width_at
width_more w k x r cs s e q p = let j : k + 1 ≡ suc k = omega arith in rw j (p ∙ ap narrowed (q ∙ ap (record_at cs k) e))

pub width_fits : (w k x : ℕ) (cs : List ℕ) (s : Step) → x ≡ width_at cs w k → s ≡ record_at cs k x → w ≤ 16384 → s.width ≤ 16384
width_fits w k x cs s e q l =
    let r : s.width ≡ x = ap (λ (z : Step). z.width) q ∙ width_record cs k x in
    let f = width_at_fewer cs w k in
    omega arith

-- after the last
module _ (w h : ℕ) (cs ds : List ℕ) (k : ℕ) where
  pub all_passed : records_refusal cs w h ds k ≡ 0 → k ≡ count cs → input_refusal w h cs ds ≡ records_refusal cs w h ds (count cs) → input_refusal w h cs ds ≡ 0
  all_passed r q e = e ∙ rw q at r

  -- of what is read then
  module _ (c : Chain) (r : records_refusal cs w h ds k ≡ 0) (s : StepsTo k w cs c.steps) (x : c.strip.0 ≡ width_at cs w k) (q : k ≡ count cs)
      (n : c.count ≡ count cs) (i : c.width.0 ≡ w) (j : c.height ≡ h) where
    pub all_of : ChainOf w h cs c
    all_of = record { count = n; steps = record { at = λ a l. s.at a (omega arith) }; width = i; height = j; strip = rw q at x }

    pub all_valid : input_refusal w h cs ds ≡ records_refusal cs w h ds (count cs) → Valid c ds
    all_valid e = valid_of w h cs ds c (all_passed r q e) all_of
