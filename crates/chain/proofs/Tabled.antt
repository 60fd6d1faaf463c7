-- What the tests of records find.
use mathlib.Core.Bool.{Bool, true, false, not}
use mathlib.Core.List.{List}
use mathlib.Core.Path.{◌≡◌, refl, sym, ap, ◌∙◌}
use Prim.Native.Nat.{ℕ, ◌≤◌, ◌<◌}
use borrow.Author.Tests.{ltb-false}
use lib.ListN.{length}
use Rattle.std.specs.Prelude.{Ok, MatchBool}
use Rattle.std.specs.List.{range_with_len, HoldsAt, AllWithin}
use Rattle.format.specs.declared.Step.{Step}
use Rattle.format.specs.Refusals.{checked, returned}
use Rattle.format.specs.Choice.{every}
use Rattle.format.proofs.Choice.{every_at, every_all, each_below, one_below}
use Rattle.format.proofs.Valid.{passed}

-- what `any` finds of a test, over the numbers below k
pub any_below : (k : ℕ) (t : ℕ → Bool) (r : Bool)
    → MatchBool r ((i : ℕ) × (i < length (range_with_len 0 k)) × HoldsAt (λ j. true ≡ t j) (range_with_len 0 k) i) (AllWithin (λ j. false ≡ t j) (range_with_len 0 k) 0 (length (range_with_len 0 k)))
    → r ≡ not (every k (λ j. not (t j)))
any_below k t true some = sym (go (every k (λ j. not (t j))) refl)
  where
    go : (b : Bool) → every k (λ j. not (t j)) ≡ b → not b ≡ true
    go false q = refl
    go true q = let s = one_below (λ j. true ≡ t j) k some in rw (← s.2) at (every_at k (λ j. not (t j)) s.0 s.1 q)
any_below k t false none = rw (every_all k (λ j. not (t j)) (λ j l. rw (← each_below (λ j. false ≡ t j) k none j l) refl)) refl

-- a test on `!a`, where a is the definition's b
pub not_taken : (a b : Bool) → a ≡ b → not a ≡ true → b ≡ false
not_taken true b e q = sym e ∙ sym q
not_taken false b e q = sym e

pub not_left : (a b : Bool) → a ≡ b → not a ≡ false → b ≡ true
not_left true b e q = sym e
not_left false b e q = sym e ∙ sym q

-- a record that passes tests 3 to 7
module _ (a : Bool) (h : ℕ) (ds : List ℕ) (s t : Step) (e : checked a h ds s ≡ Ok t) where
  pub checked_same : t ≡ s
  unfolding checked
  checked_same =
      let p = passed a h ds s (ap returned e) in
      let q : checked a h ds s ≡ Ok s = rw (p.known, p.new, p.rightly, p.long, p.inside) refl in
      cc (e, q)

  pub checked_known : s.kind ≤ 3
  checked_known = ltb-false 3 s.kind (passed a h ds s (ap returned e)).known
