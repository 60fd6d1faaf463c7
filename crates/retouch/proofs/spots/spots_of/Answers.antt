-- `spots_of` meets its contract: after k calls the spots are those after the first k records. A predictor meets one, since
-- no other was before it.
use mathlib.Core.List.{[], ◌∷◌}
use mathlib.Core.Path.{◌≡◌, sym, ◌∙◌}
use Prim.Native.Nat.{ℕ, ◌<◌}
use Rattle.std.proofs.Common.{rules}
use native.Mathlib.Omega.{arith}
use Rattle.item.specs.declared.painted.Painted.{Painted}
use Rattle.item.specs.Source.{step_of}
use Rattle.format.specs.Retouch.{spot_records}
use Rattle.retouch.specs.declared.records.Records.{Records}
use Rattle.retouch.specs.Spots.{records_of}
use Rattle.item.proofs.Fold.{fold_asks, fold_gives}
use Rattle.retouch.proofs.Follow.{first_spot, spots_more, one_taken}
use Rattle.retouch.proofs.spots.spots_of.Goals as goal

-- the records after the first k of the chain
abbrev After : Painted → ℕ → Records → Type 0
After p k s = records_of s ≡ spot_records (step_of p) k (p.point.index ∷ [])

one_before : (p : Painted) (k : ℕ) (s : Records) → k < p.opened.chain.count → After p k s → (step_of p k).kind ≡ 0 → s.count ≡ 1
one_before p k s l j e = one_taken (step_of p) _ k _ _ (λ i m z. p.opened.valid.once i k m l (z ∙ sym e)) j (omega (arith, s.full, s.most))

pub fold-requires-clause-callable : goal.fold-requires-clause-callable
fold-requires-clause-callable c =
    let p = c.args.painted.now in
    fold_asks (After p) _ _ (λ k a b f' e. search rules) (λ k a b f' l j e. spots_more (step_of p) _ _ _ _ j (search rules)) _ (first_spot _ _)
    (λ k s l j. let o = one_before p k s l j in search rules)

pub returns : goal.returns
returns c =
    let p = c.args.painted.now in
    fold_gives (After p) _ _ (λ k a b f' e. search rules) (λ k a b f' l j e. spots_more (step_of p) _ _ _ _ j (search rules)) _ _ (first_spot _ _) c.fold.ensures.ran
