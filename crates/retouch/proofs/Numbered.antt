-- Two slices gone through together by number.
use mathlib.Core.List.{List, [], ◌∷◌, map}
use mathlib.Core.Path.{◌≡◌, refl, ap, ◌∙◌}
use Prim.Native.Nat.{ℕ, ◌+◌, ◌<◌}
use native.Mathlib.Omega.{arith}
use lib.ListN.{length, get_or, length-map}
use Rattle.std.specs.Prelude.{Option, Some}
use Rattle.std.specs.Iterator.{Yields}
use Rattle.std.specs.Iterator.Adapters.{enumerate_source, enumerate_count, enumerate_steps, zip_first, zip_second}
use Rattle.std.specs.Slice.Iter.{iter_rest}
use Rattle.std.specs.declared.iter.Enumerate.{Enumerate}
use Rattle.std.specs.declared.iter.Zip.{Zip}
use Rattle.std.proofs.Common.{Iter, Bor}
use Rattle.std.proofs.iter.Yields.{fronts}
use Rattle.std.proofs.lemmas.Iterator.{zips}
use Rattle.std.proofs.lemmas.Slice.Zip.{zip_turn}

below : {S A : Type 0} (steps : S → Option A → S → Type 0) (xs : List (ℕ × A)) (s t : Enumerate S) → Yields (enumerate_steps steps) s xs t
    → Yields steps (enumerate_source s) (map (λ p. p.1) xs) (enumerate_source t) × (enumerate_count t ≡ enumerate_count s + length xs)
below steps [] s t y = (ap enumerate_source y, omega (arith, ap (λ e. enumerate_count e) y))
below steps (x ∷ xs) s t y =
    let r = below steps xs y.0 t y.2 in
    ((enumerate_source y.0, y.1.0, r.0), omega (arith, r.1, y.1.2))

pub numbered_turn : {A B : Type 0} (ks : List A) (vs : List B) (xs : List (ℕ × (Bor A × Bor B))) (s t u : Enumerate (Zip (Iter A) (Iter B))) (r : Option (ℕ × (Bor A × Bor B)))
    → iter_rest (zip_first (enumerate_source s)) ≡ ks → iter_rest (zip_second (enumerate_source s)) ≡ vs → enumerate_count s ≡ 0
    → Yields (enumerate_steps (zips fronts fronts)) s xs t → (p : ℕ × (Bor A × Bor B)) → r ≡ Some p → enumerate_steps (zips fronts fronts) t r u
    → (length xs < length ks) × (length xs < length vs) × (p.0 ≡ length xs) × ((d : A) → p.1.0.now ≡ get_or ks (length xs) d) × ((d : B) → p.1.1.now ≡ get_or vs (length xs) d)
numbered_turn ks vs xs s t u r first second zero y p is step =
    let b = below (zips fronts fronts) xs s t y in
    let e = rw is at step in
    let n : length (map (λ p. p.1) xs) ≡ length xs = length-map xs _ in
    let z = rw n at (zip_turn ks vs (map (λ p. p.1) xs) _ _ (enumerate_source u) (Some p.1) first second b.0 p.1 refl e.0) in
    (z.0, z.1, e.1 ∙ b.1 ∙ rw zero (omega arith), z.2, z.3)
