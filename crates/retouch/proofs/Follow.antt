-- Laws of a point's spots on their way through a chain.
use mathlib.Core.Logic.{◌⊎◌, inl, inr}
use mathlib.Core.List.{List, [], ◌∷◌, map}
use mathlib.Core.Path.{◌≡◌, refl, sym, ap, ◌∙◌}
use Prim.Native.Nat.{ℕ, zero, suc, ◌+◌, ◌/◌, ◌%◌, ◌<◌, ◌≤◌}
use native.Mathlib.Nat.{div-le_self}
use native.Mathlib.Numerals.{add-one}
use native.Mathlib.Omega.{arith}
use borrow.Author.Tests.{ne_eqb}
use lib.ListN.{length, get_or, take, drop, length-append}
use lib.Seq.{drop-cons, drop-length, length-take-le}
use Rattle.std.proofs.lemmas.List.{take-map}
use Rattle.std.proofs.lemmas.Nat.{div-add-mod'}
use Rattle.format.specs.Indices.{union}
use Rattle.format.specs.declared.Step.{Step}
use Rattle.format.specs.declared.TransformType.{TransformType}
use Rattle.format.specs.declared.TransformType.TheVariants.{Color, SubtractGreen}
use Rattle.format.specs.Chain.{kind_of}
use Rattle.format.specs.Retouch.{five_spots, packed_over, spots_of, spot_records}
use Rattle.format.specs.ColorTable.{per_pixel}
use Rattle.format.proofs.Locality.{spots_place}
use Rattle.color_table.proofs.Rows.{rows_fewer}
use Rattle.retouch.specs.Spots.{packs}

-- five records as they stand in an array
five : (xs : List ℕ) → length xs ≡ 5 → xs ≡ get_or xs 0 0 ∷ get_or xs 1 0 ∷ get_or xs 2 0 ∷ get_or xs 3 0 ∷ get_or xs 4 0 ∷ []
five xs l =
    let e : drop 5 xs ≡ [] = rw l at (drop-length xs) in
    cc (
      drop-cons xs 0 0 (omega arith),
      drop-cons xs 1 0 (omega arith),
      drop-cons xs 2 0 (omega arith),
      drop-cons xs 3 0 (omega arith),
      drop-cons xs 4 0 (omega arith),
    )

-- a table packs each

-- no packed pixel comes after an item that it holds
pub packed_before : (w size q r : ℕ) → 1 ≤ w → r ≡ packed_over w size q → r ≤ q
packed_before w size q r p e = omega (arith, e, rows_fewer w size (q / w) p, div-le_self (q % w) (per_pixel size), div-add-mod' q w)

union_map : (g : ℕ → ℕ) (xs : List ℕ) → union (λ q. g q ∷ []) xs ≡ map g xs
union_map g [] = refl
union_map g (q ∷ xs) = cc (union_map g xs)

pub taken_packed : (w size n : ℕ) (xs ys : List ℕ) → length xs ≡ 5 → ys ≡ packs w size xs → take n ys ≡ union (λ q. packed_over w size q ∷ []) (take n xs)
taken_packed w size n xs ys l e =
    let p : map (packed_over w size) xs ≡ ys = ap (map (packed_over w size)) (five xs l) ∙ sym e in
    rw (union_map (packed_over w size) (take n xs), ← take-map (packed_over w size) n xs, p)

-- what each kind of record makes of the spots

pub followed_predictor : (s : Step) (xs ys : List ℕ) (n : ℕ) → s.kind ≡ 0 → n ≡ 1 → length xs ≡ 5 → ys ≡ five_spots s.width (get_or xs 0 0) → ys ≡ union (spots_of s) (take n xs)
unfolding spots_of
followed_predictor s xs ys n k one l e = rw (one, e, five xs l, k)

packed_spots : (s : Step) (xs : List ℕ) → s.kind ≡ 3 → union (λ q. packed_over s.width s.size q ∷ []) xs ≡ union (spots_of s) xs
unfolding spots_of
packed_spots s [] k = refl
packed_spots s (q ∷ xs) k = cc (packed_spots s xs k, spots_place s q (λ e. omega arith))

pub followed_table : (s : Step) (xs ys : List ℕ) → s.kind ≡ 3 → ys ≡ union (λ q. packed_over s.width s.size q ∷ []) xs → ys ≡ union (spots_of s) xs
followed_table s xs ys k e = e ∙ packed_spots s xs k

pub followed_other : (s : Step) (t : TransformType) (xs : List ℕ) → (t ≡ Color) ⊎ (t ≡ SubtractGreen) → s.kind ≡ kind_of t → xs ≡ union (spots_of s) xs
followed_other s t [] is k = refl
followed_other s t (q ∷ xs) is k = cc (followed_other s t xs is k, stays (kind is))
  where
    kind : (t ≡ Color) ⊎ (t ≡ SubtractGreen) → (1 ≤ s.kind) × (s.kind ≤ 2)
    kind (inl e) = let n : s.kind ≡ 1 = k ∙ ap kind_of e in omega arith
    kind (inr e) = let n : s.kind ≡ 2 = k ∙ ap kind_of e in omega arith

    stays : (1 ≤ s.kind) × (s.kind ≤ 2) → spots_of s q ≡ q ∷ []
    stays b = spots_place s q (λ e. omega arith) ∙ rw (ne_eqb s.kind 3 (λ e. omega arith)) refl

-- the records so far

length_union : (h : ℕ → List ℕ) (xs : List ℕ) → ((q : ℕ) → length (h q) ≡ 1) → length (union h xs) ≡ length xs
length_union h [] e = refl
length_union h (q ∷ xs) e = length-append (h q) (union h xs) ∙ omega (arith, e q, length_union h xs e)

-- before a predictor there is one
one_spot : (steps : ℕ → Step) (p k : ℕ) → ((j : ℕ) → j < k → (steps j).kind ≡ 0 → ⊥) → length (spot_records steps k (p ∷ [])) ≡ 1
unfolding spot_records
one_spot steps p zero n = refl
one_spot steps p (suc k) n =
    length_union (spots_of (steps k)) (spot_records steps k (p ∷ [])) (λ q. ap length (spots_place (steps k) q (n k (omega arith))))
    ∙ one_spot steps p k (λ j l. n j (omega arith))

pub first_spot : (steps : ℕ → Step) (p : ℕ) → p ∷ [] ≡ spot_records steps 0 (p ∷ [])
unfolding spot_records
first_spot steps p = refl

pub spots_more : (steps : ℕ → Step) (p k : ℕ) (rs ts : List ℕ) → rs ≡ spot_records steps k (p ∷ []) → ts ≡ union (spots_of (steps k)) rs → ts ≡ spot_records steps (k + 1) (p ∷ [])
unfolding spot_records
spots_more steps p k rs ts e q = rw (add-one k, ← e) q

pub one_taken : (steps : ℕ → Step) (p k n : ℕ) (xs : List ℕ) → ((j : ℕ) → j < k → (steps j).kind ≡ 0 → ⊥) → take n xs ≡ spot_records steps k (p ∷ []) → n ≤ length xs → n ≡ 1
one_taken steps p k n xs none e l = sym (length-take-le n xs l) ∙ ap length e ∙ one_spot steps p k none
