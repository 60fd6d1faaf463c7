-- Laws of the mask: a record that changed is marked once, so that the ones of the mask are the records that changed.
use mathlib.Core.Bool.{Bool, true, false, not, ◌&&◌, ◌||◌, and-true, and-false}
use mathlib.Core.List.Memᴰ
use mathlib.Core.List.{List, [], ◌∷◌}
use mathlib.Core.Logic.{◌⊎◌, inl, inr, ⊎_elim}
use mathlib.Core.Path.{◌≡◌, refl, sym, ap, ◌∙◌}
use Prim.Native.Nat.{ℕ, zero, suc, ◌+◌, ◌*◌, ◌/◌, ◌%◌, ◌^◌, ◌<◌, ◌≤◌}
use native.Mathlib.Nat.{not-suc-le-zero, lt_of_lt_of_le, pow-succ'}
use native.Mathlib.Decide.{ℕ_discrete}
use native.Mathlib.Omega.{arith}
use borrow.Author.Tests.{both_ways, not-true, eq-eqb, ne_eqb}
use lib.Count as Count
use lib.Dec.{eqb}
use lib.ListN.{length}
use lib.Pow.{pow_mono}
use Rattle.std.proofs.lemmas.Bool.{and_parts, false_from_ne_true}
use Rattle.format.specs.Choice.{bit}
use Rattle.format.specs.Indices.{among, how_many}
use Rattle.format.specs.Retouch.{marks, mask_of, ones}
use Rattle.format.proofs.Indices.{In, in_among, how_many_same, how_many_none}

bit_most : (b : Bool) → bit b ≤ 1
bit_most true = omega arith
bit_most false = omega arith

-- marks depend on the records alone
pub marks_same : (seen : List ℕ) (c d : ℕ → Bool) (rs : List ℕ) → ((r : ℕ) → c r ≡ d r) → marks c seen rs ≡ marks d seen rs
marks_same seen c d [] e = refl
marks_same seen c d (r ∷ rs) e = cc (e r, marks_same (r ∷ seen) c d rs e)

pub ones_most : (seen : List ℕ) (c : ℕ → Bool) (rs : List ℕ) → ones (marks c seen rs) ≤ length rs
ones_most seen c [] = omega arith
ones_most seen c (r ∷ rs) = omega (arith, bit_most (c r && not (among r seen)), ones_most (r ∷ seen) c rs)

-- counting without one number

abbrev less : ℕ → (ℕ → Bool) → ℕ → Bool
less r t q = t q && not (eqb q r)

less_off : (r : ℕ) (t : ℕ → Bool) (q : ℕ) → (q ≡ r → ⊥) → less r t q ≡ t q
less_off r t q n = rw (ne_eqb q r n) (and-true (t q))

less_at : (r : ℕ) (t : ℕ → Bool) (q : ℕ) → q ≡ r → less r t q ≡ false
less_at r t q e = rw (eq-eqb q r e) (and-false (t q))

-- a number is counted once, where it passes
how_many_less : (m : ℕ) (t : ℕ → Bool) (r : ℕ) → r < m → how_many m t ≡ bit (t r) + how_many m (less r t)
how_many_less zero t r l = absurd (not-suc-le-zero l)
how_many_less (suc m) t r l = go (ℕ_discrete r m) (how_many_less m t r)
  where
    here : r ≡ m → how_many (suc m) t ≡ bit (t r) + how_many (suc m) (less r t)
    here e =
        let a : bit (t m) ≡ bit (t r) = ap (λ (q : ℕ). bit (t q)) (sym e) in
        let b : bit (less r t m) ≡ 0 = ap bit (less_at r t m (sym e)) in
        let c : how_many m t ≡ how_many m (less r t) = how_many_same m t (less r t) (λ q k. sym (less_off r t q (λ z. omega arith))) in
        omega arith

    below : r < m → how_many m t ≡ bit (t r) + how_many m (less r t) → how_many (suc m) t ≡ bit (t r) + how_many (suc m) (less r t)
    below k ih =
        let a : bit (less r t m) ≡ bit (t m) = ap bit (less_off r t m (λ z. omega arith)) in
        omega arith

    go : Dec (r ≡ m) → (r < m → how_many m t ≡ bit (t r) + how_many m (less r t)) → how_many (suc m) t ≡ bit (t r) + how_many (suc m) (less r t)
    go (yes e) ih = here e
    go (no n) ih = let k : r < m = omega arith in below k (ih k)

-- the same of a number that does not pass where it is m or more
how_many_without : (m : ℕ) (t : ℕ → Bool) (r : ℕ) → (t r ≡ true → r < m) → how_many m t ≡ bit (t r) + how_many m (less r t)
how_many_without m t r h = go (t r) refl
  where
    off : t r ≡ false → (q : ℕ) → Dec (q ≡ r) → t q ≡ less r t q
    off n q (yes e) = ap t e ∙ n ∙ sym (less_at r t q e)
    off n q (no d) = sym (less_off r t q d)

    go : (b : Bool) → t r ≡ b → how_many m t ≡ bit (t r) + how_many m (less r t)
    go true e = how_many_less m t r (h e)
    go false e =
        let a : bit (t r) ≡ 0 = ap bit e in
        let b : how_many m t ≡ how_many m (less r t) = how_many_same m t (less r t) (λ q l. off e q (ℕ_discrete q r)) in
        omega arith

-- the ones of the mask

abbrev fresh : List ℕ → (ℕ → Bool) → ℕ → Bool
fresh seen c q = c q && not (among q seen)

swap : (a b c : Bool) → (a && not (b || c)) ≡ ((a && not c) && not b)
swap true true true = refl
swap true true false = refl
swap true false true = refl
swap true false false = refl
swap false true c = refl
swap false false c = refl

-- where each record that changed is seen or one of the list, those that are new are marked once
marked : (m : ℕ) (seen : List ℕ) (c : ℕ → Bool) (rs : List ℕ) → ((q : ℕ) → c q ≡ true → q < m) → ((q : ℕ) → c q ≡ true → In q seen ⊎ In q rs)
    → ones (marks c seen rs) ≡ how_many m (fresh seen c)
marked m seen c [] below found = sym (how_many_none m (fresh seen c) (λ q l. false_from_ne_true (fresh seen c q) (gone q)))
  where
    gone : (q : ℕ) → fresh seen c q ≡ true → ⊥
    gone q e =
        let p = and_parts (c q) (not (among q seen)) e in
        ⊎_elim (λ i. both_ways (among q seen) (not-true (among q seen) p.1) (in_among q seen i)) (λ i. Memᴰ.not-nil i) (found q p.0)
marked m seen c (r ∷ rs) below found =
    let a = marked m (r ∷ seen) c rs below moved in
    let b = how_many_without m (fresh seen c) r (λ e. below r (and_parts (c r) (not (among r seen)) e).0) in
    let d = how_many_same m (fresh (r ∷ seen) c) (less r (fresh seen c)) (λ q l. swap (c q) (eqb q r) (among q seen)) in
    omega arith
  where
    moved : (q : ℕ) → c q ≡ true → In q (r ∷ seen) ⊎ In q rs
    moved q e =
        ⊎_elim {C = In q (r ∷ seen) ⊎ In q rs} (λ i. inl (Memᴰ.tail i))
        (λ i. ⊎_elim {C = In q (r ∷ seen) ⊎ In q rs} (λ p. inl (Memᴰ.head p)) (λ j. inr j) (Memᴰ.cases_cons i))
        (found q e)

-- where each record that changed is one of the list, the ones of the mask are how many changed
pub ones_changed : (m : ℕ) (c : ℕ → Bool) (rs : List ℕ) → ((q : ℕ) → c q ≡ true → q < m) → ((q : ℕ) → c q ≡ true → In q rs)
    → ones (marks c [] rs) ≡ how_many m c
ones_changed m c rs below found = marked m [] c rs below (λ q e. inr (found q e)) ∙ how_many_same m (fresh [] c) c (λ q l. and-true (c q))

-- the mask of five marks is below 32

pub marks_length : (seen : List ℕ) (c : ℕ → Bool) (rs : List ℕ) → length (marks c seen rs) ≡ length rs
marks_length seen c [] = refl
marks_length seen c (r ∷ rs) = cc (marks_length (r ∷ seen) c rs)

mask_below : (bs : List Bool) → mask_of bs < 2 ^ length bs
mask_below [] = omega arith
mask_below (b ∷ bs) = omega (arith, bit_most b, mask_below bs, pow-succ' 2 (length bs))

pub mask_small : (bs : List Bool) → length bs ≤ 5 → mask_of bs < 32
mask_small bs l = lt_of_lt_of_le (mask_below bs) (pow_mono l)

-- the count of ones in the mask, as a number

pub ones_mask_of : (bs : List Bool) → Count.ones (mask_of bs) ≡ ones bs
ones_mask_of [] = unfold Count.ones Count.ones_in in refl
ones_mask_of (b ∷ bs) = Count.ones_step (mask_of (b ∷ bs)) ∙ rw (low, high) (ap (λ (n : ℕ). bit b + n) (ones_mask_of bs))
  where
    low : (bit b + 2 * mask_of bs) % 2 ≡ bit b
    low = omega (arith, bit_most b)

    high : (bit b + 2 * mask_of bs) / 2 ≡ mask_of bs
    high = omega (arith, bit_most b)
