-- Laws of lists of indices: what is in them, and how many numbers pass a test.
use mathlib.Core.Bool.{Bool, true, false, false≢true}
use mathlib.Core.List.Memᴰ
use mathlib.Core.List.{List, [], ◌∷◌, Memᴰ}
use mathlib.Core.Logic.{◌⊎◌, inl, inr, ⊎_elim}
use mathlib.Core.Path.{◌≡◌, refl, sym, subst}
use Prim.Native.Nat.{ℕ, zero, suc, ◌+◌, ◌*◌, ◌<◌, ◌≤◌}
use native.Mathlib.Nat.{add-zero, add-suc, suc-mul}
use native.Mathlib.Omega.{arith}
use borrow.Author.Tests.{eqb-true, eq-eqb}
use lib.Dec.{eqb}
use lib.ListN.{get_or}
use Rattle.std.proofs.lemmas.Bool.{cases_Bool, or_left, or_right, or_cases}
use Rattle.format.specs.Choice.{bit}
use Rattle.format.specs.Indices.{some, among, union, how_many}

-- what is in a list

-- r is one of the list
abbrev pub In : ℕ → List ℕ → Type 0
In r l = Memᴰ r l

-- one of the list that passes makes `some` true
pub some_in : (t : ℕ → Bool) (q : ℕ) (qs : List ℕ) → In q qs → t q ≡ true → some t qs ≡ true
some_in t q [] m e = absurd (Memᴰ.not-nil m)
some_in t q (x ∷ qs) m e =
    ⊎_elim (λ p. or_left (t x) (some t qs) (subst (λ (y : ℕ). t y ≡ true) p e)) (λ n. or_right (t x) (some t qs) (some_in t q qs n e)) (Memᴰ.cases_cons m)

-- where `some` is true, one of the list passes
pub in_some : (t : ℕ → Bool) (qs : List ℕ) → some t qs ≡ true → (q : ℕ) × In q qs × (t q ≡ true)
in_some t [] e = absurd (false≢true e)
in_some t (x ∷ qs) e =
    ⊎_elim {C = (q : ℕ) × In q (x ∷ qs) × (t q ≡ true)}
    (λ p. (x, Memᴰ.head refl, p))
    (λ n. let s = in_some t qs n in (s.0, Memᴰ.tail s.1, s.2))
    (or_cases (t x) (some t qs) e)

-- the test and the fact that r is one of the list
pub among_in : (r : ℕ) (l : List ℕ) → among r l ≡ true → In r l
among_in r l e = let s = in_some (eqb r) l e in Memᴰ.cast (eqb-true r s.0 s.2) s.1

pub in_among : (r : ℕ) (l : List ℕ) → In r l → among r l ≡ true
in_among r l m = some_in (eqb r) r l m (eq-eqb r r refl)

-- a number is in a list or is not
pub in_or_out : (r : ℕ) (l : List ℕ) → In r l ⊎ (In r l → ⊥)
in_or_out r l = ⊎_elim (λ e. inl (among_in r l e)) (λ e. inr (λ m. false≢true (subst (λ (b : Bool). b ≡ true) e (in_among r l m)))) (cases_Bool (among r l))

-- a union has what its lists have
pub in_union : (h : ℕ → List ℕ) {r q : ℕ} (qs : List ℕ) → In q qs → In r (h q) → In r (union h qs)
in_union h [] m k = absurd (Memᴰ.not-nil m)
in_union h {r} (x ∷ qs) m k =
    ⊎_elim (λ e. Memᴰ.append_left (union h qs) (subst (λ (y : ℕ). In r (h y)) e k)) (λ n. Memᴰ.append_right (h x) (in_union h qs n k)) (Memᴰ.cases_cons m)

-- a fact of each of a list
abbrev pub Each : {A : Type 0} → (A → Type 0) → List A → Type 0
Each P [] = Unit {0}
Each P (q ∷ qs) = P q × Each P qs

-- the facts of a list, one by one
infixr 2 ◌and◌
abbrev pub ◌and◌ : {A B : Type 0} → A → B → A × B
a and b = (a, b)

-- at an index, or past the end
pub each_at : {A : Type 0} (P : A → Type 0) (qs : List A) (i : ℕ) (other : A) → P other → Each P qs → P (get_or qs i other)
each_at P [] i other p a = p
each_at P (q ∷ qs) zero other p a = a.0
each_at P (q ∷ qs) (suc i) other p a = each_at P qs i other p a.1

-- of a member, and from every member's
pub each_in : (P : ℕ → Type 0) (q : ℕ) (qs : List ℕ) → Each P qs → In q qs → P q
each_in P q [] a m = absurd (Memᴰ.not-nil m)
each_in P q (x ∷ qs) a m = ⊎_elim (λ e. subst P (sym e) a.0) (λ n. each_in P q qs a.1 n) (Memᴰ.cases_cons m)

pub in_each : (P : ℕ → Type 0) (qs : List ℕ) → ((q : ℕ) → In q qs → P q) → Each P qs
in_each P [] h = tt
in_each P (q ∷ qs) h = (h q (Memᴰ.head refl), in_each P qs (λ x m. h x (Memᴰ.tail m)))

-- how many numbers below m pass

-- a count depends on the numbers below m alone
pub how_many_same : (m : ℕ) (s t : ℕ → Bool) → ((q : ℕ) → q < m → s q ≡ t q) → how_many m s ≡ how_many m t
how_many_same zero s t h = refl
how_many_same (suc m) s t h = cc (h m (omega arith), how_many_same m s t (λ q l. h q (omega arith)))

-- none passes
pub how_many_none : (m : ℕ) (t : ℕ → Bool) → ((q : ℕ) → q < m → t q ≡ false) → how_many m t ≡ 0
how_many_none zero t h = refl
how_many_none (suc m) t h = rw (h m (omega arith), how_many_none m t (λ q l. h q (omega arith)))

pub how_many_most : (m : ℕ) (t : ℕ → Bool) → how_many m t ≤ m
how_many_most zero t = omega arith
how_many_most (suc m) t = go (t m) (how_many_most m t)
  where
    go : (b : Bool) → how_many m t ≤ m → bit b + how_many m t ≤ suc m
    go true h = omega arith
    go false h = omega arith

-- n more, which pass or fail alike
pub how_many_alike : (m n : ℕ) (t : ℕ → Bool) (b : Bool) → ((q : ℕ) → m ≤ q → q < m + n → t q ≡ b) → how_many (m + n) t ≡ how_many m t + n * bit b
how_many_alike m zero t b h = rw (add-zero m) (omega arith)
how_many_alike m (suc n) t b h =
    rw (add-suc m n, h (m + n) (omega arith) (omega arith), how_many_alike m n t b (λ q k l. h q k (omega arith)), suc-mul n (bit b)) (omega arith)
